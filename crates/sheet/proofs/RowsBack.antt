-- A row and its line settle each other: the line read from a row says that row again, and no other line says it.
use Prim.Native.Nat.{ℕ, suc, pred}
use mathlib.Core.Path.{◌≡◌, refl, sym, ap, subst, ◌∙◌}
use mathlib.Core.Bool.{Bool, true, false, ◌&&◌}
use mathlib.Core.List.{List, [], ◌∷◌, map}
use mathlib.Core.Option.{Option, none, some}
use lib.Dec.{leb}
use native.Mathlib.Omega.{arith}
use Rattle.sheet.specs.Tree.{times, while, basic, if_line, else_line, end_if, repeat, end_repeat}
use Rattle.sheet.specs.Rows.{◌≔◌, copy, fixed, sum, difference, product, negation, quotient, less, SheetLine, sheet_row_of}
use Rattle.sheet.specs.Inner.RowLines.{line_of_row}
use Rattle.sheet.specs.Reading.{fits, words_fit}
use Rattle.sheet.specs.Rows.{Row, turns, unused, Kind, kind_of}
use Rattle.sheet.proofs.Judgements.{leb_tells, eqb_tells}
use Rattle.sheet.proofs.EachKind.{each_kind, ◌then◌, gap, end}

-- ---- from a line to its row and back

-- the line that a row says is the line that it was made of
pub line_back : (l : SheetLine) → line_of_row (sheet_row_of l) ≡ l
unfolding line_of_row sheet_row_of
line_back (basic (d ≔ copy a)) = refl
line_back (basic (d ≔ fixed a)) = refl
line_back (basic (d ≔ sum a b)) = refl
line_back (basic (d ≔ difference a b)) = refl
line_back (basic (d ≔ product a b)) = refl
line_back (basic (d ≔ negation a)) = refl
line_back (basic (d ≔ quotient a b)) = refl
line_back (if_line (less a b)) = refl
line_back else_line = refl
line_back end_if = refl
line_back (repeat (times m)) = refl
line_back (repeat (while (less a b) m)) = refl
line_back end_repeat = refl

only_line : (l l' : SheetLine) → sheet_row_of l ≡ sheet_row_of l' → l ≡ l'
only_line l l' e = sym (line_back l) ∙ ap line_of_row e ∙ line_back l'

pub only_lines : (ls ls' : List SheetLine) → map sheet_row_of ls ≡ map sheet_row_of ls' → ls ≡ ls'
only_lines [] [] e = refl
only_lines [] (l' ∷ ls') e = let z : ◌≡◌ {A = ℕ} 0 1 = cc in absurd (omega arith)
only_lines (l ∷ ls) [] e = let z : ◌≡◌ {A = ℕ} 0 1 = cc in absurd (omega arith)
only_lines (l ∷ ls) (l' ∷ ls') e = cc (only_line l l' cc, only_lines ls ls' cc)

-- ---- from a row that fits to its line and back

pub both : (a b : Bool) → (a && b) ≡ true → (a ≡ true) × (b ≡ true)
both true true e = (refl, refl)
both true false e = let z : ◌≡◌ {A = ℕ} 0 1 = cc in absurd (omega arith)
both false b e = let z : ◌≡◌ {A = ℕ} 0 1 = cc in absurd (omega arith)

-- each of a row's three words fits its slot
pub each_fits : (v k : ℕ) (kind : Kind) (r : Row) → words_fit v k kind r ≡ true
    → (fits v k kind.d r.d ≡ true) × (fits v k kind.a r.a ≡ true) × (fits v k kind.b r.b ≡ true)
unfolding words_fit
each_fits v k kind r e =
    let h = both (fits v k kind.d r.d && fits v k kind.a r.a) (fits v k kind.b r.b) e in
    let da = both (fits v k kind.d r.d) (fits v k kind.a r.a) h.0 in
    (da.0, da.1, h.1)

module _ (v k : ℕ) where
  -- the word of an unused slot, and a repeat's count
  unused_is_0 : (word : ℕ) → fits v k unused word ≡ true → word ≡ 0
  unfolding fits
  unused_is_0 word e = (eqb_tells word 0).0 e

  pub turns_above_0 : (word : ℕ) → fits v k turns word ≡ true → suc (pred word) ≡ word
  unfolding fits
  turns_above_0 word e = omega (arith, (leb_tells 1 word).0 (both (leb 1 word) _ e).0)

-- what a kind's words have to say of the row, if they fit
abbrev Says : (v k : ℕ) → Option Kind → Row → Type 0
Says v k none r = Unit {0}
Says v k (some kind) r = words_fit v k kind r ≡ true → sheet_row_of (kind.means r.d r.a r.b) ≡ r

module _ (v k d a b : ℕ) where
  abbrev row_of_kind : ℕ → Row
  row_of_kind n = record { kind = n; d = d; a = a; b = b }

  fitting : (n : ℕ) {kind : Kind} → kind_of n ≡ some kind
      → (fits v k kind.d d ≡ true → fits v k kind.a a ≡ true → fits v k kind.b b ≡ true → sheet_row_of (kind.means d a b) ≡ row_of_kind n)
      → Says v k (some kind) (row_of_kind n)
  fitting n is says fit = let h = each_fits v k _ _ fit in says h.0 h.1 h.2

  says : (n : ℕ) → Says v k (kind_of n) (row_of_kind n)
  unfolding kind_of sheet_row_of
  says =
      each_kind (λ n o. Says v k o (row_of_kind n)) (λ n. tt)
      (fitting 1 refl (λ p q r. rw (unused_is_0 v k b r))
      then fitting 2 refl (λ p q r. rw (unused_is_0 v k b r))
      then fitting 3 refl (λ p q r. refl)
      then fitting 4 refl (λ p q r. refl)
      then fitting 5 refl (λ p q r. refl)
      then fitting 6 refl (λ p q r. rw (unused_is_0 v k b r))
      then fitting 7 refl (λ p q r. rw (unused_is_0 v k d p))
      then fitting 8 refl (λ p q r. rw (unused_is_0 v k d p, unused_is_0 v k a q, unused_is_0 v k b r))
      then fitting 9 refl (λ p q r. rw (unused_is_0 v k d p, unused_is_0 v k a q, unused_is_0 v k b r))
      then fitting 10 refl (λ p q r. rw (unused_is_0 v k d p, turns_above_0 v k a q, unused_is_0 v k b r))
      then fitting 11 refl (λ p q r. rw (unused_is_0 v k d p, unused_is_0 v k a q, unused_is_0 v k b r))
      then gap (gap (gap (gap (gap (gap
      (fitting 18 refl (λ p q r. refl)
      then fitting 19 refl (λ p q r. rw (turns_above_0 v k d p))
      then end)))))))

pub row_back : (v k : ℕ) (r : Row) (kind : Kind) → kind_of r.kind ≡ some kind → words_fit v k kind r ≡ true
    → sheet_row_of (kind.means r.d r.a r.b) ≡ r
row_back v k r kind e = subst (λ o. Says v k o r) e (says v k r.d r.a r.b r.kind)
