-- What the reader makes sure of for the words of each row that it took: each fits its slot, so that none is above a repeat's largest count.
use Prim.Native.Nat.{ℕ, zero, suc, ◌+◌, ◌*◌, ◌≤◌, ◌<◌}
use native.Mathlib.Omega.{arith}
use mathlib.Core.Path.{◌≡◌, ap, subst, sym}
use mathlib.Core.Bool.{true}
use mathlib.Core.List.{List, []}
use mathlib.Core.Option.{Option, none, some}
use lib.ListN.{length}
use lib.Dec.{T, leb, leb→le, ltb→lt, eqb→eq}
use Rattle.sheet.specs.Bounds.{limit}
use Rattle.sheet.specs.Judging.{given, unless}
use Rattle.sheet.specs.Refusals.{bad_row}
use Rattle.sheet.specs.Tree.{Tree}
use Rattle.sheet.specs.Reading.{fits, words_fit, Block, Item, line_by, line_of, taken, body_of, read}
use Rattle.sheet.specs.Rows.{Assignment, Test, SheetLine, Slot, variable, constant, turns, unused, Row, Kind, kind_of}
use Rattle.sheet.specs.Sheets.{Sheet, row_at, rows_at}
use Rattle.sheet.specs.Answers.{shape_of}
use Rattle.sheet.specs.Inner.RowLines.{numbered_row}
use Rattle.sheet.proofs.ReadingParts.{not_given, bound, passed, accepted}
use Rattle.sheet.proofs.NamesPresent.{counts}
use Rattle.sheet.proofs.RowsBack.{both, each_fits}
use Rattle.sheet.proofs.RowsCounted.{rows_counted}
use Rattle.sheet.proofs.ReaderLaws.{shaped}

pub record SmallRow (r : Row) : Type 0 where
  pub d : r.d ≤ limit.turns
  pub a : r.a ≤ limit.turns
  pub b : r.b ≤ limit.turns

module _ (v k : ℕ) (few : v ≤ limit.variables) (constants : k ≤ limit.constants) where
  word_small : (slot : Slot) (word : ℕ) → fits v k slot word ≡ true → word ≤ limit.turns
  unfolding fits
  word_small variable word e = omega (arith, ltb→lt word v (subst T (sym e) tt))
  word_small constant word e = omega (arith, ltb→lt word k (subst T (sym e) tt))
  word_small turns word e = leb→le word limit.turns (subst T (sym (both (leb 1 word) _ e).1) tt)
  word_small unused word e = omega (arith, eqb→eq word 0 (subst T (sym e) tt))

  row_small_by : (r : Row) (place : ℕ) (l : SheetLine) (o : Option Kind) → line_by v k o r place ≡ given l → SmallRow r
  unfolding line_by
  row_small_by r place l none e = not_given e
  row_small_by r place l (some kind) e =
      let h = bound (unless (words_fit v k kind r) (bad_row place)) _ l e in
      let fit = each_fits v k kind r (passed (words_fit v k kind r) (bad_row place) h.1) in
      record {
        d = word_small kind.d r.d fit.0;
        a = word_small kind.a r.a fit.1;
        b = word_small kind.b r.b fit.2;
      }

  row_small : (r : Row) (place : ℕ) (l : SheetLine) → line_of v k r place ≡ given l → SmallRow r
  unfolding line_of
  row_small r place l e = row_small_by r place l (kind_of r.kind) e

  body_small : (words : List ℕ) (first n place : ℕ) (blocks : List Block) (items : List Item) (t : Tree Assignment Test)
      → body_of v k (rows_at words first n) place blocks items ≡ given t → (p q : ℕ) → p < n → q ≡ first + p * limit.row_words → SmallRow (row_at words q)
  unfolding body_of rows_at
  body_small words first zero place blocks items t e p q below at = absurd (omega arith)
  body_small words first (suc n) place blocks items t e p q below at =
      let line = bound (line_of v k (row_at words first) place) _ t e in
      let took = bound (taken line.0 place blocks items) _ t line.2 in
      by_number p below at (row_small (row_at words first) place line.0 line.1)
      (λ m. body_small words (first + limit.row_words) n (place + limit.row_words) took.0.blocks took.0.items t took.2 m q)
    where
      by_number : (p : ℕ) → p < suc n → q ≡ first + p * limit.row_words → SmallRow (row_at words first)
          → ((m : ℕ) → m < n → q ≡ first + limit.row_words + m * limit.row_words → SmallRow (row_at words q)) → SmallRow (row_at words q)
      by_number zero below at here after = let start : q ≡ first = omega arith in subst (λ x. SmallRow (row_at words x)) (sym start) here
      by_number (suc m) below at here after = after m (omega arith) (omega arith)

pub rows_small : (words : List ℕ) (sheet : Sheet) → read words ≡ given sheet
    → (p : ℕ) → p < length sheet.rows → SmallRow (numbered_row words (3 + length sheet.roles + length sheet.constants) p)
unfolding shape_of
rows_small words sheet e p below =
    let parts = accepted words sheet e in
    let counted = counts words sheet parts in
    let shape = shaped words sheet e in
    let begin = suc (1 + parts.v + 1 + parts.k) in
    let body = subst (λ rows. body_of parts.v parts.k rows begin [] [] ≡ given sheet.body) parts.rows parts.body in
    body_small parts.v parts.k (omega (arith, shape.variables_within, counted.variables)) (omega (arith, shape.constants_within, counted.constants))
    words begin parts.n begin [] [] sheet.body body p _ (omega (arith, ap length parts.rows, rows_counted words begin parts.n))
    (omega (arith, counted.variables, counted.constants))
