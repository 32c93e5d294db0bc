-- A row by the code's table of kinds: its rule, and what it is to the blocks.
use Prim.Native.Nat.{ℕ, zero, suc, ◌≤◌, ◌<◌}
use mathlib.Core.Path.{◌≡◌, refl, sym, ap, ◌∙◌}
use mathlib.Core.Bool.{Bool, true, false}
use mathlib.Core.List.{List, [], ◌∷◌, map}
use mathlib.Core.Option.{Option, none, some}
use lib.ListN.{length, get_or, get_or-eq_default}
use lib.Dec.{leb, ltb}
use native.Mathlib.Omega.{arith}
use native.Mathlib.Decide.{dec_le}
use borrow.Author.Tests.{le-leb, lt-leb, lt-ltb, le-ltb, ne_eqb}
use Rattle.sheet.specs.Bounds.{limit}
use Rattle.sheet.specs.Judging.{Answer, refused, given}
use Rattle.sheet.specs.Refusals.{bad_row}
use Rattle.sheet.specs.Tree.{most_turns, basic, if_line, else_line, end_if, repeat, end_repeat}
use Rattle.sheet.specs.Reading.{fits, words_fit, line_by, line_of}
use Rattle.sheet.specs.Rows.{Slot, variable, constant, turns, unused, SheetLine, Row, Kind, kinds, kind_of}
use Rattle.sheet.specs.Inner.Kinds.{slot_of, part_of, form_of, form_by, form_for, no_form, all_forms, part_for, turns_in}
use Rattle.sheet.specs.Inner.Steps.{least_of, beyond_of, rule_of, no_rule, RulesFor, in_range, fits_rule, fits_kind, row_fits, step_of}
use Rattle.sheet.specs.declared.kinds.Form.{Form}
use Rattle.sheet.specs.declared.Rule.{Rule}
use Rattle.sheet.specs.declared.Level.{Level}
use Rattle.sheet.specs.declared.kinds.Slot.TheVariants as slot
use Rattle.sheet.specs.declared.kinds.Part.TheVariants as part
use Rattle.sheet.proofs.EachKind.{each_kind, ◌then◌, gap, end}
use Rattle.sheet.proofs.RowsBack.{each_fits, turns_above_0}

-- ---- the look-up

in_table_lem : (table : List (Option Kind)) (i : ℕ) (other : Form) → i < length table → get_or (map form_by table) i other ≡ form_by (get_or table i none)
in_table_lem [] i other l = absurd (omega arith)
in_table_lem (kind ∷ table) zero other l = refl
in_table_lem (kind ∷ table) (suc i) other l = in_table_lem table i other (omega arith)

beyond_table : (table : List (Option Kind)) (i : ℕ) → length table ≤ i → get_or table i none ≡ none
beyond_table [] i l = refl
beyond_table (kind ∷ table) zero l = absurd (omega arith)
beyond_table (kind ∷ table) (suc i) l = beyond_table table i (omega arith)

pub no_kind_above : (n : ℕ) → length kinds < n → kind_of n ≡ none
unfolding kind_of
no_kind_above zero l = absurd (omega arith)
no_kind_above (suc i) l = beyond_table kinds i (omega arith)

pub no_form_above : (n : ℕ) → length kinds < n → no_form ≡ form_for n
unfolding form_for
no_form_above n l = rw (no_kind_above n l)

in_all_forms : (n : ℕ) (other : Form) → n ≤ length kinds → get_or all_forms n other ≡ form_for n
unfolding form_for kind_of
in_all_forms zero other l = refl
in_all_forms (suc i) other l = in_table_lem kinds i other (omega arith)

pub form_there : (forms : List Form) (n : ℕ) (other : Form) → forms ≡ all_forms → n ≤ length kinds → get_or forms n other ≡ form_for n
form_there forms n other e l = rw e (in_all_forms n other l)

-- a number that is no kind's has no form
pub form_found : {forms : List Form} (n : ℕ) → forms ≡ all_forms → get_or forms n no_form ≡ form_for n
form_found {forms} n e = by (dec_le n (length kinds))
  where
    by : Dec (n ≤ length kinds) → get_or forms n no_form ≡ form_for n
    by (yes l) = form_there forms n no_form e l
    by (no h) =
        let above : length all_forms ≤ n = omega arith in
        rw e (get_or-eq_default all_forms no_form above ∙ no_form_above n (omega arith))

-- as the code looks a form up: beyond the table each part would be its type's first
abbrev pub form_in : List Form → (kind : ℕ) → Form
form_in forms kind = get_or forms kind (record { 0 = slot.Variable; 1 = slot.Variable; 2 = slot.Variable; 3 = part.Assignment })

-- what the table has for a row's kind says what the row is to the blocks
pub part_there : {forms : List Form} {n kind : ℕ} → forms ≡ all_forms → n ≡ kind → kind ≤ length kinds → (form_in forms n).3 ≡ part_for kind
part_there table is in_table = ap (λ form. form.3) (form_there _ _ _ table (rw is in_table)) ∙ ap part_for is

-- ---- the rules

at_most : (n word : ℕ) → ltb word (suc n) ≡ leb word n
at_most n word = by (dec_le word n)
  where
    by : Dec (word ≤ n) → ltb word (suc n) ≡ leb word n
    by (yes h) = rw (lt-ltb word (suc n) (omega arith), le-leb word n h)
    by (no h) = rw (le-ltb word (suc n) (omega arith), lt-leb word n (omega arith))

module _ (v k : ℕ) where
  in_range_lem : (s : Slot) (word : ℕ) → in_range (least_of (slot_of s)) (beyond_of v k (slot_of s)) word ≡ fits v k s word
  unfolding fits
  in_range_lem variable word = rw (le-leb 0 word (omega arith))
  in_range_lem constant word = rw (le-leb 0 word (omega arith))
  in_range_lem turns word = rw (at_most limit.turns word)
  in_range_lem unused zero = refl
  in_range_lem unused (suc word) = rw (le-leb 0 (suc word) (omega arith), le-ltb (suc word) 1 (omega arith), ne_eqb (suc word) 0 (λ e. omega arith))

  -- a word without a least of its own
  below : (s : Slot) (word : ℕ) → least_of (slot_of s) ≡ 0 → ltb word (beyond_of v k (slot_of s)) ≡ fits v k s word
  below s word e = sym (ap (λ least. in_range least (beyond_of v k (slot_of s)) word) e ∙ rw (le-leb 0 word (omega arith))) ∙ in_range_lem s word

  module _ (r : Row) where
    -- the third word of no kind is a repeat's count
    kind_fits : (kind : Kind) → least_of (slot_of kind.b) ≡ 0 → fits_rule (rule_of v k (form_of kind)) r ≡ words_fit v k kind r
    unfolding words_fit
    kind_fits kind e = rw (in_range_lem kind.d r.d, in_range_lem kind.a r.a, below kind.b r.b e)

    none_fits : fits_rule no_rule r ≡ false
    none_fits = rw (le-leb 0 r.d (omega arith), le-ltb r.d 0 (omega arith))

    rule_fits : (n : ℕ) → fits_rule (rule_of v k (form_by (kind_of n))) r ≡ fits_kind v k (kind_of n) r
    rule_fits =
        each_kind (λ n o. fits_rule (rule_of v k (form_by o)) r ≡ fits_kind v k o r) (λ n. none_fits)
        (kind_fits _ refl
        then kind_fits _ refl
        then kind_fits _ refl
        then kind_fits _ refl
        then kind_fits _ refl
        then kind_fits _ refl
        then kind_fits _ refl
        then kind_fits _ refl
        then kind_fits _ refl
        then kind_fits _ refl
        then kind_fits _ refl
        then gap (gap (gap (gap (gap (gap
        (kind_fits _ refl
        then kind_fits _ refl
        then end)))))))

    pub above_all_kinds : length kinds < r.kind → row_fits v k r ≡ false
    unfolding row_fits
    above_all_kinds l = rw (no_kind_above r.kind l)

    -- by the rule that was looked up
    module _ (rules : List Rule) (made : RulesFor v k rules) (kind : ℕ) (is : kind ≡ r.kind) (within : kind ≤ length kinds) where
      pub fits_by_rule : fits_rule (get_or rules kind no_rule) r ≡ row_fits v k r
      unfolding row_fits form_for
      fits_by_rule = rw (made kind within, is) (rule_fits r.kind)

      pub part_by_rule : (get_or rules kind no_rule).part ≡ part_for r.kind
      part_by_rule = rw (made kind within, is)

-- ---- as the blocks see it

-- what a line is to the blocks besides: the most turns of a loop
abbrev pub turns_of : SheetLine → ℕ
turns_of (basic b) = 0
turns_of (if_line f) = 0
turns_of else_line = 0
turns_of end_if = 0
turns_of (repeat m) = most_turns m
turns_of end_repeat = 0

-- a row does to the blocks what its line does
abbrev SameStep : Row → SheetLine → Type 0
SameStep r line = (depth : ℕ) (inner outer : Level)
    → step_of (part_for r.kind) (turns_in r) depth inner outer ≡ step_of (part_of line) (turns_of line) depth inner outer

pub data Judged (place : ℕ) (r : Row) : Bool → Answer SheetLine → Type 0 where
  unfit : Judged place r false (refused (bad_row place))
  fit : (line : SheetLine) → SameStep r line → Judged place r true (given line)

module _ (v k place d a b : ℕ) where
  abbrev row_of_kind : ℕ → Row
  row_of_kind n = record { kind = n; d = d; a = a; b = b }

  abbrev Seen : ℕ → Option Kind → Type 0
  Seen n o = Judged place (row_of_kind n) (fits_kind v k o (row_of_kind n)) (line_by v k o (row_of_kind n) place)

  seen : (n : ℕ) (kind : Kind) → (words_fit v k kind (row_of_kind n) ≡ true → SameStep (row_of_kind n) (kind.means d a b)) → Seen n (some kind)
  unfolding line_by
  seen n kind same = by (words_fit v k kind (row_of_kind n)) refl
    where
      by : (fits : Bool) → words_fit v k kind (row_of_kind n) ≡ fits → Seen n (some kind)
      by true e = rw e (fit _ (same e))
      by false e = rw e unfit

  not_seen : (n : ℕ) → Seen n none
  unfolding line_by
  not_seen n = unfit

  -- a loop's count is not 0, so that it comes back from its line
  seen_by_kind : (n : ℕ) → Seen n (kind_of n)
  unfolding form_for step_of
  seen_by_kind =
      each_kind Seen not_seen
      (seen 1 _ (λ fit depth inner outer. refl)
      then seen 2 _ (λ fit depth inner outer. refl)
      then seen 3 _ (λ fit depth inner outer. refl)
      then seen 4 _ (λ fit depth inner outer. refl)
      then seen 5 _ (λ fit depth inner outer. refl)
      then seen 6 _ (λ fit depth inner outer. refl)
      then seen 7 _ (λ fit depth inner outer. refl)
      then seen 8 _ (λ fit depth inner outer. refl)
      then seen 9 _ (λ fit depth inner outer. refl)
      then seen 10 _ (λ fit depth inner outer. ap (λ m. step_of part.Repeat m depth inner outer) (sym (turns_above_0 v k a (each_fits v k _ _ fit).1)))
      then seen 11 _ (λ fit depth inner outer. refl)
      then gap (gap (gap (gap (gap (gap
      (seen 18 _ (λ fit depth inner outer. refl)
      then seen 19 _ (λ fit depth inner outer. ap (λ m. step_of part.Repeat m depth inner outer) (sym (turns_above_0 v k d (each_fits v k _ _ fit).0)))
      then end)))))))

pub row_judged : (v k place : ℕ) (r : Row) → Judged place r (row_fits v k r) (line_of v k r place)
unfolding line_of row_fits
row_judged v k place r = seen_by_kind v k place r.d r.a r.b r.kind
