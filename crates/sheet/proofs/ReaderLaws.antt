-- What the reader's answer settles, for the layers above: its contract permits one answer only, and an accepted shape is that of the sheet
-- that the words are.
use Prim.Native.Nat.{ℕ, ◌+◌, ◌*◌, ◌≤◌}
use Rattle.std.specs.Prelude.{Err, Ok, Result}
use mathlib.Core.Path.{◌≡◌, refl, sym, ap, subst, ◌∙◌}
use mathlib.Core.List.{List, []}
use mathlib.Core.Option.{Option, none, some}
use lib.ListN.{length, length-map}
use native.Mathlib.Omega.{arith}
use Rattle.sheet.specs.Bounds.{limit}
use Rattle.sheet.specs.Judging.{Answer, refused, given, ◌>>=◌}
use Rattle.sheet.specs.Refusals.{Refusal}
use Rattle.sheet.specs.Refusals.{words_end, words_left, count_beyond, role_above, bad_row, bad_block, too_long, small_table}
use Rattle.sheet.specs.Refusals.{small_value_stack, small_turn_stack, wrong_starts, wrong_seeds, wrong_result, not_finite_given, not_finite_result, holds_quotient}
use Rattle.sheet.specs.Tree.{flat, rows, longest_run}
use Rattle.sheet.specs.Rows.{sheet_row_of, tree_rows}
use Rattle.sheet.specs.Names.{Present}
use Rattle.sheet.specs.Sheets.{Sheet}
use Rattle.sheet.specs.Reading.{read}
use Rattle.sheet.specs.Answers.{refusal_of, said, shape_of, shape_read}
use Rattle.sheet.specs.declared.No.{No}
use Rattle.sheet.specs.declared.No.TheVariants.{WordsEnd, WordsLeft, CountBeyond, RoleAbove, BadRow, BadBlock, TooLong, HoldsQuotient}
use Rattle.sheet.specs.declared.Shape.{Shape}
use Rattle.sheet.proofs.ReadingParts.{bound, same_given, accepted}
use Rattle.sheet.proofs.NamesPresent.{count_judged, counts, names_present}
use Rattle.sheet.proofs.RowsCounted.{lines_counted, rows_counted}
use Rattle.sheet.proofs.TreeOfRows.{tree_of_rows}

-- ---- one answer only

-- the case that says a refusal
no_of : Refusal → Option No
no_of (words_end place) = some (WordsEnd place)
no_of (words_left place) = some (WordsLeft place)
no_of (count_beyond place) = some (CountBeyond place)
no_of (role_above place) = some (RoleAbove place)
no_of (bad_row place) = some (BadRow place)
no_of (bad_block place) = some (BadBlock place)
no_of too_long = some TooLong
no_of small_table = none
no_of small_value_stack = none
no_of small_turn_stack = none
no_of wrong_starts = none
no_of wrong_seeds = none
no_of wrong_result = none
no_of (not_finite_given place) = none
no_of (not_finite_result place) = none
no_of (holds_quotient place) = some (HoldsQuotient place)

no_back : (why : No) → no_of (refusal_of why) ≡ some why
unfolding no_of
no_back (WordsEnd place) = refl
no_back (WordsLeft place) = refl
no_back (CountBeyond place) = refl
no_back (RoleAbove place) = refl
no_back (BadRow place) = refl
no_back (BadBlock place) = refl
no_back TooLong = refl
no_back (HoldsQuotient place) = refl

same_no : (why why' : No) → refusal_of why ≡ refusal_of why' → why ≡ why'
same_no why why' e = cc (no_back why, no_back why', ap no_of e)

pub same_said : (r r' : Result Shape No) → said r ≡ said r' → r ≡ r'
same_said (Err why) (Err why') e =
    let same : refusal_of why ≡ refusal_of why' = cc in ap Err (same_no why why' same)
same_said (Err why) (Ok shape) e = let z : ◌≡◌ {A = ℕ} 0 1 = cc in absurd (omega arith)
same_said (Ok shape) (Err why) e = let z : ◌≡◌ {A = ℕ} 0 1 = cc in absurd (omega arith)
same_said (Ok shape) (Ok shape') e = let same : shape ≡ shape' = cc in ap Ok same

-- any two results that the contract of `read_sheet` permits coincide
pub one_reading : (words : List ℕ) (r r' : Result Shape No) → said r ≡ shape_read words → said r' ≡ shape_read words → r ≡ r'
one_reading words r r' e e' = same_said r r' (e ∙ sym e')

-- ---- an accepted shape

-- the sheet, and what its shape says of it and of the words
pub record Shaped (words : List ℕ) (shape : Shape) : Type 0 where
  pub sheet : Sheet
  pub is : read words ≡ given sheet
  pub variables : length sheet.roles ≡ shape.variables
  pub constants : length sheet.constants ≡ shape.constants
  pub rows_of_tree : rows sheet.body ≡ shape.rows
  pub longest : longest_run sheet.body ≡ shape.longest
  pub first_constant : shape.first_constant ≡ 2 + shape.variables
  pub first_row : shape.first_row ≡ 3 + shape.variables + shape.constants
  pub all_words : length words ≡ shape.first_row + shape.rows * limit.row_words
  pub some_variable : 1 ≤ shape.variables
  pub variables_within : shape.variables ≤ limit.variables
  pub constants_within : shape.constants ≤ limit.constants
  pub rows_within : shape.rows ≤ limit.rows
  pub longest_within : shape.longest ≤ limit.longest_run
  pub present : Present shape.variables shape.constants sheet.body

pub shaped : (words : List ℕ) (sheet : Sheet) → read words ≡ given sheet → Shaped words (shape_of sheet)
unfolding shape_of tree_rows
shaped words sheet e =
    let parts = accepted words sheet e in
    let counted = counts words sheet parts in
    let k = count_judged words (1 + parts.v) 0 limit.constants 1 parts.k parts.constant_count in
    let n = count_judged words (1 + parts.v + 1 + parts.k) 0 limit.rows limit.row_words parts.n parts.row_count in
    let many : length sheet.rows ≡ parts.n = ap length parts.rows ∙ rows_counted words _ parts.n in
    let lines = flat sheet.body [] in
    let counts : length lines ≡ length sheet.rows = sym (length-map lines sheet_row_of) ∙ ap length (tree_of_rows words sheet e).says in
    record {
      sheet = sheet;
      is = e;
      variables = refl;
      constants = refl;
      rows_of_tree = sym (lines_counted sheet.body) ∙ counts;
      longest = refl;
      first_constant = refl;
      first_row = refl;
      all_words = omega (arith, parts.ends, n.there, many, counted.variables, counted.constants);
      some_variable = counted.some_variable;
      variables_within = counted.not_too_many;
      constants_within = omega (arith, k.most, counted.constants);
      rows_within = omega (arith, n.most, many);
      longest_within = parts.short;
      present = names_present words sheet e;
    }

pub accepted_shape : (words : List ℕ) (r : Result Shape No) (shape : Shape) → said r ≡ shape_read words → r ≡ Ok shape → Shaped words shape
unfolding shape_read
accepted_shape words r shape contract is =
    let found = bound (read words) _ shape (sym contract ∙ ap said is) in
    subst (Shaped words) (same_given found.2) (shaped words found.0 found.1)

-- ---- refused words

pub refused_read : (words : List ℕ) (r : Result Shape No) (why : No) → said r ≡ shape_read words → r ≡ Err why
    → read words ≡ refused (refusal_of why)
unfolding shape_read
refused_read words r why contract is = stopped (read words) (sym contract ∙ ap said is)
  where
    stopped : (answer : Answer Sheet) → (answer >>= λ sheet. given (shape_of sheet)) ≡ refused (refusal_of why) → answer ≡ refused (refusal_of why)
    stopped (refused r) e = cc
    stopped (given sheet) e = let z : ◌≡◌ {A = ℕ} 0 1 = cc in absurd (omega arith)
