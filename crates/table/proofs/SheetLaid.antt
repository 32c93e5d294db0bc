-- Where an accepted sheet's rows lie in its words, what the passes over them ask, and how large its table gets at most.
use Prim.Native.Nat.{ℕ, ◌+◌, ◌*◌, ◌≤◌, ◌<◌}
use Rattle.std.specs.Prelude.{Ok}
use native.Mathlib.Omega.{arith}
use mathlib.Core.Path.{◌≡◌, refl, sym, ap, subst, ◌∙◌}
use mathlib.Core.List.{List, []}
use lib.ListN.{length, length-map}
use Rattle.sheet.specs.Bounds.{limit}
use Rattle.sheet.specs.Judging.{given}
use Rattle.sheet.specs.Tree.{flat, longest_run}
use Rattle.sheet.specs.Rows.{sheet_row_of, tree_rows}
use Rattle.sheet.specs.Sheets.{Sheet, variables_of, rows_at}
use Rattle.sheet.specs.Reading.{read}
use Rattle.sheet.specs.Answers.{shape_of, shape_read}
use Rattle.sheet.specs.Inner.RowLines.{numbered_row}
use Rattle.sheet.specs.declared.Shape.{Shape}
use Rattle.sheet.proofs.ReadingParts.{bound, same_given, accepted}
use Rattle.sheet.proofs.TreeOfRows.{tree_of_rows}
use Rattle.sheet.proofs.RowsByNumber.{rows_of_tree}
use Rattle.sheet.proofs.TreeInWords.{body_stands}
use Rattle.sheet.proofs.ReaderLaws.{Shaped, accepted_shape}
use Rattle.sheet.proofs.RowsSmall.{rows_small}
use Rattle.sets.specs.Marks.{mark_by, marked_by}
use Rattle.sets.specs.Rounds.{sets_of, marked}
use Rattle.sets.proofs.MarksListed.{numbered_rows}
use Rattle.table.specs.TableRows.{table_words}
use Rattle.table.specs.RowBounds.{most_table_rows}
use Rattle.table.specs.Computed.{table_of, rows_needed}
use Rattle.table.specs.Sizes.{table_room}
use Rattle.table.specs.Inner.MarkedRows.{SmallWords}
use Rattle.table.proofs.TableLength.{table_length}
use Rattle.table.proofs.TableBounds.{table_rows_bound}

pub record Lies (words : List ℕ) (sheet : Sheet) (shape : Shape) : Type 0 where
  pub is : read words ≡ given sheet
  pub shape_is : shape ≡ shape_of sheet
  pub says : tree_rows sheet.body ≡ rows_at words shape.first_row shape.rows
  pub variables : shape.variables ≡ variables_of sheet
  pub few_variables : shape.variables ≤ limit.variables
  pub few_rows : shape.rows ≤ limit.rows
  pub there : shape.first_row + shape.rows * limit.row_words ≤ length words
  pub small : (p : ℕ) → p < shape.rows → SmallWords shape.variables (numbered_row words shape.first_row p)
  pub short : longest_run sheet.body ≤ limit.longest_run

shape_read_lem : (words : List ℕ) (sheet : Sheet) → read words ≡ given sheet → shape_read words ≡ given (shape_of sheet)
unfolding shape_read
shape_read_lem words sheet e = rw e

pub sheet_lies : (words : List ℕ) (sheet : Sheet) → read words ≡ given sheet → Lies words sheet (shape_of sheet)
unfolding tree_rows shape_of
sheet_lies words sheet e =
    let parts = accepted words sheet e in
    let lines = flat sheet.body [] in
    let first = 3 + length sheet.roles + length sheet.constants in
    let shaped : Shaped words (shape_of sheet) =
    accepted_shape words (Ok (shape_of sheet)) (shape_of sheet) (sym (shape_read_lem words sheet e)) refl in
    let stands = body_stands words sheet e in
    let begins : first + 0 * limit.row_words ≡ first = omega arith in
    let many : length lines ≡ length sheet.rows = sym (length-map lines sheet_row_of) ∙ ap length (tree_of_rows words sheet e).says in
    let says : tree_rows sheet.body ≡ rows_at words first (length sheet.rows) =
    sym stands.rows_here ∙ ap (λ p. rows_at words p (length lines)) begins ∙ ap (rows_at words first) many in
    record {
      is = e;
      shape_is = refl;
      says = says;
      variables = refl;
      few_variables = shaped.variables_within;
      few_rows = shaped.rows_within;
      there = omega (arith, shaped.all_words);
      small = λ p below.
          let row = rows_small words sheet e p below in
          record { few = shaped.variables_within; d = row.d; a = row.a; b = row.b };
      short = parts.short;
    }

-- "R's bound becomes 10 × 512 + 1 = 5,121" (02 §4), and the table 20,485 words
pub table_rows_within : (words : List ℕ) (sheet : Sheet) → read words ≡ given sheet → rows_needed sheet ≤ most_table_rows
unfolding marked marked_by
table_rows_within words sheet e =
    let lies = sheet_lies words sheet e in
    omega (
      arith,
      table_rows_bound (variables_of sheet) (marked sheet),
      numbered_rows (mark_by (sets_of sheet)) sheet.body 0,
      rows_of_tree words _ _ sheet.body lies.says,
      lies.few_rows,
    )

pub table_words_within : (words : List ℕ) (sheet : Sheet) → read words ≡ given sheet → length (table_words (table_of sheet)) ≤ table_room most_table_rows
table_words_within words sheet e = omega (arith, table_length sheet, table_rows_within words sheet e)

-- by what the reader promises of an accepted sheet
pub record SomeSheet (words : List ℕ) (shape : Shape) : Type 0 where
  pub sheet : Sheet
  pub lies : Lies words sheet shape

pub accepted_lies : (words : List ℕ) (shape : Shape) → shape_read words ≡ given shape → SomeSheet words shape
unfolding shape_read
accepted_lies words shape e =
    let found = bound (read words) _ shape e in
    record { sheet = found.0; lies = subst (Lies words found.0) (same_given found.2) (sheet_lies words found.0 found.1) }
