-- How many rows a table has, how many words rows have, and that a table has 1 + 4R words.
use Prim.Native.Nat.{◌*◌}
use mathlib.Core.Path.{◌≡◌, refl, ◌∙◌}
use mathlib.Core.List.{List, [], ◌∷◌, map}
use lib.ListN.{length, length-map}
use native.Mathlib.Omega.{arith}
use Rattle.sheet.specs.Bounds.{limit}
use Rattle.sheet.specs.Tree.{rows}
use Rattle.sheet.specs.Rows.{Row}
use Rattle.sheet.specs.Sheets.{Sheet, variables_of}
use Rattle.sheet.proofs.RowsCounted.{lines_counted}
use Rattle.sets.specs.Rounds.{marked}
use Rattle.table.specs.TableRows.{Table, lines_of, table_row_of, words_of, table_words}
use Rattle.table.specs.Computed.{table_of}
use Rattle.table.specs.Sizes.{table_rows, table_room}
use Rattle.table.specs.Inner.MarkedRows.{rows_in}

-- R
pub table_rows_counted : (table : Table) → length (rows_in table) ≡ rows table
unfolding rows_in lines_of
table_rows_counted table = length-map (lines_of table) table_row_of ∙ lines_counted table

pub words_counted : (rs : List Row) → length (words_of rs) ≡ limit.row_words * length rs
unfolding words_of
words_counted [] = refl
words_counted (r ∷ rs) = omega (arith, words_counted rs)

pub table_words_lem : (table : Table) → length (table_words table) ≡ table_room (rows table)
unfolding table_words lines_of
table_words_lem table =
    omega (arith, words_counted (map table_row_of (lines_of table)), length-map (lines_of table) table_row_of, lines_counted table)

pub table_length : (sheet : Sheet) → length (table_words (table_of sheet)) ≡ table_room (table_rows (variables_of sheet) (marked sheet))
unfolding table_of table_rows
table_length sheet = table_words_lem (table_of sheet)
