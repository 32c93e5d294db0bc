-- A sheet's table, R, S and T by its sets as they are computed (crates/sets/specs/Rounds.antt): since only these sets are least, what they give
-- is what any least sets give.
use Rattle.std.specs.Prelude.{ℕ}
use Rattle.sheet.specs.Sheets.{Sheet, variables_of}
use Rattle.sets.specs.Rounds.{sets_of, marked}
use Rattle.table.specs.TableRows.{Table}
use Rattle.table.specs.Adjoint.{table_by}
use Rattle.table.specs.Sizes.{Needs, table_rows, values_needed, turns_needed}

unfoldable pub table_of : Sheet → Table
unfolding marked table_by
table_of sheet = table_by (sets_of sheet) sheet

abbrev pub rows_needed : Sheet → ℕ
rows_needed sheet = table_rows (variables_of sheet) (marked sheet)

abbrev pub values_for : Sheet → ℕ
values_for sheet = values_needed (marked sheet)

abbrev pub turns_for : Sheet → ℕ
turns_for sheet = turns_needed (marked sheet)

abbrev pub needs_of : Sheet → Needs
needs_of sheet = record { rows = rows_needed sheet; values = values_for sheet; turns = turns_for sheet }
