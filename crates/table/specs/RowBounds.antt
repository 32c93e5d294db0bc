-- How large R can be, and how many variables a table has: by it go the steps that a run takes at most, and the code's arrays.
use Rattle.std.specs.Prelude.{ℕ, ◌+◌, ◌*◌}
use Rattle.sheet.specs.Bounds.{limit}

-- "R's bound becomes 10 × 512 + 1" (02 §4): for each of a sheet's rows, and row 17. Forward a save and the row itself
abbrev pub most_forward : ℕ
most_forward = 2

-- of an assignment's parts: a quotient's u := t / b, the row into ā, and three rows for b̄
abbrev pub most_parts : ℕ
most_parts = 5

-- backward: d taken back, t := d̄, d̄ := 0 and the parts
abbrev pub most_backward : ℕ
most_backward = 3 + most_parts

abbrev pub most_rows_each : ℕ
most_rows_each = most_forward + most_backward

abbrev pub most_table_rows : ℕ
most_table_rows = most_rows_each * limit.rows + 1

-- the originals, their adjoints, t and u
abbrev pub table_variables : (variables : ℕ) → ℕ
table_variables v = 2 * v + 2
