-- A tangent's plan, and what its writer leaves.
use Rattle.std.specs.Prelude.{ℕ, zero, suc, ◌+◌, Bool, cond, List, get_or}
use Rattle.sheet.specs.Tree.{basic, if_line, else_line, end_if, repeat, end_repeat}
use Rattle.sheet.specs.Rows.{SheetLine}
use Rattle.sheet.specs.Sheets.{row_at}
use Rattle.sheet.specs.Inner.RowLines.{line_of_row, numbered_row}
use Rattle.sets.specs.Transfers.{Activity}
use Rattle.table.specs.declared.Plan.{Plan}
use Rattle.table.specs.Inner.MarkedRows.{known_by}
use Rattle.table.specs.Inner.Plans.{PlanMadeFor}
use Rattle.tangent.specs.Tangent.{rate_count, rows_over}
use Rattle.tangent.specs.Calls.{tangent_needs_of}

-- how many rows a sheet's row has in the tangent table: a block's row stands as it is
abbrev pub line_count : Activity → SheetLine → ℕ
line_count known (basic b) = rows_over b known
line_count known (if_line f) = 1
line_count known else_line = 1
line_count known end_if = 1
line_count known (repeat m) = 1
line_count known end_repeat = 1

-- the rate rows of both terms of a quotient, and the row itself
abbrev pub most_rates : ℕ
most_rates = 5

abbrev pub most_line_count : ℕ
most_line_count = most_rates + 1

-- how many a quotient's are, by the operands that are varied
abbrev pub quotient_count : (first second : Bool) → ℕ
quotient_count first second = cond first (cond second 5 1) 4

-- how many rows the tangent table has before those of a sheet's row
unfoldable pub table_rows_before : (words : List ℕ) (first : ℕ) (marks : List ℕ) → (row : ℕ) → ℕ
unfolding line_of_row rate_count row_at
table_rows_before words first marks zero = 0
table_rows_before words first marks (suc p) =
    table_rows_before words first marks p + line_count (known_by (get_or marks p 0)) (line_of_row (numbered_row words first p))

-- the words' sheet is planned for its tangent, and its marks are noted; the partners are noted too, in some lists
pub record TangentPlanned (words : List ℕ) (plan : Plan) (marks : List ℕ) : Type 0 where
  pub came : List ℕ
  pub goes : List ℕ
  pub made : PlanMadeFor tangent_needs_of words plan marks came goes
