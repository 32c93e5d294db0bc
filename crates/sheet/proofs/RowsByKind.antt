-- A row that says its line is of a kind that the table of kinds has.
use Prim.Native.Nat.{◌≤◌}
use mathlib.Core.Path.{subst}
use lib.ListN.{length}
use native.Mathlib.Omega.{arith}
use Rattle.sheet.specs.Tree.{times, while, basic, if_line, else_line, end_if, repeat, end_repeat}
use Rattle.sheet.specs.Rows.{◌≔◌, copy, fixed, sum, difference, product, negation, quotient, less, SheetLine, Row, sheet_row_of, kinds}
use Rattle.sheet.specs.Inner.RowLines.{line_of_row, SaysLine}

line_kind : (l : SheetLine) → (sheet_row_of l).kind ≤ length kinds
unfolding sheet_row_of
line_kind (basic (d ≔ copy a)) = omega arith
line_kind (basic (d ≔ fixed c)) = omega arith
line_kind (basic (d ≔ sum a b)) = omega arith
line_kind (basic (d ≔ difference a b)) = omega arith
line_kind (basic (d ≔ product a b)) = omega arith
line_kind (basic (d ≔ negation a)) = omega arith
line_kind (basic (d ≔ quotient a b)) = omega arith
line_kind (if_line (less a b)) = omega arith
line_kind else_line = omega arith
line_kind end_if = omega arith
line_kind (repeat (times m)) = omega arith
line_kind (repeat (while (less a b) m)) = omega arith
line_kind end_repeat = omega arith

pub row_kind : {r : Row} → SaysLine r → r.kind ≤ length kinds
row_kind {r} says = subst (λ x. x.kind ≤ length kinds) says.back (line_kind (line_of_row r))
