-- What a row is to the blocks, by the table of kinds, is what its line is to them; and its kind tells whether it opens a loop with a test.
use mathlib.Core.Path.{◌≡◌, refl, ap, ◌∙◌, sym}
use lib.Dec.{eqb}
use Rattle.sheet.specs.Tree.{times, while, basic, if_line, else_line, end_if, repeat, end_repeat}
use Rattle.sheet.specs.Rows.{◌≔◌, copy, fixed, sum, difference, product, negation, quotient, less, SheetLine, Row, sheet_row_of, while_kind}
use Rattle.sheet.specs.Inner.Kinds.{part_of, opens_test, form_for, part_for}
use Rattle.sheet.specs.Inner.RowLines.{line_of_row, SaysLine}

pub line_part : (l : SheetLine) → part_for (sheet_row_of l).kind ≡ part_of l
unfolding sheet_row_of form_for
line_part (basic (d ≔ copy a)) = refl
line_part (basic (d ≔ fixed c)) = refl
line_part (basic (d ≔ sum a b)) = refl
line_part (basic (d ≔ difference a b)) = refl
line_part (basic (d ≔ product a b)) = refl
line_part (basic (d ≔ negation a)) = refl
line_part (basic (d ≔ quotient a b)) = refl
line_part (if_line (less a b)) = refl
line_part else_line = refl
line_part end_if = refl
line_part (repeat (times m)) = refl
line_part (repeat (while (less a b) m)) = refl
line_part end_repeat = refl

pub row_part : {r : Row} → SaysLine r → part_of (line_of_row r) ≡ part_for r.kind
row_part {r} says = sym (line_part (line_of_row r)) ∙ ap (λ x. part_for x.kind) says.back

line_tests : (l : SheetLine) → eqb (sheet_row_of l).kind while_kind ≡ opens_test l
unfolding sheet_row_of
line_tests (basic (d ≔ copy a)) = refl
line_tests (basic (d ≔ fixed c)) = refl
line_tests (basic (d ≔ sum a b)) = refl
line_tests (basic (d ≔ difference a b)) = refl
line_tests (basic (d ≔ product a b)) = refl
line_tests (basic (d ≔ negation a)) = refl
line_tests (basic (d ≔ quotient a b)) = refl
line_tests (if_line (less a b)) = refl
line_tests else_line = refl
line_tests end_if = refl
line_tests (repeat (times m)) = refl
line_tests (repeat (while (less a b) m)) = refl
line_tests end_repeat = refl

pub row_tests : {r : Row} → SaysLine r → opens_test (line_of_row r) ≡ eqb r.kind while_kind
row_tests {r} says = sym (line_tests (line_of_row r)) ∙ ap (λ x. eqb x.kind while_kind) says.back
