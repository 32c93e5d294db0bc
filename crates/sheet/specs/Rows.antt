-- Roles, kinds and rows: what each word of a row is, and what the row means.
use Rattle.std.specs.Prelude.{ℕ, zero, suc, pred, Bool, ◌||◌, List, [], ◌∷◌, map, get_or, eqb}
use Rattle.std.proofs.Math.Option.{Option, none, some}
use Rattle.sheet.specs.Tree.{times, while, Tree, flat, Line, basic, if_line, else_line, end_if, repeat, end_repeat}

-- "0 parameter, 1 independent, 2 dependent, 3 both"
abbrev pub is_independent : ℕ → Bool
is_independent role = eqb role 1 || eqb role 3

abbrev pub is_dependent : ℕ → Bool
is_dependent role = eqb role 2 || eqb role 3

-- what an assignment reads: variables by number, or a constant by number
pub data Source : Type 0 where
  copy : ℕ → Source
  fixed : ℕ → Source
  sum : ℕ → ℕ → Source
  difference : ℕ → ℕ → Source
  product : ℕ → ℕ → Source
  negation : ℕ → Source
  quotient : ℕ → ℕ → Source

infix 20 ◌≔◌
pub data Assignment : Type 0 where
  ◌≔◌ : ℕ → Source → Assignment

abbrev pub target_of : Assignment → ℕ
target_of (d ≔ source) = d

-- "if value a < value b, strictly"
pub data Test : Type 0 where
  less : ℕ → ℕ → Test

abbrev pub SheetLine : Type 0
SheetLine = Line Assignment Test

-- "rows of four words: kind, d, a, b"
pub record Row : Type 0 where
  pub kind : ℕ
  pub d : ℕ
  pub a : ℕ
  pub b : ℕ

-- what a word of a row may be
pub data Slot : Type 0 where
  variable : Slot
  constant : Slot
  turns : Slot
  unused : Slot

pub record Kind : Type 0 where
  pub d : Slot
  pub a : Slot
  pub b : Slot
  pub means : (d a b : ℕ) → SheetLine

-- kind 18, "d := a / b, in doubles" (02 §4)
abbrev pub quotient_kind : ℕ
quotient_kind = 18

-- kind 19, "while a < b, at most d turns", d from 1 to 1000, "closed by kind 11" (02 §6)
abbrev pub while_kind : ℕ
while_kind = 19

-- 01's table of kinds, from kind 1 on, with 02's. "One fixed table says for each kind which of its three words name a variable." Kinds 12 to 17 are
-- a table's own, and no sheet's.
abbrev pub kinds : List (Option Kind)
kinds =
    some (record { d = variable; a = variable; b = unused; means = λ d a b. basic (d ≔ copy a) })
    ∷ some (record { d = variable; a = constant; b = unused; means = λ d a b. basic (d ≔ fixed a) })
    ∷ some (record { d = variable; a = variable; b = variable; means = λ d a b. basic (d ≔ sum a b) })
    ∷ some (record { d = variable; a = variable; b = variable; means = λ d a b. basic (d ≔ difference a b) })
    ∷ some (record { d = variable; a = variable; b = variable; means = λ d a b. basic (d ≔ product a b) })
    ∷ some (record { d = variable; a = variable; b = unused; means = λ d a b. basic (d ≔ negation a) })
    ∷ some (record { d = unused; a = variable; b = variable; means = λ d a b. if_line (less a b) })
    ∷ some (record { d = unused; a = unused; b = unused; means = λ d a b. else_line })
    ∷ some (record { d = unused; a = unused; b = unused; means = λ d a b. end_if })
    ∷ some (record { d = unused; a = turns; b = unused; means = λ d a b. repeat (times (pred a)) })
    ∷ some (record { d = unused; a = unused; b = unused; means = λ d a b. end_repeat })
    ∷ none
    ∷ none
    ∷ none
    ∷ none
    ∷ none
    ∷ none
    ∷ some (record { d = variable; a = variable; b = variable; means = λ d a b. basic (d ≔ quotient a b) })
    ∷ some (record { d = turns; a = variable; b = variable; means = λ d a b. repeat (while (less a b) (pred d)) })
    ∷ []

unfoldable pub kind_of : ℕ → Option Kind
kind_of zero = none
kind_of (suc n) = get_or kinds n none

-- the row that says a line: an adjoint table's rows begin as a sheet's do, so both are written through these
unfoldable pub row_of_assignment : Assignment → Row
row_of_assignment (d ≔ copy a) = record { kind = 1; d = d; a = a; b = 0 }
row_of_assignment (d ≔ fixed a) = record { kind = 2; d = d; a = a; b = 0 }
row_of_assignment (d ≔ sum a b) = record { kind = 3; d = d; a = a; b = b }
row_of_assignment (d ≔ difference a b) = record { kind = 4; d = d; a = a; b = b }
row_of_assignment (d ≔ product a b) = record { kind = 5; d = d; a = a; b = b }
row_of_assignment (d ≔ negation a) = record { kind = 6; d = d; a = a; b = 0 }
row_of_assignment (d ≔ quotient a b) = record { kind = quotient_kind; d = d; a = a; b = b }

unfoldable pub row_of_test : Test → Row
row_of_test (less a b) = record { kind = 7; d = 0; a = a; b = b }

-- of a loop with this test, at most m + 1 turns
unfoldable pub row_of_while : Test → (m : ℕ) → Row
row_of_while (less a b) m = record { kind = while_kind; d = suc m; a = a; b = b }

module _ {B F : Type 0} (of_basic : B → Row) (of_test : F → Row) (of_while : F → ℕ → Row) where
  unfoldable pub row_of : Line B F → Row
  row_of (basic b) = of_basic b
  row_of (if_line f) = of_test f
  row_of else_line = record { kind = 8; d = 0; a = 0; b = 0 }
  row_of end_if = record { kind = 9; d = 0; a = 0; b = 0 }
  row_of (repeat (times m)) = record { kind = 10; d = 0; a = suc m; b = 0 }
  row_of (repeat (while f m)) = of_while f m
  row_of end_repeat = record { kind = 11; d = 0; a = 0; b = 0 }

unfoldable pub sheet_row_of : SheetLine → Row
unfolding row_of row_of_assignment row_of_test row_of_while
sheet_row_of = row_of row_of_assignment row_of_test row_of_while

-- the rows that a sheet's tree says
unfoldable pub tree_rows : Tree Assignment Test → List Row
unfolding flat sheet_row_of
tree_rows tree = map sheet_row_of (flat tree [])
