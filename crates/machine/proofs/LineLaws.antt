-- Which line a table row's words say: each line is said by its own row alone, but for its origin.
use Prim.Native.Nat.{ℕ, pred, ◌<◌}
use mathlib.Core.Path.{◌≡◌, refl, subst}
use mathlib.Core.Bool.{true, false, cond}
use mathlib.Core.Option.{Option, none, some}
use mathlib.Core.Logic.{◌⊎◌, inl, inr, ◌≢◌}
use native.Mathlib.Omega.{arith}
use borrow.Author.Tests.{ne_eqb}
use lib.Dec.{eqb}
use Rattle.sheet.specs.Tree.{times, while, basic, if_line, else_line, end_if, repeat, end_repeat}
use Rattle.sheet.specs.Rows.{copy, fixed, sum, difference, product, negation, quotient, ◌≔◌, less, Row, row_of, row_of_assignment, row_of_test, quotient_kind, while_kind}
use Rattle.sheet.specs.Names.{SourcePresent, AssignmentPresent}
use Rattle.table.specs.TableRows.{Action, assign, save, take_back, save_turn, clear, turn_round, whether, on_turn, TableLine, TableRow, row_of_action, row_of_table_test, table_row_of}
use Rattle.machine.specs.Inner.RowWords.{action_of, Named}

pub action_said : (action : Action) → action_of (row_of_action action) ≡ some action
unfolding action_of row_of_action row_of_assignment
action_said (assign (d ≔ copy a)) = refl
action_said (assign (d ≔ fixed a)) = refl
action_said (assign (d ≔ sum a b)) = refl
action_said (assign (d ≔ difference a b)) = refl
action_said (assign (d ≔ product a b)) = refl
action_said (assign (d ≔ negation a)) = refl
action_said (assign (d ≔ quotient a b)) = refl
action_said (save d) = refl
action_said (take_back d) = refl
action_said (save_turn true) = refl
action_said (save_turn false) = refl
action_said (clear d) = refl
action_said turn_round = refl

unfoldable pub block_of : Row → Option TableLine
block_of row =
    cond (eqb row.kind 7) (some (if_line (whether (less row.a row.b))))
    (cond (eqb row.kind 8) (some else_line)
    (cond (eqb row.kind 9) (some end_if)
    (cond (eqb row.kind 10) (some (repeat (times (pred row.a))))
    (cond (eqb row.kind 11) (some end_repeat)
    (cond (eqb row.kind 15) (some (if_line on_turn))
    (cond (eqb row.kind while_kind) (some (repeat (while (whether (less row.a row.b)) (pred row.d))))
    (cond (eqb row.kind 20) (some (repeat (while on_turn 0))) none)))))))

-- a line without what its words don't say: how many turns a loop on a count does at most
abbrev pub said_of : TableLine → TableLine
said_of (basic row) = basic row
said_of (if_line f) = if_line f
said_of else_line = else_line
said_of end_if = end_if
said_of (repeat (times m)) = repeat (times m)
said_of (repeat (while (whether f) m)) = repeat (while (whether f) m)
said_of (repeat (while on_turn m)) = repeat (while on_turn 0)
said_of end_repeat = end_repeat

-- every other line's words say all of it
abbrev pub SaysAll : TableLine → Type 0
SaysAll (basic row) = Unit {0}
SaysAll (if_line f) = Unit {0}
SaysAll else_line = Unit {0}
SaysAll end_if = Unit {0}
SaysAll (repeat (times m)) = Unit {0}
SaysAll (repeat (while (whether f) m)) = Unit {0}
SaysAll (repeat (while on_turn m)) = ⊥
SaysAll end_repeat = Unit {0}

pub said_all : (line other : TableLine) → SaysAll line → line ≡ said_of other → line ≡ other
said_all line (basic row) all is = is
said_all line (if_line f) all is = is
said_all line else_line all is = is
said_all line end_if all is = is
said_all line (repeat (times m)) all is = is
said_all line (repeat (while (whether f) m)) all is = is
said_all line (repeat (while on_turn m)) all is = absurd (subst SaysAll is all)
said_all line end_repeat all is = is

pub said_count : (other : TableLine) → repeat (while on_turn 0) ≡ said_of other → (m : ℕ) × (other ≡ repeat (while on_turn m))
said_count (basic row) is = let z : ◌≡◌ {A = ℕ} 0 1 = cc in absurd (omega arith)
said_count (if_line f) is = let z : ◌≡◌ {A = ℕ} 0 1 = cc in absurd (omega arith)
said_count else_line is = let z : ◌≡◌ {A = ℕ} 0 1 = cc in absurd (omega arith)
said_count end_if is = let z : ◌≡◌ {A = ℕ} 0 1 = cc in absurd (omega arith)
said_count (repeat (times m)) is = let z : ◌≡◌ {A = ℕ} 0 1 = cc in absurd (omega arith)
said_count (repeat (while (whether f) m)) is = let z : ◌≡◌ {A = ℕ} 0 1 = cc in absurd (omega arith)
said_count (repeat (while on_turn m)) is = (m, refl)
said_count end_repeat is = let z : ◌≡◌ {A = ℕ} 0 1 = cc in absurd (omega arith)

pub block_said : (line : TableLine) → ((row : TableRow) → line ≡ basic row → ⊥) → block_of (table_row_of line) ≡ some (said_of line)
unfolding block_of table_row_of row_of row_of_table_test row_of_test
block_said (basic row) not = absurd (not row refl)
block_said (if_line (whether (less a b))) not = refl
block_said (if_line on_turn) not = refl
block_said else_line not = refl
block_said end_if not = refl
block_said (repeat (times m)) not = refl
block_said (repeat (while (whether (less a b)) m)) not = refl
block_said (repeat (while on_turn m)) not = refl
block_said end_repeat not = refl

-- the straight lines are those whose words say an action
pub straight_or_not : (line : TableLine)
    → ((row : TableRow) × (line ≡ basic row)) ⊎ ((action_of (table_row_of line) ≡ none) × ((row : TableRow) → line ≡ basic row → ⊥))
unfolding action_of table_row_of row_of row_of_table_test row_of_test
straight_or_not (basic row) = inl (row, refl)
straight_or_not (if_line (whether (less a b))) = inr (refl, λ row is. let z : ◌≡◌ {A = ℕ} 0 1 = cc in omega arith)
straight_or_not (if_line on_turn) = inr (refl, λ row is. let z : ◌≡◌ {A = ℕ} 0 1 = cc in omega arith)
straight_or_not else_line = inr (refl, λ row is. let z : ◌≡◌ {A = ℕ} 0 1 = cc in omega arith)
straight_or_not end_if = inr (refl, λ row is. let z : ◌≡◌ {A = ℕ} 0 1 = cc in omega arith)
straight_or_not (repeat (times m)) = inr (refl, λ row is. let z : ◌≡◌ {A = ℕ} 0 1 = cc in omega arith)
straight_or_not (repeat (while (whether (less a b)) m)) = inr (refl, λ row is. let z : ◌≡◌ {A = ℕ} 0 1 = cc in omega arith)
straight_or_not (repeat (while on_turn m)) = inr (refl, λ row is. let z : ◌≡◌ {A = ℕ} 0 1 = cc in omega arith)
straight_or_not end_repeat = inr (refl, λ row is. let z : ◌≡◌ {A = ℕ} 0 1 = cc in omega arith)

-- ---- what a kind says

module _ (row : Row) where
  pub says_copy : row.kind ≡ 1 → action_of row ≡ some (assign (row.d ≔ copy row.a))
  unfolding action_of
  says_copy kind = rw kind

  pub says_constant : row.kind ≡ 2 → action_of row ≡ some (assign (row.d ≔ fixed row.a))
  unfolding action_of
  says_constant kind = rw kind

  pub says_sum : row.kind ≡ 3 → action_of row ≡ some (assign (row.d ≔ sum row.a row.b))
  unfolding action_of
  says_sum kind = rw kind

  pub says_difference : row.kind ≡ 4 → action_of row ≡ some (assign (row.d ≔ difference row.a row.b))
  unfolding action_of
  says_difference kind = rw kind

  pub says_product : row.kind ≡ 5 → action_of row ≡ some (assign (row.d ≔ product row.a row.b))
  unfolding action_of
  says_product kind = rw kind

  pub says_negation : row.kind ≡ 6 → action_of row ≡ some (assign (row.d ≔ negation row.a))
  unfolding action_of
  says_negation kind = rw kind

  pub says_quotient : row.kind ≡ quotient_kind → action_of row ≡ some (assign (row.d ≔ quotient row.a row.b))
  unfolding action_of
  says_quotient kind = rw kind

  pub says_save : row.kind ≡ 12 → action_of row ≡ some (save row.d)
  unfolding action_of
  says_save kind = rw kind

  pub says_take_back : row.kind ≡ 13 → action_of row ≡ some (take_back row.d)
  unfolding action_of
  says_take_back kind = rw kind

  pub says_save_turn : row.kind ≡ 14 → action_of row ≡ some (save_turn (eqb row.a 1))
  unfolding action_of
  says_save_turn kind = rw kind

  pub says_clear : row.kind ≡ 16 → action_of row ≡ some (clear row.d)
  unfolding action_of
  says_clear kind = rw kind

  pub says_turn_round : row.kind ≡ 17 → action_of row ≡ some turn_round
  unfolding action_of
  says_turn_round kind = rw kind

  pub says_none : row.kind ≢ 1 → row.kind ≢ 2 → row.kind ≢ 3 → row.kind ≢ 4 → row.kind ≢ 5 → row.kind ≢ 6 → row.kind ≢ 12 → row.kind ≢ 13
      → row.kind ≢ 14
      → row.kind ≢ 16
      → row.kind ≢ 17
      → row.kind ≢ quotient_kind
      → action_of row ≡ none
  unfolding action_of
  says_none k₁ k₂ k₃ k₄ k₅ k₆ k₁₂ k₁₃ k₁₄ k₁₆ k₁₇ k₁₈ =
      rw (
        ne_eqb row.kind 1 k₁,
        ne_eqb row.kind 2 k₂,
        ne_eqb row.kind 3 k₃,
        ne_eqb row.kind 4 k₄,
        ne_eqb row.kind 5 k₅,
        ne_eqb row.kind 6 k₆,
        ne_eqb row.kind 12 k₁₂,
        ne_eqb row.kind 13 k₁₃,
        ne_eqb row.kind 14 k₁₄,
        ne_eqb row.kind 16 k₁₆,
        ne_eqb row.kind 17 k₁₇,
        ne_eqb row.kind quotient_kind k₁₈,
      )

-- ---- what a kind names

module _ (row : Row) {v k : ℕ} (named : Named v k (action_of row)) where
  pub names_copy : row.kind ≡ 1 → (row.d < v) × (row.a < v)
  unfolding AssignmentPresent SourcePresent
  names_copy kind = (subst (Named v k) (says_copy row kind) named).present

  pub names_constant : row.kind ≡ 2 → (row.d < v) × (row.a < k)
  unfolding AssignmentPresent SourcePresent
  names_constant kind = (subst (Named v k) (says_constant row kind) named).present

  pub names_sum : row.kind ≡ 3 → (row.d < v) × ((row.a < v) × (row.b < v))
  unfolding AssignmentPresent SourcePresent
  names_sum kind = (subst (Named v k) (says_sum row kind) named).present

  pub names_difference : row.kind ≡ 4 → (row.d < v) × ((row.a < v) × (row.b < v))
  unfolding AssignmentPresent SourcePresent
  names_difference kind = (subst (Named v k) (says_difference row kind) named).present

  pub names_product : row.kind ≡ 5 → (row.d < v) × ((row.a < v) × (row.b < v))
  unfolding AssignmentPresent SourcePresent
  names_product kind = (subst (Named v k) (says_product row kind) named).present

  pub names_negation : row.kind ≡ 6 → (row.d < v) × (row.a < v)
  unfolding AssignmentPresent SourcePresent
  names_negation kind = (subst (Named v k) (says_negation row kind) named).present

  pub names_quotient : row.kind ≡ quotient_kind → (row.d < v) × ((row.a < v) × (row.b < v))
  unfolding AssignmentPresent SourcePresent
  names_quotient kind = (subst (Named v k) (says_quotient row kind) named).present

  pub names_save : row.kind ≡ 12 → row.d < v
  names_save kind = (subst (Named v k) (says_save row kind) named).present

  pub names_take_back : row.kind ≡ 13 → row.d < v
  names_take_back kind = (subst (Named v k) (says_take_back row kind) named).present

  pub names_clear : row.kind ≡ 16 → row.d < v
  names_clear kind = (subst (Named v k) (says_clear row kind) named).present
