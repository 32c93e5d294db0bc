-- What a row's words say, which no arithmetic has a part in: a right side, and a straight row's action. What the code's choice by the kind is held
-- against.
use Rattle.std.specs.Prelude.{ℕ, ◌<◌, cond, eqb}
use Rattle.std.proofs.Math.Option.{Option, none, some}
use Rattle.sheet.specs.Rows.{Source, copy, fixed, sum, difference, product, negation, quotient, ◌≔◌, Row, quotient_kind}
use Rattle.sheet.specs.Names.{AssignmentPresent}
use Rattle.table.specs.TableRows.{Action, assign, save, take_back, save_turn, clear, turn_round}

unfoldable pub source_of : Row → Option Source
source_of row =
    cond (eqb row.kind 1) (some (copy row.a))
    (cond (eqb row.kind 2) (some (fixed row.a))
    (cond (eqb row.kind 3) (some (sum row.a row.b))
    (cond (eqb row.kind 4) (some (difference row.a row.b))
    (cond (eqb row.kind 5) (some (product row.a row.b))
    (cond (eqb row.kind 6) (some (negation row.a))
    (cond (eqb row.kind quotient_kind) (some (quotient row.a row.b)) none))))))

abbrev pub assignment_of : (d : ℕ) → Option Source → Option Action
assignment_of d none = none
assignment_of d (some source) = some (assign (d ≔ source))

unfoldable pub action_of : Row → Option Action
unfolding source_of
action_of row =
    cond (eqb row.kind 12) (some (save row.d))
    (cond (eqb row.kind 13) (some (take_back row.d))
    (cond (eqb row.kind 14) (some (save_turn (eqb row.a 1)))
    (cond (eqb row.kind 16) (some (clear row.d))
    (cond (eqb row.kind 17) (some turn_round) (assignment_of row.d (source_of row))))))

-- every variable and every constant that an action names is there
abbrev pub ActionPresent : (variables constants : ℕ) → Action → Type 0
ActionPresent v k (assign b) = AssignmentPresent v k b
ActionPresent v k (save d) = d < v
ActionPresent v k (take_back d) = d < v
ActionPresent v k (save_turn first) = Unit {0}
ActionPresent v k (clear d) = d < v
ActionPresent v k turn_round = Unit {0}

abbrev PresentIn : (variables constants : ℕ) → Option Action → Type 0
PresentIn v k none = Unit {0}
PresentIn v k (some action) = ActionPresent v k action

pub record Named (variables constants : ℕ) (action : Option Action) : Type 0 where
  pub present : PresentIn variables constants action
