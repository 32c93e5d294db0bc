-- `machine::turns::test_turn` meets its contract, in either arithmetic: the top is one below the height.
use mathlib.Core.Path.{sym, ◌∙◌}
use native.Mathlib.Omega.{arith}
use Rattle.machine.proofs.RowLaws.{in_both, take_turn_first, take_turn_second, take_turn_above, take_turn_empty}
use Rattle.machine.proofs.turns.test_turn.Goals as goal

pub returns-then-height-eq0 : goal.returns-then-height-eq0
returns-then-height-eq0 c = in_both (λ A. take_turn_empty c.if-height-eq0.true)

pub returns-then-turns-top : goal.returns-then-turns-top
returns-then-turns-top c = in_both (λ A. take_turn_above (omega arith))

pub returns-then-is_first : goal.returns-then-is_first
returns-then-is_first c = in_both (λ A. take_turn_first (omega arith) (omega arith) (sym c.is_first.ensures ∙ c.if-is_first.true))

pub returns-else-is_first : goal.returns-else-is_first
returns-else-is_first c = in_both (λ A. take_turn_second (omega arith) (omega arith) (sym c.is_first.ensures ∙ c.if-is_first.false))
