-- `run::refusals::stacks_fit` meets its contract.
use borrow.Author.Tests.{le-leb, lt-leb}
use Rattle.run.proofs.refusals.stacks_fit.Goals as goal

pub returns-then-value_room-values : goal.returns-then-value_room-values
returns-then-value_room-values c = simp (lt-leb _ _ c.if-value_room-values.true)

pub returns-then-turn_room-turns : goal.returns-then-turn_room-turns
returns-then-turn_room-turns c = simp (le-leb _ _ c.if-value_room-values.false, lt-leb _ _ c.if-turn_room-turns.true)

pub returns : goal.returns
returns c = simp (le-leb _ _ c.if-value_room-values.false, le-leb _ _ c.if-turn_room-turns.false)
