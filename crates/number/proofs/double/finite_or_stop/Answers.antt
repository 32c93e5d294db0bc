-- `number::double::finite_or_stop` meets its contract, by what the test of finiteness answered.
use mathlib.Core.Path.{sym, ◌∙◌}
use Rattle.number.proofs.DoubleLaws.{value_when_finite, stop_when_not}
use Rattle.number.proofs.double.finite_or_stop.Goals as goal

pub returns-then-is_finite : goal.returns-then-is_finite
returns-then-is_finite c = value_when_finite c.args.x (sym c.is_finite.ensures ∙ c.if-is_finite.true)

pub returns-else-is_finite : goal.returns-else-is_finite
returns-else-is_finite c = stop_when_not c.args.x (sym c.is_finite.ensures ∙ c.if-is_finite.false)
