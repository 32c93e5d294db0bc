-- `runner::rows::negated` meets its contract.
use mathlib.Core.Path.{ap}
use Rattle.machine.specs.Actions.{evaluated, from_outcome}
use Rattle.machine.proofs.PlaceLaws.{look_read}
use Rattle.runner.proofs.rows.negated.Goals as goal

pub returns : goal.returns
unfolding evaluated
returns g c constants =
    rw (look_read c.args.store.now c.args.a.0 _ c.requires c.index-store-a.is) (ap from_outcome c.negation.ensures)
