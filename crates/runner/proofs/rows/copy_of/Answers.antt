-- `runner::rows::copy_of` meets its contract.
use mathlib.Core.Path.{sym}
use Rattle.machine.specs.Actions.{evaluated}
use Rattle.machine.proofs.PlaceLaws.{look_read}
use Rattle.runner.proofs.rows.copy_of.Goals as goal

pub returns : goal.returns
unfolding evaluated
returns g c constants =
    sym (look_read c.args.store.now c.args.a.0 _ c.requires c.index-store-a.is)
