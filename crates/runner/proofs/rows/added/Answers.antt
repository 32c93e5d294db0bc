-- `runner::rows::added` meets its contract.
use mathlib.Core.Path.{ap}
use Rattle.machine.specs.Actions.{evaluated, from_outcome}
use Rattle.machine.proofs.PlaceLaws.{look_read}
use Rattle.runner.proofs.rows.added.Goals as goal

pub returns : goal.returns
unfolding evaluated
returns g c constants =
    let store = c.args.store.now in
    rw (look_read store c.args.a.0 _ c.requires.a_in c.index-store-a.is, look_read store c.args.b.0 _ c.requires.b_in c.index-store-b.is)
    (ap from_outcome c.sum.ensures)
