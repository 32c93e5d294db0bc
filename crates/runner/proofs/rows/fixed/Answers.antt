-- `runner::rows::fixed` meets its contract.
use mathlib.Core.Path.{ap}
use Rattle.machine.specs.Actions.{evaluated, through}
use Rattle.machine.proofs.PlaceLaws.{look_there}
use Rattle.runner.proofs.rows.fixed.Goals as goal

pub returns : goal.returns
unfolding evaluated
returns g c store =
    rw (look_there c.args.constants.now c.args.c 0 c.requires) (ap through c.constant.ensures)
