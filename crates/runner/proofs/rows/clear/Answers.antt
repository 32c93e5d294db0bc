-- `runner::rows::clear` meets its contract.
use Rattle.machine.proofs.RowLaws.{clear_goes}
use Rattle.runner.proofs.rows.clear.Goals as goal

pub returns : goal.returns
returns g c = clear_goes c.zero.ensures c.requires
