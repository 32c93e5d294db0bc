-- `runner::rows::save` meets its contract.
use Rattle.machine.proofs.RowLaws.{save_goes, save_full}
use Rattle.runner.proofs.rows.save.Goals as goal

pub returns-then-values-height : goal.returns-then-values-height
returns-then-values-height g c = save_full c.requires c.if-values-height.true

pub returns : goal.returns
returns g c = save_goes c.index-store-d.is c.requires c.if-values-height.false
