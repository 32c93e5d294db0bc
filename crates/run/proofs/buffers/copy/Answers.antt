-- `run::buffers::copy` meets its contract.
use Rattle.table.specs.Calls.{overwritten}
use Rattle.run.proofs.buffers.copy.Goals as goal

pub returns : goal.returns
unfolding overwritten
returns g c = rw c.copy_from_slice.ensures.after
