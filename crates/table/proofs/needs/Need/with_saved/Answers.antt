-- `table::needs::Need::with_saved` meets its contract.
use Rattle.sets.proofs.Seeds.{byte_of}
use Rattle.table.proofs.needs.Need.with_saved.Goals as goal

pub returns : goal.returns
returns c = rw (c.from.ensures, (byte_of c.bit-saved.result).0, c.bit-saved.ensures)
