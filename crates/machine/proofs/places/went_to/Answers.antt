-- `machine::places::went_to` meets its contract.
use Rattle.machine.proofs.places.went_to.Goals as goal

pub returns-in-Ok : goal.returns-in-Ok
returns-in-Ok c = rw c.in-Ok.is
