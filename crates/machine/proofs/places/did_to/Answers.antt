-- `machine::places::did_to` meets its contract.
use Rattle.machine.proofs.places.did_to.Goals as goal

pub returns-in-Ok : goal.returns-in-Ok
returns-in-Ok g c = rw c.in-Ok.is
