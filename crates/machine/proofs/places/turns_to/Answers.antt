-- `machine::places::turns_to` meets its contract.
use mathlib.Core.Path.{ap}
use Rattle.machine.specs.declared.Place.{Place}
use Rattle.machine.specs.declared.Acted.TheVariants as acted
use Rattle.machine.specs.declared.Ahead.TheVariants as ahead
use Rattle.machine.proofs.places.turns_to.Goals as goal

pub returns-in-Ok : goal.returns-in-Ok
returns-in-Ok c = rw c.in-Ok.is (ap (λ (p : Place). acted.On p ahead.Any) c.raised.ensures)
