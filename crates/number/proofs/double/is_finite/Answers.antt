-- `number::double::is_finite` meets its contract: what is finite lies strictly between the infinities, and nothing else does.
use lib.Ieee.{nan_bits}
use Rattle.number.proofs.DoubleLaws.{infinity_bits, finite_within, finite_not_below}
use Rattle.number.proofs.double.is_finite.Goals as goal

pub float_from_bits-infinity : goal.float_from_bits-infinity
unfolding nan_bits
float_from_bits-infinity c = tt

pub returns-then-x-infinity : goal.returns-then-x-infinity
returns-then-x-infinity c = rw infinity_bits (finite_within c.args.x (rw infinity_bits at c.if-x-infinity.true))

pub returns-else-x-infinity : goal.returns-else-x-infinity
returns-else-x-infinity c = finite_not_below c.args.x (rw infinity_bits at c.if-x-infinity.false)
