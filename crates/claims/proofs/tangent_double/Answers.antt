-- `claims::tangent_double` meets what 02 asks of it.
use Rattle.number.specs.Doubles.{doubles}
use Rattle.claims.proofs.TangentsHold.{tangent_call}
use Rattle.claims.proofs.tangent_double.Goals as goal

pub returns : goal.returns
returns c = tangent_call doubles _ _ _ _ _ _ c.tangent_double.ensures
