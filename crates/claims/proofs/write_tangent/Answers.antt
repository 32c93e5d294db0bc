-- `claims::write_tangent` meets what 02 asks of it.
use Rattle.claims.proofs.TangentsHold.{tangent_write_call}
use Rattle.claims.proofs.write_tangent.Goals as goal

pub returns : goal.returns
returns c = tangent_write_call _ _ _ _ c.write_tangent.ensures
