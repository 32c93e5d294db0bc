-- `claims::tangent_audit` meets what 02 asks of it.
use Rattle.claims.proofs.TangentsHold.{tangent_audit_call}
use Rattle.claims.proofs.tangent_audit.Goals as goal

pub returns : goal.returns
returns c = tangent_audit_call _ _ _ _ _ _ c.tangent_audit.ensures
