-- `claims::tangent_plain` meets what 02 asks of it.
use Rattle.number.specs.Doubles.{doubles}
use Rattle.claims.proofs.PlainHolds.{plain_call}
use Rattle.claims.proofs.tangent_plain.Goals as goal

pub returns : goal.returns
returns c = plain_call doubles _ _ _ _ _ _ c.tangent_plain.ensures
