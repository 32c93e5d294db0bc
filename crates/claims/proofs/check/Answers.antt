-- `claims::check` meets demand 1.
use Rattle.claims.proofs.DemandOneHolds.{check_call}
use Rattle.claims.proofs.check.Goals as goal

pub returns : goal.returns
returns c = check_call _ _ c.check.ensures
