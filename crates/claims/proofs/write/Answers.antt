-- `claims::write` meets demand 1.
use Rattle.claims.proofs.DemandOneHolds.{write_call}
use Rattle.claims.proofs.write.Goals as goal

pub returns : goal.returns
returns c = write_call _ _ _ _ c.write.ensures
