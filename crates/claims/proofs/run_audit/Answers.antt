-- `claims::run_audit` meets demands 1 and 2: a seed is a 32-bit number, hence a residue.
use native.Mathlib.Omega.{arith}
use Rattle.claims.proofs.DemandTwoHolds.{audit_meets}
use Rattle.claims.proofs.run_audit.Goals as goal

pub returns : goal.returns
returns c =
    audit_meets _ _ _ _ _ _ (λ x. omega (arith, c.type_inv.seeds x)) c.run_audit.ensures
