-- `claims::balance` meets its contract: a seed or rate is a 32-bit number, hence a residue.
use Rattle.claims.proofs.BothRun.{both_long}
use Rattle.claims.proofs.BalanceHolds.{balance_meets}
use native.Mathlib.Omega.{arith}
use Rattle.claims.proofs.balance.Goals as goal

pub summed_if_done-requires : goal.summed_if_done-requires
summed_if_done-requires c =
    both_long _ _ _ _ _ _ _ _ _ _ c.run_audit-adjoint.ensures c.tangent_audit-tangent.ensures c.run_audit-adjoint.auto.res
    c.tangent_audit-tangent.auto.res

pub returns : goal.returns
returns c =
    balance_meets _ _ _ _ (λ x. omega (arith, c.type_inv.seeds x)) (λ x. omega (arith, c.type_inv.rates x)) _ _ _ _ _ _ c.run_audit-adjoint.ensures c.tangent_audit-tangent.ensures
    c.run_audit-adjoint.auto.res c.tangent_audit-tangent.auto.res _ c.summed_if_done.ensures
