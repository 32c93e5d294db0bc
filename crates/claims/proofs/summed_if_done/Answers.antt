-- `claims::summed_if_done` meets its contract.
use mathlib.Core.Logic.{inl, inr}
use Rattle.claims.proofs.BothRun.{summed_where, unsummed_where}
use Rattle.claims.proofs.summed_if_done.Goals as goal

pub summed-requires : goal.summed-requires
summed-requires c =
    c.requires c.if-adjoint-eq-DONE.true c.if-tangent-eq-DONE.true

pub returns-then-tangent-eq-DONE : goal.returns-then-tangent-eq-DONE
returns-then-tangent-eq-DONE c =
    summed_where _ _ _ _ _ _ _ c.if-adjoint-eq-DONE.true c.if-tangent-eq-DONE.true c.summed.ensures

pub returns-else-tangent-eq-DONE : goal.returns-else-tangent-eq-DONE
returns-else-tangent-eq-DONE c = unsummed_where _ _ _ _ _ _ _ (inr c.if-tangent-eq-DONE.false)

pub returns-else-adjoint-eq-DONE : goal.returns-else-adjoint-eq-DONE
returns-else-adjoint-eq-DONE c = unsummed_where _ _ _ _ _ _ _ (inl c.if-adjoint-eq-DONE.false)
