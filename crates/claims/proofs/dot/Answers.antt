-- `claims::dot` meets its contract. The invariant: the products passed are summed.
use Rattle.claims.proofs.BothRun.{summing_starts, summing_goes_on, summing_ends}
use native.Mathlib.Omega.{arith}
use Rattle.claims.proofs.dot.Goals as goal

pub loop-i-init : goal.loop-i-init
loop-i-init c = summing_starts _ _

pub loop-i-preserved : goal.loop-i-preserved
loop-i-preserved c =
    summing_goes_on _ _ (omega arith) c.product.ensures c.sum-sum.ensures c.loop-i.invariant

pub returns : goal.returns
returns c = summing_ends _ _ (omega arith) c.loop-i.invariant
