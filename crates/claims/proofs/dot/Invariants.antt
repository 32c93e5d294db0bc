-- `claims::dot` meets its contract. The invariant: the products passed are summed.
use Rattle.claims.proofs.BothRun.{Summing}
use Rattle.claims.proofs.dot.Given as goal

abbrev pub invariant-loop-i : goal.invariant-loop-i
invariant-loop-i l = Summing l.ones l.others l.i l.sum
