-- `plain::engine::run_rows` meets its contract. The invariant: what is left to do, from the row at hand, gives the whole run.
use Rattle.plain.proofs.EngineRun.{Running}
use Rattle.plain.proofs.engine.run_rows.Given as goal

abbrev pub invariant-loop-number : goal.invariant-loop-number
invariant-loop-number l = Running l.words l.shape l.marks l.goes l.initial.cells l.cells l.to_come l.number l.depth l.left

abbrev pub decreases-loop-number : goal.decreases-loop-number
decreases-loop-number l = l.left
