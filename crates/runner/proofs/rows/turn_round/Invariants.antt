-- `runner::rows::turn_round` meets its contract.
use Prim.Native.Nat.{◌-◌}
use lib.ListN.{length}
use Rattle.number.specs.Arithmetic.{arithmetic_on}
use Rattle.machine.proofs.RoundLaws.{Turning}
use Rattle.runner.proofs.rows.turn_round.Given as goal

abbrev pub invariant-loop-i : goal.invariant-loop-i
invariant-loop-i g l = Turning (arithmetic_on g.N.Number.operations) l.roles l.seeds l.initial.store l.initial.copied l.i l.store l.copied

abbrev pub decreases-loop-i : goal.decreases-loop-i
decreases-loop-i g l = length l.roles - l.i
