-- `runner::rows::turn_round` meets its contract.
use native.Mathlib.Omega.{arith}
use Rattle.machine.proofs.RoundLaws.{turning_goes_on, turning_ends}
use Rattle.runner.proofs.rows.turn_round.Goals as goal

pub loop-i-preserved : goal.loop-i-preserved
loop-i-preserved g c = turning_goes_on c.loop-i.invariant (omega arith) c.index-store-i.is c.index-seeds-i.is c.seed_or_zero.ensures

pub returns : goal.returns
returns g c = turning_ends c.loop-i.invariant c.loop-i-test.false
