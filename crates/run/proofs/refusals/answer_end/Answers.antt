-- `run::refusals::answer_end` meets its contract.
use Rattle.run.specs.Inner.CallSteps.{answer_at}
use Rattle.run.proofs.CallLaws.{replied, answered_stuck}
use Rattle.run.proofs.refusals.answer_end.Goals as goal

pub returns-in-Finished : goal.returns-in-Finished
unfolding answer_at
returns-in-Finished c = rw c.in-Finished.is (replied c.done.ensures)

pub returns-in-Stopped : goal.returns-in-Stopped
unfolding answer_at
returns-in-Stopped c = rw c.in-Stopped.is (replied c.refused.ensures)

pub returns-in-Stuck : goal.returns-in-Stuck
returns-in-Stuck c = answered_stuck c.in-Stuck.is (replied c.refused-in-Stuck.ensures)
