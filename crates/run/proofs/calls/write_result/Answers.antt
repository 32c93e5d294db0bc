-- `run::calls::write_result` meets its contract.
use mathlib.Core.Path.{◌∙◌}
use Rattle.number.specs.Arithmetic.{arithmetic_on}
use Rattle.run.specs.Inner.CallSteps.{result_at}
use Rattle.run.proofs.CallLaws.{result_kept}
use Rattle.run.proofs.FillingLaws.{halves_fit, result_laid}
use Rattle.run.proofs.calls.write_result.Goals as goal

pub lay-requires : goal.lay-requires
lay-requires g c = halves_fit c.requires

pub returns-in-Finished : goal.returns-in-Finished
unfolding result_at
returns-in-Finished g c =
    rw c.in-Finished.is (c.lay.ensures ∙ result_laid (arithmetic_on g.N.Number.operations) _ c.requires)

pub returns-in_default : goal.returns-in_default
returns-in_default g c = result_kept _ _ c.in_default.not-Finished
