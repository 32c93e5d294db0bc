-- `run::buffers::lay` meets its contract.
use Rattle.number.specs.Arithmetic.{arithmetic_on}
use Rattle.run.proofs.FillingLaws.{halves_laid}
use Rattle.run.proofs.buffers.lay.Goals as goal

pub returns : goal.returns
returns g c =
    halves_laid (arithmetic_on g.N.Number.operations) _ _ _ _ _ c.requires _ _ c.copy.ensures c.put.ensures
