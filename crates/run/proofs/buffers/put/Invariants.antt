-- `run::buffers::put` meets its contract. The invariant: the numbers passed are put.
use Rattle.number.specs.Arithmetic.{arithmetic_on}
use Rattle.run.specs.Inner.CallSteps.{counts_of}
use Rattle.run.proofs.FillingLaws.{Putting}
use Rattle.run.proofs.buffers.put.Given as goal

abbrev pub invariant-loop-i : goal.invariant-loop-i
invariant-loop-i g l = Putting (arithmetic_on g.N.Number.operations) (counts_of l.counted) l.roles l.numbers l.initial.into l.i l.into
