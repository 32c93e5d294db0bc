-- `run::refusals::admitted_from` meets its contract.
use Rattle.number.specs.Arithmetic.{arithmetic_on}
use Rattle.run.proofs.AdmittedLaws.{Judging}
use Rattle.run.proofs.refusals.admitted_from.Given as goal

abbrev pub invariant-loop-i : goal.invariant-loop-i
invariant-loop-i g l = Judging (arithmetic_on g.N.Number.operations) l.numbers l.place l.i
