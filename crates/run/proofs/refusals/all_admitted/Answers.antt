-- `run::refusals::all_admitted` meets its contract.
use mathlib.Core.Path.{ap}
use native.Mathlib.Nat.{zero-add}
use Rattle.run.specs.Inner.CallSteps.{fit_said}
use lib.ListN.{length}
use Rattle.number.specs.Arithmetic.{arithmetic_on}
use Rattle.run.proofs.AdmittedLaws.{admitted_append}
use Rattle.run.proofs.CallsJudged.{said, handed_on}
use Rattle.run.proofs.refusals.all_admitted.Goals as goal

pub returns-in_err-admitted_from : goal.returns-in_err-admitted_from
returns-in_err-admitted_from g c =
    let args = c.args in
    rw (admitted_append (arithmetic_on g.N.Number.operations) args.starts.now args.seeds.now 0, said c.admitted_from.ensures c.in_err-admitted_from.was)
    (ap fit_said (handed_on c.from_residual.ensures.1))

pub returns : goal.returns
returns g c =
    let args = c.args in
    rw (
      admitted_append (arithmetic_on g.N.Number.operations) args.starts.now args.seeds.now 0,
      said c.admitted_from.ensures c.in_ok-admitted_from.was,
      zero-add (length args.starts.now),
    )
    c.admitted_from-2.ensures
