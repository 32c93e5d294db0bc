-- `run::refusals::rooms_fit` meets its contract.
use mathlib.Core.Path.{ap}
use Rattle.run.specs.Inner.CallSteps.{fit_said}
use Rattle.run.proofs.CallsJudged.{said, handed_on}
use Rattle.run.proofs.refusals.rooms_fit.Goals as goal

pub returns-in_err-table_fits : goal.returns-in_err-table_fits
returns-in_err-table_fits c = rw (said c.table_fits.ensures c.in_err-table_fits.was) (ap fit_said (handed_on c.from_residual.ensures.1))

pub returns-in_err-stacks_fit : goal.returns-in_err-stacks_fit
returns-in_err-stacks_fit c =
    rw (
      said c.table_fits.ensures c.in_ok-table_fits.was,
      said c.stacks_fit.ensures c.in_err-stacks_fit.was,
    )
    (ap fit_said (handed_on c.from_residual-in_err-stacks_fit.ensures.1))

pub returns : goal.returns
returns c =
    rw (
      said c.table_fits.ensures c.in_ok-table_fits.was,
      said c.stacks_fit.ensures c.in_ok-stacks_fit.was,
    )
    c.lengths_fit.ensures
