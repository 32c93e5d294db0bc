-- `runner::rows::assign` meets its contract.
use Rattle.std.proofs.lemmas.Result.{err_from_is_err_and}
use Rattle.machine.proofs.RowLaws.{assign_goes, assign_stops}
use Rattle.runner.proofs.rows.assign.Goals as goal

pub returns : goal.returns
returns g c = rw c.in_ok-store.was (assign_goes c.requires)

pub returns-in_err-store : goal.returns-in_err-store
returns-in_err-store g c =
    let stopped = err_from_is_err_and c.from_residual.result c.from_residual.ensures.1 in
    rw (stopped.1, stopped.2, c.in_err-store.was) assign_stops
