-- `table::check` meets its contract, by the case of the plan.
use Rattle.table.specs.Computed.{needs_of}
use Rattle.table.proofs.CallLaws.{when_refused, when_made, check_refused, check_made}
use Rattle.table.proofs.check.Goals as goal

pub returns-in-Err : goal.returns-in-Err
returns-in-Err c =
    let words = c.args.words.now in
    check_refused words _ _ _ (when_refused needs_of words _ _ _ _ c.in-Err.is c.plan_sheet.ensures.0) c.number_of.ensures c.place_of.ensures

pub returns-in-Ok : goal.returns-in-Ok
returns-in-Ok c =
    let words = c.args.words.now in
    check_made words (when_made needs_of words _ _ _ _ c.in-Ok.is c.plan_sheet.ensures.0)
