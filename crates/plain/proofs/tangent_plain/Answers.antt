-- `plain::tangent_plain` meets its contract: the first refusal, or the engine's answer.
use Rattle.sets.proofs.CallLaws.{marking_refuses, marking_shape}
use Rattle.run.proofs.CallsJudged.{said}
use Rattle.plain.proofs.CallLaws.{unread, lengths_refuse, lengths_fit_lem, numbers_refuse, carried, found_by}
use Rattle.plain.proofs.tangent_plain.Goals as goal

pub returns-in-Err : goal.returns-in-Err
returns-in-Err c =
    unread _ _ _ _ (marking_refuses _ _ _ c.mark.ensures.0 c.in-Err.is) (record { number = c.from.ensures.0; place = c.from.ensures.1 })

pub returns-in-Err-lengths_fit : goal.returns-in-Err-lengths_fit
returns-in-Err-lengths_fit c =
    let found = found_by _ _ (marking_shape _ _ _ _ c.mark.ensures.0 c.in-Ok.is) c.mark.ensures.1 in
    lengths_refuse _ _ _ _ found (said c.lengths_fit.ensures c.in-Err-lengths_fit.is) c.from-in-Err-lengths_fit.ensures

pub returns-in-Err-all_finite : goal.returns-in-Err-all_finite
returns-in-Err-all_finite c =
    let found = found_by _ _ (marking_shape _ _ _ _ c.mark.ensures.0 c.in-Ok.is) c.mark.ensures.1 in
    numbers_refuse _ _ _ _ found (said c.lengths_fit.ensures c.in_default.is)
    (said c.all_finite.ensures c.in-Err-all_finite.is) c.from-in-Err-all_finite.ensures

pub carry-requires : goal.carry-requires
carry-requires c =
    let found = found_by _ _ (marking_shape _ _ _ _ c.mark.ensures.0 c.in-Ok.is) c.mark.ensures.1 in
    record { found = found; room = lengths_fit_lem _ _ _ _ found (said c.lengths_fit.ensures c.in_default.is) }

pub returns : goal.returns
returns c =
    let found = found_by _ _ (marking_shape _ _ _ _ c.mark.ensures.0 c.in-Ok.is) c.mark.ensures.1 in
    carried _ _ _ _ found (said c.lengths_fit.ensures c.in_default.is) (said c.all_finite.ensures c.in_default-all_finite.is)
    c.carry.ensures
