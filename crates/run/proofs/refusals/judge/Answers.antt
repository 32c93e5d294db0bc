-- `run::refusals::judge` meets its contract.
use mathlib.Core.Path.{subst}
use Rattle.table.specs.Inner.Plans.{PlanSaysIn}
use Rattle.run.proofs.CallsJudged.{said, unread, rooms_refuse, rooms_fit_lem, judged_no}
use Rattle.run.proofs.refusals.judge.Goals as goal

pub returns-in_err-plan : goal.returns-in_err-plan
returns-in_err-plan c =
    λ divides needs words marks came goes says.
    judged_no _ _ _ _ c.from_residual.ensures.1
    (λ answer is. unread divides _ (subst (PlanSaysIn divides needs words marks came goes) c.in_err-plan.was says) (record { number = is.0; place = is.1 }))

pub returns-in_err-rooms_fit : goal.returns-in_err-rooms_fit
returns-in_err-rooms_fit c =
    λ divides needs words marks came goes says.
    let made = subst (PlanSaysIn divides needs words marks came goes) c.in_ok-plan.was says in
    judged_no _ _ _ _ c.from_residual-in_err-rooms_fit.ensures.1
    (λ answer is. rooms_refuse divides _ made.0 made.1 (said c.rooms_fit.ensures c.in_err-rooms_fit.was) is)

pub returns : goal.returns
returns c =
    λ divides needs words marks came goes says.
    let made = subst (PlanSaysIn divides needs words marks came goes) c.in_ok-plan.was says in
    rooms_fit_lem divides _ made.0 made.1 (said c.rooms_fit.ensures c.in_ok-rooms_fit.was)
