-- `tangent::write_tangent` meets its contract, by the case of the plan and by the buffer's room.
use mathlib.Core.Path.{sym, ◌∙◌}
use Rattle.sheet.specs.Refusals.{number_of}
use Rattle.table.specs.Inner.Plans.{PlanMadeFor}
use Rattle.table.proofs.CallLaws.{when_refused, when_made}
use Rattle.writer.proofs.CallLaws.{written_refused, written_small, written_made}
use Rattle.tangent.specs.Calls.{tangent_needs_of}
use Rattle.tangent.proofs.TangentPlanLaws.{write_by_lem}
use Rattle.tangent.proofs.write_tangent.Goals.{In-Ok}
use Rattle.tangent.proofs.write_tangent.Goals as goal

-- the plan that was made
plan_made : (c : In-Ok) → PlanMadeFor tangent_needs_of c.args.words.now c.in-Ok.plan
    c.plan_tangent.new.marks c.plan_tangent.new.came c.plan_tangent.new.goes
plan_made c = when_made tangent_needs_of _ _ _ _ _ c.in-Ok.is c.plan_tangent.ensures

pub returns-in-Err : goal.returns-in-Err
returns-in-Err c =
    let words = c.args.words.now in
    write_by_lem _ _ (written_refused _ _ words c.args.table.now _ _ _ (when_refused tangent_needs_of words _ _ _ _ c.in-Err.is c.plan_tangent.ensures) c.from.ensures.0 c.from.ensures.1)

pub returns-then-not-has_room : goal.returns-then-not-has_room
unfolding number_of
returns-then-not-has_room c =
    let made = plan_made (goal.at.returns-then-not-has_room c).In-Ok in
    rw (c.refused.ensures.0, c.refused.ensures.1) (write_by_lem _ _ (written_small _ _ _ _ made (sym c.has_room.ensures ∙ c.if-not-has_room.true)))

pub returns : goal.returns
returns c =
    let made = plan_made (goal.at.returns c).In-Ok in
    let fits = sym c.has_room.ensures ∙ c.if-not-has_room.false in
    rw (c.done.ensures.0, c.done.ensures.1) (write_by_lem _ _ (written_made _ _ _ _ made _ fits (λ sheet e. (c.write_planned.ensures sheet e).words)))
