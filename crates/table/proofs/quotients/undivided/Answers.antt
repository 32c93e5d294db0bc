-- `table::quotients::undivided` meets its contract: a plan says of the arithmetic what its rows' kinds say.
use Rattle.std.specs.Prelude.{Err}
use native.Mathlib.Omega.{arith}
use mathlib.Core.Path.{◌≡◌, sym, ap, subst, ◌∙◌}
use Rattle.table.specs.Inner.Plans.{PlanSaysFor, RowsWithin, quotients_said}
use Rattle.table.proofs.QuotientLaws.{plan_divided, plan_undivided, refused_in}
use Rattle.table.proofs.quotients.undivided.Goals as goal

pub first_quotient-requires : goal.first_quotient-requires
first_quotient-requires c =
    subst (RowsWithin _) c.in_ok-plan.was c.requires

pub returns-in_err-plan : goal.returns-in_err-plan
returns-in_err-plan c sheet_needs marks came goes says =
    let gone : c.from_residual.result ≡ Err c.in_err-plan.field-0.0 = grind arith in
    rw gone (refused_in _ _ (subst (PlanSaysFor sheet_needs _ marks came goes) c.in_err-plan.was says))

pub returns-in-None : goal.returns-in-None
returns-in-None c sheet_needs marks came goes says =
    let made = subst (PlanSaysFor sheet_needs _ marks came goes) c.in_ok-plan.was says in
    (made, plan_undivided made (sym (ap quotients_said c.in-None.is) ∙ c.first_quotient.ensures))

pub returns-in-Some : goal.returns-in-Some
returns-in-Some c sheet_needs marks came goes says =
    let made = subst (PlanSaysFor sheet_needs _ marks came goes) c.in_ok-plan.was says in
    plan_divided made (sym (ap quotients_said c.in-Some.is) ∙ c.first_quotient.ensures)
