-- What check answers, from what planning says.
use Prim.Native.Nat.{ℕ}
use Rattle.std.specs.Prelude.{Err, Ok, Result}
use mathlib.Core.Path.{◌≡◌, ap, subst}
use mathlib.Core.List.{List}
use Rattle.sheet.specs.Judging.{refused, number_in, place_in}
use Rattle.sheet.specs.Refusals.{Refusal, number_of, place_of}
use Rattle.sheet.specs.Sheets.{Sheet}
use Rattle.sheet.specs.Reading.{read}
use Rattle.sheet.specs.Answers.{refusal_of, shape_of}
use Rattle.sheet.specs.declared.No.{No}
use Rattle.table.specs.declared.Plan.{Plan}
use Rattle.table.specs.Sizes.{Needs, Checked, no_sizes}
use Rattle.table.specs.Calls.{sizes_in, check}
use Rattle.table.specs.Inner.Plans.{PlanMadeFor, PlanSaysFor, PlanMade}

-- ---- by the case of a plan, whatever it is for

module _ (needs : Sheet → Needs) (words marks came goes : List ℕ) {r : Result Plan No} where
  pub when_refused : (why : No) → r ≡ Err why → PlanSaysFor needs words marks came goes r → read words ≡ refused (refusal_of why)
  when_refused why is says = subst (PlanSaysFor needs words marks came goes) is says

  pub when_made : (plan : Plan) → r ≡ Ok plan → PlanSaysFor needs words marks came goes r → PlanMadeFor needs words plan marks came goes
  when_made plan is says = subst (PlanSaysFor needs words marks came goes) is says

-- ---- check

module _ (words : List ℕ) where
  pub check_refused : (why : Refusal) (number place : ℕ) → read words ≡ refused why → number ≡ number_of why → place ≡ place_of why
      → ◌≡◌ {A = Checked} (record { number = number; place = place; sizes = no_sizes }) (check words)
  unfolding check number_in place_in sizes_in
  check_refused why number place e n p = rw (e, n, p)

  pub check_made : {plan : Plan} {marks came goes : List ℕ} → PlanMade words plan marks came goes
      → ◌≡◌ {A = Checked}
      (record {
        number = 0;
        place = 0;
        sizes = record { longest = plan.shape.longest; rows = plan.rows; values = plan.values; turns = plan.turns };
      })
      (check words)
  unfolding check number_in place_in sizes_in shape_of
  check_made made =
      let says = made.planned in
      let longest = ap (λ shape. shape.longest) says.shape in
      rw (made.accepted, longest, says.rows, says.values, says.turns)
