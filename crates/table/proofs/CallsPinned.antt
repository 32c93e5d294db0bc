-- Any two results that the contracts of check and plan_sheet permit coincide.
use Prim.Native.Nat.{ℕ}
use Rattle.std.specs.Prelude.{Err, Ok, Result}
use mathlib.Core.Path.{◌≡◌, sym, ap, ◌∙◌}
use mathlib.Core.List.{List}
use native.Mathlib.Omega.{arith}
use Rattle.sheet.specs.Judging.{Answer as Judged, refused, given}
use Rattle.sheet.specs.Sheets.{Sheet, variables_of}
use Rattle.sheet.specs.Reading.{read}
use Rattle.sheet.specs.Answers.{refusal_of, shape_of}
use Rattle.sheet.specs.declared.No.{No}
use Rattle.sheet.specs.declared.Shape.{Shape}
use Rattle.sheet.proofs.ReadingParts.{same_given}
use Rattle.sheet.proofs.ReaderLaws.{same_said}
use Rattle.sets.specs.Rounds.{marked}
use Rattle.sets.specs.Calls.{Lent, MarksSaid}
use Rattle.sets.proofs.CallLaws.{same_lent}
use Rattle.table.specs.declared.Checked as declared
use Rattle.table.specs.declared.Plan.{Plan}
use Rattle.table.specs.Sizes.{table_rows, values_needed, turns_needed, Checked, checked_said}
use Rattle.table.specs.Calls.{check}
use Rattle.table.specs.Inner.Plans.{PlanMade, PlanSays}

-- the answer that says these sizes
checked_by : Checked → declared.Checked
checked_by c =
    record {
      number = c.number;
      place = c.place;
      longest = c.sizes.longest;
      rows = c.sizes.rows;
      values = c.sizes.values;
      turns = c.sizes.turns;
    }

pub one_check : (words : List ℕ) (r r' : declared.Checked) → checked_said r ≡ check words → checked_said r' ≡ check words → r ≡ r'
unfolding checked_by
one_check words r r' e e' = ap checked_by (e ∙ sym e')

-- ---- the plan

same_fields : (shape shape' : Shape) (rows rows' values values' turns turns' : ℕ) → shape ≡ shape' → rows ≡ rows' → values ≡ values' → turns ≡ turns'
    → ◌≡◌ {A = Plan} (record { shape = shape; rows = rows; values = values; turns = turns })
    (record { shape = shape'; rows = rows'; values = values'; turns = turns' })
same_fields shape shape' rows rows' values values' turns turns' e f g h = rw (e, f, g, h)

-- two plans of one sheet
same_plan : {words marks came goes marks' came' goes' : List ℕ} {plan plan' : Plan} → PlanMade words plan marks came goes
    → PlanMade words plan' marks' came' goes' → plan ≡ plan'
same_plan made made' =
    let same : made.sheet ≡ made'.sheet = same_given (sym made.accepted ∙ made'.accepted) in
    let first = made.planned in
    let second = made'.planned in
    same_fields _ _ _ _ _ _ _ _
    (first.shape ∙ ap shape_of same ∙ sym second.shape)
    (first.rows ∙ ap (λ s. table_rows (variables_of s) (marked s)) same ∙ sym second.rows)
    (first.values ∙ ap (λ s. values_needed (marked s)) same ∙ sym second.values)
    (first.turns ∙ ap (λ s. turns_needed (marked s)) same ∙ sym second.turns)

same_planned : (words marks came goes marks' came' goes' : List ℕ) (r r' : Result Plan No) → PlanSays words marks came goes r
    → PlanSays words marks' came' goes' r' → r ≡ r'
same_planned words marks came goes marks' came' goes' (Err why) (Err why') e e' =
    let both : ◌≡◌ {A = Judged Sheet} (refused (refusal_of why)) (refused (refusal_of why')) = sym e ∙ e' in
    let same : refusal_of why ≡ refusal_of why' = cc in
    let readings = same_said (Err why) (Err why') (ap refused same) in
    let whys : why ≡ why' = cc in
    ap Err whys
same_planned words marks came goes marks' came' goes' (Err why) (Ok plan) e made =
    let both : ◌≡◌ {A = Judged Sheet} (refused (refusal_of why)) (given made.sheet) = sym e ∙ made.accepted in
    let z : ◌≡◌ {A = ℕ} 0 1 = cc in
    absurd (omega arith)
same_planned words marks came goes marks' came' goes' (Ok plan) (Err why) made e =
    let both : ◌≡◌ {A = Judged Sheet} (refused (refusal_of why)) (given made.sheet) = sym e ∙ made.accepted in
    let z : ◌≡◌ {A = ℕ} 0 1 = cc in
    absurd (omega arith)
same_planned words marks came goes marks' came' goes' (Ok plan) (Ok plan') made made' = ap Ok (same_plan made made')

pub one_plan : (words : List ℕ) (before after after' : Lent) (r r' : Result Plan No)
    → PlanSays words after.marks after.came after.goes r × MarksSaid (read words) before after
    → PlanSays words after'.marks after'.came after'.goes r' × MarksSaid (read words) before after' → (r ≡ r') × (after ≡ after')
one_plan words before after after' r r' says says' =
    (same_planned words _ _ _ _ _ _ r r' says.0 says'.0, same_lent (read words) before after after' says.1 says'.1)
