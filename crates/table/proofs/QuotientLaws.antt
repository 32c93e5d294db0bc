-- Looking for the first row of kind 18: what is still to be looked through comes to what all rows come to; and what a plan then says.
use Prim.Native.Nat.{ℕ, suc, ◌+◌, ◌*◌, ◌-◌, ◌≤◌, ◌<◌}
use Rattle.std.specs.Prelude.{Err, Ok, Result}
use mathlib.Core.Path.{◌≡◌, sym, ◌∙◌}
use mathlib.Core.Bool.{false}
use mathlib.Core.Logic.{◌≢◌}
use mathlib.Core.List.{List}
use lib.ListN.{length, get_or}
use native.Mathlib.Omega.{arith}
use borrow.Author.Tests.{eq-eqb, ne_eqb}
use Rattle.sheet.specs.Bounds.{limit}
use Rattle.sheet.specs.Judging.{refused, given}
use Rattle.sheet.specs.Refusals.{Refusal, holds_quotient}
use Rattle.sheet.specs.Rows.{quotient_kind}
use Rattle.sheet.specs.Sheets.{Sheet, first_row, row_at, rows_at}
use Rattle.sheet.specs.Reading.{read, undivided, read_in}
use Rattle.sheet.specs.Answers.{shape_of}
use Rattle.sheet.specs.declared.No.{No}
use Rattle.sheet.proofs.TreeOfRows.{tree_of_rows}
use Rattle.table.specs.Sizes.{Needs}
use Rattle.table.specs.declared.Plan.{Plan}
use Rattle.table.specs.Inner.Plans.{PlanMadeFor, PlanSaysFor, RowsWithin}
use Rattle.table.proofs.SheetLaid.{sheet_lies}

-- ---- the pass over the rows

-- the rows from row p on come to what all rows come to
pub record Looking (words : List ℕ) (first rows p : ℕ) : Type 0 where
  pub same : undivided (rows_at words (first + p * limit.row_words) (rows - p)) (first + p * limit.row_words)
      ≡ undivided (rows_at words first rows) first

module _ {words : List ℕ} {first rows p : ℕ} (looking : Looking words first rows p) where
  pub looked_through : rows ≤ p → given tt ≡ undivided (rows_at words first rows) first
  unfolding rows_at undivided
  looked_through none = let over : rows - p ≡ 0 = omega arith in rw over at looking.same

  abbrev place : ℕ
  place = first + p * limit.row_words

  -- with the row at hand first
  with_row : p < rows → undivided (rows_at words place (suc (rows - suc p))) place ≡ undivided (rows_at words first rows) first
  with_row some = let left : rows - p ≡ suc (rows - suc p) = omega arith in rw left at looking.same

  pub quotient_met : p < rows → get_or words place 0 ≡ quotient_kind
      → refused (holds_quotient place) ≡ undivided (rows_at words first rows) first
  unfolding rows_at undivided row_at
  quotient_met some is = rw (eq-eqb _ _ is) at (with_row some)

  pub another_met : p < rows → get_or words place 0 ≢ quotient_kind → Looking words first rows (p + 1)
  unfolding rows_at undivided row_at
  another_met some other =
      let next : p + 1 ≡ suc p = omega arith in
      let after : first + suc p * limit.row_words ≡ place + limit.row_words = omega arith in
      record { same = rw (next, after) (rw (ne_eqb _ _ other) at (with_row some)) }

-- ---- of a planned sheet

module _ {needs : Sheet → Needs} {words : List ℕ} {plan : Plan} {marks came goes : List ℕ} (made : PlanMadeFor needs words plan marks came goes) where
  -- the plan's rows are the sheet's
  planned_rows : undivided (rows_at words plan.shape.first_row plan.shape.rows) plan.shape.first_row
      ≡ undivided made.sheet.rows (first_row made.sheet)
  unfolding shape_of
  planned_rows =
      let sheet = made.sheet in
      let rows : rows_at words (first_row sheet) (length sheet.rows) ≡ sheet.rows =
      sym (sheet_lies words sheet made.accepted).says ∙ (tree_of_rows words sheet made.accepted).says in
      rw (made.planned.shape, rows)

  pub plan_divided : {why : Refusal} → refused why ≡ undivided (rows_at words plan.shape.first_row plan.shape.rows) plan.shape.first_row
      → read_in false words ≡ refused why
  unfolding read_in
  plan_divided e = rw (made.accepted, ← planned_rows, ← e)

  pub plan_undivided : given tt ≡ undivided (rows_at words plan.shape.first_row plan.shape.rows) plan.shape.first_row
      → read_in false words ≡ given made.sheet
  unfolding read_in
  plan_undivided e = rw (made.accepted, ← planned_rows, ← e)

pub rows_within : (needs : Sheet → Needs) (words marks came goes : List ℕ) (plans : Result Plan No) → PlanSaysFor needs words marks came goes plans
    → RowsWithin words plans
unfolding shape_of
rows_within needs words marks came goes (Err why) says = tt
rows_within needs words marks came goes (Ok plan) made = rw made.planned.shape (sheet_lies words made.sheet made.accepted).there

pub refused_in : (words : List ℕ) (why : Refusal) → read words ≡ refused why → read_in false words ≡ refused why
unfolding read_in
refused_in words why e = rw e
