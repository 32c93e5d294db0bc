-- What a tangent plan's notes let the passes over the rows do, and what they come to: the rows of the sheet's tangent table, and their number.
use Prim.Native.Nat.{ℕ, ◌+◌, ◌≤◌}
use mathlib.Core.Path.{◌≡◌, sym, ap, ◌∙◌}
use mathlib.Core.List.{List}
use lib.ListN.{length}
use native.Mathlib.Omega.{arith}
use Rattle.sheet.specs.Tree.{rows}
use Rattle.sheet.specs.Sheets.{Sheet, variables_of}
use Rattle.sheet.specs.declared.Shape.{Shape}
use Rattle.sheet.proofs.RowsByNumber.{rows_of_tree}
use Rattle.sets.specs.Marks.{marked_by}
use Rattle.sets.specs.Rounds.{marked}
use Rattle.sets.proofs.MarksListed.{numbered_rows}
use Rattle.table.specs.declared.Plan.{Plan}
use Rattle.table.specs.RowBounds.{most_table_rows}
use Rattle.table.specs.Sizes.{Written}
use Rattle.table.specs.Calls.{write_by}
use Rattle.table.specs.Inner.MarkedRows.{rows_in}
use Rattle.table.specs.Inner.Plans.{SheetNoted, PlanMadeFor}
use Rattle.table.proofs.SheetLaid.{Lies}
use Rattle.table.proofs.PlanLaws.{marks_of, planned_lies}
use Rattle.table.proofs.TableLength.{table_rows_counted}
use Rattle.tangent.specs.Tangent.{tangent_table, tangent_by, tangent_rows}
use Rattle.tangent.specs.Calls.{tangent_of, tangent_needs_of, write_tangent}
use Rattle.tangent.specs.Inner.TangentPlans.{table_rows_before}
use Rattle.tangent.specs.Inner.TangentRowsWritten.{tangent_all, WordsSmall}
use Rattle.tangent.proofs.RowsPassed.{along_counted}
use Rattle.tangent.proofs.TangentTree.{along_is_tangent, tangent_rows_bound}

-- ---- the rows are the table's

module _ {words : List ℕ} {sheet : Sheet} {shape : Shape} (lies : Lies words sheet shape) where
  pub words_small : WordsSmall words shape
  words_small = record { few = lies.few_variables; small = lies.small }

  module _ (marks came goes : List ℕ) (noted : SheetNoted sheet marks came goes) where
    pub all_right : tangent_all words shape marks ≡ rows_in (tangent_of sheet)
    unfolding tangent_of tangent_by marked marked_by
    all_right =
        along_is_tangent shape.variables words shape.first_row marks came goes (marks_of sheet) shape.rows sheet.body lies.says
        (rows_of_tree words shape.first_row shape.rows sheet.body lies.says) noted
        ∙ ap (λ v. rows_in (tangent_table v (marked sheet))) lies.variables

    pub rows_right : {count : ℕ} → count ≡ table_rows_before words shape.first_row marks shape.rows
        → count ≡ tangent_rows (variables_of sheet) (marked sheet)
    unfolding tangent_rows tangent_of tangent_by marked table_rows_before
    rows_right counted =
        let before = table_rows_before words shape.first_row marks in
        let none : 0 + shape.rows ≡ shape.rows = omega arith in
        let all : length (tangent_all words shape marks) ≡ before shape.rows =
        omega (arith, along_counted shape.variables words shape.first_row marks 0 shape.rows, ap before none) in
        counted ∙ sym all ∙ ap length all_right ∙ table_rows_counted (tangent_of sheet)

-- ---- of a plan that was made

module _ {words : List ℕ} {plan : Plan} {marks came goes : List ℕ} (made : PlanMadeFor tangent_needs_of words plan marks came goes) where
  pub counts_rows : plan.rows ≡ rows (tangent_of made.sheet)
  unfolding tangent_rows tangent_of tangent_by marked
  counts_rows = made.planned.rows

  -- four rows for each of 512
  pub planned_few : plan.rows ≤ most_table_rows
  unfolding tangent_rows marked marked_by
  planned_few =
      let sheet = made.sheet in
      let lies = planned_lies made in
      omega (
        arith,
        made.planned.rows,
        tangent_rows_bound (variables_of sheet) (marked sheet),
        numbered_rows (marks_of sheet) sheet.body 0,
        rows_of_tree words _ _ sheet.body lies.says,
        lies.few_rows,
      )

-- ---- what writing answers

pub write_by_lem : (words buffer : List ℕ) {written : Written} → written ≡ write_by tangent_needs_of tangent_of words buffer → written ≡ write_tangent words buffer
unfolding write_tangent
write_by_lem words buffer e = e
