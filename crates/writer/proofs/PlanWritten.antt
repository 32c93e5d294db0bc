-- What a plan's notes let the writer do, and what it comes to: the rows of the sheet's table.
use Prim.Native.Nat.{ℕ, ◌≤◌}
use mathlib.Core.Path.{◌≡◌, ap, ◌∙◌}
use mathlib.Core.List.{List}
use lib.ListN.{length}
use Rattle.sheet.specs.Tree.{rows}
use Rattle.sheet.specs.Sheets.{Sheet}
use Rattle.sheet.specs.declared.Shape.{Shape}
use Rattle.sets.specs.Rounds.{marked}
use Rattle.sets.specs.Marks.{marked_by}
use Rattle.table.specs.declared.Plan.{Plan}
use Rattle.table.specs.Computed.{table_of}
use Rattle.table.specs.Adjoint.{adjoint_table}
use Rattle.table.specs.Sizes.{table_rows}
use Rattle.table.specs.Inner.MarkedRows.{rows_in}
use Rattle.table.specs.Inner.Plans.{SheetNoted, PlanMade}
use Rattle.table.proofs.SheetLaid.{Lies}
use Rattle.table.proofs.PlanLaws.{marks_of}
use Rattle.writer.specs.Inner.RowsWritten.{Handed, handed, Walkable, whole_rows}
use Rattle.writer.proofs.WalkTree.{tree_walks}
use Rattle.writer.proofs.WholeTable.{whole_is_table}

module _ {words : List ℕ} {sheet : Sheet} {shape : Shape} (lies : Lies words sheet shape)
    (marks came goes : List ℕ) (noted : SheetNoted sheet marks came goes) where
  abbrev given : Handed
  given = handed words shape marks came goes

  pub walkable : shape.rows ≤ length came → shape.rows ≤ length goes → Walkable given
  walkable came_long goes_long =
      record {
        few = lies.few_variables;
        small = lies.small;
        came_there = came_long;
        goes_there = goes_long;
        walks = tree_walks given (marks_of sheet) sheet.body lies.says noted;
      }

  pub whole_right : whole_rows given ≡ rows_in (table_of sheet)
  unfolding table_of marked marked_by
  whole_right =
      whole_is_table given (marks_of sheet) sheet.body lies.says noted
      ∙ ap (λ v. rows_in (adjoint_table v (marked sheet))) lies.variables

pub counts_rows : {words : List ℕ} {plan : Plan} {marks came goes : List ℕ} (made : PlanMade words plan marks came goes)
    → plan.rows ≡ rows (table_of made.sheet)
unfolding table_rows table_of
counts_rows made = made.planned.rows
