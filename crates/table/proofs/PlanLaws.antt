-- What a plan's notes let the passes over the rows do, and what the pass that finds the sizes comes to: R, S and T.
use Prim.Native.Nat.{ℕ, ◌+◌, ◌≤◌}
use native.Mathlib.Omega.{arith}
use mathlib.Core.Path.{◌≡◌, sym, subst, ◌∙◌}
use mathlib.Core.List.{List, []}
use lib.ListN.{length}
use Rattle.sheet.specs.Sheets.{Sheet, variables_of}
use Rattle.sheet.specs.declared.Shape.{Shape}
use Rattle.sheet.specs.Rows.{Assignment}
use Rattle.sheet.proofs.Depth.{sheet_deep}
use Rattle.sheet.proofs.RowsByNumber.{tree_says}
use Rattle.sets.specs.Marks.{Marked, mark_by, marked_by}
use Rattle.sets.specs.Rounds.{sets_of, marked}
use Rattle.table.specs.declared.Plan.{Plan}
use Rattle.table.specs.RowBounds.{most_table_rows}
use Rattle.table.specs.Sizes.{Needs, table_rows, values_needed, turns_needed}
use Rattle.table.specs.Inner.MarkedRows.{RowsReadable, count_all}
use Rattle.table.specs.declared.needs.Need.{Need}
use Rattle.table.specs.Inner.Needs.{needing, nothing, Comes}
use Rattle.table.specs.Inner.Plans.{SheetNoted, PlanMadeFor, PlanMade}
use Rattle.table.proofs.CountTree.{counted_is_table_rows}
use Rattle.table.proofs.NeedsTree.{body_comes}
use Rattle.table.proofs.SheetLaid.{Lies, sheet_lies, table_rows_within}

-- the marks that the sets give
abbrev pub marks_of : Sheet → ℕ → Assignment → Marked
marks_of sheet = mark_by (sets_of sheet)

module _ {words : List ℕ} {sheet : Sheet} {shape : Shape} (lies : Lies words sheet shape) where
  pub readable : (marks : List ℕ) → shape.rows ≤ length marks → RowsReadable words shape marks
  readable marks long =
      record { few = lies.few_rows; marked = long; says = tree_says words shape.first_row shape.rows sheet.body lies.says; there = lies.there }

  module _ (marks came goes : List ℕ) (noted : SheetNoted sheet marks came goes) where
    pub rows_right : (r : ℕ) → ((v : ℕ) → r ≡ 1 + count_all v words shape marks) → r ≡ table_rows (variables_of sheet) (marked sheet)
    unfolding marked marked_by
    rows_right r counted =
        counted (variables_of sheet)
        ∙ counted_is_table_rows (variables_of sheet) words shape.first_row marks came goes (marks_of sheet) shape.rows sheet.body
        lies.says noted

    -- S and T
    abbrev pub need_of : Need
    need_of = needing (values_needed (marked sheet)) (turns_needed (marked sheet))

    pub need_comes : Comes words shape.first_row marks need_of 0 shape.rows nothing []
    unfolding marked marked_by
    need_comes =
        body_comes words shape.first_row marks came goes (marks_of sheet) sheet.body shape.rows lies.says noted lies.short
        (sheet_deep words sheet lies.is)

-- a plan that was made, whatever it is for, says where its sheet lies
pub planned_lies : {needs : Sheet → Needs} {words : List ℕ} {plan : Plan} {marks came goes : List ℕ} (made : PlanMadeFor needs words plan marks came goes)
    → Lies words made.sheet plan.shape
planned_lies {words} made = subst (Lies words made.sheet) (sym made.planned.shape) (sheet_lies words made.sheet made.accepted)

pub planned_few : {words : List ℕ} {plan : Plan} {marks came goes : List ℕ} → PlanMade words plan marks came goes → plan.rows ≤ most_table_rows
planned_few {words} made = omega (arith, made.planned.rows, table_rows_within words made.sheet made.accepted)
