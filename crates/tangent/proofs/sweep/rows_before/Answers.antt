-- `tangent::sweep::rows_before` meets its contract.
use mathlib.Core.Path.{refl, sym, subst}
use native.Mathlib.Omega.{arith}
use Rattle.sheet.specs.Answers.{row_said}
use Rattle.sheet.specs.Inner.RowLines.{SaysLine}
use Rattle.sheet.proofs.PartsRead.{form_in, part_there}
use Rattle.sheet.proofs.RowsByKind.{row_kind}
use Rattle.table.specs.Inner.MarkedRows.{SaysPart}
use Rattle.table.proofs.LineRows.{says_part}
use Rattle.tangent.specs.Inner.TangentPlans.{table_rows_before}
use Rattle.tangent.proofs.RowsPassed.{one_passed}
use Rattle.tangent.proofs.sweep.rows_before.Goals.{After-wide-kind}
use Rattle.tangent.proofs.sweep.rows_before.Goals as goal

module _ (c : After-wide-kind) where
  -- the row that was read says a line
  says : SaysLine (row_said c.row_of-said.result)
  says = subst SaysLine (sym c.row_of-said.ensures) (c.requires.readable.says _ (omega arith))

  -- and its part is the one that the table has for its kind
  said : SaysPart (row_said c.row_of-said.result) (form_in c.forms-forms.result c.wide-kind.result).3
  said = says_part _ _ says (part_there c.forms-forms.ensures c.wide-kind.ensures.0 (row_kind says))

pub loop-p-init : goal.loop-p-init
unfolding table_rows_before
loop-p-init c = record { few = omega arith; is = refl }

pub bounds-forms-kind : goal.bounds-forms-kind
bounds-forms-kind c = omega (arith, c.wide-kind.ensures.0, row_kind (says (goal.at.bounds-forms-kind c).After-wide-kind))

pub rows_over-rows-requires : goal.rows_over-rows-requires
rows_over-rows-requires c = said (goal.at.rows_over-rows-requires c).After-wide-kind

pub loop-p-preserved : goal.loop-p-preserved
loop-p-preserved c =
    record { few = omega (arith, c.rows_over-rows.ensures.1); is = one_passed _ _ _ _ c.loop-p.invariant.is c.row_of-said.ensures c.rows_over-rows.ensures.0 }
