-- `tangent::sweep::write_rows` meets its contract.
use Prim.Native.Nat.{ℕ, ◌+◌, ◌-◌}
use mathlib.Core.Path.{◌≡◌, ap, sym, subst, ◌∙◌}
use mathlib.Core.List.{List, ◌++◌}
use lib.ListN.{get_or}
use native.Mathlib.Omega.{arith}
use Rattle.sheet.specs.Rows.{Row}
use Rattle.sheet.specs.Answers.{row_said}
use Rattle.sheet.specs.Inner.RowLines.{line_of_row, SaysLine}
use Rattle.sheet.proofs.PartsRead.{form_in, part_there}
use Rattle.sheet.proofs.RowsByKind.{row_kind}
use Rattle.table.specs.Inner.MarkedRows.{SaysPart, SmallWords}
use Rattle.table.proofs.LineRows.{says_part}
use Rattle.writer.proofs.WritingLaws.{underway_start, underway_room, underway_next, underway_end, put_as, room_first}
use Rattle.writer.proofs.JumpLaws.{jumping_start, row_ends, jumping_next, jumping_end}
use Rattle.writer.proofs.PassOver.{along_next, along_none}
use Rattle.tangent.specs.Inner.TangentRowsWritten.{tangent_of_line, tangent_rows_along}
use Rattle.tangent.proofs.TangentLines.{line_ends}
use Rattle.tangent.proofs.sweep.write_rows.Goals.{After-wide-kind}
use Rattle.tangent.proofs.sweep.write_rows.Goals as goal

module _ (c : After-wide-kind) where
  -- the row that was read says a line
  says : SaysLine (row_said c.row_of-row.result)
  says = subst SaysLine (sym c.row_of-row.ensures) (c.requires.readable.says _ c.loop-p-test.true)

  -- and this is what its line is to the blocks
  said : SaysPart (row_said c.row_of-row.result) (form_in c.forms-forms.result c.wide-kind.result).3
  said = says_part _ _ says (part_there c.forms-forms.ensures c.wide-kind.ensures.0 (row_kind says))

  -- the row's rows, said of so many variables
  abbrev rows_for : (variables : ℕ) → List Row
  rows_for variables = tangent_of_line variables (get_or c.args.marks.now c.loop-p.p 0) (line_of_row (row_said c.row_of-row.result))

  -- those before the rows of the rest
  left : let x = c.args in let shape = x.shape in let p = c.loop-p.p in let rest = tangent_rows_along x.words.now shape x.marks.now in
      rest p (shape.rows - p)
      ≡ tangent_of_line shape.variables (get_or x.marks.now p 0) (line_of_row (row_said c.row_of-row.result)) ++ rest (p + 1) (shape.rows - (p + 1))
  left =
      let x = c.args in
      let shape = x.shape in
      along_next (tangent_of_line shape.variables) x.words.now shape.first_row x.marks.now _ shape.rows c.loop-p-test.true c.row_of-row.ensures

pub loop-p-init : goal.loop-p-init
loop-p-init c =
    let x = c.args in
    let whole : x.shape.rows - 0 ≡ x.shape.rows = omega arith in
    let all = ap (tangent_rows_along x.words.now x.shape x.marks.now 0) whole in
    record { written = underway_start _ all; noted = jumping_start _ all c.requires.numbered }

pub bounds-forms-kind : goal.bounds-forms-kind
bounds-forms-kind c = omega (arith, c.wide-kind.ensures.0, row_kind (says (goal.at.bounds-forms-kind c).After-wide-kind))

pub tangent_row-requires : goal.tangent_row-requires
tangent_row-requires c =
    let here = (goal.at.tangent_row-requires c).After-wide-kind in
    let same = c.loop-p.invariant.written.put.same_variables ∙ c.requires.variables in
    record {
      room = rw same (room_first _ _ (rw (left here) at (underway_room c.loop-p.invariant.written c.requires.room)));
      part_said = said here;
      small = rw same (subst (SmallWords c.args.shape.variables) (sym c.row_of-row.ensures) (c.requires.small.small _ c.loop-p-test.true));
    }

pub note-top-requires : goal.note-top-requires
note-top-requires c =
    let here = (goal.at.note-top-requires c).After-wide-kind in
    let rows = put_as (rows_for here) (c.loop-p.invariant.written.put.same_variables ∙ c.requires.variables) c.tangent_row.ensures in
    row_ends c.loop-p.invariant.noted _ (left here) rows.wrote (line_ends (said here) _ _ c.forward.ensures)

pub loop-p-preserved : goal.loop-p-preserved
loop-p-preserved c =
    let here = (goal.at.loop-p-preserved c).After-wide-kind in
    let held = c.loop-p.invariant in
    let rows = put_as (rows_for here) (held.written.put.same_variables ∙ c.requires.variables) c.tangent_row.ensures in
    record {
      written = underway_next _ held.written (left here) rows;
      noted = jumping_next held.noted _ (left here) rows.wrote (line_ends (said here) _ _ c.forward.ensures) c.note-top.ensures;
    }

pub returns : goal.returns
returns c =
    let x = c.args in
    let none = along_none (tangent_of_line x.shape.variables) x.words.now x.shape.first_row x.marks.now _ x.shape.rows c.loop-p-test.false in
    record { put = underway_end c.loop-p.invariant.written none; noted = jumping_end c.loop-p.invariant.noted none }
