-- `writer::sweep::forward_part` meets its contract.
use Prim.Native.Nat.{◌+◌, ◌-◌}
use mathlib.Core.Path.{◌≡◌, ap, sym, subst}
use mathlib.Core.List.{◌++◌}
use lib.ListN.{get_or}
use native.Mathlib.Omega.{arith}
use Rattle.sheet.specs.Answers.{row_said}
use Rattle.sheet.specs.Inner.RowLines.{line_of_row, SaysLine}
use Rattle.sheet.proofs.PartsRead.{form_in, part_there}
use Rattle.sheet.proofs.RowsByKind.{row_kind}
use Rattle.table.specs.Inner.MarkedRows.{SaysPart, forward_of_line}
use Rattle.table.proofs.LineRows.{says_part}
use Rattle.writer.specs.Inner.RowsWritten.{forward_rows}
use Rattle.writer.proofs.WritingLaws.{underway_start, underway_room, underway_next, underway_end, room_first}
use Rattle.writer.proofs.JumpLaws.{jumping_start, forward_ends, row_ends, jumping_next, jumping_end}
use Rattle.writer.proofs.PassOver.{along_next, along_none}
use Rattle.writer.proofs.sweep.forward_part.Goals.{After-wide-kind}
use Rattle.writer.proofs.sweep.forward_part.Goals as goal

module _ (c : After-wide-kind) where
  -- the row that was read says a line
  says : SaysLine (row_said c.row-row.result)
  says = subst SaysLine (sym c.row-row.ensures) (c.requires.readable.says _ c.loop-p-test.true)

  -- and what its line is
  said : SaysPart (row_said c.row-row.result) (form_in c.forms-forms.result c.wide-kind.result).3
  said = says_part _ _ says (part_there c.forms-forms.ensures c.wide-kind.ensures.0 (row_kind says))

  -- the row's rows before those of the rest
  left : let x = c.args.given in let p = c.loop-p.p in let rest = forward_rows x.words.now x.shape.first_row x.marks.now in
      rest p (x.shape.rows - p) ≡ forward_of_line (get_or x.marks.now p 0) (line_of_row (row_said c.row-row.result)) ++ rest (p + 1) (x.shape.rows - (p + 1))
  left =
      let x = c.args.given in
      along_next forward_of_line x.words.now x.shape.first_row x.marks.now _ x.shape.rows c.loop-p-test.true c.row-row.ensures

pub loop-p-init : goal.loop-p-init
loop-p-init c =
    let x = c.args.given in
    let whole : x.shape.rows - 0 ≡ x.shape.rows = omega arith in
    let all = ap (forward_rows x.words.now x.shape.first_row x.marks.now 0) whole in
    record { written = underway_start _ all; noted = jumping_start _ all c.requires.numbered }

pub bounds-forms-kind : goal.bounds-forms-kind
bounds-forms-kind c = omega (arith, c.wide-kind.ensures.0, row_kind (says (goal.at.bounds-forms-kind c).After-wide-kind))

pub forward_row-requires : goal.forward_row-requires
forward_row-requires c =
    let here = (goal.at.forward_row-requires c).After-wide-kind in
    record { room = room_first _ _ (rw (left here) at (underway_room c.loop-p.invariant.written c.requires.room)); part_said = said here }

pub note-top-requires : goal.note-top-requires
note-top-requires c =
    let here = (goal.at.note-top-requires c).After-wide-kind in
    row_ends c.loop-p.invariant.noted _ (left here) c.forward_row.ensures.wrote (forward_ends (said here) _ c.forward.ensures)

pub loop-p-preserved : goal.loop-p-preserved
loop-p-preserved c =
    let here = (goal.at.loop-p-preserved c).After-wide-kind in
    let held = c.loop-p.invariant in
    let rows = c.forward_row.ensures in
    record {
      written = underway_next _ held.written (left here) rows;
      noted = jumping_next held.noted _ (left here) rows.wrote (forward_ends (said here) _ c.forward.ensures) c.note-top.ensures;
    }

pub returns : goal.returns
returns c =
    let x = c.args.given in
    let none = along_none forward_of_line x.words.now x.shape.first_row x.marks.now _ x.shape.rows c.loop-p-test.false in
    record { put = underway_end c.loop-p.invariant.written none; noted = jumping_end c.loop-p.invariant.noted none }
