-- `writer::rows::TableOut::derivatives` meets its contract, where the row is active and where it isn't.
use mathlib.Core.Path.{refl, sym, ◌∙◌}
use Rattle.sheet.specs.Answers.{row_said}
use Rattle.table.specs.Inner.MarkedRows.{part_rows}
use Rattle.table.proofs.AssignmentRows.{active_rows, inactive_rows}
use Rattle.writer.proofs.WritingLaws.{put_then, put_as, room_first, room_after}
use Rattle.writer.proofs.rows.TableOut.derivatives.Goals as goal

pub put-requires : goal.put-requires
put-requires c = rw (inactive_rows c.args.self.now.variables (row_said c.args.row) c.args.mark (sym c.bit.ensures ∙ c.if-not-bit.true)) at c.requires.room

pub returns-then-not-bit : goal.returns-then-not-bit
returns-then-not-bit c = rw (inactive_rows c.args.self.now.variables (row_said c.args.row) c.args.mark (sym c.bit.ensures ∙ c.if-not-bit.true)) c.put.ensures

pub put-requires-2 : goal.put-requires-2
put-requires-2 c = room_first _ _ (rw (active_rows c.args.self.now.variables (row_said c.args.row) c.args.mark refl (sym c.bit.ensures ∙ c.if-not-bit.false)) at c.requires.room)

pub put-requires-3 : goal.put-requires-3
put-requires-3 c = room_first _ _ (room_after _ c.put-2.ensures (rw (active_rows c.args.self.now.variables (row_said c.args.row) c.args.mark refl (sym c.bit.ensures ∙ c.if-not-bit.false)) at c.requires.room))

pub parts-requires-clause-room : goal.parts-requires-clause-room
parts-requires-clause-room c =
    let same = c.put-3.ensures.same_variables ∙ c.put-2.ensures.same_variables in
    rw same (room_after _ c.put-3.ensures (room_after _ c.put-2.ensures (rw (active_rows c.args.self.now.variables (row_said c.args.row) c.args.mark refl (sym c.bit.ensures ∙ c.if-not-bit.false)) at c.requires.room)))

pub returns : goal.returns
returns c =
    let same = c.put-3.ensures.same_variables ∙ c.put-2.ensures.same_variables in
    let parts = put_as (λ v. part_rows v (row_said c.args.row) c.args.mark) same c.parts.ensures in
    rw (active_rows c.args.self.now.variables (row_said c.args.row) c.args.mark refl (sym c.bit.ensures ∙ c.if-not-bit.false)) (put_then c.put-2.ensures (put_then c.put-3.ensures parts))
