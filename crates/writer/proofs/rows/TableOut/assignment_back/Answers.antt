-- `writer::rows::TableOut::assignment_back` meets its contract.
use Rattle.sheet.specs.Answers.{row_said}
use Rattle.table.specs.Inner.MarkedRows.{derivatives_of}
use Rattle.table.proofs.AssignmentRows.{assignment_rows}
use Rattle.writer.proofs.WritingLaws.{put_then, put_as, room_first, room_after}
use Rattle.writer.proofs.rows.TableOut.assignment_back.Goals as goal

pub put_if-requires : goal.put_if-requires
put_if-requires c = room_first _ _ (rw (assignment_rows c.args.self.now.variables (row_said c.args.row) c.args.mark c.bit-saved.ensures) at c.requires.room)

pub derivatives-requires-clause-room : goal.derivatives-requires-clause-room
derivatives-requires-clause-room c =
    rw c.put_if.ensures.same_variables
    (room_after _ c.put_if.ensures (rw (assignment_rows c.args.self.now.variables (row_said c.args.row) c.args.mark c.bit-saved.ensures) at c.requires.room))

pub returns : goal.returns
returns c =
    let derived = put_as (λ v. derivatives_of v (row_said c.args.row) c.args.mark) c.put_if.ensures.same_variables c.derivatives.ensures in
    rw (assignment_rows c.args.self.now.variables (row_said c.args.row) c.args.mark c.bit-saved.ensures) (put_then c.put_if.ensures derived)
