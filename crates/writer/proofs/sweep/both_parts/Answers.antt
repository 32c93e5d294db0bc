-- `writer::sweep::both_parts` meets its contract: the parts one after another.
use Rattle.writer.specs.Inner.RowsWritten.{whole_rows}
use Rattle.writer.proofs.WritingLaws.{room_first, room_after}
use Rattle.writer.proofs.JumpLaws.{numbered_first, numbered_after, noted_then, turn_noted}
use Rattle.writer.proofs.sweep.both_parts.Goals as goal

pub forward_part-top-requires : goal.forward_part-top-requires
unfolding whole_rows
forward_part-top-requires c =
    record { room = room_first _ _ c.requires.room; numbered = numbered_first _ _ c.requires.numbered; readable = c.requires.readable }

pub put-requires : goal.put-requires
unfolding whole_rows
put-requires c = room_first _ _ (room_after _ c.forward_part-top.ensures.put c.requires.room)

pub backward_part-requires-clause-room : goal.backward_part-requires-clause-room
unfolding whole_rows
backward_part-requires-clause-room c = room_after _ c.put.ensures (room_after _ c.forward_part-top.ensures.put c.requires.room)

pub backward_part-requires-clause-numbered : goal.backward_part-requires-clause-numbered
unfolding whole_rows
backward_part-requires-clause-numbered c =
    numbered_after _ c.put.ensures.wrote (numbered_after _ c.forward_part-top.ensures.put.wrote c.requires.numbered)

pub returns : goal.returns
unfolding whole_rows
returns c =
    let first = c.forward_part-top.ensures in
    let numbered = c.requires.numbered in
    noted_then numbered first (noted_then (numbered_after _ first.put.wrote numbered) (turn_noted _ c.put.ensures) c.backward_part.ensures)
