-- `tangent::rows::term_rates` meets its contract, by the operands that are varied.
use Rattle.writer.proofs.WritingLaws.{put_then, room_first, room_after}
use Rattle.tangent.proofs.rows.term_rates.Goals as goal

pub put-requires : goal.put-requires
put-requires c =
    room_first _ _ (rw (c.if-first.true, c.if-second.true) at c.requires.room)

pub put-requires-then-second : goal.put-requires-then-second
put-requires-then-second c =
    room_first _ _ (room_after _ c.put.ensures (rw (c.if-first.true, c.if-second.true) at c.requires.room))

pub put-requires-then-second-2 : goal.put-requires-then-second-2
put-requires-then-second-2 c =
    room_after _ c.put-then-second.ensures (room_after _ c.put.ensures (rw (c.if-first.true, c.if-second.true) at c.requires.room))

pub returns-then-second : goal.returns-then-second
returns-then-second c =
    rw (c.if-first.true, c.if-second.true)
    (put_then c.put.ensures (put_then c.put-then-second.ensures c.put-then-second-2.ensures))

pub put-requires-then-first : goal.put-requires-then-first
put-requires-then-first c =
    rw (c.if-first.true, c.if-second.false) at c.requires.room

pub returns-then-first : goal.returns-then-first
returns-then-first c =
    rw (c.if-first.true, c.if-second.false) c.put-then-first.ensures

pub put-requires-2 : goal.put-requires-2
put-requires-2 c =
    rw c.if-first.false at c.requires.room

pub returns : goal.returns
returns c =
    rw c.if-first.false c.put-2.ensures
