-- `writer::rows::TableOut::over_divisor` meets its contract.
use Rattle.writer.proofs.WritingLaws.{put_then, room_first, room_after}
use Rattle.writer.proofs.rows.TableOut.over_divisor.Goals as goal

pub put_if-requires-2 : goal.put_if-requires-2
put_if-requires-2 c = room_first _ _ (room_after _ c.put_if.ensures c.requires.room)

pub put_if-requires-3 : goal.put_if-requires-3
put_if-requires-3 c = room_after _ c.put_if-2.ensures (room_after _ c.put_if.ensures c.requires.room)

pub returns : goal.returns
returns c = put_then c.put_if.ensures (put_then c.put_if-2.ensures c.put_if-3.ensures)
