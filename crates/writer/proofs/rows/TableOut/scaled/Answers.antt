-- `writer::rows::TableOut::scaled` meets its contract.
use Rattle.writer.proofs.WritingLaws.{put_then, room_after}
use Rattle.writer.proofs.rows.TableOut.scaled.Goals as goal

pub put_if-requires-2 : goal.put_if-requires-2
put_if-requires-2 c = room_after _ c.put_if.ensures c.requires.room

pub returns : goal.returns
returns c = put_then c.put_if.ensures c.put_if-2.ensures
