-- `writer::rows::TableOut::put_if` meets its contract.
use Rattle.writer.proofs.WritingLaws.{put_none}
use Rattle.writer.proofs.rows.TableOut.put_if.Goals as goal

pub returns-else-given : goal.returns-else-given
returns-else-given c = rw c.if-given.false (put_none _)
