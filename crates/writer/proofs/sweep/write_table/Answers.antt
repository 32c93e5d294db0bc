-- `writer::sweep::write_table` meets its contract.
use Rattle.std.proofs.Common.{rules}
use lib.ListN.{length-set}
use Rattle.writer.proofs.WritingLaws.{room_kept}
use Rattle.writer.proofs.sweep.write_table.Goals as goal

pub both_parts-top-requires-clause-room : goal.both_parts-top-requires-clause-room
both_parts-top-requires-clause-room c = room_kept 0 _ c.requires.room

pub shape_of-table : goal.shape_of-table
shape_of-table c = search (rules, length-set)
