-- `tangent::sweep::write_table` meets its contract.
use Rattle.std.proofs.Common.{rules}
use lib.ListN.{length-set}
use Rattle.writer.proofs.WritingLaws.{room_kept}
use Rattle.tangent.proofs.sweep.write_table.Goals as goal

pub write_rows-requires-clause-room : goal.write_rows-requires-clause-room
write_rows-requires-clause-room c = room_kept 0 _ c.requires.room

pub shape_of-table : goal.shape_of-table
shape_of-table c = search (rules, length-set)

pub returns : goal.returns
returns c = record { reached = c.write_rows.new.out.place; top = c.write_rows.result; did = search rules }
