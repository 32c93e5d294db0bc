-- `writer::rows::TableOut::backward_row` meets its contract, by what the row is to the blocks.
use mathlib.Core.Path.{sym}
use Rattle.table.proofs.LineRows.{says_assigns, backward_by}
use Rattle.writer.proofs.rows.TableOut.backward_row.Goals as goal

pub assignment_back-requires : goal.assignment_back-requires
assignment_back-requires c = record { room = rw (backward_by c.requires.part_said c.in-Assignment.is c.args.self.now.variables c.args.mark c.args.turns) at c.requires.room; small = c.requires.small; assigns = says_assigns c.requires.part_said c.in-Assignment.is }

pub put-requires : goal.put-requires
put-requires c =
    rw (backward_by c.requires.part_said c.in-If.is c.args.self.now.variables c.args.mark c.args.turns) at c.requires.room

pub put-requires-in-Else : goal.put-requires-in-Else
put-requires-in-Else c =
    rw (backward_by c.requires.part_said c.in-Else.is c.args.self.now.variables c.args.mark c.args.turns) at c.requires.room

pub put-requires-in-EndIf : goal.put-requires-in-EndIf
put-requires-in-EndIf c =
    rw (backward_by c.requires.part_said c.in-EndIf.is c.args.self.now.variables c.args.mark c.args.turns) at c.requires.room

pub put-requires-in-Repeat : goal.put-requires-in-Repeat
put-requires-in-Repeat c =
    rw (backward_by c.requires.part_said c.in-Repeat.is c.args.self.now.variables c.args.mark c.args.turns) at c.requires.room

pub put-requires-in-EndRepeat : goal.put-requires-in-EndRepeat
put-requires-in-EndRepeat c =
    rw (backward_by c.requires.part_said c.in-EndRepeat.is c.args.self.now.variables c.args.mark c.args.turns, sym c.loop_kind.ensures) at c.requires.room

pub returns-in-Assignment : goal.returns-in-Assignment
returns-in-Assignment c =
    rw (backward_by c.requires.part_said c.in-Assignment.is c.args.self.now.variables c.args.mark c.args.turns) c.assignment_back.ensures

pub returns-in-If : goal.returns-in-If
returns-in-If c =
    rw (backward_by c.requires.part_said c.in-If.is c.args.self.now.variables c.args.mark c.args.turns) c.put.ensures

pub returns-in-Else : goal.returns-in-Else
returns-in-Else c =
    rw (backward_by c.requires.part_said c.in-Else.is c.args.self.now.variables c.args.mark c.args.turns) c.put-in-Else.ensures

pub returns-in-EndIf : goal.returns-in-EndIf
returns-in-EndIf c =
    rw (backward_by c.requires.part_said c.in-EndIf.is c.args.self.now.variables c.args.mark c.args.turns) c.put-in-EndIf.ensures

pub returns-in-Repeat : goal.returns-in-Repeat
returns-in-Repeat c =
    rw (backward_by c.requires.part_said c.in-Repeat.is c.args.self.now.variables c.args.mark c.args.turns) c.put-in-Repeat.ensures

pub returns-in-EndRepeat : goal.returns-in-EndRepeat
returns-in-EndRepeat c =
    rw (backward_by c.requires.part_said c.in-EndRepeat.is c.args.self.now.variables c.args.mark c.args.turns, sym c.loop_kind.ensures) c.put-in-EndRepeat.ensures
