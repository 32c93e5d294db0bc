-- `writer::rows::TableOut::parts` meets its contract, kind by kind.
use mathlib.Core.Path.{refl}
use Prim.Native.Nat.{◌≤◌}
use native.Mathlib.Omega.{arith}
use Rattle.sheet.specs.Answers.{row_said}
use Rattle.table.specs.Inner.MarkedRows.{scaled_rows}
use Rattle.table.proofs.AssignmentRows.{constant_rows, copy_rows, negation_rows, two_rows, product_rows, quotient_rows}
use Rattle.writer.proofs.WritingLaws.{put_none, put_then, put_as, room_first, room_after}
use Rattle.writer.proofs.rows.TableOut.parts.Goals.{In_default}
use Rattle.writer.proofs.rows.TableOut.parts.Goals as goal

pub put_if-requires : goal.put_if-requires
put_if-requires c = rw (copy_rows c.args.self.now.variables (row_said c.args.row) c.args.mark c.bit-first.ensures refl c.in-1.is) at c.requires.room

pub returns-in-1 : goal.returns-in-1
returns-in-1 c = rw (copy_rows c.args.self.now.variables (row_said c.args.row) c.args.mark c.bit-first.ensures refl c.in-1.is) c.put_if.ensures

pub returns-in-2 : goal.returns-in-2
returns-in-2 c = rw (constant_rows c.args.self.now.variables (row_said c.args.row) c.args.mark c.in-2.is) (put_none _)

pub put_if-requires-in-6 : goal.put_if-requires-in-6
put_if-requires-in-6 c = rw (negation_rows c.args.self.now.variables (row_said c.args.row) c.args.mark c.bit-first.ensures refl c.in-6.is) at c.requires.room

pub returns-in-6 : goal.returns-in-6
returns-in-6 c = rw (negation_rows c.args.self.now.variables (row_said c.args.row) c.args.mark c.bit-first.ensures refl c.in-6.is) c.put_if-in-6.ensures

pub scaled-requires-clause-room : goal.scaled-requires-clause-room
scaled-requires-clause-room c = room_first _ _ (rw (product_rows c.args.self.now.variables (row_said c.args.row) c.args.mark c.bit-first.ensures c.bit-second.ensures c.in-5.is) at c.requires.room)

pub scaled-requires-in-5-clause-room : goal.scaled-requires-in-5-clause-room
scaled-requires-in-5-clause-room c = rw c.scaled.ensures.same_variables (room_after _ c.scaled.ensures (rw (product_rows c.args.self.now.variables (row_said c.args.row) c.args.mark c.bit-first.ensures c.bit-second.ensures c.in-5.is) at c.requires.room))

pub returns-in-5 : goal.returns-in-5
returns-in-5 c =
    let second = put_as (λ v. scaled_rows v c.bit-second.result c.args.row.a c.args.row.b) c.scaled.ensures.same_variables c.scaled-in-5.ensures in
    rw (product_rows c.args.self.now.variables (row_said c.args.row) c.args.mark c.bit-first.ensures c.bit-second.ensures c.in-5.is) (put_then c.scaled.ensures second)

pub divided-requires-clause-room : goal.divided-requires-clause-room
divided-requires-clause-room c = rw (quotient_rows c.args.self.now.variables (row_said c.args.row) c.args.mark c.bit-first.ensures c.bit-second.ensures c.in-18.is) at c.requires.room

pub returns-in-18 : goal.returns-in-18
returns-in-18 c = rw (quotient_rows c.args.self.now.variables (row_said c.args.row) c.args.mark c.bit-first.ensures c.bit-second.ensures c.in-18.is) c.divided.ensures

-- what is left of an assignment's kinds
sum_or_difference : (c : In_default) → (3 ≤ c.args.row.kind) × (c.args.row.kind ≤ 4)
sum_or_difference c =
    let most = c.requires.assigns.most (λ e. omega arith) in
    (omega (arith, c.requires.assigns.some), omega arith)

pub put_if-requires-in_default : goal.put_if-requires-in_default
put_if-requires-in_default c = room_first _ _ (rw (two_rows c.args.self.now.variables (row_said c.args.row) c.args.mark c.bit-first.ensures c.bit-second.ensures refl (sum_or_difference (goal.at.put_if-requires-in_default c).In_default)) at c.requires.room)

pub put_if-requires-in_default-2 : goal.put_if-requires-in_default-2
put_if-requires-in_default-2 c = room_after _ c.put_if-in_default.ensures (rw (two_rows c.args.self.now.variables (row_said c.args.row) c.args.mark c.bit-first.ensures c.bit-second.ensures refl (sum_or_difference (goal.at.put_if-requires-in_default-2 c).In_default)) at c.requires.room)

pub returns-in_default : goal.returns-in_default
returns-in_default c = rw (two_rows c.args.self.now.variables (row_said c.args.row) c.args.mark c.bit-first.ensures c.bit-second.ensures refl (sum_or_difference (goal.at.returns-in_default c).In_default)) (put_then c.put_if-in_default.ensures c.put_if-in_default-2.ensures)
