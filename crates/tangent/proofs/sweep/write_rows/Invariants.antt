-- `tangent::sweep::write_rows` meets its contract. The invariant: what is written and noted and what the rows from p on still give make up the whole.
use Prim.Native.Nat.{◌-◌}
use Rattle.tangent.specs.Inner.TangentRowsWritten.{tangent_rows_along, tangent_all}
use Rattle.writer.specs.Inner.JumpsNoted.{noting}
use Rattle.writer.proofs.WritingLaws.{Underway}
use Rattle.writer.proofs.JumpLaws.{Jumping}
use Rattle.tangent.proofs.sweep.write_rows.Given as goal

abbrev pub invariant-loop-p : goal.invariant-loop-p
invariant-loop-p l =
    let all = tangent_all l.words l.shape l.marks in
    let rest = tangent_rows_along l.words l.shape l.marks l.p (l.shape.rows - l.p) in
    record {
      written : Underway l.initial.out all rest l.out;
      noted : Jumping all l.initial.out.place (noting 0 l.initial.beyond) rest l.out.place (noting l.top l.beyond);
    }
