-- `writer::sweep::forward_part` meets its contract. The invariant: what is written and noted and what the rows from p on still give make up the whole.
use Prim.Native.Nat.{◌-◌}
use Rattle.writer.specs.Inner.RowsWritten.{forward_rows}
use Rattle.writer.specs.Inner.TableHanded.{forward_of}
use Rattle.writer.specs.Inner.JumpsNoted.{noting}
use Rattle.writer.proofs.WritingLaws.{Underway}
use Rattle.writer.proofs.JumpLaws.{Jumping}
use Rattle.writer.proofs.sweep.forward_part.Given as goal

abbrev pub invariant-loop-p : goal.invariant-loop-p
invariant-loop-p l =
    let given = l.given in
    let all = forward_of given in
    let rest = forward_rows given.words.now given.shape.first_row given.marks.now l.p (given.shape.rows - l.p) in
    record {
      written : Underway l.initial.out all rest l.out;
      noted : Jumping all l.initial.out.place (noting l.from l.initial.beyond) rest l.out.place (noting l.top l.beyond);
    }
