-- `writer::sweep::backward_part` meets its contract. The invariant: the walk stays on the rows, and what is written and noted and what the rest of
-- the walk gives make up the whole.
use Prim.Native.Nat.{◌-◌}
use Rattle.writer.specs.Inner.RowsWritten.{backward_all, backward_rows, Walks}
use Rattle.writer.specs.Inner.TableHanded.{handed_by}
use Rattle.writer.specs.Inner.JumpsNoted.{noting}
use Rattle.writer.proofs.WritingLaws.{Underway}
use Rattle.writer.proofs.JumpLaws.{Jumping}
use Rattle.writer.proofs.sweep.backward_part.Given as goal

abbrev pub invariant-loop : goal.invariant-loop
invariant-loop l =
    let given = handed_by l.given in
    let left = given.rows - l.counter in
    let rest = backward_rows given left l.until in
    record {
      walks : Walks given left l.until;
      written : Underway l.initial.out (backward_all given) rest l.out;
      noted : Jumping (backward_all given) l.initial.out.place (noting l.from l.initial.beyond) rest l.out.place (noting l.top l.beyond);
    }
