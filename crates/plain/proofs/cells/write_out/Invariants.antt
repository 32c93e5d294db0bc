-- `plain::cells::write_out` meets its contract. The invariant: the variables passed are written, in both halves.
use Rattle.plain.proofs.LayingLaws.{Writing}
use Rattle.plain.proofs.cells.write_out.Given as goal

abbrev pub invariant-loop-i : goal.invariant-loop-i
invariant-loop-i l = Writing l.roles l.cells l.i l.res
