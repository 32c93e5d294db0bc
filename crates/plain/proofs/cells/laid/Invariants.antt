-- `plain::cells::laid` meets its contract. The invariant: the variables passed are laid.
use Rattle.plain.proofs.LayingLaws.{Laying}
use Rattle.plain.proofs.cells.laid.Given as goal

abbrev pub invariant-loop-i : goal.invariant-loop-i
invariant-loop-i l = Laying l.roles l.starts l.rates l.i l.cells
