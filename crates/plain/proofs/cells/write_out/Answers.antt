-- `plain::cells::write_out` meets its contract.
use mathlib.Core.Path.{sym}
use Rattle.plain.proofs.LayingLaws.{writing_goes_on, writing_ends}
use Rattle.plain.proofs.cells.write_out.Goals as goal

pub loop-i-preserved : goal.loop-i-preserved
loop-i-preserved c = writing_goes_on c.loop-i.invariant _ c.loop-i-test.true (rw (sym c.is_dependent.ensures) c.number_or_zero.ensures)

pub returns : goal.returns
returns c = writing_ends c.loop-i.invariant c.loop-i-test.false
