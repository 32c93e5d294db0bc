-- `plain::cells::laid` meets its contract.
use mathlib.Core.Path.{refl, sym}
use Rattle.plain.proofs.LayingLaws.{laying_goes_on, laying_ends}
use Rattle.plain.proofs.cells.laid.Goals as goal

pub loop-i-preserved : goal.loop-i-preserved
loop-i-preserved c = laying_goes_on c.loop-i.invariant _ c.loop-i-test.true refl (rw (sym c.is_independent.ensures) c.number_or_zero-rate.ensures)

pub returns : goal.returns
returns c = laying_ends c.loop-i.invariant c.loop-i-test.false
