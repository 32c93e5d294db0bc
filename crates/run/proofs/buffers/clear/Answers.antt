-- `run::buffers::clear` meets its contract. The invariant: the cells passed hold zeros.
use mathlib.Core.Path.{refl}
use native.Mathlib.Omega.{arith}
use Rattle.run.proofs.FillingLaws.{clearing_starts, clearing_goes_on, clearing_ends}
use Rattle.run.proofs.buffers.clear.Goals as goal

pub loop-cell-init : goal.loop-cell-init
loop-cell-init g c = clearing_starts _ _

pub loop-cell-preserved : goal.loop-cell-preserved
loop-cell-preserved g c = clearing_goes_on _ _ _ _ _ refl (omega arith) c.loop-cell.invariant

pub returns : goal.returns
returns g c = clearing_ends _ _ _ _ (omega arith) c.loop-cell.invariant
