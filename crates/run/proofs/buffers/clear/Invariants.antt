-- `run::buffers::clear` meets its contract. The invariant: the cells passed hold zeros.
use Rattle.run.proofs.FillingLaws.{Clearing}
use Rattle.run.proofs.buffers.clear.Given as goal

abbrev pub invariant-loop-cell : goal.invariant-loop-cell
invariant-loop-cell g l = Clearing l.zero l.initial.cells l.cell-index l.cells
