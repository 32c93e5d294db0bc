-- `writer::jumps::put` meets its contract: beyond the end nothing is stored.
use mathlib.Core.Path.{sym}
use native.Mathlib.Omega.{arith}
use lib.Seq.{set_out}
use Rattle.writer.proofs.jumps.put.Goals as goal

pub returns-else-place-beyond : goal.returns-else-place-beyond
returns-else-place-beyond c = sym (set_out c.args.beyond.now _ _ (omega arith))
