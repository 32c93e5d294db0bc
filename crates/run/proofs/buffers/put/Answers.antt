-- `run::buffers::put` meets its contract. The invariant: the numbers passed are put.
use mathlib.Core.Path.{ap, ◌∙◌}
use mathlib.Core.Bool.{cond}
use native.Mathlib.Omega.{arith}
use Rattle.number.specs.Arithmetic.{arithmetic_on}
use Rattle.run.proofs.FillingLaws.{putting_starts, putting_goes_on, putting_ends}
use Rattle.run.proofs.buffers.put.Goals as goal

pub loop-i-init : goal.loop-i-init
loop-i-init g c = putting_starts (arithmetic_on g.N.Number.operations) _ _ _ _ (omega arith)

pub loop-i-preserved : goal.loop-i-preserved
loop-i-preserved g c =
    putting_goes_on (arithmetic_on g.N.Number.operations) _ _ _ _ _ _ _ _ c.counts.ensures
    (c.number_or_zero.ensures ∙ ap (λ n. cond c.counts.result n g.N.Number.operations.zero) c.index-numbers-i.is) (omega arith) (omega arith)
    c.loop-i.invariant

pub returns : goal.returns
returns g c = putting_ends (arithmetic_on g.N.Number.operations) _ _ _ _ _ _ (omega arith) c.loop-i.invariant
