-- `machine::blocks::open_repeat` meets its contract.
use Prim.Native.Nat.{◌-◌, ◌*◌}
use mathlib.Core.Path.{ap}
use Rattle.machine.proofs.OpenedLaws.{opens_none, opens_on}
use Rattle.machine.proofs.blocks.open_repeat.Goals as goal

pub returns-then-count-eq0 : goal.returns-then-count-eq0
returns-then-count-eq0 c = opens_none c.if-count-eq0.true

pub returns : goal.returns
returns c =
    opens_on _ (ap (λ n. 2 * (n - 1)) c.wide-turns.ensures.0) c.push_loop.ensures
