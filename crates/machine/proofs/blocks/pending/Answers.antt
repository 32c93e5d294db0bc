-- `machine::blocks::pending` meets its contract: by what is noted of the innermost open loop.
use Prim.Native.Nat.{◌-◌, ◌+◌, ◌*◌}
use mathlib.Core.Path.{ap}
use native.Mathlib.Omega.{arith}
use Rattle.machine.proofs.OpenedLaws.{pends_none, pends_beyond, pends_again, pends_first}
use Rattle.machine.proofs.blocks.pending.Goals as goal

pub returns-then-depth-eq0 : goal.returns-then-depth-eq0
returns-then-depth-eq0 c =
    rw c.wide-all.ensures.0 (pends_none (omega arith) c.if-depth-eq0.true)

pub returns-then-top-ge-MAX_DEPTH : goal.returns-then-top-ge-MAX_DEPTH
returns-then-top-ge-MAX_DEPTH c =
    rw c.wide-all.ensures.0 (pends_beyond (omega arith) (omega (arith, c.if-top-ge-MAX_DEPTH.true, c.if-depth-eq0.false)))

pub returns-then-asks-body : goal.returns-then-asks-body
returns-then-asks-body c =
    pends_again (ap (λ n. 2 * n + 1) c.wide-all.ensures.0) (c.args.depth - 1) (omega (arith, c.if-depth-eq0.false)) c.if-asks-body.true

pub returns : goal.returns
returns c =
    rw c.wide-all.ensures.0
    (pends_first (omega arith) (c.args.depth - 1) (omega (arith, c.if-depth-eq0.false)) c.if-asks-body.false)
