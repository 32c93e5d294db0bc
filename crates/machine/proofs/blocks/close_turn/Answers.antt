-- `machine::blocks::close_turn` meets its contract.
use Prim.Native.Nat.{◌-◌}
use native.Mathlib.Omega.{arith}
use Rattle.machine.proofs.OpenedLaws.{closes_none, closes_beyond, closes_out, closes_back}
use Rattle.machine.proofs.blocks.close_turn.Goals as goal

pub returns-then-depth-eq0 : goal.returns-then-depth-eq0
returns-then-depth-eq0 c =
    let args = c.args in
    closes_none args.next args.loops.now c.if-depth-eq0.true

pub returns-then-top-ge-MAX_DEPTH : goal.returns-then-top-ge-MAX_DEPTH
returns-then-top-ge-MAX_DEPTH c =
    let args = c.args in
    closes_beyond args.next args.loops.now (omega (arith, c.if-top-ge-MAX_DEPTH.true, c.if-depth-eq0.false))

pub returns-then-note-lt2 : goal.returns-then-note-lt2
returns-then-note-lt2 c =
    let args = c.args in
    rw c.within.ensures
    (closes_out args.next args.loops.now (args.next.depth - 1) (omega (arith, c.if-depth-eq0.false))
    c.if-note-lt2.true)

pub returns : goal.returns
returns c =
    let args = c.args in
    rw c.moved.ensures
    (closes_back args.next args.loops.now (args.next.depth - 1) (omega (arith, c.if-depth-eq0.false))
    (omega (arith, c.if-note-lt2.false)))
