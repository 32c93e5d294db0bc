-- `machine::blocks::push_loop` meets its contract.
use Rattle.machine.proofs.OpenedLaws.{pushes_full, pushes_on}
use Rattle.machine.proofs.blocks.push_loop.Goals as goal

pub returns-then-depth-ge-MAX_DEPTH : goal.returns-then-depth-ge-MAX_DEPTH
returns-then-depth-ge-MAX_DEPTH c =
    let args = c.args in
    pushes_full args.body args.note args.next args.loops.now c.if-depth-ge-MAX_DEPTH.true

pub returns : goal.returns
returns c =
    let args = c.args in
    rw c.within.ensures (pushes_on args.body args.note args.next args.loops.now c.if-depth-ge-MAX_DEPTH.false)
