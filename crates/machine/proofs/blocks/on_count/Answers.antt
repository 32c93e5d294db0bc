-- `machine::blocks::on_count` meets its contract, in either arithmetic: no count, none to do, no room for a loop, or one loop more.
use Prim.Native.Nat.{pred}
use mathlib.Core.Path.{sym, ◌∙◌}
use native.Mathlib.Omega.{arith}
use Rattle.machine.proofs.RowLaws.{in_both}
use Rattle.machine.proofs.CrossLaws.{sticks_on, counts_none, counts_past, counts_full, counts_in}
use Rattle.machine.proofs.blocks.on_count.Goals as goal

pub returns-in_err-count : goal.returns-in_err-count
returns-in_err-count c =
    rw (sticks_on c.from_residual.ensures.1) (in_both (λ A. counts_none (rw c.in_err-count.was at c.count_there.ensures)))

pub offset_bounds-turns-top : goal.offset_bounds-turns-top
offset_bounds-turns-top c =
    let top = rw c.in_ok-count.was at c.count_there.ensures in
    omega (arith, top.1)

pub bounds-turns-top : goal.bounds-turns-top
bounds-turns-top c =
    let top = rw c.in_ok-count.was at c.count_there.ensures in
    top.1

pub returns-then-count-eq0 : goal.returns-then-count-eq0
returns-then-count-eq0 c =
    let top = rw c.in_ok-count.was at c.count_there.ensures in
    in_both (λ A. counts_past _ top.0 top.1 (sym top.2 ∙ c.if-count-eq0.true) (rw c.raised.ensures at c.branch_to.ensures))

pub returns-then-next-ge-MAX_DEPTH : goal.returns-then-next-ge-MAX_DEPTH
returns-then-next-ge-MAX_DEPTH c =
    let top = rw c.in_ok-count.was at c.count_there.ensures in
    in_both (λ A. counts_full _ top.0 top.1 (λ none. c.if-count-eq0.false (top.2 ∙ none)) c.if-next-ge-MAX_DEPTH.true)

pub offset_bounds-turns-top-2 : goal.offset_bounds-turns-top-2
offset_bounds-turns-top-2 c =
    let top = rw c.in_ok-count.was at c.count_there.ensures in
    omega (arith, top.1)

pub bounds-turns-top-2 : goal.bounds-turns-top-2
bounds-turns-top-2 c =
    let top = rw c.in_ok-count.was at c.count_there.ensures in
    top.1

pub returns : goal.returns
returns c =
    let top = rw c.in_ok-count.was at c.count_there.ensures in
    in_both (λ A. counts_in _ top.0 top.1 (pred c.in_ok-count.count) (omega (arith, top.2, c.if-count-eq0.false)) c.if-next-ge-MAX_DEPTH.false
    (rw (c.raised-2.ensures, top.2) at c.open_repeat.ensures))
