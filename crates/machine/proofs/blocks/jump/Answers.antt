-- `machine::blocks::jump` meets its contract.
use mathlib.Core.Path.{ap, ◌∙◌}
use Prim.Native.Nat.{ℕ}
use Rattle.machine.specs.Inner.RowSteps.{moved}
use Rattle.machine.proofs.CrossLaws.{jump_goes, jump_nowhere}
use Rattle.machine.proofs.blocks.jump.Goals as goal

pub returns-then-row-beyond : goal.returns-then-row-beyond
returns-then-row-beyond c =
    let args = c.args in
    jump_goes args.beyond.now args.at.0 args.next c.moved.result
    (c.moved.ensures ∙ ap (λ (n : ℕ). moved args.next n) c.wide.ensures.0)

pub returns : goal.returns
returns c =
    let args = c.args in
    jump_nowhere args.beyond.now args.at.0 args.next c.if-row-beyond.false
