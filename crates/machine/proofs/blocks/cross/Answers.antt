-- `machine::blocks::cross` meets its contract, in either arithmetic: one law for each kind of row.
use borrow.Author.Rules.{rules}
use Rattle.machine.proofs.RowLaws.{in_both, in_both_by}
use Rattle.machine.proofs.CrossLaws.{else_crosses, end_if_crosses, repeat_crosses, end_repeat_crosses, on_turn_crosses, on_count_crosses, never_crosses}
use Rattle.machine.proofs.blocks.cross.Goals as goal

pub returns-then-kind-eq-ELSE : goal.returns-then-kind-eq-ELSE
returns-then-kind-eq-ELSE c = in_both (λ A. search (else_crosses, rules))

pub returns-then-kind-eq-END_IF : goal.returns-then-kind-eq-END_IF
returns-then-kind-eq-END_IF c = in_both (λ A. search (end_if_crosses, rules))

pub returns-then-kind-eq-REPEAT : goal.returns-then-kind-eq-REPEAT
returns-then-kind-eq-REPEAT c = in_both (λ A. search (repeat_crosses, rules))

pub returns-then-kind-eq-END_REPEAT : goal.returns-then-kind-eq-END_REPEAT
returns-then-kind-eq-END_REPEAT c = in_both (λ A. search (end_repeat_crosses, rules))

pub returns-then-kind-eq-ON_TURN : goal.returns-then-kind-eq-ON_TURN
returns-then-kind-eq-ON_TURN c =
    in_both_by c.test_turn.ensures
    (λ A takes. on_turn_crosses c.if-kind-eq-ON_TURN.true takes c.turn_to.ensures)

pub returns-then-kind-eq-ON_COUNT : goal.returns-then-kind-eq-ON_COUNT
returns-then-kind-eq-ON_COUNT c =
    in_both_by c.on_count.ensures (λ A counts. on_count_crosses c.if-kind-eq-ON_COUNT.true counts)

pub returns : goal.returns
returns c = in_both (λ A. search (never_crosses, rules))
