-- `machine::turns::keep_count` meets its contract, in either arithmetic: by whether counts are kept.
use Rattle.machine.proofs.RowLaws.{in_both, keeps_count, keeps_none}
use Rattle.machine.proofs.turns.keep_count.Goals as goal

pub returns-then-keeps : goal.returns-then-keeps
returns-then-keeps c =
    in_both (λ A. rw c.if-keeps.true (keeps_count c.put_away.ensures))

pub returns : goal.returns
returns c = in_both (λ A. rw c.if-keeps.false keeps_none)
