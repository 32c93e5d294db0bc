-- `machine::blocks::end_loop` meets its contract, in either arithmetic: by what became of the count.
use Rattle.machine.proofs.RowLaws.{in_both_by}
use Rattle.machine.proofs.CrossLaws.{sticks_on, ends_past, ends_stuck}
use Rattle.machine.proofs.blocks.end_loop.Goals as goal

pub returns-in_err-height : goal.returns-in_err-height
returns-in_err-height c =
    in_both_by c.keep_count.ensures (λ A keeping. ends_stuck keeping c.in_err-height.was (sticks_on c.from_residual.ensures.1))

pub returns : goal.returns
returns c =
    in_both_by c.keep_count.ensures (λ A keeping. ends_past keeping _ c.in_ok-height.was c.raised.ensures c.jump.ensures)
