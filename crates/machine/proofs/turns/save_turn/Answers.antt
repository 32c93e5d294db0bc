-- `machine::turns::save_turn` meets its contract, in either arithmetic.
use Rattle.machine.proofs.RowLaws.{in_both, saves_turn}
use Rattle.machine.proofs.turns.save_turn.Goals as goal

pub returns : goal.returns
returns c =
    in_both (λ A. saves_turn c.put_away.ensures c.word_of.ensures)
