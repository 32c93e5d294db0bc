-- `machine::blocks::ask_row` meets its contract, in either arithmetic: an "if" goes by its branch, a loop with a test by its own function.
use mathlib.Core.Path.{refl}
use Rattle.machine.proofs.RowLaws.{in_both, in_both_by}
use Rattle.machine.proofs.blocks.ask_row.Goals as goal

pub returns-then-row-eq-IF : goal.returns-then-row-eq-IF
returns-then-row-eq-IF c =
    in_both (λ A. record { picks = λ _. (c.branch_to.ensures, refl, refl); asks = λ other. absurd (other c.if-row-eq-IF.true) })

pub returns : goal.returns
returns c =
    in_both_by c.ask_loop.ensures (λ A loop. record { picks = λ is. absurd (c.if-row-eq-IF.false is); asks = λ _. loop })
