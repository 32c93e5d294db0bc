-- `machine::blocks::ask_loop` meets its contract, in either arithmetic: into the loop's body, or past it.
use Rattle.machine.proofs.RowLaws.{in_both, in_both_by}
use Rattle.machine.proofs.CrossLaws.{asks_in, asks_out}
use borrow.Author.Rules.{rules}
use Rattle.machine.proofs.blocks.ask_loop.Goals as goal

pub returns-then-left-eq0 : goal.returns-then-left-eq0
returns-then-left-eq0 c =
    in_both_by c.end_loop.ensures
    (λ A ends. asks_out c.pending-now.ensures (λ first. search rules) (rw (c.turns_done-done.ensures, c.within-around.ensures) at ends))

pub returns-in-First : goal.returns-in-First
returns-in-First c =
    in_both (λ A. asks_in c.pending-now.ensures c.in-First.is (search rules) (rw c.within-around.ensures at c.push_loop.ensures))

pub returns-in-Second : goal.returns-in-Second
returns-in-Second c =
    in_both_by c.end_loop-in-Second.ensures
    (λ A ends. asks_out c.pending-now.ensures (λ first. cc) (rw (c.turns_done-done.ensures, c.within-around.ensures) at ends))
