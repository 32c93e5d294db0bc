-- `machine::rows::block_at` meets its contract.
use mathlib.Core.Logic.{inl, inr}
use native.Mathlib.Omega.{arith}
use Rattle.machine.proofs.CrossLaws.{meets_row}
use Rattle.machine.proofs.rows.block_at.Goals as goal

pub returns-then-row-eq-IF : goal.returns-then-row-eq-IF
returns-then-row-eq-IF c =
    (meets_row c.row_of-row.ensures (omega arith) (omega arith) c.following-next.ensures, inl c.if-row-eq-IF.true)

pub returns-then-row-eq-WHILE : goal.returns-then-row-eq-WHILE
returns-then-row-eq-WHILE c =
    (meets_row c.row_of-row.ensures (omega arith) (omega arith) c.following-next.ensures, inr c.if-row-eq-WHILE.true)

pub returns : goal.returns
returns c =
    (meets_row c.row_of-row.ensures (omega arith) (omega arith) c.following-next.ensures, c.if-row-eq-IF.false, c.if-row-eq-WHILE.false)
