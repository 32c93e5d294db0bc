-- The rows that the writer puts are the adjoint table's.
use Prim.Native.Nat.{ℕ}
use mathlib.Core.Path.{◌≡◌, sym, ap, ◌∙◌}
use mathlib.Core.Bool.{true, false}
use mathlib.Core.List.{◌∷◌, ◌++◌, append_assoc}
use Rattle.sheet.specs.Tree.{loop_by, Tree, done, one, fork, again}
use Rattle.sheet.specs.Rows.{Assignment, Test, tree_rows}
use Rattle.sheet.specs.Sheets.{rows_at}
use Rattle.sheet.proofs.RowsByNumber.{rows_of_tree}
use Rattle.sets.specs.Marks.{Marked, numbered}
use Rattle.table.specs.TableRows.{Table, TableRow, row_of_action, whether, turn_round, of_turning_round, save_turn, turning}
use Rattle.table.specs.Adjoint.{Body, put, forward_part, backward_part, adjoint_table}
use Rattle.table.specs.Inner.MarkedRows.{row_with, rows_in, Noted}
use Rattle.table.proofs.AssignmentRows.{rows_of_done}
use Rattle.table.proofs.MarkedAssignment.{forward_row_lem}
use Rattle.writer.specs.Inner.RowsWritten.{Handed, whole_rows}
use Rattle.writer.proofs.TableTree.{rows_of_one, rows_of_fork, rows_of_again}
use Rattle.writer.proofs.ForwardTree.{forward_is_forward_part}
use Rattle.writer.proofs.BackwardTree.{backward_is_backward_part}

-- the forward part puts its rows before the rest
forward_before : (t : Body) (rest : Table) → rows_in (forward_part t rest) ≡ rows_in (forward_part t done) ++ rows_in rest
unfolding forward_part
forward_before done rest = sym (ap (λ rs. rs ++ rows_in rest) rows_of_done)
forward_before (one m k) rest =
    rw (forward_row_lem m (forward_part k rest), forward_row_lem m (forward_part k done), forward_before k rest) (simp append_assoc)
forward_before (fork f a b k) rest =
    let A = forward_part a (put f.row turning (save_turn true) done) in
    let B = forward_part b (put f.row turning (save_turn false) done) in
    rw (rows_of_fork (whether f.test) A B (forward_part k rest), rows_of_fork (whether f.test) A B (forward_part k done), forward_before k rest)
    (simp append_assoc)
forward_before (again n a k) rest =
    let loop = loop_by (λ f. whether f.test) n in
    rw (rows_of_again loop (forward_part a done) (forward_part k rest), rows_of_again loop (forward_part a done) (forward_part k done), forward_before k rest)
    (simp append_assoc)

adjoint_rows : (v : ℕ) (t : Body)
    → rows_in (adjoint_table v t) ≡ rows_in (forward_part t done) ++ (row_with 17 0 0 0 ∷ rows_in (backward_part v t done))
unfolding adjoint_table row_of_action
adjoint_rows v t =
    let turning_row : TableRow = record { origin = of_turning_round; action = turn_round } in
    let back = backward_part v t done in
    forward_before t (one turning_row back) ∙ ap (λ rs. rows_in (forward_part t done) ++ rs) (rows_of_one turning_row back)

-- the rows that the writer puts are the adjoint table's
pub whole_is_table : (given : Handed) (mark : ℕ → Assignment → Marked) (t : Tree Assignment Test)
    → tree_rows t ≡ rows_at given.words given.first given.rows → Noted given.marks given.came given.goes mark t 0
    → whole_rows given ≡ rows_in (adjoint_table given.variables (numbered mark t 0))
unfolding whole_rows
whole_is_table given mark t says noted =
    let counted = rows_of_tree given.words given.first given.rows t says in
    rw (
      forward_is_forward_part given.words given.first given.marks given.came given.goes mark given.rows t says counted noted,
      backward_is_backward_part given mark t says counted noted,
    )
    (sym (adjoint_rows given.variables (numbered mark t 0)))
