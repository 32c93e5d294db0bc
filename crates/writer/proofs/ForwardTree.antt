-- The rows that the forward pass writes are the forward part of the sheet's marked body.
use Prim.Native.Nat.{ℕ, suc, ◌+◌}
use mathlib.Core.Path.{◌≡◌, refl, sym, ap, ◌∙◌}
use mathlib.Core.Bool.{Bool, true, false}
use mathlib.Core.List.{List, [], ◌∷◌, ◌++◌, append_assoc, append-nil}
use lib.ListN.{get_or}
use native.Mathlib.Omega.{arith}
use Rattle.sheet.specs.Tree.{loop_by, Tree, done, one, fork, again, basic, if_line, else_line, end_if, repeat, end_repeat, flat, rows, RowNumber}
use Rattle.sheet.specs.Rows.{Assignment, Test, SheetLine, Row, sheet_row_of, row_of, row_of_test, tree_rows}
use Rattle.sheet.specs.Inner.RowLines.{numbered_row}
use Rattle.sheet.specs.Sheets.{rows_at}
use Rattle.sheet.proofs.RowsByNumber.{StandsAt, tree_stands, stands_after}
use Rattle.sets.specs.Marks.{Marked, test_at, numbered}
use Rattle.table.specs.TableRows.{Table, table_row_of, row_of_action, row_of_table_test, whether, save_turn, turning}
use Rattle.table.specs.Adjoint.{put, forward_part}
use Rattle.table.specs.Inner.MarkedRows.{row_with, rows_in, forward_of_line, Noted}
use Rattle.table.proofs.AssignmentRows.{rows_of_put, rows_of_done, none_before}
use Rattle.table.proofs.LineRows.{loop_forward}
use Rattle.table.proofs.MarkedAssignment.{marked_forward}
use Rattle.writer.specs.Inner.RowsWritten.{rows_along, forward_rows}
use Rattle.writer.proofs.PassOver.{along_step}
use Rattle.writer.proofs.TableTree.{fork_before, again_before}

turn_before : (row : RowNumber) (first : Bool) (after : List Row)
    → rows_in (put row turning (save_turn first) done) ++ after ≡ row_of_action (save_turn first) ∷ after
turn_before row first after = rw (rows_of_put row turning (save_turn first) done, rows_of_done)

module _ (words : List ℕ) (first : ℕ) (marks came goes : List ℕ) (mark : ℕ → Assignment → Marked) where
  forward_step : (l : SheetLine) (p n c : ℕ) → c ≡ suc n → numbered_row words first p ≡ sheet_row_of l
      → forward_rows words first marks p c ≡ forward_of_line (get_or marks p 0) l ++ forward_rows words first marks (suc p) n
  forward_step = along_step forward_of_line words first marks

  -- a tree's rows, then those of `rest` and `after`
  forward_tree : (t : Tree Assignment Test) (ls : List SheetLine) (rest : Table) (after : List Row) (p n c e : ℕ)
      → c ≡ rows t + n → e ≡ p + rows t → StandsAt words first (flat t ls) p → Noted marks came goes mark t p
      → forward_rows words first marks e n ≡ rows_in rest ++ after
      → forward_rows words first marks p c ≡ rows_in (forward_part (numbered mark t p) rest) ++ after
  unfolding StandsAt Noted flat rows forward_part numbered forward_of_line row_of_test table_row_of row_of row_of_action row_of_table_test
  forward_tree done ls rest after p n c e hc he s w h =
      let same : c ≡ n = omega arith in
      let here : e ≡ p = omega arith in
      rw same (rw here at h)
  forward_tree (one b k) ls rest after p n c e hc he s w h =
      let next = forward_tree k ls rest after (suc p) n (rows k + n) e refl (omega arith) s.1 w.1 h in
      forward_step (basic b) p (rows k + n) c (omega arith) s.0 ∙ ap (λ rs. forward_of_line (get_or marks p 0) (basic b) ++ rs) next
      ∙ sym (ap (λ rs. rs ++ after) (marked_forward w.0 (forward_part (numbered mark k (suc p)) rest))
      ∙ append_assoc (forward_of_line (get_or marks p 0) (basic b)) (rows_in (forward_part (numbered mark k (suc p)) rest)) after)
  forward_tree (fork f a b k) ls rest after p n c e hc he s w h =
      let split = suc p + rows a in
      let end = suc split + rows b in
      let second = rows b + suc (rows k + n) in
      let K = forward_part (numbered mark k (suc end)) rest in
      let B = forward_part (numbered mark b (suc split)) (put (record { index = p }) turning (save_turn false) done) in
      let A = forward_part (numbered mark a (suc p)) (put (record { index = p }) turning (save_turn true) done) in
      let at_split = stands_after words first a (else_line ∷ flat b (end_if ∷ flat k ls)) (suc p) refl s.1 in
      let at_end = stands_after words first b (end_if ∷ flat k ls) (suc split) refl at_split.1 in
      let what_follows = forward_tree k ls rest after (suc end) n (rows k + n) e refl (omega arith) at_end.1 w.1.1.1 h in
      let ended =
      forward_step end_if end (rows k + n) (suc (rows k + n)) refl at_end.0
      ∙ ap (λ rs. row_with 14 0 0 0 ∷ row_with 9 0 0 0 ∷ rs) what_follows
      ∙ sym (turn_before (record { index = p }) false (row_with 9 0 0 0 ∷ (rows_in K ++ after))) in
      let second_branch =
      forward_tree b (end_if ∷ flat k ls) (put (record { index = p }) turning (save_turn false) done) (row_with 9 0 0 0 ∷ (rows_in K ++ after))
      (suc split) (suc (rows k + n)) second end refl refl at_split.1 w.1.1.0 ended in
      let splitted =
      forward_step else_line split second (suc second) refl at_split.0
      ∙ ap (λ rs. row_with 14 0 1 0 ∷ row_with 8 0 0 0 ∷ rs) second_branch
      ∙ sym (turn_before (record { index = p }) true (row_with 8 0 0 0 ∷ (rows_in B ++ (row_with 9 0 0 0 ∷ (rows_in K ++ after))))) in
      let first_branch =
      forward_tree a (else_line ∷ flat b (end_if ∷ flat k ls)) (put (record { index = p }) turning (save_turn true) done)
      (row_with 8 0 0 0 ∷ (rows_in B ++ (row_with 9 0 0 0 ∷ (rows_in K ++ after))))
      (suc p) (suc second) (rows a + suc second) split refl refl s.1 w.1.0 splitted in
      forward_step (if_line f) p (rows a + suc second) c (omega arith) s.0 ∙ ap (λ rs. row_of_test f ∷ rs) first_branch
      ∙ sym (fork_before (whether f) A B K after)
  forward_tree (again m a k) ls rest after p n c e hc he s w h =
      let end = suc p + rows a in
      let K = forward_part (numbered mark k (suc end)) rest in
      let at_end = stands_after words first a (end_repeat ∷ flat k ls) (suc p) refl s.1 in
      let what_follows = forward_tree k ls rest after (suc end) n (rows k + n) e refl (omega arith) at_end.1 w.1.1 h in
      let ended =
      forward_step end_repeat end (rows k + n) (suc (rows k + n)) refl at_end.0 ∙ ap (λ rs. row_with 11 0 0 0 ∷ rs) what_follows
      ∙ sym (none_before (row_with 11 0 0 0 ∷ (rows_in K ++ after))) in
      let body =
      forward_tree a (end_repeat ∷ flat k ls) done (row_with 11 0 0 0 ∷ (rows_in K ++ after))
      (suc p) (suc (rows k + n)) (rows a + suc (rows k + n)) end refl refl s.1 w.1.0 ended in
      forward_step (repeat m) p (rows a + suc (rows k + n)) c (omega arith) s.0 ∙ ap (λ rs. sheet_row_of (repeat m) ∷ rs) body
      ∙ ap (λ r. r ∷ (rows_in (forward_part (numbered mark a (suc p)) done) ++ (row_with 11 0 0 0 ∷ (rows_in K ++ after)))) (sym (loop_forward p m))
      ∙ sym (again_before (loop_by (λ f. whether f.test) (loop_by (test_at p) m)) (forward_part (numbered mark a (suc p)) done) K after)

  forward_end : (e : ℕ) → forward_rows words first marks e 0 ≡ rows_in done ++ []
  unfolding rows_along
  forward_end e = sym (none_before [])

  -- all rows
  pub forward_is_forward_part : (n : ℕ) (t : Tree Assignment Test) → tree_rows t ≡ rows_at words first n → n ≡ rows t
      → Noted marks came goes mark t 0 → forward_rows words first marks 0 n ≡ rows_in (forward_part (numbered mark t 0) done)
  forward_is_forward_part n t says counted noted =
      forward_tree t [] done [] 0 0 n n (omega arith) (omega arith) (tree_stands words first n t says) noted (forward_end n)
      ∙ append-nil (rows_in (forward_part (numbered mark t 0) done))
