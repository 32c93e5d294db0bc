-- The rows that the backward walk writes are the backward part of the sheet's marked body.
use Prim.Native.Nat.{ℕ, suc, ◌+◌, ◌-◌}
use mathlib.Core.Path.{◌≡◌, refl, sym, ap, ◌∙◌}
use mathlib.Core.List.{List, [], ◌∷◌, ◌++◌, append_assoc, append-nil}
use lib.ListN.{get_or}
use native.Mathlib.Omega.{arith}
use Rattle.sheet.specs.Tree.{Loop, times, while, loop_by, Tree, done, one, fork, again, basic, if_line, else_line, end_if, repeat, end_repeat, flat, rows}
use Rattle.sheet.specs.Rows.{Assignment, Test, less, SheetLine, Row, sheet_row_of, row_of, tree_rows}
use Rattle.sheet.specs.Inner.RowLines.{line_of_row}
use Rattle.sheet.specs.Inner.Kinds.{part_of}
use Rattle.sheet.specs.declared.kinds.Part.TheVariants as part
use Rattle.sheet.specs.Sheets.{rows_at}
use Rattle.sheet.proofs.RowsBack.{line_back}
use Rattle.sheet.proofs.RowsByNumber.{StandsAt, tree_stands, stands_after}
use Rattle.sets.specs.Marks.{Marked, test_at, numbered}
use Rattle.table.specs.TableRows.{Table, table_row_of, row_of_table_test, on_turn}
use Rattle.table.specs.Adjoint.{backward_of, backward_part}
use Rattle.table.specs.Inner.MarkedRows.{row_with, rows_in, loop_back, backward_of_line, Noted}
use Rattle.table.proofs.AssignmentRows.{none_before}
use Rattle.table.proofs.LineRows.{turns_said, loop_backward}
use Rattle.table.proofs.MarkedAssignment.{marked_backward}
use Rattle.writer.specs.Inner.RowsWritten.{step_back, turns_said_by, turns_back, Handed, row_of_number, backward_at, way_back, backward_rows}
use Rattle.writer.proofs.BackwardOver.{backward_turn}
use Rattle.writer.proofs.TableTree.{fork_before, again_before}

module _ (given : Handed) (mark : ℕ → Assignment → Marked) where
  -- a line's rows at row q
  abbrev rows_at_row : (q : ℕ) → SheetLine → List Row
  rows_at_row q l =
      backward_of_line given.variables (get_or given.marks q 0) (turns_back given.words given.first given.goes q (part_of l)) l

  -- these, then those from `next` on
  backward_step : (l : SheetLine) (q next n : ℕ) → row_of_number given q ≡ sheet_row_of l
      → step_back given.came given.goes q (part_of l) ≡ next
      → backward_rows given (suc n) (suc q) ≡ rows_at_row q l ++ backward_rows given n next
  backward_step l q next n stands goes =
      let here : suc q - 1 ≡ q = omega arith in
      backward_turn given n (suc q)
      ∙ ap (λ p. backward_at given p ++ backward_rows given n (way_back given p)) here
      ∙ ap (λ line. rows_at_row q line ++ backward_rows given n (step_back given.came given.goes q (part_of line))) (ap line_of_row stands ∙ line_back l)
      ∙ ap (λ p. rows_at_row q l ++ backward_rows given n p) goes

  turns_said_lem : (l : Loop Test) → turns_said_by (sheet_row_of (repeat l)) ≡ turns_said l
  unfolding sheet_row_of
  turns_said_lem (times m) = refl
  turns_said_lem (while (less a b) m) = refl

  -- an "end repeat" at row q whose loop opens at row p becomes that loop's first row
  repeat_back : (l : Loop Test) (p q : ℕ) → get_or given.goes q 0 ≡ p → row_of_number given p ≡ sheet_row_of (repeat l)
      → rows_at_row q end_repeat ≡ table_row_of (repeat (loop_by (λ f. on_turn) (loop_by (test_at p) l))) ∷ []
  unfolding backward_of_line turns_back
  repeat_back l p q opens stands =
      ap (λ n. loop_back n ∷ []) (ap (λ x. turns_said_by (row_of_number given x)) opens ∙ ap turns_said_by stands ∙ turns_said_lem l)
      ∙ ap (λ r. r ∷ []) (sym (loop_backward p l))

  -- a tree's rows, walked from its end, then those of `rest` and `after`
  backward_tree : (t : Tree Assignment Test) (ls : List SheetLine) (rest : Table) (after : List Row) (p n c e : ℕ)
      → c ≡ rows t + n → e ≡ p + rows t → StandsAt given.words given.first (flat t ls) p
      → Noted given.marks given.came given.goes mark t p
      → backward_rows given n p ≡ rows_in rest ++ after
      → backward_rows given c e ≡ rows_in (backward_part given.variables (numbered mark t p) rest) ++ after
  unfolding StandsAt Noted flat rows backward_part numbered backward_of_line table_row_of row_of row_of_table_test step_back sheet_row_of
  backward_tree done ls rest after p n c e hc he s w h =
      let same : c ≡ n = omega arith in
      let here : e ≡ p = omega arith in
      rw (same, here) h
  backward_tree (one b k) ls rest after p n c e hc he s w h =
      let v = given.variables in
      let m = mark p b in
      let this = backward_of v m.assignment m.row m.known m.saved rest in
      let turns = turns_back given.words given.first given.goes p part.Assignment in
      let rs = backward_of_line v (get_or given.marks p 0) turns (basic b) in
      let row =
      backward_step (basic b) p p n s.0 refl ∙ ap (λ l. rs ++ l) h
      ∙ sym (append_assoc rs (rows_in rest) after) ∙ ap (λ l. l ++ after) (sym (marked_backward v w.0 turns rest)) in
      backward_tree k ls this after (suc p) (suc n) c e (omega arith) (omega arith) s.1 w.1 row
  backward_tree (fork f a b k) ls rest after p n c e hc he s w h =
      let v = given.variables in
      let split = suc p + rows a in
      let end = suc split + rows b in
      let A = backward_part v (numbered mark a (suc p)) done in
      let B = backward_part v (numbered mark b (suc split)) done in
      let partners = w.0 in
      let at_split = stands_after given.words given.first a (else_line ∷ flat b (end_if ∷ flat k ls)) (suc p) refl s.1 in
      let at_end = stands_after given.words given.first b (end_if ∷ flat k ls) (suc split) refl at_split.1 in
      let last = row_with 9 0 0 0 ∷ (rows_in rest ++ after) in
      let middle = row_with 8 0 0 0 ∷ (rows_in B ++ last) in
      let else_row = backward_step else_line split p n at_split.0 partners.else_came ∙ ap (λ l. row_with 9 0 0 0 ∷ l) h ∙ sym (none_before last) in
      let second_branch =
      backward_tree b (end_if ∷ flat k ls) done last (suc split) (suc n) (rows b + suc n) end refl refl at_split.1 w.1.1.0 else_row in
      let if_row =
      backward_step (if_line f) p end (rows b + suc n) s.0
      (ap (λ x. get_or given.goes x 0) partners.if_goes ∙ partners.else_goes)
      ∙ ap (λ l. row_with 8 0 0 0 ∷ l) second_branch ∙ sym (none_before middle) in
      let first_branch =
      backward_tree a (else_line ∷ flat b (end_if ∷ flat k ls)) done middle (suc p) (suc (rows b + suc n)) (rows a + suc (rows b + suc n)) split
      refl refl s.1 w.1.0 if_row in
      let end_row =
      backward_step end_if end split (rows a + suc (rows b + suc n)) at_end.0 partners.end_came ∙ ap (λ l. row_with 15 0 0 0 ∷ l) first_branch
      ∙ sym (fork_before on_turn A B rest after) in
      backward_tree k ls (fork on_turn A B rest) after (suc end) (suc (rows a + suc (rows b + suc n))) c e (omega arith) (omega arith) at_end.1
      w.1.1.1 end_row
  backward_tree (again m a k) ls rest after p n c e hc he s w h =
      let v = given.variables in
      let loop = loop_by (λ f. on_turn) (loop_by (test_at p) m) in
      let end = suc p + rows a in
      let A = backward_part v (numbered mark a (suc p)) done in
      let at_end = stands_after given.words given.first a (end_repeat ∷ flat k ls) (suc p) refl s.1 in
      let last = row_with 11 0 0 0 ∷ (rows_in rest ++ after) in
      let repeat_row = backward_step (repeat m) p p n s.0 refl ∙ ap (λ l. row_with 11 0 0 0 ∷ l) h ∙ sym (none_before last) in
      let body = backward_tree a (end_repeat ∷ flat k ls) done last (suc p) (suc n) (rows a + suc n) end refl refl s.1 w.1.0 repeat_row in
      let end_row =
      backward_step end_repeat end end (rows a + suc n) at_end.0 refl
      ∙ ap (λ l. l ++ backward_rows given (rows a + suc n) end) (repeat_back m p end w.0.end_goes s.0)
      ∙ ap (λ l. table_row_of (repeat loop) ∷ l) body ∙ sym (again_before loop A rest after) in
      backward_tree k ls (again loop A rest) after (suc end) (suc (rows a + suc n)) c e (omega arith) (omega arith) at_end.1 w.1.1 end_row

  backward_end : (e : ℕ) → backward_rows given 0 e ≡ rows_in done ++ []
  unfolding backward_rows
  backward_end e = sym (none_before [])

  -- all rows
  pub backward_is_backward_part : (tree : Tree Assignment Test) → tree_rows tree ≡ rows_at given.words given.first given.rows
      → given.rows ≡ rows tree → Noted given.marks given.came given.goes mark tree 0
      → backward_rows given given.rows given.rows ≡ rows_in (backward_part given.variables (numbered mark tree 0) done)
  backward_is_backward_part tree says counted noted =
      backward_tree tree [] done [] 0 0 given.rows given.rows (omega arith) (omega arith)
      (tree_stands given.words given.first given.rows tree says) noted (backward_end 0)
      ∙ append-nil (rows_in (backward_part given.variables (numbered mark tree 0) done))
