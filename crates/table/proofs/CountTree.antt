-- R: the rows counted row by row are the rows of the adjoint table.
use Prim.Native.Nat.{ℕ, suc, ◌+◌}
use mathlib.Core.Path.{◌≡◌, refl, ap, ◌∙◌}
use mathlib.Core.Bool.{true, false}
use mathlib.Core.List.{List, [], ◌∷◌}
use lib.ListN.{length, length-append, get_or}
use native.Mathlib.Omega.{arith}
use Rattle.sheet.specs.Tree.{loop_by, Tree, done, one, fork, again, basic, if_line, else_line, end_if, repeat, end_repeat, flat, rows}
use Rattle.sheet.specs.Rows.{Assignment, Test, SheetLine, sheet_row_of, tree_rows}
use Rattle.sheet.specs.Inner.RowLines.{line_of_row, numbered_row}
use Rattle.sheet.specs.Sheets.{rows_at}
use Rattle.sheet.proofs.RowsBack.{line_back}
use Rattle.sheet.proofs.RowsByNumber.{StandsAt, tree_stands, stands_after, rows_of_tree}
use Rattle.sets.specs.Marks.{Marked, test_at, numbered}
use Rattle.table.specs.TableRows.{Table, save_turn, turning, on_turn, turn_round, of_turning_round}
use Rattle.table.specs.Adjoint.{put, forward_row, forward_part, backward_of, backward_part, adjoint_table}
use Rattle.table.specs.Sizes.{table_rows}
use Rattle.table.specs.Inner.MarkedRows.{rows_in, forward_of_line, backward_of_line, both_parts, count_rows, MarkSays, Noted}
use Rattle.table.proofs.MarkedAssignment.{marked_forward, marked_backward}
use Rattle.table.proofs.TableLength.{table_rows_counted}

forward_count : {byte : ℕ} {b : Assignment} {m : Marked} → MarkSays byte b m → (rest : Table)
    → rows (forward_row m rest) ≡ length (forward_of_line byte (basic b)) + rows rest
forward_count {byte} {b} {m} says rest =
    omega (
      arith,
      table_rows_counted (forward_row m rest),
      table_rows_counted rest,
      ap length (marked_forward says rest),
      length-append (forward_of_line byte (basic b)) (rows_in rest),
    )

backward_count : (v : ℕ) {byte : ℕ} {b : Assignment} {m : Marked} → MarkSays byte b m → (rest : Table)
    → rows (backward_of v m.assignment m.row m.known m.saved rest) ≡ length (backward_of_line v byte 0 (basic b)) + rows rest
backward_count v {byte} {b} {m} says rest =
    omega (
      arith,
      table_rows_counted (backward_of v m.assignment m.row m.known m.saved rest),
      table_rows_counted rest,
      ap length (marked_backward v says 0 rest),
      length-append (backward_of_line v byte 0 (basic b)) (rows_in rest),
    )

module _ (v : ℕ) (words : List ℕ) (first : ℕ) (marks came goes : List ℕ) (mark : ℕ → Assignment → Marked) where
  count_turn : (p n : ℕ) → count_rows v words first marks p (suc n)
      ≡ length (both_parts v (get_or marks p 0) (line_of_row (numbered_row words first p))) + count_rows v words first marks (suc p) n
  unfolding count_rows
  count_turn p n = refl

  count_step : (l : SheetLine) (p n c : ℕ) → c ≡ suc n → numbered_row words first p ≡ sheet_row_of l
      → count_rows v words first marks p c
      ≡ length (forward_of_line (get_or marks p 0) l) + length (backward_of_line v (get_or marks p 0) 0 l) + count_rows v words first marks (suc p) n
  count_step l p n c e stands =
      let mark = get_or marks p 0 in
      let rest = count_rows v words first marks (suc p) n in
      ap (count_rows v words first marks p) e ∙ count_turn p n
      ∙ ap (λ line. length (both_parts v mark line) + rest) (ap line_of_row stands ∙ line_back l)
      ∙ ap (λ k. k + rest) (length-append (forward_of_line mark l) (backward_of_line v mark 0 l))

  count_tree : (t : Tree Assignment Test) (ls : List SheetLine) (after before : Table) (p n c e : ℕ)
      → c ≡ rows t + n → e ≡ p + rows t → StandsAt words first (flat t ls) p → Noted marks came goes mark t p
      → rows (forward_part (numbered mark t p) after) + rows (backward_part v (numbered mark t p) before) + count_rows v words first marks e n
      ≡ count_rows v words first marks p c + rows after + rows before
  unfolding StandsAt Noted flat rows forward_part backward_part numbered forward_of_line backward_of_line
  count_tree done ls after before p n c e hc he s w =
      let same : c ≡ n = omega arith in
      let here : e ≡ p = omega arith in
      rw (same, here) (omega arith)
  count_tree (one b k) ls after before p n c e hc he s w =
      let m = mark p b in
      let this = backward_of v m.assignment m.row m.known m.saved before in
      omega (
        arith,
        count_tree k ls after this (suc p) n (rows k + n) e refl (omega arith) s.1 w.1,
        count_step (basic b) p (rows k + n) c (omega arith) s.0,
        forward_count w.0 (forward_part (numbered mark k (suc p)) after),
        backward_count v w.0 before,
      )
  count_tree (fork f a b k) ls after before p n c e hc he s w =
      let split = suc p + rows a in
      let end = suc split + rows b in
      let second = rows b + suc (rows k + n) in
      let A = backward_part v (numbered mark a (suc p)) done in
      let B = backward_part v (numbered mark b (suc split)) done in
      let at_split = stands_after words first a (else_line ∷ flat b (end_if ∷ flat k ls)) (suc p) refl s.1 in
      let at_end = stands_after words first b (end_if ∷ flat k ls) (suc split) refl at_split.1 in
      omega (
        arith,
        count_step (if_line f) p (rows a + suc second) c (omega arith) s.0,
        count_tree a (else_line ∷ flat b (end_if ∷ flat k ls)) (put (record { index = p }) turning (save_turn true) done) done (suc p) (suc second)
            (rows a + suc second) split refl refl s.1 w.1.0,
        count_step else_line split second (suc second) refl at_split.0,
        count_tree b (end_if ∷ flat k ls) (put (record { index = p }) turning (save_turn false) done) done (suc split) (suc (rows k + n)) second end
            refl refl at_split.1 w.1.1.0,
        count_step end_if end (rows k + n) (suc (rows k + n)) refl at_end.0,
        count_tree k ls after (fork on_turn A B before) (suc end) n (rows k + n) e refl (omega arith) at_end.1 w.1.1.1,
      )
  count_tree (again m a k) ls after before p n c e hc he s w =
      let end = suc p + rows a in
      let A = backward_part v (numbered mark a (suc p)) done in
      let at_end = stands_after words first a (end_repeat ∷ flat k ls) (suc p) refl s.1 in
      omega (
        arith,
        count_step (repeat m) p (rows a + suc (rows k + n)) c (omega arith) s.0,
        count_tree a (end_repeat ∷ flat k ls) done done (suc p) (suc (rows k + n)) (rows a + suc (rows k + n)) end refl refl s.1 w.1.0,
        count_step end_repeat end (rows k + n) (suc (rows k + n)) refl at_end.0,
        count_tree k ls after (again (loop_by (λ f. on_turn) (loop_by (test_at p) m)) A before) (suc end) n (rows k + n) e refl (omega arith) at_end.1 w.1.1,
      )

  count_end : (e : ℕ) → count_rows v words first marks e 0 ≡ 0
  unfolding count_rows
  count_end e = refl

  pub counted_is_table_rows : (n : ℕ) (t : Tree Assignment Test) → tree_rows t ≡ rows_at words first n → Noted marks came goes mark t 0
      → 1 + count_rows v words first marks 0 n ≡ table_rows v (numbered mark t 0)
  unfolding table_rows adjoint_table rows
  counted_is_table_rows n t says noted =
      let counted = rows_of_tree words first n t says in
      let back = backward_part v (numbered mark t 0) done in
      omega (
        arith,
        count_end n,
        count_tree t [] (one (record { origin = of_turning_round; action = turn_round }) back) done 0 0 n n (omega arith) (omega arith)
            (tree_stands words first n t says) noted,
      )
