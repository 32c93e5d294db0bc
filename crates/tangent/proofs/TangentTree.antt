-- The rows that the pass writes are the tangent table of the sheet's marked body; and how many they are at most.
use Prim.Native.Nat.{ℕ, suc, ◌+◌, ◌*◌, ◌≤◌}
use mathlib.Core.Path.{◌≡◌, refl, sym, ap, ◌∙◌}
use mathlib.Core.Bool.{Bool, true, false, cond}
use mathlib.Core.List.{List, [], ◌∷◌, ◌++◌, append_assoc, append-nil}
use lib.ListN.{get_or}
use native.Mathlib.Omega.{arith}
use Rattle.sheet.specs.Tree.{loop_by, Tree, done, one, fork, again, basic, if_line, else_line, end_if, repeat, end_repeat, flat, rows}
use Rattle.sheet.specs.Rows.{Assignment, Test, Source, copy, fixed, sum, difference, product, negation, quotient, SheetLine, Row, sheet_row_of, row_of, row_of_test, tree_rows}
use Rattle.sheet.specs.Inner.RowLines.{numbered_row, source_of}
use Rattle.sheet.specs.Sheets.{rows_at}
use Rattle.sheet.proofs.RowsByNumber.{StandsAt, tree_stands, stands_after}
use Rattle.sets.specs.Transfers.{Activity}
use Rattle.sets.specs.Marks.{Marked, test_at, numbered}
use Rattle.table.specs.TableRows.{row_of_table_test, whether}
use Rattle.table.specs.Adjoint.{Body}
use Rattle.table.specs.Inner.MarkedRows.{row_with, rows_in, Noted}
use Rattle.table.proofs.AssignmentRows.{none_before}
use Rattle.table.proofs.LineRows.{loop_forward}
use Rattle.table.proofs.TableBounds.{row_counted}
use Rattle.writer.specs.Inner.RowsWritten.{rows_along}
use Rattle.writer.proofs.TableTree.{fork_before, again_before}
use Rattle.writer.proofs.PassOver.{along_step}
use Rattle.tangent.specs.Tangent.{tangent_table, rate_count}
use Rattle.tangent.specs.Inner.TangentPlans.{most_rates, most_line_count, quotient_count}
use Rattle.tangent.specs.Inner.TangentRowsWritten.{tangent_of_line}
use Rattle.tangent.proofs.TangentLines.{marked_tangent, assignment_counted}

module _ (v : ℕ) (words : List ℕ) (first : ℕ) (marks came goes : List ℕ) (mark : ℕ → Assignment → Marked) where
  abbrev along : (p count : ℕ) → List Row
  along = rows_along (tangent_of_line v) words first marks

  step : (l : SheetLine) (p n c : ℕ) → c ≡ suc n → numbered_row words first p ≡ sheet_row_of l
      → along p c ≡ tangent_of_line v (get_or marks p 0) l ++ along (suc p) n
  step = along_step (tangent_of_line v) words first marks

  -- a tree's rows, then those of what follows
  tangent_tree : (t : Tree Assignment Test) (ls : List SheetLine) (p n c e : ℕ) → c ≡ rows t + n → e ≡ p + rows t
      → StandsAt words first (flat t ls) p → Noted marks came goes mark t p
      → along p c ≡ rows_in (tangent_table v (numbered mark t p)) ++ along e n
  unfolding StandsAt Noted flat rows tangent_table numbered tangent_of_line sheet_row_of row_of row_of_test row_of_table_test
  tangent_tree done ls p n c e hc he s w =
      let same : c ≡ n = omega arith in
      let here : e ≡ p = omega arith in
      rw (same, here) (sym (none_before (along p n)))
  tangent_tree (one b k) ls p n c e hc he s w =
      let these = tangent_of_line v (get_or marks p 0) (basic b) in
      let K = tangent_table v (numbered mark k (suc p)) in
      step (basic b) p (rows k + n) c (omega arith) s.0
      ∙ ap (λ rs. these ++ rs) (tangent_tree k ls (suc p) n (rows k + n) e refl (omega arith) s.1 w.1)
      ∙ sym (ap (λ rs. rs ++ along e n) (marked_tangent v w.0 K) ∙ append_assoc these (rows_in K) (along e n))
  tangent_tree (fork f a b k) ls p n c e hc he s w =
      let split = suc p + rows a in
      let end = suc split + rows b in
      let second = rows b + suc (rows k + n) in
      let A = tangent_table v (numbered mark a (suc p)) in
      let B = tangent_table v (numbered mark b (suc split)) in
      let K = tangent_table v (numbered mark k (suc end)) in
      let at_split = stands_after words first a (else_line ∷ flat b (end_if ∷ flat k ls)) (suc p) refl s.1 in
      let at_end = stands_after words first b (end_if ∷ flat k ls) (suc split) refl at_split.1 in
      let ended =
      step end_if end (rows k + n) (suc (rows k + n)) refl at_end.0
      ∙ ap (λ rs. row_with 9 0 0 0 ∷ rs) (tangent_tree k ls (suc end) n (rows k + n) e refl (omega arith) at_end.1 w.1.1.1) in
      let second_branch =
      tangent_tree b (end_if ∷ flat k ls) (suc split) (suc (rows k + n)) second end refl refl at_split.1 w.1.1.0
      ∙ ap (λ rs. rows_in B ++ rs) ended in
      let splitted = step else_line split second (suc second) refl at_split.0 ∙ ap (λ rs. row_with 8 0 0 0 ∷ rs) second_branch in
      let first_branch =
      tangent_tree a (else_line ∷ flat b (end_if ∷ flat k ls)) (suc p) (suc second) (rows a + suc second) split refl refl s.1 w.1.0
      ∙ ap (λ rs. rows_in A ++ rs) splitted in
      step (if_line f) p (rows a + suc second) c (omega arith) s.0 ∙ ap (λ rs. row_of_test f ∷ rs) first_branch
      ∙ sym (fork_before (whether f) A B K (along e n))
  tangent_tree (again l a k) ls p n c e hc he s w =
      let end = suc p + rows a in
      let A = tangent_table v (numbered mark a (suc p)) in
      let K = tangent_table v (numbered mark k (suc end)) in
      let at_end = stands_after words first a (end_repeat ∷ flat k ls) (suc p) refl s.1 in
      let ended =
      step end_repeat end (rows k + n) (suc (rows k + n)) refl at_end.0
      ∙ ap (λ rs. row_with 11 0 0 0 ∷ rs) (tangent_tree k ls (suc end) n (rows k + n) e refl (omega arith) at_end.1 w.1.1) in
      let body =
      tangent_tree a (end_repeat ∷ flat k ls) (suc p) (suc (rows k + n)) (rows a + suc (rows k + n)) end refl refl s.1 w.1.0
      ∙ ap (λ rs. rows_in A ++ rs) ended in
      step (repeat l) p (rows a + suc (rows k + n)) c (omega arith) s.0 ∙ ap (λ rs. sheet_row_of (repeat l) ∷ rs) body
      ∙ ap (λ r. r ∷ (rows_in A ++ (row_with 11 0 0 0 ∷ (rows_in K ++ along e n)))) (sym (loop_forward p l))
      ∙ sym (again_before (loop_by (λ f. whether f.test) (loop_by (test_at p) l)) A K (along e n))

  none_left : (e : ℕ) → along e 0 ≡ []
  unfolding rows_along
  none_left e = refl

  -- all rows
  pub along_is_tangent : (n : ℕ) (t : Tree Assignment Test) → tree_rows t ≡ rows_at words first n → n ≡ rows t → Noted marks came goes mark t 0
      → along 0 n ≡ rows_in (tangent_table v (numbered mark t 0))
  along_is_tangent n t says counted noted =
      let table = rows_in (tangent_table v (numbered mark t 0)) in
      tangent_tree t [] 0 0 n n (omega arith) (omega arith) (tree_stands words first n t says) noted
      ∙ ap (λ rs. table ++ rs) (none_left n) ∙ append-nil table

-- ---- how many they are at most

pub most_rates_lem : (source : Source) (known : Activity) → rate_count source known ≤ most_rates
unfolding rate_count
most_rates_lem (copy a) known = omega arith
most_rates_lem (fixed c) known = omega arith
most_rates_lem (sum a b) known = omega arith
most_rates_lem (difference a b) known = omega arith
most_rates_lem (product a b) known = at_most known.active known.varied_a known.varied_b
  where
    at_most : (active first second : Bool) → cond active (cond first (cond second 3 1) 1) 1 ≤ most_rates
    at_most true true true = omega arith
    at_most true true false = omega arith
    at_most true false second = omega arith
    at_most false first second = omega arith
most_rates_lem (negation a) known = omega arith
most_rates_lem (quotient a b) known = at_most known.active known.varied_a known.varied_b
  where
    at_most : (active first second : Bool) → cond active (quotient_count first second) 1 ≤ most_rates
    at_most true true true = omega arith
    at_most true true false = omega arith
    at_most true false second = omega arith
    at_most false first second = omega arith

pub tangent_rows_bound : (v : ℕ) (t : Body) → rows (tangent_table v t) ≤ most_line_count * rows t
unfolding tangent_table rows
tangent_rows_bound v done = omega arith
tangent_rows_bound v (one m k) =
    omega (
      arith,
      assignment_counted v 1 rows row_counted m m.assignment refl (tangent_table v k),
      most_rates_lem (source_of m.assignment) m.known,
      tangent_rows_bound v k,
    )
tangent_rows_bound v (fork f a b k) = omega (arith, tangent_rows_bound v a, tangent_rows_bound v b, tangent_rows_bound v k)
tangent_rows_bound v (again l a k) = omega (arith, tangent_rows_bound v a, tangent_rows_bound v k)
