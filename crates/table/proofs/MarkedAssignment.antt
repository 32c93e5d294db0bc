-- A marked assignment's rows in either part of the table, before the rest: those of its words and its byte of marks.
use Prim.Native.Nat.{ℕ}
use mathlib.Core.Path.{◌≡◌, refl, sym, ap, ◌∙◌}
use mathlib.Core.Bool.{Bool, true, false}
use mathlib.Core.List.{List, [], ◌∷◌, ◌++◌, append_assoc, append-nil}
use Rattle.sheet.specs.Tree.{done, basic, RowNumber}
use Rattle.sheet.specs.Rows.{Assignment, Row, row_of_assignment, ◌≔◌, target_of, Source, copy, fixed, sum, difference, product, negation, quotient}
use Rattle.sets.specs.Marks.{Marked}
use Rattle.sets.specs.Transfers.{Activity}
use Rattle.table.specs.TableRows.{Table, row_of_action, assign, clear, take_back, t, u, adjoint_of}
use Rattle.table.specs.Adjoint.{forward_row, add_into, subtract_from, scaled, scaled_on, divided_by, parts_of, derivative_rows, backward_of}
use Rattle.table.specs.Inner.MarkedRows.{row_with, row_if, rows_in, forward_of_line, MarkSays, backward_of_line, any_row, known_by, saved_by}
use Rattle.table.proofs.AssignmentRows.{rows_of_put, rows_of_put_if, rows_of_done}

-- ---- forward

pub forward_row_lem : (m : Marked) (rest : Table)
    → rows_in (forward_row m rest) ≡ row_if m.saved (row_with 12 (target_of m.assignment) 0 0) ++ (row_of_assignment m.assignment ∷ rows_in rest)
unfolding forward_row row_of_action
forward_row_lem m rest = rw (rows_of_put_if m.saved, rows_of_put)

pub marked_forward : {byte : ℕ} {b : Assignment} {m : Marked} → MarkSays byte b m → (rest : Table)
    → rows_in (forward_row m rest) ≡ forward_of_line byte (basic b) ++ rows_in rest
unfolding forward_of_line
marked_forward {byte} {b} {m} says rest =
    rw (forward_row_lem, says.saved, says.assignment, forward_row_lem, rows_of_done) (simp append_assoc)

-- ---- backward, without the row that they come from

module _ (v : ℕ) where
  part_list : Source → Activity → List Row
  part_list (copy a) known = row_if known.varied_a (row_of_action (add_into v a (t v)))
  part_list (fixed c) known = []
  part_list (sum a b) known = row_if known.varied_a (row_of_action (add_into v a (t v))) ++ row_if known.varied_b (row_of_action (add_into v b (t v)))
  part_list (difference a b) known =
      row_if known.varied_a (row_of_action (add_into v a (t v))) ++ row_if known.varied_b (row_of_action (subtract_from v b (t v)))
  part_list (product a b) known =
      row_if known.varied_a (row_of_action (scaled v b)) ++ (row_if known.varied_a (row_of_action (add_into v a (u v)))
      ++ (row_if known.varied_b (row_of_action (scaled v a)) ++ row_if known.varied_b (row_of_action (add_into v b (u v)))))
  part_list (negation a) known = row_if known.varied_a (row_of_action (subtract_from v a (t v)))
  part_list (quotient a b) known =
      row_of_action (divided_by v (t v) b) ∷ (row_if known.varied_a (row_of_action (add_into v a (u v))) ++ (row_if known.varied_b (row_of_action (scaled_on v a))
      ++ (row_if known.varied_b (row_of_action (divided_by v (u v) b)) ++ row_if known.varied_b (row_of_action (subtract_from v b (u v))))))

  parts_before : (source : Source) (row : RowNumber) (known : Activity) (rest : Table)
      → rows_in (parts_of v source row known rest) ≡ part_list source known ++ rows_in rest
  unfolding parts_of part_list
  parts_before (copy a) row known rest = rw (rows_of_put_if known.varied_a)
  parts_before (fixed c) row known rest = refl
  parts_before (sum a b) row known rest = rw (rows_of_put_if known.varied_a, rows_of_put_if known.varied_b) (simp append_assoc)
  parts_before (difference a b) row known rest = rw (rows_of_put_if known.varied_a, rows_of_put_if known.varied_b) (simp append_assoc)
  parts_before (product a b) row known rest =
      rw (rows_of_put_if known.varied_a, rows_of_put_if known.varied_a, rows_of_put_if known.varied_b, rows_of_put_if known.varied_b)
      (simp append_assoc)
  parts_before (negation a) row known rest = rw (rows_of_put_if known.varied_a)
  parts_before (quotient a b) row known rest =
      rw (rows_of_put, rows_of_put_if known.varied_a, rows_of_put_if known.varied_b, rows_of_put_if known.varied_b, rows_of_put_if known.varied_b)
      (simp append_assoc)

  derivative_list : Bool → ℕ → Source → Activity → List Row
  derivative_list false d source known = row_of_action (clear (adjoint_of v d)) ∷ []
  derivative_list true d source known =
      row_of_action (assign (t v ≔ copy (adjoint_of v d))) ∷ row_of_action (clear (adjoint_of v d)) ∷ part_list source known

  derivative_before : (active : Bool) (d : ℕ) (source : Source) (row : RowNumber) (known : Activity) (rest : Table)
      → rows_in (derivative_rows v active d source row known rest) ≡ derivative_list active d source known ++ rows_in rest
  unfolding derivative_rows derivative_list
  derivative_before false d source row known rest = rows_of_put row _ _ rest
  derivative_before true d source row known rest = rw (rows_of_put, rows_of_put, parts_before source row known rest)

  back_list : Assignment → Activity → Bool → List Row
  back_list (d ≔ source) known saved = row_if saved (row_of_action (take_back d)) ++ derivative_list known.active d source known

  back_before : (b : Assignment) (row : RowNumber) (known : Activity) (saved : Bool) (rest : Table)
      → rows_in (backward_of v b row known saved rest) ≡ back_list b known saved ++ rows_in rest
  unfolding backward_of back_list
  back_before (d ≔ source) row known saved rest =
      rw (rows_of_put_if saved, derivative_before known.active d source row known rest) (simp append_assoc)

  pub marked_backward : {byte : ℕ} {b : Assignment} {m : Marked} → MarkSays byte b m → (turns : ℕ) (rest : Table)
      → rows_in (backward_of v m.assignment m.row m.known m.saved rest) ≡ backward_of_line v byte turns (basic b) ++ rows_in rest
  unfolding backward_of_line
  marked_backward {byte} {b} {m} says turns rest =
      let these = back_list b (known_by byte) (saved_by byte) in
      let alone : rows_in (backward_of v b any_row (known_by byte) (saved_by byte) done) ≡ these =
      back_before b any_row (known_by byte) (saved_by byte) done ∙ ap (λ rs. these ++ rs) rows_of_done ∙ append-nil these in
      back_before m.assignment m.row m.known m.saved rest
      ∙ rw (says.assignment, says.known, says.saved) (ap (λ rs. rs ++ rows_in rest) (sym alone))
