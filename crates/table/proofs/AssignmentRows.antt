-- The table rows of one assignment, as the rows that the code puts one after another.
use Prim.Native.Nat.{ℕ, ◌+◌, ◌≤◌}
use mathlib.Core.Path.{◌≡◌, refl, ap, ◌∙◌}
use mathlib.Core.Bool.{Bool, true, false}
use mathlib.Core.List.{List, [], ◌∷◌, ◌++◌, append_assoc}
use native.Mathlib.Decide.{ℕ_discrete}
use native.Mathlib.Omega.{arith}
use Rattle.sheet.specs.Tree.{flat, done, RowNumber}
use Rattle.sheet.specs.Rows.{Row, kind_of, row_of, row_of_assignment, quotient_kind}
use Rattle.sheet.specs.Inner.RowLines.{line_of_row}
use Rattle.table.specs.TableRows.{t, Table, Action, Operation, lines_of, table_row_of, row_of_action}
use Rattle.table.specs.Adjoint.{put, put_if, parts_of, derivative_rows, backward_of}
use Rattle.table.specs.Inner.MarkedRows.{row_with, row_if, rows_in, known_by, saved_by, any_row, source_of, scaled_rows, divided_rows, part_rows, derivatives_of, assignment_back}

pub rows_of_put : (row : RowNumber) (operation : Operation) (action : Action) (rest : Table)
    → rows_in (put row operation action rest) ≡ row_of_action action ∷ rows_in rest
unfolding rows_in lines_of table_row_of flat row_of
rows_of_put row operation action rest = refl

pub rows_of_put_if : (test : Bool) (row : RowNumber) (operation : Operation) (action : Action) (rest : Table)
    → rows_in (put_if test row operation action rest) ≡ row_if test (row_of_action action) ++ rows_in rest
rows_of_put_if true row operation action rest = rows_of_put row operation action rest
rows_of_put_if false row operation action rest = refl

pub rows_of_done : rows_in done ≡ []
unfolding rows_in lines_of table_row_of flat
rows_of_done = refl

pub none_before : (after : List Row) → rows_in done ++ after ≡ after
none_before after = rw rows_of_done

-- the last row of some
last_if : (test : Bool) (row : RowNumber) (operation : Operation) (action : Action)
    → rows_in (put_if test row operation action done) ≡ row_if test (row_of_action action)
last_if true row operation action = rows_of_put row operation action done ∙ ap (λ rs. row_of_action action ∷ rs) rows_of_done
last_if false row operation action = rows_of_done

pub kind_is : (r : Row) (kind : ℕ) → r.kind ≡ kind → r ≡ row_with kind r.d r.a r.b
kind_is r kind e = ap (λ k. row_with k r.d r.a r.b) e

-- ---- the parts, where the code has found t and which operands are varied

module _ (v : ℕ) (r : Row) (mark : ℕ) where
  pub constant_rows : r.kind ≡ 2 → part_rows v r mark ≡ []
  unfolding part_rows source_of line_of_row kind_of parts_of
  constant_rows e = rw (kind_is r 2 e) rows_of_done

  module _ {first : Bool} (varied_a : first ≡ (known_by mark).varied_a) where
    pub copy_rows : {held : ℕ} → held ≡ t v → r.kind ≡ 1 → part_rows v r mark ≡ row_if first (row_with 3 (v + r.a) (v + r.a) held)
    unfolding part_rows source_of line_of_row kind_of parts_of row_of_action row_of_assignment
    copy_rows is_t e = rw (is_t, varied_a, kind_is r 1 e) (last_if (known_by mark).varied_a _ _ _)

    pub negation_rows : {held : ℕ} → held ≡ t v → r.kind ≡ 6 → part_rows v r mark ≡ row_if first (row_with 4 (v + r.a) (v + r.a) held)
    unfolding part_rows source_of line_of_row kind_of parts_of row_of_action row_of_assignment
    negation_rows is_t e = rw (is_t, varied_a, kind_is r 6 e) (last_if (known_by mark).varied_a _ _ _)

    module _ {second : Bool} (varied_b : second ≡ (known_by mark).varied_b) where
      -- a sum and a difference add into ā, and into b̄ do as they do themselves
      pub two_rows : {held : ℕ} → held ≡ t v → (3 ≤ r.kind) × (r.kind ≤ 4)
          → part_rows v r mark ≡ row_if first (row_with 3 (v + r.a) (v + r.a) held) ++ row_if second (row_with r.kind (v + r.b) (v + r.b) held)
      unfolding part_rows source_of line_of_row kind_of parts_of row_of_action row_of_assignment
      two_rows {held} is_t h = by (ℕ_discrete r.kind 3)
        where
          by : Dec (r.kind ≡ 3)
              → part_rows v r mark ≡ row_if first (row_with 3 (v + r.a) (v + r.a) held) ++ row_if second (row_with r.kind (v + r.b) (v + r.b) held)
          by (yes e) = rw (is_t, varied_a, varied_b, kind_is r 3 e, rows_of_put_if (known_by mark).varied_a, last_if (known_by mark).varied_b)
          by (no n) =
              let e : r.kind ≡ 4 = omega arith in
              rw (is_t, varied_a, varied_b, kind_is r 4 e, rows_of_put_if (known_by mark).varied_a, last_if (known_by mark).varied_b)

      pub product_rows : r.kind ≡ 5 → part_rows v r mark ≡ scaled_rows v first r.b r.a ++ scaled_rows v second r.a r.b
      unfolding part_rows source_of line_of_row kind_of parts_of row_of_action row_of_assignment
      product_rows e =
          rw (varied_a, varied_b, kind_is r 5 e, rows_of_put_if (known_by mark).varied_a, rows_of_put_if (known_by mark).varied_a, rows_of_put_if (known_by mark).varied_b)
          (rw (last_if (known_by mark).varied_b) (simp append_assoc))

      pub quotient_rows : r.kind ≡ quotient_kind → part_rows v r mark ≡ divided_rows v first second r.a r.b
      unfolding part_rows source_of line_of_row kind_of parts_of row_of_action row_of_assignment
      quotient_rows e =
          rw (varied_a, varied_b, kind_is r quotient_kind e, rows_of_put, rows_of_put_if (known_by mark).varied_a, rows_of_put_if (known_by mark).varied_b, rows_of_put_if (known_by mark).varied_b)
          (rw (last_if (known_by mark).varied_b))

-- ---- what stands around them

module _ (v : ℕ) (r : Row) (mark : ℕ) where
  pub active_rows : {held : ℕ} → held ≡ t v → (known_by mark).active ≡ true
      → derivatives_of v r mark ≡ row_with 1 held (v + r.d) 0 ∷ row_with 16 (v + r.d) 0 0 ∷ part_rows v r mark
  unfolding derivatives_of derivative_rows part_rows rows_in lines_of table_row_of flat row_of row_of_action row_of_assignment
  active_rows is_t e = rw is_t (ap (λ active. rows_in (derivative_rows v active r.d (source_of r) any_row (known_by mark) done)) e)

  pub inactive_rows : (known_by mark).active ≡ false → derivatives_of v r mark ≡ row_with 16 (v + r.d) 0 0 ∷ []
  unfolding derivatives_of derivative_rows rows_in lines_of table_row_of flat row_of row_of_action
  inactive_rows e = ap (λ active. rows_in (derivative_rows v active r.d (source_of r) any_row (known_by mark) done)) e

  pub assignment_rows : {saved : Bool} → saved ≡ saved_by mark → assignment_back v r mark ≡ row_if saved (row_with 13 r.d 0 0) ++ derivatives_of v r mark
  unfolding assignment_back backward_of derivatives_of row_of_action
  assignment_rows e = rw e (rows_of_put_if (saved_by mark) _ _ _ _)
