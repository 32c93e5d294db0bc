-- How many rows a sheet's row has in the table's two parts, and how many all of them have.
use Prim.Native.Nat.{ℕ, zero, suc, ◌+◌, ◌*◌, ◌-◌, ◌≤◌, ◌<◌}
use mathlib.Core.Path.{◌≡◌, refl, ap, ◌∙◌}
use mathlib.Core.Bool.{Bool, true, false, cond, not, ◌&&◌, ◌||◌}
use mathlib.Core.List.{List, [], ◌∷◌, ◌++◌}
use mir.Val.{bool_byte as from_bool}
use lib.ListN.{length, length-append, get_or}
use lib.Dec.{eqb}
use native.Mathlib.Decide.{ℕ_discrete}
use native.Mathlib.Omega.{arith}
use Rattle.sheet.specs.Rows.{Row, quotient_kind}
use Rattle.sheet.specs.Inner.RowLines.{line_of_row, numbered_row}
use Rattle.sheet.specs.declared.kinds.Part.{Part}
use Rattle.table.specs.Inner.MarkedRows.{row_if, known_by, saved_by, Assigns, SaysPart, part_rows, derivatives_of, assignment_back, forward_of_line, backward_of_line, both_parts, count_rows}
use Rattle.table.proofs.AssignmentRows.{constant_rows, copy_rows, negation_rows, two_rows, product_rows, quotient_rows, active_rows, inactive_rows, assignment_rows}
use Rattle.table.proofs.LineRows.{forward_for, forward_by, backward_for, backward_by}

one_if : (b : Bool) (r : Row) → length (row_if b r) ≡ from_bool b
one_if true r = refl
one_if false r = refl

-- whether an operand names a varied variable: a constant has none, and a sum, a difference, a product and a quotient have two
abbrev pub first_of : (kind : ℕ) (first : Bool) → ℕ
first_of kind first = from_bool (not (eqb kind 2) && first)

abbrev pub second_of : (kind : ℕ) (second : Bool) → ℕ
second_of kind second = from_bool ((((eqb kind 3 || eqb kind 4) || eqb kind 5) || eqb kind quotient_kind) && second)

-- each has one row of the parts, and in a product two; in a quotient the first has one and the second three, after one for both
abbrev pub part_count : (kind : ℕ) (first second : ℕ) → ℕ
part_count kind first second = cond (eqb kind 5) (2 * (first + second)) (cond (eqb kind quotient_kind) (1 + first + 3 * second) (first + second))

module _ (v : ℕ) (r : Row) (mark : ℕ) where
  pub parts_counted : {first second : Bool} → first ≡ (known_by mark).varied_a → second ≡ (known_by mark).varied_b → Assigns r.kind
      → length (part_rows v r mark) ≡ part_count r.kind (first_of r.kind first) (second_of r.kind second)
  parts_counted {first} {second} a_is b_is assigns = either (ℕ_discrete r.kind quotient_kind)
    where
      Count : ℕ → Type 0
      Count kind = length (part_rows v r mark) ≡ part_count kind (first_of kind first) (second_of kind second)

      by : (kind : ℕ) → r.kind ≡ kind → 1 ≤ kind → kind ≤ 6 → Count kind
      by zero e l h = absurd (omega arith)
      by (suc zero) e l h = ap length (copy_rows v r mark a_is refl e) ∙ one_if first _ ∙ omega arith
      by (suc (suc zero)) e l h = ap length (constant_rows v r mark e)
      by (suc (suc (suc zero))) e l h =
          ap length (two_rows v r mark a_is b_is refl (omega arith, omega arith)) ∙ simp (length-append, one_if)
      by (suc (suc (suc (suc zero)))) e l h =
          ap length (two_rows v r mark a_is b_is refl (omega arith, omega arith)) ∙ simp (length-append, one_if)
      by (suc (suc (suc (suc (suc zero))))) e l h =
          ap length (product_rows v r mark a_is b_is e) ∙ simp (length-append, one_if) (omega arith)
      by (suc (suc (suc (suc (suc (suc zero)))))) e l h = ap length (negation_rows v r mark a_is refl e) ∙ one_if first _ ∙ omega arith
      by (suc (suc (suc (suc (suc (suc (suc k))))))) e l h = absurd (omega arith)

      quotient : (kind : ℕ) → r.kind ≡ kind → kind ≡ quotient_kind → Count kind
      quotient kind e divides = rw divides (ap length (quotient_rows v r mark a_is b_is (e ∙ divides)) ∙ simp (length-append, one_if) (omega arith))

      either : Dec (r.kind ≡ quotient_kind) → Count r.kind
      either (yes e) = quotient r.kind refl e
      either (no other) = by r.kind refl assigns.some (assigns.most other)

  -- an assignment's rows backward: the take back if it is saved, two more where it is active
  module _ {saved : Bool} (is_saved : saved ≡ saved_by mark) where
    taken_count : length (assignment_back v r mark) ≡ from_bool saved + length (derivatives_of v r mark)
    taken_count = ap length (assignment_rows v r mark is_saved) ∙ simp (length-append, one_if)

    pub active_count : (known_by mark).active ≡ true → length (assignment_back v r mark) ≡ from_bool saved + (2 + length (part_rows v r mark))
    active_count e = omega (arith, taken_count, ap length (active_rows v r mark refl e))

    pub inactive_count : (known_by mark).active ≡ false → length (assignment_back v r mark) ≡ from_bool saved + 1
    inactive_count e = omega (arith, taken_count, ap length (inactive_rows v r mark e))

-- ---- both parts

both_length : (v mark : ℕ) (r : Row)
    → length (both_parts v mark (line_of_row r)) ≡ length (forward_of_line mark (line_of_row r)) + length (backward_of_line v mark 0 (line_of_row r))
both_length v mark r = length-append (forward_of_line mark (line_of_row r)) (backward_of_line v mark 0 (line_of_row r))

pub both_by : {r : Row} {p q : Part} → SaysPart r p → p ≡ q → (v mark : ℕ) {saved : Bool} → saved ≡ saved_by mark
    → length (both_parts v mark (line_of_row r)) ≡ length (forward_for q saved r) + length (backward_for v mark 0 q r)
both_by {r} s told v mark e = both_length v mark r ∙ rw (forward_by s told mark e, backward_by s told v mark 0)

pub saved_first : (saved : Bool) (first r : Row) → length (row_if saved first ++ (r ∷ [])) ≡ from_bool saved + 1
saved_first saved first r = simp (length-append, one_if)

-- ---- all rows

-- a pass over the rows: what it has counted and what is left make up the whole
module _ (v : ℕ) (words : List ℕ) (first : ℕ) (marks : List ℕ) (p rows sum : ℕ) {total : ℕ}
    (whole : sum + count_rows v words first marks p (rows - p) ≡ total) where
  pub count_more : {more : ℕ} {r : Row} → p < rows → r ≡ numbered_row words first p → more ≡ length (both_parts v (get_or marks p 0) (line_of_row r))
      → sum + more + count_rows v words first marks (p + 1) (rows - (p + 1)) ≡ total
  unfolding count_rows
  count_more h is counted =
      let next : p + 1 ≡ suc p = omega arith in
      let left : rows - p ≡ suc (rows - suc p) = omega arith in
      rw next (omega (arith, rw left at whole, counted, ap (λ r. length (both_parts v (get_or marks p 0) (line_of_row r))) is))

  pub count_done : rows ≤ p → sum ≡ total
  unfolding count_rows
  count_done h = let none : rows - p ≡ 0 = omega arith in omega (arith, rw none at whole)
