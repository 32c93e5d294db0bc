-- The rate rows of one assignment: as the rows that the code puts one after another, before whatever follows, and how many they are.
use Prim.Native.Nat.{ℕ, ◌+◌, ◌*◌, ◌≤◌}
use mathlib.Core.Path.{◌≡◌, refl, ap, ◌∙◌}
use mathlib.Core.Bool.{Bool, true, false}
use mathlib.Core.List.{[], ◌∷◌, ◌++◌}
use native.Mathlib.Decide.{ℕ_discrete}
use native.Mathlib.Omega.{arith}
use Rattle.sheet.specs.Tree.{flat, done, RowNumber}
use Rattle.sheet.specs.Rows.{◌≔◌, Source, copy, fixed, sum, difference, product, negation, quotient, Row, kind_of, row_of, row_of_assignment, quotient_kind}
use Rattle.sheet.specs.Inner.RowLines.{line_of_row}
use Rattle.sets.specs.Transfers.{Activity}
use Rattle.table.specs.TableRows.{Table, lines_of, table_row_of, row_of_action}
use Rattle.table.specs.Inner.MarkedRows.{row_with, rows_in, known_by, any_row, source_of, Assigns}
use Rattle.table.proofs.AssignmentRows.{kind_is}
use Rattle.table.proofs.TableBounds.{EachRow}
use Rattle.tangent.specs.Tangent.{active_rates, rate_rows, rate_count}
use Rattle.tangent.specs.Inner.TangentRowsWritten.{combined_rate, term_rates, quotient_rates, active_rates_of, rates_of}

abbrev knowing : (varied_a varied_b active : Bool) → Activity
knowing x y z = record { varied_a = x; varied_b = y; active = z }

-- ---- by the operands that are varied

module _ (v d a b : ℕ) where
  sum_rate : (x y z : Bool) → rows_in (active_rates v d (sum a b) any_row (knowing x y z) done) ≡ combined_rate v (row_with 3 d a b) x y 1 ∷ []
  unfolding active_rates rows_in lines_of flat table_row_of row_of row_of_action row_of_assignment
  sum_rate true true z = refl
  sum_rate true false z = refl
  sum_rate false y z = refl

  difference_rate : (x y z : Bool)
      → rows_in (active_rates v d (difference a b) any_row (knowing x y z) done) ≡ combined_rate v (row_with 4 d a b) x y 6 ∷ []
  unfolding active_rates rows_in lines_of flat table_row_of row_of row_of_action row_of_assignment
  difference_rate true true z = refl
  difference_rate true false z = refl
  difference_rate false y z = refl

  product_rates : (x y z : Bool) → rows_in (active_rates v d (product a b) any_row (knowing x y z) done) ≡ term_rates v (row_with 5 d a b) x y
  unfolding active_rates rows_in lines_of flat table_row_of row_of row_of_action row_of_assignment
  product_rates true true z = refl
  product_rates true false z = refl
  product_rates false y z = refl

  quotients_rated : (x y z : Bool) → rows_in (active_rates v d (quotient a b) any_row (knowing x y z) done) ≡ quotient_rates v (row_with quotient_kind d a b) x y
  unfolding active_rates rows_in lines_of flat table_row_of row_of row_of_action row_of_assignment
  quotients_rated true true z = refl
  quotients_rated true false z = refl
  quotients_rated false y z = refl

-- ---- by what the code has found of the row

none_left : (kind : ℕ) → 1 ≤ kind → kind ≤ 6 → (kind ≡ 1 → ⊥) → (kind ≡ 2 → ⊥) → (kind ≡ 3 → ⊥) → (kind ≡ 4 → ⊥) → (kind ≡ 5 → ⊥) → (kind ≡ 6 → ⊥) → ⊥
none_left kind some most n1 n2 n3 n4 n5 n6 = omega arith

module _ (v : ℕ) (r : Row) (mark : ℕ) where
  pub of_constant : r.kind ≡ 2 → active_rates_of v r mark ≡ row_with 16 (v + r.d) 0 0 ∷ []
  unfolding active_rates_of source_of line_of_row kind_of active_rates rows_in lines_of flat table_row_of row_of row_of_action
  of_constant e = rw (kind_is r 2 e)

  -- a copy or a negation
  pub of_itself : Assigns r.kind → (r.kind ≡ 2 → ⊥) → (r.kind ≡ 3 → ⊥) → (r.kind ≡ 4 → ⊥) → (r.kind ≡ 5 → ⊥)
      → (r.kind ≡ quotient_kind → ⊥)
      → active_rates_of v r mark ≡ row_with r.kind (v + r.d) (v + r.a) 0 ∷ []
  unfolding active_rates_of source_of line_of_row kind_of active_rates rows_in lines_of flat table_row_of row_of row_of_action row_of_assignment
  of_itself assigns n2 n3 n4 n5 n18 = by (ℕ_discrete r.kind 1) (ℕ_discrete r.kind 6)
    where
      by : Dec (r.kind ≡ 1) → Dec (r.kind ≡ 6) → active_rates_of v r mark ≡ row_with r.kind (v + r.d) (v + r.a) 0 ∷ []
      by (yes e) h = rw (kind_is r 1 e)
      by (no n) (yes e) = rw (kind_is r 6 e)
      by (no n) (no m) = absurd (none_left r.kind assigns.some (assigns.most n18) n n2 n3 n4 n5 m)

  module _ {first second : Bool} (a_is : first ≡ (known_by mark).varied_a) (b_is : second ≡ (known_by mark).varied_b) where
    pub of_sum : r.kind ≡ 3 → active_rates_of v r mark ≡ combined_rate v r first second 1 ∷ []
    unfolding active_rates_of source_of line_of_row kind_of
    of_sum e = rw (a_is, b_is, kind_is r 3 e) (sum_rate v r.d r.a r.b (known_by mark).varied_a (known_by mark).varied_b (known_by mark).active)

    pub of_difference : r.kind ≡ 4 → active_rates_of v r mark ≡ combined_rate v r first second 6 ∷ []
    unfolding active_rates_of source_of line_of_row kind_of
    of_difference e = rw (a_is, b_is, kind_is r 4 e) (difference_rate v r.d r.a r.b (known_by mark).varied_a (known_by mark).varied_b (known_by mark).active)

    pub of_product : r.kind ≡ 5 → active_rates_of v r mark ≡ term_rates v r first second
    unfolding active_rates_of source_of line_of_row kind_of
    of_product e = rw (a_is, b_is, kind_is r 5 e) (product_rates v r.d r.a r.b (known_by mark).varied_a (known_by mark).varied_b (known_by mark).active)

    pub of_quotient : r.kind ≡ quotient_kind → active_rates_of v r mark ≡ quotient_rates v r first second
    unfolding active_rates_of source_of line_of_row kind_of
    of_quotient e =
        rw (a_is, b_is, kind_is r quotient_kind e)
        (quotients_rated v r.d r.a r.b (known_by mark).varied_a (known_by mark).varied_b (known_by mark).active)

  pub when_active : (known_by mark).active ≡ true → rates_of v r mark ≡ active_rates_of v r mark
  unfolding rates_of active_rates_of rate_rows
  when_active e = rw e

  pub when_inactive : (known_by mark).active ≡ false → rates_of v r mark ≡ row_with 16 (v + r.d) 0 0 ∷ []
  unfolding rates_of rate_rows rows_in lines_of flat table_row_of row_of row_of_action
  when_inactive e = rw e

-- ---- before what follows

module _ (v d : ℕ) where
  rates_then : (source : Source) (row : RowNumber) (x y z : Bool) (rest : Table)
      → rows_in (rate_rows v (d ≔ source) row (knowing x y z) rest)
      ≡ rows_in (rate_rows v (d ≔ source) any_row (knowing x y z) done) ++ rows_in rest
  unfolding rate_rows active_rates rows_in lines_of flat table_row_of row_of
  rates_then source row x y false rest = refl
  rates_then (copy a) row x y true rest = refl
  rates_then (fixed c) row x y true rest = refl
  rates_then (sum a b) row x y true rest = refl
  rates_then (difference a b) row x y true rest = refl
  rates_then (product a b) row true true true rest = refl
  rates_then (product a b) row true false true rest = refl
  rates_then (product a b) row false y true rest = refl
  rates_then (negation a) row x y true rest = refl
  rates_then (quotient a b) row true true true rest = refl
  rates_then (quotient a b) row true false true rest = refl
  rates_then (quotient a b) row false y true rest = refl

  pub rates_before : (source : Source) (row : RowNumber) (known : Activity) (rest : Table)
      → rows_in (rate_rows v (d ≔ source) row known rest) ≡ rows_in (rate_rows v (d ≔ source) any_row known done) ++ rows_in rest
  rates_before source row known rest = rates_then source row known.varied_a known.varied_b known.active rest

  -- by whatever counts the same for each row
  module _ (weight : ℕ) (count : Table → ℕ) (each : EachRow weight count) where
    counted_then : (source : Source) (row : RowNumber) (x y z : Bool) (rest : Table)
        → count (rate_rows v (d ≔ source) row (knowing x y z) rest) ≡ rate_count source (knowing x y z) * weight + count rest
    unfolding rate_rows active_rates rate_count
    counted_then (copy a) row x y true rest = each _ rest ∙ omega arith
    counted_then (copy a) row x y false rest = each _ rest ∙ omega arith
    counted_then (fixed c) row x y true rest = each _ rest ∙ omega arith
    counted_then (fixed c) row x y false rest = each _ rest ∙ omega arith
    counted_then (sum a b) row x y true rest = each _ rest ∙ omega arith
    counted_then (sum a b) row x y false rest = each _ rest ∙ omega arith
    counted_then (difference a b) row x y true rest = each _ rest ∙ omega arith
    counted_then (difference a b) row x y false rest = each _ rest ∙ omega arith
    counted_then (product a b) row true true true rest =
        each _ _ ∙ ap (λ n. weight + n) (each _ _ ∙ ap (λ n. weight + n) (each _ rest)) ∙ omega arith
    counted_then (product a b) row true false true rest = each _ rest ∙ omega arith
    counted_then (product a b) row false y true rest = each _ rest ∙ omega arith
    counted_then (product a b) row x y false rest = each _ rest ∙ omega arith
    counted_then (negation a) row x y true rest = each _ rest ∙ omega arith
    counted_then (negation a) row x y false rest = each _ rest ∙ omega arith
    counted_then (quotient a b) row true true true rest =
        each _ _ ∙ ap (λ n. weight + n) (each _ _ ∙ ap (λ n. weight + n) (each _ _ ∙ ap (λ n. weight + n) (each _ _ ∙ ap (λ n. weight + n) (each _ rest))))
        ∙ omega arith
    counted_then (quotient a b) row true false true rest = each _ rest ∙ omega arith
    counted_then (quotient a b) row false y true rest =
        each _ _ ∙ ap (λ n. weight + n) (each _ _ ∙ ap (λ n. weight + n) (each _ _ ∙ ap (λ n. weight + n) (each _ rest))) ∙ omega arith
    counted_then (quotient a b) row x y false rest = each _ rest ∙ omega arith

    pub rates_counted : (source : Source) (row : RowNumber) (known : Activity) (rest : Table)
        → count (rate_rows v (d ≔ source) row known rest) ≡ rate_count source known * weight + count rest
    rates_counted source row known rest = counted_then source row known.varied_a known.varied_b known.active rest
