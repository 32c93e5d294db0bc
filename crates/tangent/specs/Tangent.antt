-- The tangent table of a marked body (02 §1), and of a sheet, by its sets; and what the sheet's tangent run needs.
use Rattle.std.specs.Prelude.{ℕ, ◌+◌}
use Rattle.std.proofs.Math.Bool.{cond}
use Rattle.sheet.specs.Tree.{loop_by, done, one, fork, again, rows, RowNumber}
use Rattle.sheet.specs.Rows.{◌≔◌, Source, copy, fixed, sum, difference, product, negation, quotient, Assignment}
use Rattle.sheet.specs.Sheets.{Sheet, variables_of}
use Rattle.sets.specs.Transfers.{Activity}
use Rattle.sets.specs.Marks.{Sets, Marked, marked_by}
use Rattle.table.specs.TableRows.{t, u, assign, clear, whether, itself, rating_a, rating_b, rating, rating_over_b, rating_over_b_again, Table}
use Rattle.table.specs.Adjoint.{Body, put}
use Rattle.table.specs.Sizes.{Needs}

-- "ḋ from the operands varied before it": from both, from a alone, from b alone. One of them is, where a row is active.
abbrev pub from_varied : {X : Type 0} → Activity → (both of_a of_b : X) → X
from_varied known both of_a of_b = cond known.varied_a (cond known.varied_b both of_a) of_b

module _ (variables : ℕ) where
  -- "the rate of i is variable V+i"
  abbrev pub rate_of : ℕ → ℕ
  rate_of i = variables + i

  -- ḋ := ..
  abbrev pub set_rate : (d : ℕ) → Source → RowNumber → Table → Table
  set_rate d source row rest = put row rating (assign (rate_of d ≔ source)) rest

  -- ḋ := 0
  abbrev pub no_rate : (d : ℕ) → RowNumber → Table → Table
  no_rate d row rest = put row rating (clear (rate_of d)) rest

  -- "Product: u := b × ȧ, t := a × ḃ, ḋ := u + t, or the one term alone straight into ḋ."
  abbrev pub both_terms : (d a b : ℕ) → RowNumber → Table → Table
  both_terms d a b row rest =
      put row rating_a (assign (u variables ≔ product b (rate_of a)))
      (put row rating_b (assign (t variables ≔ product a (rate_of b))) (set_rate d (sum (u variables) (t variables)) row rest))

  -- a quotient's (02 §4): "t := a × ḃ, t := t / b, t := t / b"
  abbrev pub second_term : (a b : ℕ) → RowNumber → Table → Table
  second_term a b row rest =
      put row rating_b (assign (t variables ≔ product a (rate_of b)))
      (put row rating_over_b (assign (t variables ≔ quotient (t variables) b))
      (put row rating_over_b_again (assign (t variables ≔ quotient (t variables) b)) rest))

  -- "u := ȧ / b, t := .., ḋ := u − t, each term only if varied; the first alone is ȧ / b straight into ḋ, the second alone the t rows, then ḋ := −t"
  abbrev pub both_quotients : (d a b : ℕ) → RowNumber → Table → Table
  both_quotients d a b row rest =
      put row rating_a (assign (u variables ≔ quotient (rate_of a) b))
      (second_term a b row (set_rate d (difference (u variables) (t variables)) row rest))

  -- "Copy: ȧ. Negation: the rate negated. Sum and difference: the same operation on the rates, or copy or negation of the one varied."
  -- A constant has no rate.
  unfoldable pub active_rates : (d : ℕ) → Source → RowNumber → Activity → Table → Table
  active_rates d (copy a) row known rest = set_rate d (copy (rate_of a)) row rest
  active_rates d (fixed c) row known rest = no_rate d row rest
  active_rates d (sum a b) row known rest =
      set_rate d (from_varied known (sum (rate_of a) (rate_of b)) (copy (rate_of a)) (copy (rate_of b))) row rest
  active_rates d (difference a b) row known rest =
      set_rate d (from_varied known (difference (rate_of a) (rate_of b)) (copy (rate_of a)) (negation (rate_of b))) row rest
  active_rates d (product a b) row known rest =
      from_varied known (both_terms d a b row rest) (set_rate d (product b (rate_of a)) row rest) (set_rate d (product a (rate_of b)) row rest)
  active_rates d (negation a) row known rest = set_rate d (negation (rate_of a)) row rest
  active_rates d (quotient a b) row known rest =
      from_varied known (both_quotients d a b row rest) (set_rate d (quotient (rate_of a) b) row rest)
      (second_term a b row (set_rate d (negation (t variables)) row rest))

  -- "An inactive assignment's one rate row .. sets ḋ to 0."
  unfoldable pub rate_rows : Assignment → RowNumber → Activity → Table → Table
  unfolding active_rates
  rate_rows (d ≔ source) row known rest = cond known.active (active_rates d source row known rest) (no_rate d row rest)

  -- "the rate rows stand before the original row"
  unfoldable pub tangent_row : Marked → Table → Table
  unfolding rate_rows
  tangent_row m rest = rate_rows m.assignment m.row m.known (put m.row itself (assign m.assignment) rest)

  -- "No stacks and no row 17.": each row with its rate rows, and blocks as they are
  unfoldable pub tangent_table : Body → Table
  unfolding tangent_row
  tangent_table done = done
  tangent_table (one m k) = tangent_row m (tangent_table k)
  tangent_table (fork f a b k) = fork (whether f.test) (tangent_table a) (tangent_table b) (tangent_table k)
  tangent_table (again l a k) = again (loop_by (λ f. whether f.test) l) (tangent_table a) (tangent_table k)

-- how many rate rows the table has before an assignment: three for both terms of a product, five for a quotient's, four for its second, else one
unfoldable pub rate_count : Source → Activity → ℕ
rate_count (copy a) known = 1
rate_count (fixed c) known = 1
rate_count (sum a b) known = 1
rate_count (difference a b) known = 1
rate_count (product a b) known = cond known.active (from_varied known 3 1 1) 1
rate_count (negation a) known = 1
rate_count (quotient a b) known = cond known.active (from_varied known 5 1 4) 1

-- and how many with the assignment's own row
abbrev pub rows_over : Assignment → Activity → ℕ
rows_over (d ≔ source) known = rate_count source known + 1

-- of the sheet's body as the sets mark it
unfoldable pub tangent_by : Sets → Sheet → Table
unfolding marked_by tangent_table
tangent_by sets sheet = tangent_table (variables_of sheet) (marked_by sets sheet)

-- "S = T = 0 and, in 8, the tangent table's own row count as R"
unfoldable pub tangent_rows : (variables : ℕ) → Body → ℕ
unfolding rows tangent_table
tangent_rows variables body = rows (tangent_table variables body)

abbrev pub tangent_needs_by : Sets → Sheet → Needs
tangent_needs_by sets sheet = record { rows = tangent_rows (variables_of sheet) (marked_by sets sheet); values = 0; turns = 0 }
