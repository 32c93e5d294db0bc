-- The adjoint table of a marked body, for any choice of saved rows, and of a sheet, by its sets.
use Rattle.std.specs.Prelude.{ℕ, Bool}
use Rattle.std.proofs.Math.Bool.{true, false}
use Rattle.sheet.specs.Tree.{loop_by, Tree, done, one, fork, again, RowNumber}
use Rattle.sheet.specs.Rows.{Assignment, ◌≔◌, target_of, Source, copy, fixed, sum, difference, product, negation, quotient}
use Rattle.sheet.specs.Sheets.{Sheet, variables_of}
use Rattle.sets.specs.Transfers.{Activity}
use Rattle.sets.specs.Marks.{Sets, Marked, MarkedTest, marked_by}
use Rattle.table.specs.TableRows.{adjoint_of, t, u, Action, assign, save, take_back, save_turn, clear, turn_round, whether, on_turn, Operation, saving, itself, turning, taking_back, holding, clearing, scaling_for_a, adding_to_a, scaling_for_b, adding_to_b, dividing, dividing_for_b, of_row, of_turning_round, Table}

abbrev pub Body : Type 0
Body = Tree Marked MarkedTest

-- one table row of a sheet row's, before the rest
abbrev pub put : RowNumber → Operation → Action → Table → Table
put row operation action rest = one (record { origin = of_row row operation; action = action }) rest

-- the same, only if
abbrev pub put_if : Bool → RowNumber → Operation → Action → Table → Table
put_if true row operation action rest = put row operation action rest
put_if false row operation action rest = rest

-- "Forward part: the sheet's rows in order; before each recorded assignment a save of d; at the end of each first branch "save turn 1",
-- of each second "save turn 0"."
unfoldable pub forward_row : Marked → Table → Table
forward_row m rest =
    put_if m.saved m.row saving (save (target_of m.assignment)) (put m.row itself (assign m.assignment) rest)

unfoldable pub forward_part : Body → Table → Table
unfolding forward_row
forward_part done rest = rest
forward_part (one m k) rest = forward_row m (forward_part k rest)
forward_part (fork f a b k) rest =
    fork (whether f.test) (forward_part a (put f.row turning (save_turn true) done))
    (forward_part b (put f.row turning (save_turn false) done)) (forward_part k rest)
forward_part (again l a k) rest = again (loop_by (λ f. whether f.test) l) (forward_part a done) (forward_part k rest)

module _ (variables : ℕ) where
  -- into ā, into b̄: the adjoint of i with t or u added or subtracted
  abbrev pub add_into : ℕ → ℕ → Action
  add_into i x = assign (adjoint_of variables i ≔ sum (adjoint_of variables i) x)

  abbrev pub subtract_from : ℕ → ℕ → Action
  subtract_from i x = assign (adjoint_of variables i ≔ difference (adjoint_of variables i) x)

  -- u := i × t
  abbrev pub scaled : ℕ → Action
  scaled i = assign (u variables ≔ product i (t variables))

  -- u := a × u and u := .. / b, of a quotient
  abbrev pub scaled_on : ℕ → Action
  scaled_on a = assign (u variables ≔ product a (u variables))

  abbrev pub divided_by : (dividend b : ℕ) → Action
  divided_by dividend b = assign (u variables ≔ quotient dividend b)

  -- "then for a first and b second, each only if varied before the row": copy, sum, difference, negation, product. Of a quotient (02 §4): "u := t / b; if
  -- a is varied ā := ā + u; if b is varied u := a × u, u := u / b, b̄ := b̄ − u"
  unfoldable pub parts_of : Source → RowNumber → Activity → Table → Table
  parts_of (copy a) row known rest = put_if known.varied_a row adding_to_a (add_into a (t variables)) rest
  parts_of (fixed c) row known rest = rest
  parts_of (sum a b) row known rest =
      put_if known.varied_a row adding_to_a (add_into a (t variables)) (put_if known.varied_b row adding_to_b (add_into b (t variables)) rest)
  parts_of (difference a b) row known rest =
      put_if known.varied_a row adding_to_a (add_into a (t variables)) (put_if known.varied_b row adding_to_b (subtract_from b (t variables)) rest)
  parts_of (product a b) row known rest =
      put_if known.varied_a row scaling_for_a (scaled b)
      (put_if known.varied_a row adding_to_a (add_into a (u variables))
      (put_if known.varied_b row scaling_for_b (scaled a)
      (put_if known.varied_b row adding_to_b (add_into b (u variables)) rest)))
  parts_of (negation a) row known rest = put_if known.varied_a row adding_to_a (subtract_from a (t variables)) rest
  parts_of (quotient a b) row known rest =
      put row dividing (divided_by (t variables) b)
      (put_if known.varied_a row adding_to_a (add_into a (u variables))
      (put_if known.varied_b row scaling_for_b (scaled_on a)
      (put_if known.varied_b row dividing_for_b (divided_by (u variables) b)
      (put_if known.varied_b row adding_to_b (subtract_from b (u variables)) rest))))

  -- "If not active: d̄ := 0. If active: t := d̄; d̄ := 0; then" the parts
  unfoldable pub derivative_rows : Bool → ℕ → Source → RowNumber → Activity → Table → Table
  unfolding parts_of
  derivative_rows false d source row known rest = put row clearing (clear (adjoint_of variables d)) rest
  derivative_rows true d source row known rest =
      put row holding (assign (t variables ≔ copy (adjoint_of variables d)))
      (put row clearing (clear (adjoint_of variables d)) (parts_of source row known rest))

  -- "An assignment .. becomes: take back d, if recorded", then its derivative rows
  unfoldable pub backward_of : Assignment → RowNumber → Activity → (saved : Bool) → Table → Table
  unfolding derivative_rows
  backward_of (d ≔ source) row known saved rest =
      put_if saved row taking_back (take_back d) (derivative_rows known.active d source row known rest)

  -- "Backward part: blocks and rows in reverse; an "if" becomes kind 15 with both branches kept in their places and reversed inside;
  -- a repeat stays a repeat." "Backward the loop opens with kind 20 .., closed by kind 11" (02 §6).
  unfoldable pub backward_part : Body → Table → Table
  unfolding backward_of
  backward_part done rest = rest
  backward_part (one m k) rest = backward_part k (backward_of m.assignment m.row m.known m.saved rest)
  backward_part (fork f a b k) rest = backward_part k (fork on_turn (backward_part a done) (backward_part b done) rest)
  backward_part (again l a k) rest = backward_part k (again (loop_by (λ f. on_turn) l) (backward_part a done) rest)

  -- "Then one row 17."
  unfoldable pub adjoint_table : Body → Table
  unfolding forward_part backward_part
  adjoint_table body = forward_part body (one (record { origin = of_turning_round; action = turn_round }) (backward_part body done))

-- of the sheet's body as the sets mark it
unfoldable pub table_by : Sets → Sheet → Table
unfolding marked_by adjoint_table
table_by sets sheet = adjoint_table (variables_of sheet) (marked_by sets sheet)
