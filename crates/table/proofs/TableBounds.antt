-- How large a table gets: R is at most 10 × N + 1; S and T are at most W; its blocks nest no deeper than the sheet's.
use Prim.Native.Nat.{ℕ, suc, ◌+◌, ◌*◌, ◌≤◌}
use mathlib.Core.Path.{◌≡◌, refl}
use mathlib.Core.Bool.{Bool, true, false, cond}
use native.Mathlib.Nat.{mul-le-mul_left}
use native.Mathlib.Omega.{arith}
use Rattle.sheet.specs.Tree.{Loop, times, while, most_turns, loop_by, Tree, done, one, fork, again, rows, RowNumber, longest_run}
use Rattle.sheet.specs.Rows.{Assignment, Test, ◌≔◌, Source, copy, fixed, sum, difference, product, negation, quotient}
use Rattle.sheet.proofs.Depth.{deep}
use Rattle.sets.specs.Transfers.{Activity}
use Rattle.sets.specs.Marks.{Marked, MarkedTest, test_at, numbered}
use Rattle.table.specs.TableRows.{Table, TableRow, Action, save_turn, turn_round, whether, on_turn, Operation, turning, of_row, of_turning_round}
use Rattle.table.specs.Adjoint.{Body, put, put_if, forward_row, forward_part, parts_of, derivative_rows, backward_of, backward_part, adjoint_table}
use Rattle.table.specs.RowBounds.{most_forward, most_parts, most_backward, most_rows_each}
use Rattle.table.specs.Sizes.{table_rows, values_needed, own_count, turns_needed}

-- ---- R

-- A part of the writer puts at most so much before the rest, by whatever counts the same for each row: the rows themselves, the steps of a run,
-- or the depth of blocks, which rows add nothing to.
pub record AtMost (count : Table → ℕ) (n : ℕ) (part : Table → Table) : Type 0 where
  pub few : (rest : Table) → count (part rest) ≤ n + count rest

abbrev pub EachRow : (weight : ℕ) → (Table → ℕ) → Type 0
EachRow weight count = (row : TableRow) (rest : Table) → count (one row rest) ≡ weight + count rest

module _ (weight : ℕ) (count : Table → ℕ) (each : EachRow weight count) where
  at_most_none : AtMost count 0 (λ rest. rest)
  at_most_none = record { few = λ rest. omega arith }

  at_most_if : (test : Bool) (row : RowNumber) (operation : Operation) (action : Action) {n : ℕ} {part : Table → Table} → AtMost count n part
      → AtMost count (weight + n) (λ rest. put_if test row operation action (part rest))
  at_most_if true row operation action {part = before} part =
      record { few = λ rest. omega (arith, each (record { origin = of_row row operation; action = action }) (before rest), part.few rest) }
  at_most_if false row operation action part = record { few = λ rest. omega (arith, part.few rest) }

  at_most_more : {n : ℕ} (m : ℕ) {part : Table → Table} → n ≤ m → AtMost count n part → AtMost count m part
  at_most_more m h part = record { few = λ rest. omega (arith, part.few rest) }

  parts_rows : (v : ℕ) (source : Source) (row : RowNumber) (known : Activity) → AtMost count (most_parts * weight) (parts_of v source row known)
  unfolding parts_of
  parts_rows v (copy a) row known = at_most_more {n = weight + 0} (most_parts * weight) (omega arith) (at_most_if known.varied_a row _ _ at_most_none)
  parts_rows v (fixed c) row known = at_most_more {n = 0} (most_parts * weight) (omega arith) at_most_none
  parts_rows v (sum a b) row known =
      at_most_more {n = weight + (weight + 0)} (most_parts * weight) (omega arith)
      (at_most_if known.varied_a row _ _ (at_most_if known.varied_b row _ _ at_most_none))
  parts_rows v (difference a b) row known =
      at_most_more {n = weight + (weight + 0)} (most_parts * weight) (omega arith)
      (at_most_if known.varied_a row _ _ (at_most_if known.varied_b row _ _ at_most_none))
  parts_rows v (product a b) row known =
      at_most_more {n = weight + (weight + (weight + (weight + 0)))} (most_parts * weight) (omega arith)
      (at_most_if known.varied_a row _ _ (at_most_if known.varied_a row _ _
      (at_most_if known.varied_b row _ _ (at_most_if known.varied_b row _ _ at_most_none))))
  parts_rows v (negation a) row known = at_most_more {n = weight + 0} (most_parts * weight) (omega arith) (at_most_if known.varied_a row _ _ at_most_none)
  parts_rows v (quotient a b) row known =
      at_most_more {n = weight + (weight + (weight + (weight + (weight + 0))))} (most_parts * weight) (omega arith)
      (at_most_if true row _ _ (at_most_if known.varied_a row _ _
      (at_most_if known.varied_b row _ _ (at_most_if known.varied_b row _ _ (at_most_if known.varied_b row _ _ at_most_none)))))

  derivative_rows_lem : (v : ℕ) (active : Bool) (d : ℕ) (source : Source) (row : RowNumber) (known : Activity)
      → AtMost count ((2 + most_parts) * weight) (derivative_rows v active d source row known)
  unfolding derivative_rows
  derivative_rows_lem v false d source row known = at_most_more {n = weight + 0} ((2 + most_parts) * weight) (omega arith) (at_most_if true row _ _ at_most_none)
  derivative_rows_lem v true d source row known =
      at_most_more {n = weight + (weight + most_parts * weight)} ((2 + most_parts) * weight) (omega arith)
      (at_most_if true row _ _ (at_most_if true row _ _ (parts_rows v source row known)))

  -- an assignment's rows; those of a block are fewer
  pub backward_row : (v : ℕ) (b : Assignment) (row : RowNumber) (known : Activity) (saved : Bool)
      → AtMost count (most_backward * weight) (backward_of v b row known saved)
  unfolding backward_of
  backward_row v (d ≔ source) row known saved =
      at_most_more {n = weight + (2 + most_parts) * weight} (most_backward * weight) (omega arith)
      (at_most_if saved row _ _ (derivative_rows_lem v known.active d source row known))

  pub forward_row_lem : (m : Marked) → AtMost count (most_forward * weight) (forward_row m)
  unfolding forward_row
  forward_row_lem m =
      at_most_more {n = weight + (weight + 0)} (most_forward * weight) (omega arith)
      (at_most_if m.saved m.row _ _ (at_most_if true m.row _ _ at_most_none))

pub row_counted : EachRow 1 rows
unfolding rows
row_counted row rest = refl

pub row_flat : EachRow 0 deep
unfolding deep
row_flat row rest = omega arith

backward_rows : (v : ℕ) (t : Body) (rest : Table) → rows (backward_part v t rest) ≤ most_backward * rows t + rows rest
unfolding backward_part rows
backward_rows v done rest = omega arith
backward_rows v (one m k) rest =
    let this = backward_of v m.assignment m.row m.known m.saved rest in
    omega (arith, backward_rows v k this, (backward_row 1 rows row_counted v m.assignment m.row m.known m.saved).few rest)
backward_rows v (fork f a b k) rest =
    let turned = fork on_turn (backward_part v a done) (backward_part v b done) rest in
    omega (arith, backward_rows v k turned, backward_rows v a done, backward_rows v b done)
backward_rows v (again l a k) rest =
    omega (arith, backward_rows v k (again (loop_by (λ f. on_turn) l) (backward_part v a done) rest), backward_rows v a done)

forward_rows : (t : Body) (rest : Table) → rows (forward_part t rest) ≤ most_forward * rows t + rows rest
unfolding forward_part rows
forward_rows done rest = omega arith
forward_rows (one m k) rest = omega (arith, (forward_row_lem 1 rows row_counted m).few (forward_part k rest), forward_rows k rest)
forward_rows (fork f a b k) rest =
    let a_turn = put f.row turning (save_turn true) done in
    let b_turn = put f.row turning (save_turn false) done in
    omega (arith, forward_rows k rest, forward_rows a a_turn, forward_rows b b_turn)
forward_rows (again n a k) rest = omega (arith, forward_rows k rest, forward_rows a done)

-- "R's bound becomes 10 × 512 + 1"
pub table_rows_bound : (v : ℕ) (t : Body) → table_rows v t ≤ most_rows_each * rows t + 1
unfolding table_rows adjoint_table rows
table_rows_bound v t =
    let turn : Table = one (record { origin = of_turning_round; action = turn_round }) (backward_part v t done) in
    omega (arith, forward_rows t turn, backward_rows v t done)

-- ---- S and T

pub values_within_run : (t : Body) → values_needed t ≤ longest_run t
unfolding values_needed longest_run
values_within_run done = omega arith
values_within_run (one m k) = omega (arith, values_within_run k, at_most_one m.saved)
  where
    at_most_one : (b : Bool) → cond b 1 0 ≤ 1
    at_most_one true = omega arith
    at_most_one false = omega arith
values_within_run (fork f a b k) = omega (arith, values_within_run a, values_within_run b, values_within_run k)
values_within_run (again n a k) =
    let turn : values_needed a ≤ 1 + longest_run a = omega (arith, values_within_run a) in
    omega (arith, values_within_run k, mul-le-mul_left (most_turns n) turn)

pub turns_within_run : (t : Body) → turns_needed t ≤ longest_run t
unfolding turns_needed longest_run
turns_within_run done = omega arith
turns_within_run (one m k) = omega (arith, turns_within_run k)
turns_within_run (fork f a b k) = omega (arith, turns_within_run a, turns_within_run b, turns_within_run k)
turns_within_run (again n a k) =
    let turn : turns_needed a ≤ 1 + longest_run a = omega (arith, turns_within_run a) in
    omega (arith, turns_within_run k, mul-le-mul_left (most_turns n) turn, own_count_lem n)
  where
    own_count_lem : (l : Loop MarkedTest) → own_count l ≤ 1
    own_count_lem (times m) = omega arith
    own_count_lem (while f m) = omega arith

-- ---- depth

module _ {B F : Type 0} (most : ℕ) where
  deep_fork : (f : F) (a b k : Tree B F) → deep (fork f a b k) ≤ most → (suc (deep a) ≤ most) × (suc (deep b) ≤ most) × (deep k ≤ most)
  unfolding deep
  deep_fork f a b k h = (omega arith, omega arith, omega arith)

  fork_deep : (f : F) (a b k : Tree B F) → suc (deep a) ≤ most → suc (deep b) ≤ most → deep k ≤ most → deep (fork f a b k) ≤ most
  unfolding deep
  fork_deep f a b k g h i = omega arith

backward_deep : (v most : ℕ) (t : Body) (rest : Table) → deep t ≤ most → deep rest ≤ most → deep (backward_part v t rest) ≤ most
unfolding backward_part deep
backward_deep v most done rest h g = g
backward_deep v most (one m k) rest h g =
    let this = (backward_row 0 deep row_flat v m.assignment m.row m.known m.saved).few rest in
    backward_deep v most k (backward_of v m.assignment m.row m.known m.saved rest) h (omega arith)
backward_deep v most (fork f a b k) rest h g =
    let parts = deep_fork most f a b k h in
    let first = backward_deep v (deep a) a done (omega arith) (omega arith) in
    let second = backward_deep v (deep b) b done (omega arith) (omega arith) in
    backward_deep v most k (fork on_turn (backward_part v a done) (backward_part v b done) rest) parts.2
    (fork_deep most on_turn (backward_part v a done) (backward_part v b done) rest (omega (arith, parts.0)) (omega (arith, parts.1)) g)
backward_deep v most (again n a k) rest h g =
    let body = backward_deep v (deep a) a done (omega arith) (omega arith) in
    backward_deep v most k (again (loop_by (λ f. on_turn) n) (backward_part v a done) rest) (omega arith) (omega arith)

forward_deep : (most : ℕ) (t : Body) (rest : Table) → deep t ≤ most → deep rest ≤ most → deep (forward_part t rest) ≤ most
unfolding forward_part deep
forward_deep most done rest h g = g
forward_deep most (one m k) rest h g = omega (arith, (forward_row_lem 0 deep row_flat m).few (forward_part k rest), forward_deep most k rest h g)
forward_deep most (fork f a b k) rest h g =
    let parts = deep_fork most f a b k h in
    let a_turn = put f.row turning (save_turn true) done in
    let b_turn = put f.row turning (save_turn false) done in
    let first = forward_deep (deep a) a a_turn (omega arith) (omega arith) in
    let second = forward_deep (deep b) b b_turn (omega arith) (omega arith) in
    fork_deep most (whether f.test) (forward_part a a_turn) (forward_part b b_turn) (forward_part k rest)
    (omega (arith, parts.0)) (omega (arith, parts.1)) (forward_deep most k rest parts.2 g)
forward_deep most (again n a k) rest h g =
    let body = forward_deep (deep a) a done (omega arith) (omega arith) in
    let after = forward_deep most k rest (omega arith) g in
    omega arith

-- a table's blocks nest no deeper than its sheet's
pub table_deep : (v : ℕ) (t : Body) → deep (adjoint_table v t) ≤ deep t
unfolding adjoint_table deep
table_deep v t =
    forward_deep (deep t) t (one (record { origin = of_turning_round; action = turn_round }) (backward_part v t done)) (omega arith)
    (backward_deep v (deep t) t done (omega arith) (omega arith))

-- whatever a loop asks
pub most_turns_by : {F G : Type 0} (g : F → G) (l : Loop F) → most_turns (loop_by g l) ≡ most_turns l
most_turns_by g (times m) = refl
most_turns_by g (while f m) = refl

-- of an accepted sheet's own tree: marks change no count
pub marked_run : (mark : ℕ → Assignment → Marked) (t : Tree Assignment Test) (p : ℕ) → longest_run (numbered mark t p) ≡ longest_run t
unfolding numbered longest_run
marked_run mark done p = refl
marked_run mark (one b k) p = rw (marked_run mark k (suc p))
marked_run mark (fork f a b k) p =
    rw (marked_run mark a (suc p), marked_run mark b (suc (suc p + rows a)), marked_run mark k (suc (suc (suc p + rows a) + rows b)))
marked_run mark (again n a k) p = rw (marked_run mark a (suc p), marked_run mark k (suc (suc p + rows a)), most_turns_by (test_at p) n)

pub marked_deep : (mark : ℕ → Assignment → Marked) (t : Tree Assignment Test) (p : ℕ) → deep (numbered mark t p) ≡ deep t
unfolding numbered deep
marked_deep mark done p = refl
marked_deep mark (one b k) p = rw (marked_deep mark k (suc p))
marked_deep mark (fork f a b k) p =
    rw (marked_deep mark a (suc p), marked_deep mark b (suc (suc p + rows a)), marked_deep mark k (suc (suc (suc p + rows a) + rows b)))
marked_deep mark (again n a k) p = rw (marked_deep mark a (suc p), marked_deep mark k (suc (suc p + rows a)))
