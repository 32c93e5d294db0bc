-- How many steps the run of an adjoint table takes at most, in terms of W, and that a run's steps suffice for it.
use Prim.Native.Nat.{ℕ, suc, ◌+◌, ◌*◌, ◌≤◌, ◌<◌}
use mathlib.Core.Path.{◌≡◌, refl}
use mathlib.Core.Bool.{Bool, true, false}
use mathlib.Core.List.{List}
use native.Mathlib.Nat.{mul-le-mul_left, mul_left_comm}
use native.Mathlib.Omega.{arith}
use Rattle.sheet.specs.Bounds.{limit}
use Rattle.sheet.specs.Judging.{given}
use Rattle.sheet.specs.Tree.{Loop, times, while, most_turns, loop_by, done, one, fork, again, longest_run}
use Rattle.sheet.specs.Sheets.{Sheet, variables_of}
use Rattle.sheet.specs.Reading.{read}
use Rattle.sheet.proofs.ReadingParts.{accepted}
use Rattle.sets.specs.Rounds.{sets_of, marked}
use Rattle.sets.specs.Marks.{MarkedTest, mark_by, marked_by}
use Rattle.table.specs.TableRows.{Table, TableTest, save_turn, turn_round, whether, on_turn, turning, of_turning_round}
use Rattle.table.specs.Computed.{table_of}
use Rattle.table.specs.Adjoint.{Body, put, forward_part, backward_of, backward_part, adjoint_table}
use Rattle.table.specs.RowBounds.{most_backward}
use Rattle.table.proofs.TableBounds.{EachRow, backward_row, forward_row_lem, marked_run}
use Rattle.machine.specs.Machine.{steps_of}
use Rattle.run.specs.Runs.{most_steps_forward, most_steps_each, enough_steps}

-- ---- steps

pub row_stepped : EachRow 1 steps_of
unfolding steps_of
row_stepped row rest = refl

-- a loop's, by what bounds each turn's: beside the body's there are at most two steps a turn, and one
pub loop_steps : (asks : MarkedTest → TableTest) (l : Loop MarkedTest) (a k : Table) (most long : ℕ) → steps_of a + 2 ≤ most * long
    → steps_of (again (loop_by asks l) a k) ≤ 1 + most * (most_turns l * long) + steps_of k
unfolding steps_of
loop_steps asks (times m) a k most long h = omega (arith, mul-le-mul_left (suc m) h, mul_left_comm (suc m) most long)
loop_steps asks (while f m) a k most long h = omega (arith, mul-le-mul_left (suc m) h, mul_left_comm (suc m) most long)

backward_steps : (v : ℕ) (t : Body) (rest : Table) → steps_of (backward_part v t rest) ≤ most_backward * longest_run t + steps_of rest
unfolding backward_part steps_of longest_run
backward_steps v done rest = omega arith
backward_steps v (one m k) rest =
    let this = backward_of v m.assignment m.row m.known m.saved rest in
    omega (arith, backward_steps v k this, (backward_row 1 steps_of row_stepped v m.assignment m.row m.known m.saved).few rest)
backward_steps v (fork f a b k) rest =
    let block : Table = fork on_turn (backward_part v a done) (backward_part v b done) rest in
    omega (arith, backward_steps v k block, backward_steps v a done, backward_steps v b done)
backward_steps v (again l a k) rest =
    let body = backward_part v a done in
    omega (
      arith,
      backward_steps v k (again (loop_by (λ f. on_turn) l) body rest),
      loop_steps (λ f. on_turn) l body rest most_backward (1 + longest_run a) (omega (arith, backward_steps v a done)),
    )

forward_steps : (t : Body) (rest : Table) → steps_of (forward_part t rest) ≤ most_steps_forward * longest_run t + steps_of rest
unfolding forward_part steps_of longest_run
forward_steps done rest = omega arith
forward_steps (one m k) rest = omega (arith, (forward_row_lem 1 steps_of row_stepped m).few (forward_part k rest), forward_steps k rest)
forward_steps (fork f a b k) rest =
    let saved : Bool → Table = λ first. put f.row turning (save_turn first) done in
    omega (arith, forward_steps k rest, forward_steps a (saved true), forward_steps b (saved false))
forward_steps (again l a k) rest =
    let after = forward_part k rest in
    omega (
      arith,
      forward_steps k rest,
      loop_steps (λ f. whether f.test) l (forward_part a done) after most_steps_forward (1 + longest_run a) (omega (arith, forward_steps a done)),
    )

-- these for each that W counts, and row 17
steps_within_run : (v : ℕ) (t : Body) → steps_of (adjoint_table v t) ≤ most_steps_each * longest_run t + 1
unfolding adjoint_table steps_of
steps_within_run v t =
    let turn : Table = one (record { origin = of_turning_round; action = turn_round }) (backward_part v t done) in
    omega (arith, forward_steps t turn, backward_steps v t done)

-- so that a run's steps suffice, whichever rows are saved
pub enough_steps_lem : (v : ℕ) (t : Body) → longest_run t ≤ limit.longest_run → steps_of (adjoint_table v t) < enough_steps
enough_steps_lem v t short = omega (arith, steps_within_run v t)

pub adjoint_steps : (words : List ℕ) (sheet : Sheet) → read words ≡ given sheet → steps_of (table_of sheet) < enough_steps
unfolding table_of marked marked_by
adjoint_steps words sheet e =
    enough_steps_lem (variables_of sheet) (marked sheet) (omega (arith, marked_run (mark_by (sets_of sheet)) sheet.body 0, (accepted words sheet e).short))
