-- Demand 3, of every accepted sheet, over any arithmetic.
use Prim.Native.Nat.{ℕ, ◌+◌, ◌≤◌}
use mathlib.Core.Path.{◌≡◌, refl, sym, ap, subst, ◌∙◌}
use mathlib.Core.List.{List, []}
use lib.ListN.{length, replicate}
use lib.Seq.{take_at}
use native.Mathlib.Omega.{arith}
use Rattle.number.specs.Arithmetic.{Arithmetic, divides}
use Rattle.sheet.specs.Tree.{done, one, rows, flat}
use Rattle.sheet.specs.Sheets.{Sheet, variables_of}
use Rattle.sheet.proofs.Feasibility.{ReadFor}
use Rattle.sets.specs.Rounds.{sets_of}
use Rattle.sets.specs.Marks.{mark_by, marked_by}
use Rattle.table.specs.TableRows.{Table, of_turning_round, turn_round, lines_of}
use Rattle.table.specs.Adjoint.{Body, forward_part, backward_part, adjoint_table, table_by}
use Rattle.table.specs.Sizes.{values_needed, turns_needed, needs_by}
use Rattle.machine.specs.Actions.{Attempt, through, ◌>>=◌, Memory, Setting}
use Rattle.machine.specs.Machine.{State, goes_on}
use Rattle.machine.specs.InTheLarge.{table_run, table_log}
use Rattle.machine.specs.RowReads.{on_through}
use Rattle.machine.proofs.LinesPassed.{past_tree}
use Rattle.run.specs.Runs.{setting_of, start_of, run_of}
use Rattle.run.proofs.MachineFollows.{at_row, goes_through}
use Rattle.claims.specs.IdealSweep.{Progress, beginning, execution, ideal}
use Rattle.claims.specs.WholeRun.{saved_values, recorded_in, Matches}
use Rattle.claims.specs.ThreeDemands.{ThirdDemand}
use Rattle.claims.specs.Demands.{lines, after_steps, NeverStuck, SavedAtTurning, ReplaysInReverse, DemandThree}
use Rattle.claims.proofs.MachineLogs.{table_log_lem}
use Rattle.claims.proofs.RunsEnd.{EndsSome}
use Rattle.claims.proofs.Heights.{Within, table_never_sticks, table_heights}
use Rattle.claims.proofs.RunInTheLarge.{known_in, marks_of, turning_of, memory_at, Prepared, forward_part_lem, forward_notes, ran, keeps_size, turning_notes, table_unstuck}
use Rattle.claims.proofs.WholeRunMatches.{own_run_matches}
use Rattle.claims.proofs.StartExactlyWhen.{reads_for, by_own_sets}
use Rattle.claims.proofs.RunsAnswer.{ends_some}
use Rattle.claims.proofs.AtTurningRound.{forward_lines, saved_exactly}
use Rattle.claims.proofs.SavesOnlyRecorded.{saves_only_recorded}

module _ (A : Arithmetic) (words : List ℕ) (sheet : Sheet) (reads : ReadFor (divides A) words sheet) (starts seeds : List A.Carrier)
    (n : length starts ≡ variables_of sheet) where
  abbrev v : ℕ
  v = variables_of sheet

  abbrev setting_in : (value_room turn_room : ℕ) → Setting A
  setting_in value_room turn_room = setting_of A sheet seeds value_room turn_room

  module _ (value_room turn_room : ℕ) (values : values_needed (marked_by (sets_of sheet) sheet) ≤ value_room) (turns : turns_needed (marked_by (sets_of sheet) sheet) ≤ turn_room) where
    matches : Matches A v (ideal A sheet (sets_of sheet) (setting_in value_room turn_room) starts)
        (run_of A (table_by (sets_of sheet) sheet) (setting_in value_room turn_room) (start_of A sheet starts))
    matches = own_run_matches A words sheet reads starts seeds n value_room turn_room values turns

    run_ends : EndsSome A (run_of A (table_by (sets_of sheet) sheet) (setting_in value_room turn_room) (start_of A sheet starts))
    run_ends = ends_some A v (ideal A sheet (sets_of sheet) (setting_in value_room turn_room) starts) _ matches

  -- ---- never stuck, and never higher than S and T

  never_stuck : (value_room turn_room : ℕ) → values_needed (marked_by (sets_of sheet) sheet) ≤ value_room → turns_needed (marked_by (sets_of sheet) sheet) ≤ turn_room
      → NeverStuck A sheet (sets_of sheet) starts seeds value_room turn_room
  unfolding start_of setting_of
  never_stuck value_room turn_room values turns =
      record {
        unstuck =
            table_never_sticks A (table_by (sets_of sheet) sheet) (setting_in value_room turn_room) (start_of A sheet starts).memory
            (run_ends value_room turn_room values turns);
        values_within = λ k s e. (within k s e).values_fit;
        turns_within = λ k s e. (within k s e).turns_fit;
      }
    where
      S : ℕ
      S = values_needed (marked_by (sets_of sheet) sheet)

      T : ℕ
      T = turns_needed (marked_by (sets_of sheet) sheet)

      within : (k : ℕ) (s : State A) → after_steps A sheet (sets_of sheet) starts seeds value_room turn_room k ≡ goes_on s → Within A S T s.memory
      within k s e =
          table_heights A (table_by (sets_of sheet) sheet) (setting_in S T) (start_of A sheet starts).memory (run_ends S T (omega arith) (omega arith))
          (record { values_fit = omega arith; turns_fit = omega arith }) value_room turn_room values turns k s e

  -- ---- an execution that goes through

  module _ (value_room turn_room : ℕ) (values : values_needed (marked_by (sets_of sheet) sheet) ≤ value_room) (turns : turns_needed (marked_by (sets_of sheet) sheet) ≤ turn_room)
      (e : Progress A) (executes : execution A sheet starts ≡ through e) where
    abbrev setting : Setting A
    setting = setting_in value_room turn_room

    abbrev marks : Body
    marks = marks_of sheet (recorded_in (sets_of sheet))

    abbrev turning : Table
    turning = turning_of sheet (recorded_in (sets_of sheet))

    abbrev memory : Progress A → Memory A
    memory = memory_at A sheet (recorded_in (sets_of sheet))

    -- no row is saved but the recorded ones
    is_marked : marked_by (sets_of sheet) sheet ≡ marks
    unfolding marked_by mark_by
    is_marked = refl

    prepared : Prepared A words sheet (recorded_in (sets_of sheet)) starts value_room turn_room
    unfolding mark_by
    prepared =
        record {
          reads = reads;
          covers = λ p b recorded. recorded;
          started = n;
          values = subst (λ t. values_needed t ≤ value_room) is_marked values;
          turns = subst (λ t. turns_needed t ≤ turn_room) is_marked turns;
        }

    forward_goes : table_run A setting (forward_part marks done) (memory (beginning A starts)) ≡ through (memory e)
    unfolding table_run
    forward_goes = forward_part_lem A seeds prepared done ∙ ap (λ (x : Attempt _ _). x >>= λ m. through (memory m)) executes

    table_is : table_by (sets_of sheet) sheet ≡ forward_part marks turning
    unfolding table_by adjoint_table
    table_is = ap (λ t. forward_part t (one (record { origin = of_turning_round; action = turn_round }) (backward_part v t done))) is_marked

    table_lines : lines A sheet (sets_of sheet) starts seeds value_room turn_room ≡ flat (forward_part marks done) (flat turning [])
    unfolding lines_of
    table_lines = ap (λ t. flat t []) table_is ∙ forward_lines marks turning []

    saved_at_turning : SavedAtTurning A sheet (sets_of sheet) starts seeds value_room turn_room e
    unfolding start_of saved_values flat
    saved_at_turning =
        let there = goes_through A setting (lines A sheet (sets_of sheet) starts seeds value_room turn_room) (forward_part marks done) 0 (flat turning []) []
        (memory (beginning A starts)) (memory e) table_lines tt forward_goes in
        record {
          steps = there.0;
          state = at_row A (0 + rows (forward_part marks done)) [] (memory e);
          reached = there.2;
          rest = flat (backward_part v marks done) [];
          there = past_tree (lines A sheet (sets_of sheet) starts seeds value_room turn_room) 0 (forward_part marks done) (flat turning []) table_lines;
          originals = take_at e.store (replicate (v + 2) A.zero) v (keeps_size A seeds prepared e executes);
          values = refl;
          turns = refl;
          full = λ none.
              saved_exactly (known_in sheet) (recorded_in (sets_of sheet)) A sheet.constants (ran A seeds prepared e executes) none
              ∙ ap (λ t. 0 + values_needed t) (sym is_marked) ∙ omega arith;
        }

    -- the derivative rows executed, and what they read
    replays_in_reverse : ReplaysInReverse A sheet (sets_of sheet) starts seeds value_room turn_room e
    unfolding start_of saved_values setting_of
    replays_in_reverse k h =
        table_log_lem A setting ⊥ (table_by (sets_of sheet) sheet) (start_of A sheet starts).memory (λ never. absurd never)
        (λ is_stuck. table_unstuck A seeds prepared e executes (ap (λ t. table_run A setting t (memory (beginning A starts))) (sym table_is) ∙ is_stuck)) k h
        ∙ ap (λ t. table_log A setting t (memory (beginning A starts))) table_is ∙ forward_notes A seeds prepared turning
        ∙ ap (λ (x : Attempt _ _). on_through A x (λ m. table_log A setting turning (memory m))) executes
        ∙ turning_notes A seeds prepared e executes

  all_of_it : (value_room turn_room : ℕ) → values_needed (marked_by (sets_of sheet) sheet) ≤ value_room → turns_needed (marked_by (sets_of sheet) sheet) ≤ turn_room
      → DemandThree A sheet (sets_of sheet) starts seeds value_room turn_room
  all_of_it value_room turn_room values turns =
      record {
        never = never_stuck value_room turn_room values turns;
        saves_only = saves_only_recorded sheet;
        saves = saved_at_turning value_room turn_room values turns;
        replays = replays_in_reverse value_room turn_room values turns;
        ends = matches value_room turn_room values turns;
      }

pub demand_three : ThirdDemand
demand_three A words sheet sets accepted calculable starts seeds n value_room turn_room values turns =
    let mine = reads_for words sheet (divides A) accepted.is_read calculable in
    by_own_sets words sheet
    (λ s. (needs_by s sheet).values ≤ value_room → (needs_by s sheet).turns ≤ turn_room → DemandThree A sheet s starts seeds value_room turn_room)
    (all_of_it A words sheet mine starts seeds n value_room turn_room) sets accepted values turns
