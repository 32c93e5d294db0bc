-- A run of an accepted sheet's table, for any rows saved that include the recorded ones: the forward part executes the sheet, row 17 turns
-- round, the backward part sweeps back; the whole matches the ideal.
use Prim.Native.Nat.{ℕ, ◌+◌, ◌≤◌, ◌<◌}
use mathlib.Core.Path.{◌≡◌, refl, sym, ap, subst, ◌∙◌}
use mathlib.Core.Bool.{Bool}
use mathlib.Core.List.{List, [], ◌++◌}
use lib.ListN.{length, replicate}
use lib.Seq.{drop_at}
use native.Mathlib.Omega.{arith}
use Rattle.number.specs.Arithmetic.{Arithmetic, divides}
use Rattle.sheet.specs.Tree.{Tree, done, one}
use Rattle.sheet.specs.Rows.{Assignment}
use Rattle.sheet.specs.Names.{Present}
use Rattle.sheet.specs.Sheets.{Sheet, variables_of}
use Rattle.sheet.proofs.Feasibility.{ReadFor}
use Rattle.sheet.proofs.NamesPresent.{names_present}
use Rattle.sheet.proofs.ReadingParts.{accepted}
use Rattle.sets.specs.Rounds.{sets_of, set_at, required}
use Rattle.sets.specs.Equations.{Satisfy}
use Rattle.sets.specs.Transfers.{Activity, required_after}
use Rattle.sets.specs.Marks.{Marked, MarkedTest, activity_at, required_equations}
use Rattle.sets.proofs.EquationsAlong.{forward_along}
use Rattle.sets.proofs.SetsLeast.{required_least}
use Rattle.table.specs.TableRows.{Table, turn_round, of_turning_round}
use Rattle.table.specs.Adjoint.{forward_part, backward_part, adjoint_table}
use Rattle.table.specs.Sizes.{values_needed, turns_needed}
use Rattle.table.proofs.TableBounds.{marked_run}
use Rattle.machine.specs.Actions.{Attempt, through, halted, stuck, ◌>>=◌, Memory, Setting, Stop, acted}
use Rattle.machine.specs.InTheLarge.{table_run, table_log}
use Rattle.machine.specs.Machine.{steps_of}
use Rattle.machine.specs.RowReads.{on_through}
use Rattle.machine.proofs.AttemptLaws.{Ready, gives, stops}
use Rattle.run.specs.Runs.{enough_steps, setting_of, start_of, run_of}
use Rattle.run.proofs.EnoughSteps.{enough_steps_lem}
use Rattle.run.proofs.MachineFollows.{EndsAs, run_follows}
use Rattle.claims.specs.IdealSweep.{Progress, beginning, execution, swept, first_adjoints, Ideal, ideal, swept_log}
use Rattle.claims.specs.WholeRun.{saved_values, Matches}
use Rattle.claims.proofs.Runs.{Runs, runs}
use Rattle.claims.proofs.RunsKeepSizes.{runs_keep}
use Rattle.claims.proofs.Accounts.{account}
use Rattle.claims.proofs.ExecutionReady.{executed_ready}
use Rattle.claims.proofs.Forward.{marking, body, memory_with, forward_executes}
use Rattle.claims.proofs.ForwardLog.{forward_notes_nothing}
use Rattle.claims.proofs.Undoing.{Covers}
use Rattle.claims.proofs.Replay.{Requires, Retraces, retraced, cut_short, retraces}
use Rattle.claims.proofs.RowSeventeen.{first_size, turns_round}

abbrev pub known_in : Sheet → ℕ → Assignment → Activity
known_in sheet = activity_at (sets_of sheet).varied (sets_of sheet).useful

-- a sheet's body with these rows saved
abbrev pub marks_of : Sheet → (ℕ → Assignment → Bool) → Tree Marked MarkedTest
marks_of sheet saved = body (known_in sheet) saved sheet.body 0

-- row 17 and the backward part
abbrev pub turning_of : Sheet → (ℕ → Assignment → Bool) → Table
turning_of sheet saved = one (record { origin = of_turning_round; action = turn_round }) (backward_part (variables_of sheet) (marks_of sheet saved) done)

module _ (A : Arithmetic) where
  -- on the way to row 17 adjoints, t and u are 0, and nothing has been copied
  abbrev pub memory_at : Sheet → (ℕ → Assignment → Bool) → Progress A → Memory A
  memory_at sheet saved now = memory_with A saved [] now.store (replicate (variables_of sheet + 2) A.zero) now

  -- what a run of an accepted sheet goes by
  pub record Prepared (words : List ℕ) (sheet : Sheet) (saved : ℕ → Assignment → Bool) (starts : List A.Carrier) (value_room turn_room : ℕ)
      : Type 0 where
    pub reads : ReadFor (divides A) words sheet
    pub covers : Covers (known_in sheet) saved (set_at (required sheet))
    pub started : length starts ≡ variables_of sheet
    pub values : values_needed (marks_of sheet saved) ≤ value_room
    pub turns : turns_needed (marks_of sheet saved) ≤ turn_room

  module _ {words : List ℕ} {sheet : Sheet} {saved : ℕ → Assignment → Bool} {starts : List A.Carrier} {value_room turn_room : ℕ}
      (seeds : List A.Carrier) (is : Prepared words sheet saved starts value_room turn_room) where
    abbrev setting : Setting A
    setting = setting_of A sheet seeds value_room turn_room

    abbrev memory : Progress A → Memory A
    memory = memory_at sheet saved

    abbrev marks : Tree Marked MarkedTest
    marks = marks_of sheet saved

    abbrev turning : Table
    turning = turning_of sheet saved

    abbrev adjoints₀ : List A.Carrier
    adjoints₀ = first_adjoints A sheet.roles seeds

    present : Present (variables_of sheet) (length sheet.constants) sheet.body
    present = names_present words sheet is.reads.is_read

    -- ---- the forward part

    -- the stacks hold nothing yet, and there is room for all that is to come
    enough : (length (saved_values A saved []) + values_needed marks ≤ value_room) × (length {A = Bool} [] + turns_needed marks ≤ turn_room)
    unfolding saved_values
    enough = (omega (arith, is.values), omega (arith, is.turns))

    pub forward_part_lem : (rest : Table)
        → table_run A setting (forward_part marks rest) (memory (beginning A starts))
        ≡ (execution A sheet starts >>= λ e. table_run A setting rest (memory e))
    unfolding setting_of execution
    forward_part_lem rest =
        forward_executes (known_in sheet) saved A setting (length sheet.constants) (replicate (variables_of sheet + 2) A.zero) [] refl
        sheet.body 0 (beginning A starts) rest present is.started enough

    pub forward_notes : (rest : Table)
        → table_log A setting (forward_part marks rest) (memory (beginning A starts))
        ≡ on_through A (execution A sheet starts) (λ e. table_log A setting rest (memory e))
    unfolding setting_of execution
    forward_notes rest =
        forward_notes_nothing A setting (known_in sheet) saved (length sheet.constants) (replicate (variables_of sheet + 2) A.zero) [] refl
        sheet.body 0 (beginning A starts) rest present is.started enough

    -- ---- an execution that went through, and the rows from row 17 on

    module _ (e : Progress A) (executes : execution A sheet starts ≡ through e) where
      pub ran : Runs A sheet.constants sheet.body 0 (beginning A starts) e
      unfolding execution
      ran = runs A sheet.constants sheet.body 0 (beginning A starts) e executes

      pub keeps_size : length e.store ≡ variables_of sheet
      keeps_size = runs_keep A sheet.constants ran ∙ is.started

      required_holds : Requires (known_in sheet) saved (set_at (required sheet)) sheet.body 0
      unfolding required_equations Satisfy
      required_holds =
          (forward_along (λ p b. required_after b (known_in sheet p b)) (set_at (required sheet)) sheet.body 0 []
          (required_least words sheet is.reads.is_read).satisfies.1).0

      -- where the backward part begins
      abbrev turned : Memory A
      turned = memory_with A saved e.store e.store adjoints₀ e

      turning_comes : account A setting turning (memory e) ≡ account A setting (backward_part (variables_of sheet) marks done) turned
      unfolding table_run table_log acted setting_of
      turning_comes =
          ap (account A setting (backward_part (variables_of sheet) marks done)) (turns_round A setting e.store _ _ keeps_size)

      abbrev Back : Type 0
      Back =
          Retraces (known_in sheet) saved (set_at (required sheet)) A setting e.store sheet.body 0 (beginning A starts) e
          e.store adjoints₀ done

      backward_part_lem : Back
      unfolding setting_of
      backward_part_lem =
          retraces (known_in sheet) saved (set_at (required sheet)) A setting e.store (length sheet.constants) is.covers ran present
          is.started required_holds e.store adjoints₀
          (record { size = keeps_size; adjoint_size = first_size A sheet.roles seeds; agree = λ i h. refl }) done

      -- from row 17 on the same is noted as in the ideal sweep
      pub turning_notes : table_log A setting turning (memory e) ≡ swept_log A setting (known_in sheet) e.trace adjoints₀
      unfolding table_log swept_log setting_of
      turning_notes = ap (λ x. x.log) turning_comes ∙ by_end backward_part_lem
        where
          by_end : Back
              → table_log A setting (backward_part (variables_of sheet) marks done) turned ≡ swept_log A setting (known_in sheet) e.trace adjoints₀
          by_end (retraced originals adjoints then log sw goes) = ap (λ x. x.log) goes ∙ sym (ap (λ x. x.log) sw)
          by_end (cut_short stop log sw goes) = ap (λ x. x.log) goes ∙ sym (ap (λ x. x.log) sw)

      table_comes : table_run A setting (forward_part marks turning) (memory (beginning A starts))
          ≡ table_run A setting (backward_part (variables_of sheet) marks done) turned
      table_comes = forward_part_lem turning ∙ rw executes refl ∙ ap (λ x. x.outcome) turning_comes

      -- the table isn't stuck in the large, so that the machine notes what it does there (`table_log_lem`)
      pub table_unstuck : table_run A setting (forward_part marks turning) (memory (beginning A starts)) ≡ stuck → ⊥
      unfolding table_run setting_of
      table_unstuck is_stuck = by_end backward_part_lem
        where
          by_end : Back → ⊥
          by_end (retraced originals adjoints then log sw goes) =
              let Goes-through = sym is_stuck ∙ table_comes ∙ ap (λ x. x.outcome) goes in
              let z : ◌≡◌ {A = ℕ} 0 1 = cc in
              absurd (omega arith)
          by_end (cut_short stop log sw goes) =
              let halts = sym is_stuck ∙ table_comes ∙ ap (λ x. x.outcome) goes in
              let z : ◌≡◌ {A = ℕ} 0 1 = cc in
              absurd (omega arith)

      ideal_comes : ideal A sheet (sets_of sheet) setting starts
          ≡ (swept A setting (known_in sheet) e.trace adjoints₀ >>= λ adjoints. through (record { progress = e; adjoints = adjoints }))
      unfolding ideal setting_of
      ideal_comes = rw executes refl

    -- ---- the whole run

    abbrev Claim : Attempt (Stop A) (Ideal A) → Type 0
    Claim i = Matches A (variables_of sheet) i (run_of A (adjoint_table (variables_of sheet) marks) setting (start_of A sheet starts))

    -- the machine has steps enough, and does what the table does in the large
    short : steps_of (adjoint_table (variables_of sheet) marks) < enough_steps
    short =
        enough_steps_lem (variables_of sheet) marks
        (omega (arith, marked_run (marking (known_in sheet) saved) sheet.body 0, (accepted words sheet is.reads.is_read).short))

    machine_follows : (result : Attempt (Stop A) (Memory A)) → table_run A setting (forward_part marks turning) (memory (beginning A starts)) ≡ result
        → EndsAs A ⊥ result (run_of A (adjoint_table (variables_of sheet) marks) setting (start_of A sheet starts))
    unfolding start_of saved_values adjoint_table
    machine_follows result e =
        subst (λ r. EndsAs A ⊥ r (run_of A (adjoint_table (variables_of sheet) marks) setting (start_of A sheet starts))) e
        (run_follows A ⊥ (adjoint_table (variables_of sheet) marks) setting (memory (beginning A starts)) (λ never. absurd never) short)

    ends_alike : (i : Ideal A) (originals : List A.Carrier) → length originals ≡ variables_of sheet → ideal A sheet (sets_of sheet) setting starts ≡ through i
        → table_run A setting (forward_part marks turning) (memory (beginning A starts))
        ≡ through (record { store = originals ++ i.adjoints; values = []; turns = []; copied = i.progress.store })
        → Claim (ideal A sheet (sets_of sheet) setting starts)
    unfolding Matches
    ends_alike i originals size goes e =
        subst Claim (sym goes)
        (record {
          memory = record { store = originals ++ i.adjoints; values = []; turns = []; copied = i.progress.store };
          ends = machine_follows _ e;
          values = refl;
          adjoints = drop_at originals i.adjoints (variables_of sheet) size;
          values_empty = refl;
          turns_empty = refl;
        })

    stops_alike : (stop : Stop A) → ideal A sheet (sets_of sheet) setting starts ≡ halted stop
        → table_run A setting (forward_part marks turning) (memory (beginning A starts)) ≡ halted stop → Claim (ideal A sheet (sets_of sheet) setting starts)
    unfolding Matches
    stops_alike stop goes e = subst Claim (sym goes) (machine_follows (halted stop) e)

    pub matches_ideal : Claim (ideal A sheet (sets_of sheet) setting starts)
    unfolding execution ideal swept table_run saved_values setting_of
    matches_ideal = by_execution (executed_ready A sheet.constants (variables_of sheet) sheet.body 0 (beginning A starts) is.started present
        is.reads.feasible)
      where
        by_sweep : (e : Progress A) (h : execution A sheet starts ≡ through e) → Back e h → Claim (ideal A sheet (sets_of sheet) setting starts)
        by_sweep e h (retraced originals adjoints then log sw goes) =
            ends_alike (record { progress = e; adjoints = adjoints }) originals then.size (ideal_comes e h ∙ rw (ap (λ x. x.outcome) sw) refl)
            (table_comes e h ∙ ap (λ x. x.outcome) goes)
        by_sweep e h (cut_short stop log sw goes) =
            stops_alike stop (ideal_comes e h ∙ rw (ap (λ x. x.outcome) sw) refl) (table_comes e h ∙ ap (λ x. x.outcome) goes)

        by_execution : Ready (execution A sheet starts) → Claim (ideal A sheet (sets_of sheet) setting starts)
        by_execution (gives e h) = by_sweep e h (backward_part_lem e h)
        by_execution (stops stop h) = stops_alike stop (rw h refl) (forward_part_lem turning ∙ rw h refl)
