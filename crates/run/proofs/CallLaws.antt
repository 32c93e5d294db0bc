-- From what the runner leaves to what a call answers and leaves, of any table, start and result.
use Prim.Native.Nat.{ℕ, suc, ◌-◌, ◌≤◌}
use mathlib.Core.Path.{◌≡◌, refl, sym, ap, ◌∙◌}
use mathlib.Core.Logic.{◌⊎◌, inl, inr}
use mathlib.Core.Bool.{Bool}
use mathlib.Core.List.{List, []}
use native.Mathlib.Omega.{arith}
use lib.ListN.{length, replicate, length-replicate}
use Rattle.number.specs.Arithmetic.{Arithmetic}
use Rattle.sheet.specs.Bounds.{limit}
use Rattle.sheet.specs.Sheets.{Sheet}
use Rattle.sheet.proofs.Depth.{deep}
use Rattle.table.specs.TableRows.{Table, lines_of}
use Rattle.table.specs.declared.Reply.{Reply}
use Rattle.machine.specs.Actions.{Memory, Setting}
use Rattle.machine.specs.Machine.{Step, ended, steps_of}
use Rattle.machine.specs.Inner.Buffers.{Cells, cells_of, Stack, Sound}
use Rattle.machine.specs.Inner.RunsRows.{first_state, Handed, RunsRows}
use Rattle.machine.specs.declared.Loop.{Loop}
use Rattle.machine.specs.declared.Ran.{Ran}
use Rattle.machine.specs.declared.Ended.{Ended}
use Rattle.machine.specs.declared.Ended.TheVariants as ended_as
use Rattle.run.specs.Runs.{Lent, Job, setting_keeping, enough_steps, run_of, ran_of}
use Rattle.run.specs.Calls.{lent_after, ran_to}
use Rattle.run.specs.Inner.TableRuns.{EndsLike, cleared, RunsTable}
use Rattle.run.specs.Inner.CallSteps.{answer_at, result_at}
use Rattle.run.specs.Inner.CallAnswers.{Ready, RunRoom, StacksCleared, RanTo}
use Rattle.run.proofs.RunEnds.{ends_like}
use Rattle.run.proofs.OpenRepeats.{table_shallow}

-- an answer by its number and its place
pub replied : {answer : Reply} {number place : ℕ} → (answer.number ≡ number) × (answer.place ≡ place) → answer ≡ record { number = number; place = place }
replied (number, place) = λ i. record { number = number i; place = place i }

-- what is answered where no step is left, or none can be done
pub answered_stuck : {end : Ended} {answer : Reply} → (end ≡ ended_as.Stuck) ⊎ (end ≡ ended_as.Unfinished)
    → answer ≡ record { number = 65535; place = 0 }
    → answer ≡ answer_at end
unfolding answer_at
answered_stuck (inl is) answers = rw is answers
answered_stuck (inr is) answers = rw is answers

-- the result where the run hasn't finished
pub result_kept : {X : Type 0} (end : Ended) (finished : List X) {before : List X} → (end ≡ ended_as.Finished → ⊥) → before ≡ result_at end finished before
unfolding result_at
result_kept ended_as.Finished finished apart = absurd (apart refl)
result_kept (ended_as.Stopped row) finished apart = refl
result_kept ended_as.Stuck finished apart = refl
result_kept ended_as.Unfinished finished apart = refl

-- a table that the runner has room for its open repeats and steps enough for
pub record Runnable (its : Table) : Type 0 where
  pub shallow : deep its ≤ limit.depth
  pub short : suc (steps_of its) ≤ enough_steps

-- a cleared stack is empty
empty_stack : {X : Type 0} (zero : X) (n : ℕ) → Stack zero 0 (replicate n zero)
empty_stack zero n =
    let long = length-replicate n zero in
    let all : length (replicate n zero) - 0 ≡ n = omega arith in
    record { within = omega arith; above = ap (λ k. replicate k zero) (sym all) }

module _ (A : Arithmetic) where
  -- cleared stacks under the setting of a sheet's run
  both_empty : (keeps_counts : Bool) (sheet : Sheet) (seeds : List A.Carrier) (value_room turn_room : ℕ) (store copied : List A.Carrier)
      → Sound A (setting_keeping A keeps_counts sheet seeds value_room turn_room)
      (record {
        store = store;
        values = replicate value_room A.zero;
        height = 0;
        turns = replicate turn_room 0;
        turn_height = 0;
        copied = copied;
      })
  unfolding setting_keeping
  both_empty keeps_counts sheet seeds value_room turn_room store copied =
      record {
        values = empty_stack A.zero value_room;
        turns = empty_stack 0 turn_room;
        value_room = sym (length-replicate value_room A.zero);
        turn_room = sym (length-replicate turn_room 0);
      }

  -- ---- a table's run

  -- from the runner between cleared stacks
  pub runs_table : {table : List ℕ} {rows : ℕ} {beyond : List ℕ} {keeps : Bool} {roles constants : List ℕ} {seeds store values copied : List A.Carrier} {turns : List ℕ}
      {emptied : List A.Carrier} {emptied_turns : List ℕ} (after : Cells A) {loops : List Loop} (ran : Ran)
      {values_after : List A.Carrier} {turns_after : List ℕ}
      → StacksCleared A values turns emptied emptied_turns
      → RunsRows A table rows beyond keeps roles constants seeds enough_steps (cells_of A store emptied emptied_turns copied) after loops ran
      → length after.values ≡ length emptied
      → length after.turns ≡ length emptied_turns
      → StacksCleared A after.values after.turns values_after turns_after
      → RunsTable A table rows beyond keeps roles constants seeds (cells_of A store values turns copied)
      (cells_of A after.store values_after turns_after after.copied) ran.ended
  runs_table {store = store} {values} {copied} {turns} after {loops} ran {values_after} {turns_after} empty runs kept kept_turns empty_again =
      let many = kept ∙ ap length empty.values_are ∙ length-replicate (length values) A.zero in
      let many_turns = kept_turns ∙ ap length empty.turns_are ∙ length-replicate (length turns) 0 in
      record {
        values_cleared = empty_again.values_are ∙ ap (λ n. replicate n A.zero) many;
        turns_cleared = empty_again.turns_are ∙ ap (λ n. replicate n 0) many_turns;
        ends = λ setting lines start handed.
            same_cells start _ ran.ended
            (ends_like A setting lines start enough_steps _ after loops ran
            (runs setting lines start (rw (empty.values_are, empty.turns_are) handed)));
      }
    where
      -- an end says nothing of the stacks' cells
      same_cells : (start : Memory A) (ending : Step A) (end : Ended) → EndsLike A start after end ending
          → EndsLike A start (cells_of A after.store values_after turns_after after.copied) end ending
      same_cells start ending ended_as.Finished ends = record { memory = ends.memory; is = ends.is; store = ends.store; copies = ends.copies }
      same_cells start ending (ended_as.Stopped row) ends = ends
      same_cells start ending ended_as.Stuck ends = ends
      same_cells start ending ended_as.Unfinished ends = ends

  -- ---- what is run of an accepted sheet

  -- what a run starts from, with empty stacks: its store is the one that the code is handed, as long as it was before
  pub record Starts (start : Memory A) (before store : List A.Carrier) : Type 0 where
    pub long : length store ≡ length before
    pub is : start.store ≡ store
    pub values : start.values ≡ []
    pub turns : start.turns ≡ []

  module _ {its : Table} {sheet : Sheet} {roles constants table : List ℕ} {rows : ℕ} {beyond : List ℕ}
      (ready : Ready its sheet roles constants table rows beyond) (runnable : Runnable its)
      {starts seeds before copied result : List A.Carrier} (room : RunRoom A roles starts seeds before copied result)
      (keeps_counts : Bool) (values : List A.Carrier) (turns : List ℕ) where
    abbrev pub setting_for : Setting A
    setting_for = setting_keeping A keeps_counts sheet seeds (length values) (length turns)

    -- what the runner is handed
    handed : {start : Memory A} {store : List A.Carrier} → Starts start before store
        → Handed A table rows beyond keeps_counts roles constants seeds (cleared A (cells_of A store values turns copied)) setting_for (lines_of its) start
    unfolding setting_keeping
    handed {start} {store} from =
        record {
          holds = ready.holds;
          rows = ready.counted;
          jumps = ready.jumps;
          keeping = refl;
          suits =
              record {
                variables = sym (ap length ready.roles_are);
                roles = sym ready.roles_are;
                constants = sym ready.constants_are;
                seeds = refl;
              };
          sizes =
              record {
                seeds_fit = room.seeds_fit;
                store_fits = omega (arith, from.long, room.store_fits);
                copied_fits = room.copied_fits;
              };
          store = from.is;
          values = from.values;
          turns = from.turns;
          sound = both_empty keeps_counts sheet seeds (length values) (length turns) store start.copied;
          shallow = table_shallow A setting_for its start runnable.shallow;
        }

    -- how the table's run ended, by what the code answered
    pub table_ends : {start : Memory A} {store : List A.Carrier} → Starts start before store → {after : Cells A} {end : Ended}
        → RunsTable A table rows beyond keeps_counts roles constants seeds (cells_of A store values turns copied) after end
        → EndsLike A start after end (run_of A its setting_for (first_state A start))
    unfolding run_of
    table_ends {start} from runs = runs.ends setting_for (lines_of its) start (handed from)

  -- ---- what a job's call answers and leaves

  module _ (job : Job A) (lent : Lent A) where
    abbrev ending : Step A
    ending = run_of A job.table job.setting job.start

    -- the result that was written where the run finished is the job's
    pub record ResultRight (start : Memory A) (after : Cells A) (finished : List A.Carrier) : Type 0 where
      pub right : (memory : Memory A) → ending ≡ ended memory → memory.store ≡ after.store
          → (memory.copied ≡ start.copied) ⊎ (memory.copied ≡ after.copied) → finished ≡ job.result memory

    ends_as : {start : Memory A} (end : Ended) (after : Cells A) {finished : List A.Carrier} → ResultRight start after finished
        → EndsLike A start after end ending
        → ran_of A (answer_at end) (lent_after A job.table lent (result_at end finished lent.result)) ≡ ran_to A job lent ending
    unfolding ran_to answer_at result_at
    ends_as ended_as.Finished after written ends =
        rw (ends.is, written.right ends.memory ends.is ends.store ends.copies)
    ends_as (ended_as.Stopped row) after written ends = rw ends.is
    ends_as ended_as.Stuck after written is = rw is
    ends_as ended_as.Unfinished after written (state, is) = rw is

    pub job_comes_to : {start : Memory A} (end : Ended) {after : Cells A} {finished : List A.Carrier} → ResultRight start after finished
        → EndsLike A start after end ending
        → {values_after : List A.Carrier} {turns_after : List ℕ} → StacksCleared A lent.values lent.turns values_after turns_after
        → {left : List A.Carrier} → left ≡ result_at end finished lent.result
        → {answer : Reply} → answer ≡ answer_at end
        → RanTo A job lent answer values_after turns_after left
    unfolding lent_after
    job_comes_to end {after} written ends emptied left answered =
        rw (emptied.values_are, emptied.turns_are, left, answered) (ends_as end after written ends)
