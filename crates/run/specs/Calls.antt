-- What a run answers and what every lent buffer then holds, as it is computed: for both arithmetics from one definition, and for any table, start and
-- result (`run_by`).
use Rattle.std.specs.Prelude.{ℕ, suc, ◌*◌, List, [], ◌∷◌, ◌++◌, length, leb, eqb}
use Rattle.std.proofs.Math.ListN.{replicate}
use Rattle.number.specs.Arithmetic.{Arithmetic, divides}
use Rattle.sheet.specs.Judging.{Answer, refused, given, ◌>>=◌, unless}
use Rattle.sheet.specs.Refusals.{number_of, place_of, small_value_stack, small_turn_stack, wrong_starts, wrong_seeds, wrong_result, not_finite_given, not_finite_result}
use Rattle.sheet.specs.Sheets.{Sheet, variables_of}
use Rattle.sets.specs.Rounds.{marked}
use Rattle.table.specs.TableRows.{Table, table_words}
use Rattle.table.specs.Sizes.{Needs, table_rows, values_needed, turns_needed}
use Rattle.table.specs.Computed.{table_of, needs_of}
use Rattle.table.specs.Calls.{read_for, overwritten}
use Rattle.machine.specs.Machine.{Step, goes_on, ended, stops, sticks}
use Rattle.run.specs.Runs.{Lent, Ran, Job, run_of, setting_of, start_of, result_of, job_of}

module _ (A : Arithmetic) where
  -- "a start value or seed not finite (doubles) | the first one's index; seeds from V"
  unfoldable pub all_admitted : List A.Carrier → (place : ℕ) → Answer (Unit {0})
  all_admitted [] place = given tt
  all_admitted (x ∷ xs) place = do
    _ ← unless (A.admits x) (not_finite_given place)
    all_admitted xs (suc place)

  -- refusals 1 to 11, "the rest in number order", where a sheet needs so much; and where the arithmetic doesn't divide 13, "after 7 and before 8"
  unfoldable pub read_to_run : (needs : Sheet → Needs) → (words : List ℕ) → (starts seeds : List A.Carrier) → Lent A → Answer Sheet
  unfolding read_for all_admitted
  read_to_run needs words starts seeds lent = do
    sheet ← read_for (divides A) needs words (length lent.table)
    let v = variables_of sheet
    _ ← unless (leb (needs sheet).values (length lent.values)) small_value_stack
    _ ← unless (leb (needs sheet).turns (length lent.turns)) small_turn_stack
    _ ← unless (eqb (length starts) v) wrong_starts
    _ ← unless (eqb (length seeds) v) wrong_seeds
    _ ← unless (eqb (length lent.result) (2 * v)) wrong_result
    _ ← all_admitted (starts ++ seeds) 0
    given sheet

  -- ---- the answer

  -- No number of 01's: what a machine that got stuck would be answered by. No run ever is (claims, "never stuck").
  abbrev pub stuck_number : ℕ
  stuck_number = 65535

  -- "On 0 and 12 the table buffer starts with the table and keeps its other words, and both stacks are all zeros over their lent length."
  unfoldable pub lent_after : Table → Lent A → (result : List A.Carrier) → Lent A
  unfolding table_words overwritten
  lent_after table lent result =
      record {
        table = overwritten (table_words table) lent.table;
        values = replicate (length lent.values) A.zero;
        turns = replicate (length lent.turns) 0;
        result = result;
      }

  -- by how the job's run ended. "On 12 the result is unchanged."
  unfoldable pub ran_to : Job A → Lent A → Step A → Ran A
  unfolding lent_after result_of number_of place_of
  ran_to job lent (ended memory) = record { number = 0; place = 0; lent = lent_after job.table lent (job.result memory) }
  ran_to job lent (stops row stop) =
      let stopped = not_finite_result row.index in
      record { number = number_of stopped; place = place_of stopped; lent = lent_after job.table lent lent.result }
  ran_to job lent sticks = record { number = stuck_number; place = 0; lent = lent_after job.table lent lent.result }
  ran_to job lent (goes_on state) = record { number = stuck_number; place = 0; lent = lent_after job.table lent lent.result }

  abbrev pub ran_by : Job A → Lent A → Ran A
  ran_by job lent = ran_to job lent (run_of A job.table job.setting job.start)

  -- "Refusals 1 to 11 change no buffer.", nor does 13
  unfoldable pub ran_on : (job : Sheet → Job A) → Answer Sheet → Lent A → Ran A
  unfolding number_of place_of run_of ran_to
  ran_on job (refused r) lent = record { number = number_of r; place = place_of r; lent = lent }
  ran_on job (given sheet) lent = ran_by (job sheet) lent

  -- what a sheet needs and what is run of it are said by who calls
  unfoldable pub run_by : (needs : Sheet → Needs) → (job : Sheet → Job A) → (words : List ℕ) → (starts seeds : List A.Carrier) → Lent A → Ran A
  unfolding read_to_run ran_on
  run_by needs job words starts seeds lent = ran_on job (read_to_run needs words starts seeds lent) lent

  -- the run of a sheet's own adjoint table
  abbrev pub adjoint_job : (starts seeds : List A.Carrier) → Lent A → Sheet → Job A
  adjoint_job starts seeds lent sheet = job_of A (table_of sheet) sheet starts seeds (length lent.values) (length lent.turns)

  -- "a run takes a sheet, never a bare table, and uses all"
  unfoldable pub run : (words : List ℕ) → (starts seeds : List A.Carrier) → Lent A → Ran A
  unfolding run_by table_of marked table_rows values_needed turns_needed setting_of start_of
  run words starts seeds lent = run_by needs_of (adjoint_job starts seeds lent) words starts seeds lent
