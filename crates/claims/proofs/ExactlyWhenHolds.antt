-- Demand 1's "exactly when", of the definitions: which number and place check, write and a run answer, and what the lent buffers then hold. A run's
-- is shown for whatever job is run of a sheet, if its table is as long as the sheet needs and its run is never stuck.
use Prim.Native.Nat.{ℕ, ◌≤◌}
use mathlib.Core.Path.{◌≡◌, refl, sym, ap, subst, ◌∙◌}
use mathlib.Core.List.{List}
use mathlib.Core.Bool.{true}
use mathlib.Core.Logic.{◌⊎◌, inl, inr, ◌≢◌}
use lib.ListN.{length, drop, length-append, length-drop}
use lib.Seq.{take-append_seam, drop-append_seam}
use native.Mathlib.Omega.{arith}
use Rattle.number.specs.Arithmetic.{Arithmetic}
use Rattle.sheet.specs.Judging.{Answer, number_in, place_in}
use Rattle.sheet.specs.Refusals.{Refusal, number_of, place_of}
use Rattle.sheet.specs.Tree.{RowNumber}
use Rattle.sheet.specs.Sheets.{Sheet}
use Rattle.sheet.specs.Reading.{read}
use Rattle.sheet.proofs.RefusalsApart.{same_refusal, from_1_to_13}
use Rattle.sheet.proofs.Settled.{refused_exactly, given_exactly, named_exactly, done_exactly, numbers_within}
use Rattle.sets.specs.Marks.{Sets}
use Rattle.sets.specs.Rounds.{sets_of, marked}
use Rattle.table.specs.TableRows.{Table, table_words}
use Rattle.table.specs.Adjoint.{table_by}
use Rattle.table.specs.Sizes.{Needs, needs_by, Checked, no_sizes, sizes_by, Written, table_room}
use Rattle.table.specs.Computed.{table_of}
use Rattle.table.specs.Calls.{sizes_in, check, read_for, overwritten, table_in, write_by, write}
use Rattle.table.proofs.TableLength.{table_length}
use Rattle.machine.specs.Actions.{Memory, Stop}
use Rattle.machine.specs.Machine.{Step, goes_on, ended, stops, sticks}
use Rattle.run.specs.Runs.{Lent, Ran, Job, run_of}
use Rattle.run.specs.Calls.{lent_after, ran_to, ran_on, run_by, run}
use Rattle.claims.specs.ExactlyWhen.{ReadingRefuses, Read, WritingRefuses, Writable, Runnable, StartRefused, RunRefuses, Stops, before_start, result_not_finite, Finishes}
use Rattle.claims.specs.Demands.{Names, CheckExactly, StartsWith, WritesExactly, WriteExactly, LeftBehind, RunExactly, adjoint_by}
use Rattle.claims.specs.ReaderExactly.{ReadExactly}
use Rattle.claims.proofs.ReadingExactlyWhen.{reading_settled, reading_numbers}
use Rattle.claims.proofs.StartExactlyWhen.{accepted_reads, own_sets, only_sets, by_own_sets, needed, writing_settled, writing_numbers, OwnRunnable, start_settled, started, start_numbers}
use Rattle.claims.proofs.RunsEnd.{EndsSome, stop_names_its_row, end_is_past_all, stops_there, finishes_there}
use Rattle.claims.proofs.RunsAnswer.{own_run_ends}

pub reading_exactly : (words : List ℕ) → ReadExactly words (read words)
reading_exactly words = record { refuses = refused_exactly (reading_settled words); gives = given_exactly (reading_settled words) }

-- ---- check

module _ (words : List ℕ) where
  abbrev checked_by : Answer Sheet → Checked
  checked_by answer = record { number = number_in answer; place = place_in answer; sizes = sizes_in answer }

  check_answers : (answer : Answer Sheet) → read words ≡ answer → check words ≡ checked_by answer
  unfolding check
  check_answers answer e = ap checked_by e

  all_0_when_refused : 1 ≤ (check words).number → (check words).sizes ≡ no_sizes
  unfolding number_in sizes_in
  all_0_when_refused some = by (reading_settled words).either
    where
      by : ((sheet : Sheet) × Read words sheet) ⊎ ((r : Refusal) × ReadingRefuses words r) → (check words).sizes ≡ no_sizes
      by (inl (sheet, is)) = absurd (omega (arith, ap (λ c. c.number) (check_answers _ ((reading_settled words).by_result sheet is))))
      by (inr (r, rule)) = ap (λ c. c.sizes) (check_answers _ ((reading_settled words).by_rule r rule))

  pub check_exactly : CheckExactly words (check words)
  unfolding check
  check_exactly =
      record {
        refuses = named_exactly (reading_settled words);
        done = done_exactly (reading_settled words);
        numbers = numbers_within (reading_settled words) 7 (λ r. reading_numbers);
        when_refused = all_0_when_refused;
        analysed = λ sheet is. (sets_of sheet, (own_sets words sheet is).least);
        one_analysis = λ sheet sets others is least.
            only_sets words sheet sets is ∙ sym (only_sets words sheet others (record { is_read = is.is_read; least = least }));
        when_done = λ sheet sets is.
            let e = check_answers _ (accepted_reads words sheet is.is_read) in
            by_own_sets words sheet (λ s. ((check words).place ≡ 0) × ((check words).sizes ≡ sizes_by s sheet))
            (ap (λ c. c.place) e, ap (λ c. c.sizes) e) sets is;
      }

-- ---- write

-- the buffer after a table has been written into it
overwritten_starts : (table buffer : List ℕ) → length table ≤ length buffer → StartsWith table buffer (overwritten table buffer)
unfolding overwritten
overwritten_starts table buffer room =
    record {
      starts = take-append_seam table (drop (length table) buffer);
      keeps = drop-append_seam table (drop (length table) buffer);
      same_length = simp (length-append, length-drop) (omega arith);
    }

module _ (needs : Sets → Sheet → Needs) (table : Sets → Sheet → Table)
    (long : (sheet : Sheet) → length (table_words (table (sets_of sheet) sheet)) ≡ table_room (needed needs sheet).rows) (words buffer : List ℕ) where
  abbrev Fits : Sheet → Type 0
  Fits sheet = Writable true needs words buffer sheet (sets_of sheet)

  abbrev own_table : Sheet → Table
  own_table sheet = table (sets_of sheet) sheet

  abbrev written_now : Written
  written_now = write_by (needed needs) own_table words buffer

  abbrev written_by : Answer Sheet → Written
  written_by answer = record { number = number_in answer; place = place_in answer; table = table_in own_table answer buffer }

  write_answers : (answer : Answer Sheet) → read_for true (needed needs) words (length buffer) ≡ answer → written_now ≡ written_by answer
  unfolding write_by
  write_answers answer e = ap written_by e

  kept_when_refused : 1 ≤ written_now.number → written_now.table ≡ buffer
  unfolding number_in table_in
  kept_when_refused some = by (writing_settled true needs words buffer).either
    where
      by : ((sheet : Sheet) × Fits sheet) ⊎ ((r : Refusal) × WritingRefuses true needs words buffer r) → written_now.table ≡ buffer
      by (inl (sheet, is)) = absurd (omega (arith, ap (λ w. w.number) (write_answers _ ((writing_settled true needs words buffer).by_result sheet is))))
      by (inr (r, rule)) = ap (λ w. w.table) (write_answers _ ((writing_settled true needs words buffer).by_rule r rule))

  -- with a sheet's own sets
  own_table_lem : (sheet : Sheet) → Fits sheet
      → (written_now.place ≡ 0) × StartsWith (table_words (own_table sheet)) buffer written_now.table
  unfolding place_in table_in
  own_table_lem sheet is =
      let e = write_answers _ ((writing_settled true needs words buffer).by_result sheet is) in
      let starts = overwritten_starts (table_words (own_table sheet)) buffer (omega (arith, long sheet, is.table_fits)) in
      (ap (λ w. w.place) e, subst (StartsWith (table_words (own_table sheet)) buffer) (sym (ap (λ w. w.table) e)) starts)

  pub writes_exactly : WritesExactly needs table words buffer written_now
  unfolding write_by
  writes_exactly =
      record {
        refuses = named_exactly (writing_settled true needs words buffer);
        done = (
          λ none. let found = (done_exactly (writing_settled true needs words buffer)).0 none in (found.0, sets_of found.0, found.1),
          λ found. (done_exactly (writing_settled true needs words buffer)).1 (found.0, own found.0 found.1 found.2),
        );
        numbers = numbers_within (writing_settled true needs words buffer) 8 (λ r. writing_numbers);
        when_refused = kept_when_refused;
        when_done = λ sheet sets is.
            by_own_sets words sheet (λ s. (written_now.place ≡ 0) × StartsWith (table_words (table s sheet)) buffer written_now.table)
            (own_table_lem sheet (own sheet sets is)) sets is.accepted;
      }
    where
      own : (sheet : Sheet) (sets : Sets) → Writable true needs words buffer sheet sets → Fits sheet
      own sheet sets is = subst (Writable true needs words buffer sheet) (only_sets words sheet sets is.accepted) is

-- the adjoint table
pub write_exactly : (words buffer : List ℕ) → WriteExactly words buffer (write words buffer)
unfolding write table_of marked
write_exactly words buffer = writes_exactly needs_by table_by table_length words buffer

-- ---- a run

module _ (A : Arithmetic) (needs : Sets → Sheet → Needs) (job : Sets → Sheet → Job A) (words : List ℕ) (starts seeds : List A.Carrier)
    (lent : Lent A) where
  abbrev own : Sheet → Job A
  own sheet = job (sets_of sheet) sheet

  abbrev answer : Ran A
  answer = run_by A (needed needs) own words starts seeds lent

  abbrev ending_of : Sheet → Step A
  ending_of sheet = run_of A (own sheet).table (own sheet).setting (own sheet).start

  abbrev NotStarted : Refusal → Type 0
  NotStarted = StartRefused A needs words starts seeds lent

  abbrev ReadyFor : Sheet → Type 0
  ReadyFor = OwnRunnable A needs words starts seeds lent

  -- what this asks of the job: its table is as long as the sheet's need says, and its run ends or stops
  pub record JobRuns : Type 0 where
    pub table_fits : (sheet : Sheet) → length (table_words (own sheet).table) ≡ table_room (needed needs sheet).rows
    pub ends : (sheet : Sheet) → ReadyFor sheet → EndsSome A (ending_of sheet)

  abbrev Rule : Refusal → Type 0
  Rule = RunRefuses A needs job words starts seeds lent

  -- ---- with a sheet's own sets

  record StopsOwn (sheet : Sheet) (row : RowNumber) : Type 0 where
    runnable : ReadyFor sheet
    stop : Stop A
    ending : ending_of sheet ≡ stops row stop

  record FinishesOwn (sheet : Sheet) (memory : Memory A) : Type 0 where
    runnable : ReadyFor sheet
    ending : ending_of sheet ≡ ended memory

  -- the rules speak of where the machine came to
  stopped_there : (sheet : Sheet) (row : RowNumber) → StopsOwn sheet row → Stops A needs job words starts seeds lent sheet (sets_of sheet) row
  stopped_there sheet row is =
      record {
        runnable = is.runnable;
        stop = is.stop;
        there = stop_names_its_row A (own sheet) row is.stop is.ending;
      }

  finished_there : (sheet : Sheet) (memory : Memory A) → FinishesOwn sheet memory
      → Finishes A needs job words starts seeds lent sheet (sets_of sheet) memory
  finished_there sheet memory is =
      record {
        runnable = is.runnable;
        finished = end_is_past_all A (own sheet) memory is.ending;
      }

  module _ (fine : JobRuns) where
    module _ (sheet : Sheet) (sets : Sets) where
      same_sets : Runnable A needs words starts seeds lent sheet sets → sets ≡ sets_of sheet
      same_sets is = only_sets words sheet sets is.lengths.stacks.writable.accepted

      own_stop : (row : RowNumber) → Stops A needs job words starts seeds lent sheet sets row → StopsOwn sheet row
      own_stop row is =
          let mine = subst (λ s. Stops A needs job words starts seeds lent sheet s row) (same_sets is.runnable) is in
          record {
            runnable = mine.runnable;
            stop = mine.stop;
            ending = stops_there A (own sheet) (fine.ends sheet mine.runnable) row mine.stop mine.there;
          }

      own_finish : (memory : Memory A) → Finishes A needs job words starts seeds lent sheet sets memory → FinishesOwn sheet memory
      own_finish memory is =
          let mine = subst (λ s. Finishes A needs job words starts seeds lent sheet s memory) (same_sets is.runnable) is in
          record {
            runnable = mine.runnable;
            ending = finishes_there A (own sheet) (fine.ends sheet mine.runnable) memory mine.finished;
          }

    -- ---- what is answered, from how the run goes

    not_started_lem : (r : Refusal) → NotStarted r → answer ≡ record { number = number_of r; place = place_of r; lent = lent }
    unfolding run_by ran_on
    not_started_lem r rule = ap (λ sheet. ran_on A own sheet lent) ((start_settled A needs words starts seeds lent).by_rule r rule)

    stopped : (sheet : Sheet) (row : RowNumber) → StopsOwn sheet row
        → answer ≡ record { number = 12; place = row.index; lent = lent_after A (own sheet).table lent lent.result }
    unfolding ran_to
    stopped sheet row is = started A needs words starts seeds lent own sheet _ is.runnable is.ending

    finished : (sheet : Sheet) (memory : Memory A) → FinishesOwn sheet memory
        → answer ≡ record { number = 0; place = 0; lent = lent_after A (own sheet).table lent ((own sheet).result memory) }
    unfolding ran_to
    finished sheet memory is = started A needs words starts seeds lent own sheet _ is.runnable is.ending

    left_behind : (sheet : Sheet) (result : List A.Carrier) → ReadyFor sheet
        → LeftBehind A (own sheet).table lent (lent_after A (own sheet).table lent result)
    unfolding lent_after
    left_behind sheet result is =
        let room = is.lengths.stacks.writable.table_fits in
        record {
          table = overwritten_starts (table_words (own sheet).table) lent.table (omega (arith, fine.table_fits sheet, room));
          values = refl;
          turns = refl;
        }

    left_and_result : (sheet : Sheet) (number place : ℕ) (result : List A.Carrier) → ReadyFor sheet
        → answer ≡ record { number = number; place = place; lent = lent_after A (own sheet).table lent result }
        → (answer.place ≡ place) × LeftBehind A (own sheet).table lent answer.lent × (answer.lent.result ≡ result)
    unfolding lent_after
    left_and_result sheet number place result is e = (
      ap (λ r. r.place) e,
      subst (LeftBehind A (own sheet).table lent) (sym (ap (λ r. r.lent) e)) (left_behind sheet result is),
      ap (λ r. r.lent.result) e,
    )

    -- ---- how the run goes, from what is answered

    data Way : Type 0 where
      not_started : (r : Refusal) → NotStarted r → Way
      finishing : (sheet : Sheet) (memory : Memory A) → FinishesOwn sheet memory → Way
      stopping : (sheet : Sheet) (row : RowNumber) → StopsOwn sheet row → Way

    way_to : (sheet : Sheet) → ReadyFor sheet → (ending : Step A) → ending_of sheet ≡ ending → EndsSome A ending → Way
    way_to sheet is (ended memory) e some = finishing sheet memory (record { runnable = is; ending = e })
    way_to sheet is (stops row stop) e some = stopping sheet row (record { runnable = is; stop = stop; ending = e })
    way_to sheet is sticks e some = absurd some
    way_to sheet is (goes_on state) e some = absurd some

    way : Way
    way = by (start_settled A needs words starts seeds lent).either
      where
        by : ((sheet : Sheet) × ReadyFor sheet) ⊎ ((r : Refusal) × NotStarted r) → Way
        by (inl (sheet, is)) = way_to sheet is (ending_of sheet) refl (fine.ends sheet is)
        by (inr (r, rule)) = not_started r rule

    named_by_rule : {r : Refusal} → Rule r → Names answer.number answer.place r
    unfolding number_of place_of
    named_by_rule (before_start {r} rule) = (ap (λ r. r.number) (not_started_lem r rule), ap (λ r. r.place) (not_started_lem r rule))
    named_by_rule (result_not_finite sheet sets row is) =
        let e = stopped sheet row (own_stop sheet sets row is) in
        (ap (λ r. r.number) e, ap (λ r. r.place) e)

    same_name : (r r' : Refusal) → Rule r' → Names answer.number answer.place r → Rule r
    same_name r r' rule names =
        let e = named_by_rule rule in
        subst Rule (same_refusal r' r (sym e.0 ∙ names.0) (sym e.1 ∙ names.1)) rule

    rule_of_name : (r : Refusal) → Way → Names answer.number answer.place r → Rule r
    rule_of_name r (not_started r' rule) names = same_name r r' (before_start rule) names
    rule_of_name r (stopping sheet row is) names = same_name r _ (result_not_finite sheet (sets_of sheet) row (stopped_there sheet row is)) names
    rule_of_name r (finishing sheet memory is) names =
        absurd (omega (arith, ap (λ r. r.number) (finished sheet memory is), names.0, from_1_to_13 r))

    finished_on_0 : Way → answer.number ≡ 0
        → (sheet : Sheet) × (sets : Sets) × (memory : Memory A) × Finishes A needs job words starts seeds lent sheet sets memory
    finished_on_0 (not_started r rule) e = absurd (omega (arith, (named_by_rule (before_start rule)).0, from_1_to_13 r))
    finished_on_0 (finishing sheet memory is) e = (sheet, sets_of sheet, memory, finished_there sheet memory is)
    finished_on_0 (stopping sheet row is) e = absurd (omega (arith, ap (λ r. r.number) (stopped sheet row is)))

    stopped_on_12 : Way → answer.number ≡ 12
        → (sheet : Sheet) × (sets : Sets) × (row : RowNumber) × Stops A needs job words starts seeds lent sheet sets row
    stopped_on_12 (not_started r rule) e = absurd (start_numbers rule (sym (named_by_rule (before_start rule)).0 ∙ e))
    stopped_on_12 (finishing sheet memory is) e = absurd (omega (arith, ap (λ r. r.number) (finished sheet memory is)))
    stopped_on_12 (stopping sheet row is) e = (sheet, sets_of sheet, row, stopped_there sheet row is)

    numbers_of : Way → answer.number ≤ 13
    numbers_of (not_started r rule) = omega (arith, (named_by_rule (before_start rule)).0, from_1_to_13 r)
    numbers_of (finishing sheet memory is) = omega (arith, ap (λ r. r.number) (finished sheet memory is))
    numbers_of (stopping sheet row is) = omega (arith, ap (λ r. r.number) (stopped sheet row is))

    kept_unless_12 : Way → 1 ≤ answer.number → answer.number ≢ 12 → answer.lent ≡ lent
    kept_unless_12 (not_started r rule) low other = ap (λ r. r.lent) (not_started_lem r rule)
    kept_unless_12 (finishing sheet memory is) low other = absurd (omega (arith, ap (λ r. r.number) (finished sheet memory is)))
    kept_unless_12 (stopping sheet row is) low other = absurd (other (ap (λ r. r.number) (stopped sheet row is)))

    left_on_12 : (sheet : Sheet) (sets : Sets) (row : RowNumber) → Stops A needs job words starts seeds lent sheet sets row
        → (answer.place ≡ row.index) × LeftBehind A (job sets sheet).table lent answer.lent × (answer.lent.result ≡ lent.result)
    left_on_12 sheet sets row is =
        let mine = own_stop sheet sets row is in
        subst (λ s. (answer.place ≡ row.index) × LeftBehind A (job s sheet).table lent answer.lent × (answer.lent.result ≡ lent.result))
        (sym (same_sets sheet sets is.runnable))
        (left_and_result sheet 12 row.index lent.result mine.runnable (stopped sheet row mine))

    left_on_0 : (sheet : Sheet) (sets : Sets) (memory : Memory A) → Finishes A needs job words starts seeds lent sheet sets memory
        → (answer.place ≡ 0) × LeftBehind A (job sets sheet).table lent answer.lent
        × (answer.lent.result ≡ (job sets sheet).result memory)
    left_on_0 sheet sets memory is =
        let mine = own_finish sheet sets memory is in
        subst
        (λ s. (answer.place ≡ 0) × LeftBehind A (job s sheet).table lent answer.lent × (answer.lent.result ≡ (job s sheet).result memory))
        (sym (same_sets sheet sets is.runnable))
        (left_and_result sheet 0 0 ((own sheet).result memory) mine.runnable (finished sheet memory mine))

    pub runs_exactly : RunExactly A needs job words starts seeds lent answer
    runs_exactly =
        record {
          refuses = λ r. (rule_of_name r way, named_by_rule);
          done = (
            finished_on_0 way,
            λ (sheet, sets, memory, is). ap (λ r. r.number) (finished sheet memory (own_finish sheet sets memory is)),
          );
          stopped = (stopped_on_12 way, λ (sheet, sets, row, is). ap (λ r. r.number) (stopped sheet row (own_stop sheet sets row is)));
          numbers = numbers_of way;
          when_refused = kept_unless_12 way;
          when_stopped = left_on_12;
          when_done = left_on_0;
        }

-- ---- the run of a sheet's adjoint table

module _ (A : Arithmetic) (words : List ℕ) (starts seeds : List A.Carrier) (lent : Lent A) where
  adjoint_runs : JobRuns A needs_by (adjoint_by A starts seeds lent) words starts seeds lent
  unfolding table_of marked
  adjoint_runs = record { table_fits = table_length; ends = own_run_ends A words starts seeds lent }

  pub run_exactly : RunExactly A needs_by (adjoint_by A starts seeds lent) words starts seeds lent (run A words starts seeds lent)
  unfolding run table_of marked
  run_exactly = runs_exactly A needs_by (adjoint_by A starts seeds lent) words starts seeds lent adjoint_runs
