-- The run of an adjoint table: what it starts from and what it copies, its place in a call, and what the call then answers and leaves.
use Prim.Native.Nat.{ℕ, ◌+◌, ◌*◌, ◌-◌}
use mathlib.Core.Path.{◌≡◌, refl, sym, ap, ◌∙◌}
use mathlib.Core.Logic.{◌⊎◌, inl, inr}
use mathlib.Core.Bool.{true}
use mathlib.Core.List.{List, ◌++◌}
use native.Mathlib.Omega.{arith}
use lib.ListN.{length, take, drop, replicate, length-append, length-drop, length-replicate, replicate-append-replicate}
use lib.Seq.{drop_at}
use borrow.Author.Rules.{part_to_end}
use Rattle.number.specs.Arithmetic.{Arithmetic, divides}
use Rattle.sheet.specs.Judging.{refused, given}
use Rattle.sheet.specs.Refusals.{Refusal}
use Rattle.sheet.specs.Sheets.{Sheet, variables_of}
use Rattle.sheet.specs.Reading.{read}
use Rattle.sheet.proofs.Depth.{sheet_deep}
use Rattle.sheet.proofs.ReadingParts.{accepted}
use Rattle.sheet.proofs.NamesPresent.{counts}
use Rattle.sets.specs.Marks.{mark_by, marked_by}
use Rattle.sets.specs.Rounds.{sets_of, marked}
use Rattle.table.specs.RowBounds.{table_variables, most_table_rows}
use Rattle.table.specs.Computed.{table_of, needs_of}
use Rattle.table.specs.Sizes.{table_rows}
use Rattle.table.specs.Calls.{overwritten}
use Rattle.table.specs.declared.Reply.{Reply}
use Rattle.table.specs.declared.Plan.{Plan}
use Rattle.table.specs.Inner.Plans.{PlanMade}
use Rattle.table.proofs.PlanLaws.{planned_few}
use Rattle.table.proofs.TableBounds.{table_deep, marked_deep}
use Rattle.writer.specs.Inner.JumpsNoted.{TableNoted}
use Rattle.machine.specs.Actions.{Memory}
use Rattle.machine.specs.Machine.{ended}
use Rattle.machine.specs.Inner.Buffers.{Cells, cells_of}
use Rattle.machine.specs.Inner.RowsHanded.{Indexed}
use Rattle.machine.specs.declared.Ended.{Ended}
use Rattle.run.specs.Runs.{Lent, Job, setting_of, start_of, run_of, result_of, lent_of, ran_of}
use Rattle.run.specs.Calls.{all_admitted, adjoint_job, run}
use Rattle.run.specs.declared.Counted.TheVariants as counted
use Rattle.run.specs.Inner.TableRuns.{RunsTable}
use Rattle.run.specs.Inner.CallSteps.{NoRoom, HasRoom, Answers, ResultFits, halves_of, answer_at, result_at}
use Rattle.run.specs.Inner.CallAnswers.{TableInPlace, Ready, RunRoom, AdjointRanTo}
use Rattle.run.proofs.RunsCopy.{adjoint_copies}
use Rattle.run.proofs.EnoughSteps.{adjoint_steps}
use Rattle.run.proofs.TableNames.{adjoint_known}
use Rattle.run.proofs.SectionLaws.{table_in_place, place_indexed}
use Rattle.run.proofs.CallsJudged.{rooms_of, refused_run, numbers_refuse, accepted_run}
use Rattle.run.proofs.CallLaws.{Runnable, Starts, table_ends, ResultRight, job_comes_to}

-- ---- the table

pub adjoint_runnable : (words : List ℕ) (sheet : Sheet) → read words ≡ given sheet → Runnable (table_of sheet)
unfolding table_of marked marked_by
adjoint_runnable words sheet e =
    record {
      shallow =
          omega (
            arith,
            table_deep (variables_of sheet) (marked sheet),
            marked_deep (mark_by (sets_of sheet)) sheet.body 0,
            sheet_deep words sheet e,
          );
      short = adjoint_steps words sheet e;
    }

-- of a planned sheet whose table has been written over a buffer, and its jumps over zeros
module _ {words : List ℕ} {plan : Plan} {marks came goes : List ℕ} (made : PlanMade words plan marks came goes) {buffer table beyond : List ℕ}
    (writes : (sheet : Sheet) → read words ≡ given sheet → TableNoted (table_of sheet) buffer table (replicate most_table_rows 0) beyond) where
  pub adjoint_in_place : TableInPlace (table_of made.sheet) words plan table beyond made.sheet buffer
  unfolding table_rows table_of
  adjoint_in_place =
      table_in_place made (table_of made.sheet) refl (omega (arith, planned_few made, made.planned.rows)) (writes made.sheet made.accepted)

  pub adjoint_indexed : Indexed table plan.rows (table_variables plan.shape.variables) plan.shape.constants
  adjoint_indexed = place_indexed words plan (adjoint_known words made.sheet made.accepted) adjoint_in_place

-- ---- refusals 1 to 11, and the run behind them

module _ (A : Arithmetic) (words : List ℕ) (starts seeds : List A.Carrier) (lent : Lent A) where
  pub adjoint_refused : {answer : Reply} → NoRoom (divides A) needs_of words (rooms_of A starts seeds lent) answer → ran_of A answer lent ≡ run A words starts seeds lent
  unfolding run
  adjoint_refused = refused_run A needs_of words starts seeds lent (adjoint_job A starts seeds lent)

  module _ {marks came goes : List ℕ} {plan : Plan} (room : HasRoom (divides A) needs_of words (rooms_of A starts seeds lent) marks came goes plan) where
    pub adjoint_numbers_refused : {why : Refusal} {answer : Reply} → all_admitted A (starts ++ seeds) 0 ≡ refused why → Answers answer why
        → ran_of A answer lent ≡ run A words starts seeds lent
    unfolding run
    adjoint_numbers_refused = numbers_refuse A needs_of words starts seeds lent (adjoint_job A starts seeds lent) room

    pub adjoint_ran : all_admitted A (starts ++ seeds) 0 ≡ given tt → {table beyond : List ℕ}
        → ((sheet : Sheet) → read words ≡ given sheet → TableNoted (table_of sheet) lent.table table (replicate most_table_rows 0) beyond)
        → {answer : Reply} {values : List A.Carrier} {turns : List ℕ} {result : List A.Carrier}
        → ((sheet : Sheet) (buffer : List ℕ) → TableInPlace (table_of sheet) words plan table beyond sheet buffer
        → AdjointRanTo A sheet buffer starts seeds lent.values lent.turns lent.result answer values turns result)
        → ran_of A answer (lent_of A table values turns result) ≡ run A words starts seeds lent
    unfolding run
    adjoint_ran admitted writes runs =
        let place = adjoint_in_place room.made writes in
        accepted_run A needs_of words starts seeds lent (adjoint_job A starts seeds lent) room admitted place (runs room.made.sheet lent.table place)

-- ---- the start

drop_zeros : {X : Type 0} (n m : ℕ) (zero : X) → drop n (replicate (n + m) zero) ≡ replicate m zero
drop_zeros n m zero =
    ap (drop n) (sym (replicate-append-replicate n m zero)) ∙ drop_at (replicate n zero) (replicate m zero) n (length-replicate n zero)

module _ (A : Arithmetic) where
  starts_then_zeros : (sheet : Sheet) (starts : List A.Carrier) → length starts ≡ variables_of sheet
      → overwritten starts (replicate (table_variables (variables_of sheet)) A.zero) ≡ (start_of A sheet starts).memory.store
  unfolding start_of overwritten
  starts_then_zeros sheet starts n =
      let v = variables_of sheet in
      let split : 2 * v + 2 ≡ v + (v + 2) = omega arith in
      rw (n, split) (ap (λ l. starts ++ l) (drop_zeros v (v + 2) A.zero))

  start_length : (sheet : Sheet) (starts : List A.Carrier)
      → length (start_of A sheet starts).memory.store ≡ length starts + (variables_of sheet + 2)
  unfolding start_of
  start_length sheet starts =
      let zeros = replicate (variables_of sheet + 2) A.zero in
      length-append starts zeros ∙ ap (λ n. length starts + n) (length-replicate (variables_of sheet + 2) A.zero)

  -- ---- the end

  -- whatever the run leaves in its store and of the copies, the result can be read off
  pub result_fits_lem : {roles : List ℕ} {starts seeds before copied result : List A.Carrier} → RunRoom A roles starts seeds before copied result
      → (store : List A.Carrier) {copies : List A.Carrier} → length store ≡ length before → length copies ≡ length copied
      → ResultFits roles copies (take (length store - length roles) (drop (length roles) store)) result
  result_fits_lem {roles} room store kept kept_copies =
      record {
        first_fits = kept_copies ∙ room.copied_fits;
        second_fits = rw (part_to_end store (length roles)) (omega (arith, kept, room.store_fits, length-drop (length roles) store));
        result_fits = room.result_fits;
      }

  -- ---- the whole run

  module _ {sheet : Sheet} {roles constants table : List ℕ} {rows : ℕ} {beyond : List ℕ}
      (ready : Ready (table_of sheet) sheet roles constants table rows beyond)
      {starts seeds before copied result : List A.Carrier} (room : RunRoom A roles starts seeds before copied result)
      (values : List A.Carrier) (turns : List ℕ) where
    abbrev start : Memory A
    start = (start_of A sheet starts).memory

    roles_counted : length roles ≡ variables_of sheet
    roles_counted = ap length ready.roles_are

    -- the store of zeros with the start values laid into it
    starts_laid : {store : List A.Carrier} → store ≡ overwritten starts before → Starts A start before store
    unfolding start_of
    starts_laid is =
        let places : length before ≡ table_variables (variables_of sheet) = room.store_fits ∙ ap table_variables roles_counted in
        let from = is ∙ ap (overwritten starts) (room.zeros ∙ ap (λ n. replicate n A.zero) places)
        ∙ starts_then_zeros sheet starts (room.starts_fit ∙ roles_counted) in
        record {
          long = omega (arith, ap length from, places, room.starts_fit, roles_counted, start_length sheet starts);
          is = sym from;
          values = refl;
          turns = refl;
        }

    module _ (buffer : List ℕ) (after : Cells A) where
      abbrev job : Job A
      job = adjoint_job A starts seeds (lent_of A buffer values turns result) sheet

      -- a run that ended has copied every original
      ended_copies : (memory : Memory A) → run_of A job.table job.setting job.start ≡ ended memory → length memory.copied ≡ variables_of sheet
      unfolding start_of setting_of table_of
      ended_copies memory e =
          adjoint_copies A job.setting refl (marked sheet) start memory (omega (arith, room.starts_fit, roles_counted, start_length sheet starts)) e

      -- the copies that the machine holds are those in the buffer
      held_is : (held : List A.Carrier) → length held ≡ variables_of sheet → (held ≡ start.copied) ⊎ (held ≡ after.copied) → held ≡ after.copied
      unfolding start_of
      held_is held whole (inr same) = same
      held_is held whole (inl none) =
          let some = (counts ready.words sheet (accepted ready.words sheet ready.accepted)).some_variable in
          absurd (omega (arith, ap length none))

      result_right : ResultRight A job (lent_of A buffer values turns result) start after
          (halves_of A after.copied counted.Independents roles (take (length after.store - length roles) (drop (length roles) after.store)))
      unfolding result_of halves_of
      result_right =
          record {
            right = λ memory e store copies.
                rw (part_to_end after.store (length roles), held_is memory.copied (ended_copies memory e) copies, store, ready.roles_are);
          }

      -- from each step of a call's run to what it comes to
      pub adjoint_comes_to : {store : List A.Carrier} {end : Ended} {answer : Reply} {left : List A.Carrier}
          → store ≡ overwritten starts before
          → RunsTable A table rows beyond true roles constants seeds (cells_of A store values turns copied) after end
          → left
          ≡ result_at end
          (halves_of A after.copied counted.Independents roles (take (length after.store - length roles) (drop (length roles) after.store)))
          result
          → answer ≡ answer_at end
          → AdjointRanTo A sheet buffer starts seeds values turns result answer after.values after.turns left
      unfolding start_of setting_of
      adjoint_comes_to {end = end} laid runs written answered =
          job_comes_to A job (lent_of A buffer values turns result) end result_right
          (table_ends A ready (adjoint_runnable ready.words sheet ready.accepted) room true values turns (starts_laid laid) runs)
          (record { values_are = runs.values_cleared; turns_are = runs.turns_cleared }) written answered
