-- The run of a tangent table: what it starts from and what its result is, its place in a call, and what the call then answers and leaves.
use Prim.Native.Nat.{ℕ, ◌+◌, ◌*◌}
use mathlib.Core.Path.{◌≡◌, refl, sym, ap, ◌∙◌}
use mathlib.Core.Bool.{false}
use mathlib.Core.List.{List, [], ◌∷◌, ◌++◌}
use native.Mathlib.Omega.{arith}
use lib.ListN.{length, drop, replicate, length-append, length-drop, length-replicate, replicate-append-replicate}
use lib.Seq.{drop_at}
use Rattle.number.specs.Arithmetic.{Arithmetic, divides}
use Rattle.sheet.specs.Judging.{refused, given}
use Rattle.sheet.specs.Refusals.{Refusal}
use Rattle.sheet.specs.Rows.{is_independent}
use Rattle.sheet.specs.Sheets.{Sheet}
use Rattle.sheet.specs.Reading.{read}
use Rattle.table.specs.RowBounds.{table_variables, most_table_rows}
use Rattle.table.specs.Calls.{overwritten}
use Rattle.table.specs.declared.Reply.{Reply}
use Rattle.table.specs.declared.Plan.{Plan}
use Rattle.table.specs.Inner.Plans.{PlanMadeFor}
use Rattle.writer.specs.Inner.JumpsNoted.{TableNoted}
use Rattle.machine.specs.Actions.{Memory, counting}
use Rattle.machine.specs.Inner.Buffers.{Cells, cells_of}
use Rattle.machine.specs.Inner.RowsHanded.{Indexed}
use Rattle.machine.specs.declared.Ended.{Ended}
use Rattle.machine.proofs.RoleLaws.{counting_length}
use Rattle.run.specs.Runs.{Lent, Job, ran_of}
use Rattle.run.specs.Calls.{all_admitted}
use Rattle.run.specs.declared.Counted.TheVariants as counted
use Rattle.run.specs.Inner.TableRuns.{RunsTable}
use Rattle.run.specs.Inner.CallSteps.{NoRoom, HasRoom, Answers, halves_of, answer_at, result_at}
use Rattle.run.specs.Inner.CallAnswers.{TableInPlace, Ready, RunRoom}
use Rattle.run.proofs.SectionLaws.{table_in_place, place_indexed}
use Rattle.run.proofs.CallsJudged.{rooms_of, refused_run, numbers_refuse, accepted_run}
use Rattle.run.proofs.CallLaws.{Starts, table_ends, ResultRight, job_comes_to}
use Rattle.tangent.specs.TangentRuns.{tangent_setting, tangent_start, tangent_result, without_stacks}
use Rattle.tangent.specs.Calls.{tangent_of, tangent_needs_of, tangent_job, run_tangent}
use Rattle.tangent.specs.Inner.TangentAnswers.{rates_from, TangentRanTo}
use Rattle.tangent.proofs.TangentPlanLaws.{counts_rows, planned_few}
use Rattle.tangent.proofs.TangentBounds.{tangent_runnable}
use Rattle.tangent.proofs.TangentNames.{tangent_known}

-- ---- the table

-- of a planned sheet whose tangent table has been written over a buffer, and its jumps over zeros
module _ {words : List ℕ} {plan : Plan} {marks came goes : List ℕ} (made : PlanMadeFor tangent_needs_of words plan marks came goes)
    {buffer table beyond : List ℕ}
    (writes : (sheet : Sheet) → read words ≡ given sheet → TableNoted (tangent_of sheet) buffer table (replicate most_table_rows 0) beyond) where
  pub tangent_in_place : TableInPlace (tangent_of made.sheet) words plan table beyond made.sheet buffer
  tangent_in_place =
      table_in_place made (tangent_of made.sheet) (sym made.planned.rows ∙ counts_rows made) (omega (arith, counts_rows made, planned_few made))
      (writes made.sheet made.accepted)

  pub tangent_indexed : Indexed table plan.rows (table_variables plan.shape.variables) plan.shape.constants
  tangent_indexed = place_indexed words plan (tangent_known words made.sheet made.accepted) tangent_in_place

-- ---- refusals 1 to 11, and the run behind them

module _ (A : Arithmetic) (words : List ℕ) (starts rates : List A.Carrier) (buffer : List ℕ) (result : List A.Carrier) where
  abbrev lent : Lent A
  lent = without_stacks A buffer result

  pub tangent_refused : {answer : Reply} → NoRoom (divides A) tangent_needs_of words (rooms_of A starts rates lent) answer
      → ran_of A answer lent ≡ run_tangent A words starts rates lent
  unfolding run_tangent
  tangent_refused = refused_run A tangent_needs_of words starts rates lent (tangent_job A starts rates)

  module _ {marks came goes : List ℕ} {plan : Plan} (room : HasRoom (divides A) tangent_needs_of words (rooms_of A starts rates lent) marks came goes plan) where
    pub tangent_numbers_refused : {why : Refusal} {answer : Reply} → all_admitted A (starts ++ rates) 0 ≡ refused why → Answers answer why
        → ran_of A answer lent ≡ run_tangent A words starts rates lent
    unfolding run_tangent
    tangent_numbers_refused = numbers_refuse A tangent_needs_of words starts rates lent (tangent_job A starts rates) room

    pub tangent_ran : all_admitted A (starts ++ rates) 0 ≡ given tt → {table beyond : List ℕ}
        → ((sheet : Sheet) → read words ≡ given sheet → TableNoted (tangent_of sheet) buffer table (replicate most_table_rows 0) beyond)
        → {answer : Reply} {left : List A.Carrier}
        → ((sheet : Sheet) (before : List ℕ) → TableInPlace (tangent_of sheet) words plan table beyond sheet before
        → TangentRanTo A sheet before starts rates result answer left)
        → ran_of A answer (without_stacks A table left) ≡ run_tangent A words starts rates lent
    unfolding run_tangent
    tangent_ran admitted writes runs =
        let place = tangent_in_place room.made writes in
        accepted_run A tangent_needs_of words starts rates lent (tangent_job A starts rates) room admitted place (runs room.made.sheet buffer place)

-- ---- start and result

two_zeros : {X : Type 0} (n : ℕ) (zero : X) → drop n (replicate (n + 2) zero) ≡ zero ∷ zero ∷ []
two_zeros n zero =
    ap (drop n) (sym (replicate-append-replicate n 2 zero)) ∙ drop_at (replicate n zero) (replicate 2 zero) n (length-replicate n zero)

module _ (A : Arithmetic) where
  -- ---- the whole run

  module _ {sheet : Sheet} {roles constants table : List ℕ} {rows : ℕ} {beyond : List ℕ}
      (ready : Ready (tangent_of sheet) sheet roles constants table rows beyond)
      {starts rates before copied result : List A.Carrier} (room : RunRoom A roles starts rates before copied result) where
    abbrev start : Memory A
    start = (tangent_start A sheet starts rates).memory

    -- the store of zeros with the start values and the rates at independents laid into it
    start_laid : {store : List A.Carrier} → store ≡ overwritten (halves_of A starts counted.Independents roles rates) before → Starts A start before store
    unfolding tangent_start halves_of overwritten
    start_laid {store} is =
        let v = length roles in
        let start_rates = counting A is_independent roles rates in
        let both : length (starts ++ start_rates) ≡ 2 * v =
        length-append starts start_rates ∙ omega (arith, room.starts_fit, counting_length A is_independent roles rates) in
        let zeros : drop (2 * v) before ≡ A.zero ∷ A.zero ∷ [] =
        ap (drop (2 * v)) (room.zeros ∙ ap (λ n. replicate n A.zero) room.store_fits) ∙ two_zeros (2 * v) A.zero in
        let from : store ≡ starts ++ start_rates ++ (A.zero ∷ A.zero ∷ []) =
        is ∙ rw (both, zeros) in
        let long : length store ≡ length (starts ++ start_rates) + length (drop (2 * v) before) =
        ap length is ∙ length-append (starts ++ start_rates) (drop (length (starts ++ start_rates)) before)
        ∙ ap (λ n. length (starts ++ start_rates) + length (drop n before)) both in
        record {
          long = omega (arith, long, both, length-drop (2 * v) before, room.store_fits);
          is = rw (sym ready.roles_are) (sym from);
          values = refl;
          turns = refl;
        }

    module _ (buffer : List ℕ) (after : Cells A) where
      abbrev job : Job A
      job = tangent_job A starts rates sheet

      result_right : ResultRight A job (without_stacks A buffer result) start after (rates_from A roles after.store)
      unfolding tangent_result halves_of
      result_right = record { right = λ memory e store copies. rw (store, ready.roles_are) }

      -- from each step of a call's run to what it comes to
      pub tangent_comes_to : {store : List A.Carrier} {end : Ended} {answer : Reply} {left : List A.Carrier}
          → store ≡ overwritten (halves_of A starts counted.Independents roles rates) before
          → RunsTable A table rows beyond false roles constants rates (cells_of A store [] [] copied) after end
          → left ≡ result_at end (rates_from A roles after.store) result
          → answer ≡ answer_at end
          → TangentRanTo A sheet buffer starts rates result answer left
      unfolding tangent_setting tangent_start
      tangent_comes_to {end = end} laid runs left answered =
          job_comes_to A job (without_stacks A buffer result) end result_right
          (table_ends A ready (tangent_runnable ready.words sheet ready.accepted) room false [] [] (start_laid laid) runs)
          (record { values_are = refl; turns_are = refl }) left answered
