-- What the tangent calls meet: the table, each refusal and answer exactly when, never stuck, 0 or 12, and in audit 0.
use Prim.Native.Nat.{ℕ}
use mathlib.Core.Path.{◌≡◌, refl, sym, ap, subst, ◌∙◌}
use mathlib.Core.List.{List}
use mathlib.Core.Logic.{◌⊎◌, inl, inr, ◌≢◌}
use lib.ListN.{length, take}
use lib.Seq.{take_at}
use native.Mathlib.Omega.{arith}
use Rattle.number.specs.Arithmetic.{Arithmetic, divides}
use Rattle.number.specs.Residues.{residues}
use Rattle.sheet.specs.Refusals.{Refusal, number_of}
use Rattle.sheet.specs.Sheets.{Sheet, variables_of}
use Rattle.sheet.proofs.Feasibility.{ReadFor}
use Rattle.sets.specs.Marks.{Sets, marked_by}
use Rattle.sets.specs.Rounds.{sets_of, marked}
use Rattle.table.specs.TableRows.{table_words, lines_of}
use Rattle.table.specs.Sizes.{table_room, written_of}
use Rattle.table.specs.declared.Reply.{Reply}
use Rattle.table.proofs.TableLength.{table_words_lem}
use Rattle.machine.specs.Actions.{through}
use Rattle.machine.specs.Machine.{Step, goes_on, ended, stops, sticks, state_after}
use Rattle.run.specs.Runs.{Lent, Ran, ran_of, Job, run_of}
use Rattle.run.specs.Calls.{lent_after, ran_to, ran_on, run_by}
use Rattle.tangent.specs.Tangent.{tangent_by, tangent_rows, tangent_needs_by}
use Rattle.tangent.specs.TangentRuns.{tangent_setting, tangent_start, tangent_result, tangent_job_by}
use Rattle.tangent.specs.Calls.{tangent_of, write_tangent, run_tangent}
use Rattle.claims.specs.ExactlyWhen.{Runnable, while_reading, quotient_held, table_too_small, StartRefused, while_writing, value_stack_too_small, turn_stack_too_small, starts_not_v, seeds_not_v, result_not2_v, given_not_finite}
use Rattle.claims.specs.IdealSweep.{Progress, beginning, execution}
use Rattle.claims.specs.Demands.{RunExactly}
use Rattle.plain.specs.Plain.{plain_by}
use Rattle.plain.proofs.WholeRunsAgree.{SameEnd, both_end, both_halt, runs_agree}
use Rattle.claims.specs.Tangents.{TangentWriteExactly, ExecutesSheet, TangentMeets, TangentAuditMeets}
use Rattle.claims.proofs.Runs.{runs}
use Rattle.claims.proofs.RunsKeepSizes.{runs_keep}
use Rattle.claims.proofs.ReadingExactlyWhen.{reading_numbers}
use Rattle.claims.proofs.StartExactlyWhen.{OwnRunnable, own_run, by_own_sets, reads_to_run, start_settled, started}
use Rattle.claims.proofs.RunsEnd.{EndsSome}
use Rattle.claims.proofs.Heights.{table_never_sticks}
use Rattle.claims.proofs.ExactlyWhenHolds.{writes_exactly, runs_exactly}
use Rattle.claims.proofs.TangentExecutes.{tangent_executes, residues_end}

-- ---- the table

tangent_length : (sheet : Sheet)
    → length (table_words (tangent_by (sets_of sheet) sheet)) ≡ table_room (tangent_rows (variables_of sheet) (marked_by (sets_of sheet) sheet))
unfolding tangent_by tangent_rows
tangent_length sheet = table_words_lem (tangent_by (sets_of sheet) sheet)

pub tangent_write_exactly : (words buffer : List ℕ) → TangentWriteExactly words buffer (write_tangent words buffer)
unfolding write_tangent tangent_of marked
tangent_write_exactly words buffer = writes_exactly tangent_needs_by tangent_by tangent_length words buffer

-- the contract of `write_tangent`
pub tangent_write_call : (words before after : List ℕ) (answer : Reply) → written_of answer after ≡ write_tangent words before
    → TangentWriteExactly words before (written_of answer after)
tangent_write_call words before after answer contract = subst (TangentWriteExactly words before) (sym contract) (tangent_write_exactly words before)

-- ---- a run

-- a sheet needs no stacks, so none is too small
without_nine : {A : Arithmetic} {words : List ℕ} {starts rates : List A.Carrier} {lent : Lent A} {r : Refusal}
    → StartRefused A tangent_needs_by words starts rates lent r → number_of r ≢ 9
unfolding number_of
without_nine (while_writing (while_reading rule)) is = omega (arith, reading_numbers rule)
without_nine (while_writing (quotient_held sheet i read not first)) is = omega arith
without_nine (while_writing (table_too_small sheet sets fits free small)) is = omega arith
without_nine (value_stack_too_small sheet sets fits few) is = omega arith
without_nine (turn_stack_too_small sheet sets fits values few) is = omega arith
without_nine (starts_not_v sheet sets fits wrong) is = omega arith
without_nine (seeds_not_v sheet sets fits right wrong) is = omega arith
without_nine (result_not2_v sheet sets fits right right' wrong) is = omega arith
without_nine (given_not_finite sheet sets i fits first) is = omega arith

module _ (A : Arithmetic) (words : List ℕ) (starts rates : List A.Carrier) (lent : Lent A) where
  abbrev Ready : Sheet → Type 0
  Ready = OwnRunnable A tangent_needs_by words starts rates lent

  abbrev answer : Ran A
  answer = run_tangent A words starts rates lent

  abbrev ending : Sheet → Step A
  ending sheet = run_of A (tangent_by (sets_of sheet) sheet) (tangent_setting A sheet rates) (tangent_start A sheet starts rates)

  reads : (sheet : Sheet) → Ready sheet → ReadFor (divides A) words sheet
  reads sheet ready = reads_to_run A tangent_needs_by words starts rates lent sheet ready

  ends : (sheet : Sheet) → Ready sheet → EndsSome A (ending sheet)
  ends sheet ready = by (runs_agree A sheet starts rates words (reads sheet ready) (sets_of sheet) ready.lengths.start_values)
    where
      by : SameEnd A sheet (ending sheet) (plain_by A (sets_of sheet) sheet starts rates) → EndsSome A (ending sheet)
      by (both_end memory now is goes values result) = subst (EndsSome A) (sym is) tt
      by (both_halt row stop is goes) = subst (EndsSome A) (sym is) tt

  pub tangent_exactly : RunExactly A tangent_needs_by (tangent_job_by A starts rates) words starts rates lent answer
  unfolding run_tangent tangent_of marked
  tangent_exactly =
      runs_exactly A tangent_needs_by (tangent_job_by A starts rates) words starts rates lent (record { table_fits = tangent_length; ends = ends })

  -- the call answers by how the sheet's own tangent table ends
  pub tangent_started : (sheet : Sheet) → Ready sheet → (x : Step A) → ending sheet ≡ x
      → answer ≡ ran_to A (tangent_job_by A starts rates (sets_of sheet) sheet) lent x
  unfolding run_tangent tangent_of marked
  tangent_started sheet ready x e =
      started A tangent_needs_by words starts rates lent (λ own. tangent_job_by A starts rates (sets_of own) own) sheet x ready e

  pub zero_or_twelve : (sheet : Sheet) → Ready sheet → (answer.number ≡ 0) ⊎ (answer.number ≡ 12)
  unfolding ran_to
  zero_or_twelve sheet ready = by (ending sheet) refl (ends sheet ready)
    where
      by : (x : Step A) → ending sheet ≡ x → EndsSome A x → (answer.number ≡ 0) ⊎ (answer.number ≡ 12)
      by (ended memory) e some = inl (ap (λ r. r.number) (tangent_started sheet ready _ e))
      by (stops row stop) e some = inr (ap (λ r. r.number) (tangent_started sheet ready _ e))
      by sticks e some = absurd some
      by (goes_on state) e some = absurd some

  -- a number that neither a run that starts nor a refusal before it has isn't answered
  pub tangent_number : (number : ℕ) → number ≢ 0 → number ≢ 12
      → ((r : Refusal) → StartRefused A tangent_needs_by words starts rates lent r → number_of r ≢ number) → answer.number ≢ number
  unfolding run_tangent run_by ran_on
  tangent_number number some few unruled is = by (start_settled A tangent_needs_by words starts rates lent).either
    where
      neither : (answer.number ≡ 0) ⊎ (answer.number ≡ 12) → ⊥
      neither (inl zero) = some (sym is ∙ zero)
      neither (inr twelve) = few (sym is ∙ twelve)

      by : ((sheet : Sheet) × Ready sheet) ⊎ ((r : Refusal) × StartRefused A tangent_needs_by words starts rates lent r) → ⊥
      by (inl (sheet, ready)) = neither (zero_or_twelve sheet ready)
      by (inr (r, rule)) =
          unruled r rule
          (sym (ap (λ sheet. (ran_on A (λ own. tangent_job_by A starts rates (sets_of own) own) sheet lent).number)
          ((start_settled A tangent_needs_by words starts rates lent).by_rule r rule)) ∙ is)

  never_sticks : (sheet : Sheet) → Ready sheet → (n : ℕ) → let job : Job A = tangent_job_by A starts rates (sets_of sheet) sheet in
      state_after A n job.setting (lines_of job.table) job.start ≢ sticks
  unfolding tangent_start
  never_sticks sheet ready =
      table_never_sticks A (tangent_by (sets_of sheet) sheet) (tangent_setting A sheet rates) (tangent_start A sheet starts rates).memory
      (ends sheet ready)

  -- a finished run has executed the sheet, which keeps the number of its values
  executed_size : (sheet : Sheet) (progress : Progress A) → execution A sheet starts ≡ through progress → length progress.store ≡ length starts
  unfolding execution
  executed_size sheet progress e = runs_keep A sheet.constants (runs A sheet.constants sheet.body 0 (beginning A starts) progress e)

  own_executes : (sheet : Sheet) → Ready sheet → answer.number ≡ 0 → ExecutesSheet A sheet starts answer.lent.result
  unfolding ran_to lent_after tangent_result
  own_executes sheet ready zero = by (ending sheet) refl (ends sheet ready)
    where
      by : (x : Step A) → ending sheet ≡ x → EndsSome A x → ExecutesSheet A sheet starts answer.lent.result
      by (ended memory) e some =
          let whole = tangent_executes A sheet (sets_of sheet) starts rates words (reads sheet ready) ready.lengths.start_values memory e in
          let many = ap length (sym whole.same) ∙ executed_size sheet whole.progress whole.goes ∙ ready.lengths.start_values in
          record {
            progress = whole.progress;
            executes = whole.goes;
            values =
                ap (λ r. take (variables_of sheet) r.lent.result) (tangent_started sheet ready _ e)
                ∙ take_at (take (variables_of sheet) memory.store) _ (variables_of sheet) many ∙ sym whole.same;
          }
      by (stops row stop) e some = absurd (omega (arith, ap (λ r. r.number) (tangent_started sheet ready _ e)))
      by sticks e some = absurd some
      by (goes_on state) e some = absurd some

  -- ---- of any sets that are least

  pub tangent_run_meets : TangentMeets A words starts rates lent answer
  tangent_run_meets =
      record {
        exactly = tangent_exactly;
        never_nine = tangent_number 9 (λ e. omega arith) (λ e. omega arith) (λ r. without_nine);
        unstuck = λ sheet sets ready.
            by_own_sets words sheet
            (λ s. (n : ℕ) → let job : Job A = tangent_job_by A starts rates s sheet in state_after A n job.setting (lines_of job.table) job.start ≢ sticks)
            (never_sticks sheet (own sheet sets ready)) sets ready.lengths.stacks.writable.accepted;
        answers = λ sheet sets ready. zero_or_twelve sheet (own sheet sets ready);
        executed = λ sheet sets ready. own_executes sheet (own sheet sets ready);
      }
    where
      own : (sheet : Sheet) (sets : Sets) → Runnable A tangent_needs_by words starts rates lent sheet sets → Ready sheet
      own sheet sets ready = own_run A tangent_needs_by words starts rates lent sheet sets ready

-- the contracts of `tangent_double` and `tangent_audit`
pub tangent_call : (A : Arithmetic) (words : List ℕ) (starts rates : List A.Carrier) (before after : Lent A) (answer : Reply)
    → ran_of A answer after ≡ run_tangent A words starts rates before → TangentMeets A words starts rates before (ran_of A answer after)
tangent_call A words starts rates before after answer contract =
    subst (TangentMeets A words starts rates before) (sym contract) (tangent_run_meets A words starts rates before)

-- a residue never stops
audit_zero : (words starts rates : List ℕ) (lent : Lent residues) (sheet : Sheet) → OwnRunnable residues tangent_needs_by words starts rates lent sheet
    → (run_tangent residues words starts rates lent).number ≡ 0
unfolding ran_to
audit_zero words starts rates lent sheet ready =
    let ends = residues_end words sheet (reads residues words starts rates lent sheet ready) (sets_of sheet) starts rates ready.lengths.start_values in
    ap (λ r. r.number) (tangent_started residues words starts rates lent sheet ready _ ends.1)

pub tangent_audit_call : (words starts rates : List ℕ) (before after : Lent residues) (answer : Reply)
    → ran_of residues answer after ≡ run_tangent residues words starts rates before
    → TangentAuditMeets words starts rates before (ran_of residues answer after)
tangent_audit_call words starts rates before after answer contract =
    record {
      run = tangent_call residues words starts rates before after answer contract;
      finishes = λ sheet sets ready.
          ap (λ r. r.number) contract
          ∙ audit_zero words starts rates before sheet (own_run residues tangent_needs_by words starts rates before sheet sets ready);
    }
