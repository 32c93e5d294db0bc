-- What a run's call comes to once refusals 1 to 11 are past: 0 or 12, never stuck, in audit 0; and the same whatever further rows are saved.
use Prim.Native.Nat.{ℕ}
use mathlib.Core.Path.{◌≡◌, refl, sym, ap, subst, ◌∙◌}
use mathlib.Core.Logic.{◌⊎◌, inl, inr}
use mathlib.Core.Bool.{Bool}
use mathlib.Core.List.{List, ◌++◌}
use lib.ListN.{length}
use Rattle.number.specs.Arithmetic.{Arithmetic, divides}
use Rattle.number.specs.Residues.{residues}
use Rattle.sheet.specs.Tree.{RowNumber}
use Rattle.sheet.specs.Refusals.{number_of, place_of, not_finite_result}
use Rattle.sheet.specs.Sheets.{Sheet, variables_of}
use Rattle.sheet.proofs.Feasibility.{ReadFor}
use Rattle.sets.specs.Rounds.{sets_of, marked}
use Rattle.table.specs.Adjoint.{table_by}
use Rattle.table.specs.Computed.{table_of}
use Rattle.table.specs.Sizes.{needs_by}
use Rattle.machine.specs.Actions.{Attempt, through, halted, stuck, Stop, counting}
use Rattle.machine.specs.Machine.{Step}
use Rattle.run.specs.Runs.{Lent, Ran, setting_of, independent_adjoints, result_of, run_of, start_of}
use Rattle.run.specs.Calls.{lent_after, ran_to, run}
use Rattle.claims.specs.IdealSweep.{Ideal, ideal}
use Rattle.claims.specs.ThreeDemands.{SameOutcome, both_end, both_stop}
use Rattle.claims.specs.WholeRun.{run_saving, StackRoom, Matches}
use Rattle.claims.specs.Demands.{adjoint_by}
use Rattle.claims.proofs.IdealRooms.{ideal_in_any_room}
use Rattle.claims.proofs.StartExactlyWhen.{OwnRunnable, reads_to_run, started}
use Rattle.claims.proofs.RunsEnd.{EndsSome}
use Rattle.claims.proofs.WholeRunMatches.{run_matches, own_run_matches}

module _ (A : Arithmetic) where
  -- ---- the call

  -- what the call run answers: 0 with the values of the execution and, at the independents, the adjoints of the ideal sweep; or 12 at
  -- some table row, the result unchanged
  unfoldable pub AnswersAs : Sheet → Lent A → Attempt (Stop A) (Ideal A) → Ran A → Type 0
  unfolding lent_after counting number_of place_of
  AnswersAs sheet lent (through i) ran =
      ran
      ≡ record {
        number = 0;
        place = 0;
        lent = lent_after A (table_by (sets_of sheet) sheet) lent (i.progress.store ++ independent_adjoints A sheet.roles i.adjoints);
      }
  AnswersAs sheet lent (halted stop) ran =
      (row : RowNumber)
      × (ran
      ≡ record {
        number = number_of (not_finite_result row.index);
        place = place_of (not_finite_result row.index);
        lent = lent_after A (table_by (sets_of sheet) sheet) lent lent.result;
      })
  AnswersAs sheet lent stuck ran = ⊥

  answers_as : (sheet : Sheet) (starts seeds : List A.Carrier) (lent : Lent A) (i : Attempt (Stop A) (Ideal A)) (ending : Step A)
      → Matches A (variables_of sheet) i ending → AnswersAs sheet lent i (ran_to A (adjoint_by A starts seeds lent (sets_of sheet) sheet) lent ending)
  unfolding Matches AnswersAs ran_to result_of
  answers_as sheet starts seeds lent (through i) ending m = rw (m.ends, m.values, m.adjoints) refl
  answers_as sheet starts seeds lent (halted stop) ending m = (m.0, rw m.1 refl)
  answers_as sheet starts seeds lent stuck ending m = absurd m

  -- what matches the ideal ends or stops
  pub ends_some : (v : ℕ) (i : Attempt (Stop A) (Ideal A)) (ending : Step A) → Matches A v i ending → EndsSome A ending
  unfolding Matches
  ends_some v (through i) ending m = subst (EndsSome A) (sym m.ends) tt
  ends_some v (halted stop) ending m = subst (EndsSome A) (sym m.1) tt
  ends_some v stuck ending m = absurd m

  module _ (words : List ℕ) (starts seeds : List A.Carrier) (lent : Lent A) (sheet : Sheet)
      (ready : OwnRunnable A needs_by words starts seeds lent sheet) where
    abbrev ending : Step A
    ending = run_of A (table_by (sets_of sheet) sheet) (setting_of A sheet seeds (length lent.values) (length lent.turns)) (start_of A sheet starts)

    abbrev ideal_run : Attempt (Stop A) (Ideal A)
    ideal_run = ideal A sheet (sets_of sheet) (setting_of A sheet seeds (length lent.values) (length lent.turns)) starts

    ready_matches : Matches A (variables_of sheet) ideal_run ending
    ready_matches =
        let stacks = ready.lengths.stacks in
        let reads = reads_to_run A needs_by words starts seeds lent sheet ready in
        own_run_matches A words sheet reads starts seeds ready.lengths.start_values _ _ stacks.values stacks.turns

    pub own_run_ends : EndsSome A ending
    own_run_ends = ends_some (variables_of sheet) ideal_run ending ready_matches

    -- the call answers by how the sheet's own table ends
    pub run_started : (x : Step A) → ending ≡ x → run A words starts seeds lent ≡ ran_to A (adjoint_by A starts seeds lent (sets_of sheet) sheet) lent x
    unfolding run table_of marked
    run_started x e = started A needs_by words starts seeds lent (λ own. adjoint_by A starts seeds lent (sets_of own) own) sheet x ready e

  module _ (words : List ℕ) (starts seeds : List A.Carrier) (lent : Lent A) (sheet : Sheet)
      (ready : OwnRunnable A needs_by words starts seeds lent sheet) (answer : Ran A) (contract : answer ≡ run A words starts seeds lent) where
    abbrev its_ideal : Attempt (Stop A) (Ideal A)
    its_ideal = ideal_run words starts seeds lent sheet ready

    pub run_answers : AnswersAs sheet lent its_ideal answer
    run_answers =
        rw (contract ∙ run_started words starts seeds lent sheet ready _ refl)
        (answers_as sheet starts seeds lent its_ideal _ (ready_matches words starts seeds lent sheet ready))

    pub zero_or_twelve : (answer.number ≡ 0) ⊎ (answer.number ≡ 12)
    unfolding AnswersAs number_of
    zero_or_twelve = by_ideal its_ideal run_answers
      where
        by_ideal : (i : Attempt (Stop A) (Ideal A)) → AnswersAs sheet lent i answer → (answer.number ≡ 0) ⊎ (answer.number ≡ 12)
        by_ideal (through i) a = inl (ap (λ r. r.number) a)
        by_ideal (halted stop) a = inr (ap (λ r. r.number) a.1)
        by_ideal stuck a = absurd a

  -- ---- any two choices of saved rows

  same_outcome : (v : ℕ) (i : Attempt (Stop A) (Ideal A)) (first second : Step A) → Matches A v i first → Matches A v i second
      → SameOutcome A v first second
  unfolding Matches
  same_outcome v (through i) first second m k =
      both_end m.memory k.memory m.ends k.ends (m.values ∙ sym k.values) (m.adjoints ∙ sym k.adjoints)
  same_outcome v (halted stop) first second m k = both_stop m.0 k.0 stop m.1 k.1
  same_outcome v stuck first second m k = absurd m

  -- where something matches the ideal, that isn't stuck
  unstuck_ideal : (v : ℕ) (i : Attempt (Stop A) (Ideal A)) (ending : Step A) → Matches A v i ending → i ≡ stuck → ⊥
  unfolding Matches
  unstuck_ideal v i ending m e = subst (λ x. Matches A v x ending) e m

  pub saved_rows_same : (words : List ℕ) (sheet : Sheet) → ReadFor (divides A) words sheet → (choice choice' : RowNumber → Bool)
      → (starts seeds : List A.Carrier) → length starts ≡ variables_of sheet → (values turns values' turns' : ℕ)
      → StackRoom A choice sheet (sets_of sheet) values turns → StackRoom A choice' sheet (sets_of sheet) values' turns'
      → SameOutcome A (variables_of sheet) (run_saving A choice sheet (sets_of sheet) starts seeds values turns) (run_saving A choice' sheet (sets_of sheet) starts seeds values' turns')
  saved_rows_same words sheet reads choice choice' starts seeds n values turns values' turns' room room' =
      let first = run_matches A words sheet reads starts seeds n choice values turns room in
      let second = run_matches A words sheet reads starts seeds n choice' values' turns' room' in
      let same = ideal_in_any_room A sheet starts seeds values turns values' turns' (unstuck_ideal _ _ _ first) (unstuck_ideal _ _ _ second) in
      same_outcome (variables_of sheet) _ _ _ first
      (subst (λ i. Matches A (variables_of sheet) i (run_saving A choice' sheet (sets_of sheet) starts seeds values' turns')) (sym same) second)

-- a residue never stops
pub audit_answers_zero : (words starts seeds : List ℕ) (lent : Lent residues) (sheet : Sheet) → OwnRunnable residues needs_by words starts seeds lent sheet
    → (answer : Ran residues) → answer ≡ run residues words starts seeds lent → answer.number ≡ 0
unfolding AnswersAs
audit_answers_zero words starts seeds lent sheet ready answer contract =
    by_ideal (ideal_run residues words starts seeds lent sheet ready)
    (run_answers residues words starts seeds lent sheet ready answer contract)
  where
    by_ideal : (i : Attempt (Stop residues) (Ideal residues)) → AnswersAs residues sheet lent i answer → answer.number ≡ 0
    by_ideal (through i) a = ap (λ r. r.number) a
    by_ideal (halted stop) a = absurd stop.why
    by_ideal stuck a = absurd a
