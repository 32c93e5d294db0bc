-- Demand 2, of every accepted sheet: the sets are least, the table is the one that 01's rules give, in audit a run solves equation (2), and
-- over any arithmetic it comes to what the all-saved table comes to. And what a run's call meets of all three demands.
use Prim.Native.Nat.{ℕ, ◌<◌}
use mathlib.Core.Path.{◌≡◌, sym, ap, ap₂, subst, ◌∙◌}
use mathlib.Core.List.{List, ◌++◌}
use lib.ListN.{length, get_or, drop}
use Rattle.number.specs.Arithmetic.{Arithmetic, divides}
use Rattle.number.specs.Residues.{modulus, residues}
use Rattle.sheet.specs.Sheets.{Sheet, variables_of}
use Rattle.sheet.proofs.Feasibility.{ReadFor}
use Rattle.sets.specs.Marks.{Sets}
use Rattle.sets.specs.Rounds.{sets_of}
use Rattle.table.specs.Adjoint.{table_by}
use Rattle.table.specs.Sizes.{needs_by}
use Rattle.table.specs.declared.Reply.{Reply}
use Rattle.machine.specs.Actions.{Memory}
use Rattle.machine.specs.Machine.{Step}
use Rattle.run.specs.Runs.{Lent, Ran, ran_of, start_of, run_of, setting_of, independent_adjoints, result_of}
use Rattle.run.specs.Calls.{lent_after, ran_to, run}
use Rattle.claims.specs.ExactlyWhen.{Runnable}
use Rattle.claims.specs.WholeRun.{every, run_saving, StackRoom}
use Rattle.claims.specs.Demands.{adjoint_by, AuditSolves, AnswersLike, same_result, same_stop, RunMeets, AuditMeets}
use Rattle.claims.specs.ThreeDemands.{SameOutcome, both_end, both_stop, SameAsAllSaved, SecondDemand}
use Rattle.claims.proofs.StartExactlyWhen.{own_sets, by_own_sets, OwnRunnable, own_run, reads_to_run}
use Rattle.claims.proofs.WholeRunMatches.{no_further, own_room, own_table_run}
use Rattle.claims.proofs.RunsEnd.{stop_names_its_row}
use Rattle.claims.proofs.RunsAnswer.{run_started, saved_rows_same}
use Rattle.claims.proofs.AuditSolves.{audit_solves}
use Rattle.claims.proofs.DemandOneHolds.{write_call, run_call}
use Rattle.claims.proofs.DemandThreeHolds.{demand_three}

module _ (A : Arithmetic) (words : List ℕ) (sheet : Sheet) (starts seeds : List A.Carrier) where
  pub same_as_all_saved : ReadFor (divides A) words sheet → length starts ≡ variables_of sheet → SameAsAllSaved A sheet (sets_of sheet) starts seeds
  same_as_all_saved reads n values turns all_values all_turns v t all =
      subst (λ ending. SameOutcome A (variables_of sheet) ending (run_saving A every sheet (sets_of sheet) starts seeds all_values all_turns))
      (own_table_run A sheet starts seeds values turns)
      (saved_rows_same A words sheet reads no_further every starts seeds n values turns all_values all_turns
      (own_room A sheet values turns v t) all)

  same_result_lem : (first second : Memory A) → first.copied ≡ second.copied
      → drop (variables_of sheet) first.store ≡ drop (variables_of sheet) second.store
      → result_of A sheet first ≡ result_of A sheet second
  unfolding result_of
  same_result_lem first second copied adjoints = ap₂ (λ x y. x ++ independent_adjoints A sheet.roles y) copied adjoints

  module _ (before : Lent A) (ready : OwnRunnable A needs_by words starts seeds before sheet) (answer : Ran A)
      (contract : answer ≡ run A words starts seeds before) where
    abbrev ending : Step A
    ending =
        run_of A (table_by (sets_of sheet) sheet) (setting_of A sheet seeds (length before.values) (length before.turns)) (start_of A sheet starts)

    abbrev Like : Step A → Type 0
    Like = AnswersLike A sheet (adjoint_by A starts seeds before (sets_of sheet) sheet) answer

    answers_like : (other : Step A) → SameOutcome A (variables_of sheet) ending other → Like other
    unfolding ran_to lent_after
    answers_like other (both_end first second e e' copied adjoints) =
        let says = contract ∙ run_started A words starts seeds before sheet ready _ e in
        subst Like (sym e')
        (same_result (ap (λ r. r.number) says) (ap (λ r. r.lent.result) says ∙ same_result_lem first second copied adjoints))
    answers_like other (both_stop row other_row stop e e') =
        let says = contract ∙ run_started A words starts seeds before sheet ready _ e in
        subst Like (sym e')
        (same_stop row (ap (λ r. r.number) says) (ap (λ r. r.place) says)
        (stop_names_its_row A (adjoint_by A starts seeds before (sets_of sheet) sheet) row stop e))

    own_answers : (value_room turn_room : ℕ) → StackRoom A every sheet (sets_of sheet) value_room turn_room
        → Like (run_saving A every sheet (sets_of sheet) starts seeds value_room turn_room)
    own_answers value_room turn_room all =
        let stacks = ready.lengths.stacks in
        answers_like _
        (same_as_all_saved (reads_to_run A needs_by words starts seeds before sheet ready) ready.lengths.start_values _ _ value_room turn_room
        stacks.values stacks.turns all)

-- ---- of any sets that are least

module _ (A : Arithmetic) (words : List ℕ) (sheet : Sheet) (sets : Sets) (starts seeds : List A.Carrier) (before : Lent A)
    (ready : Runnable A needs_by words starts seeds before sheet sets) where
  pub answers_like_all_saved : (answer : Ran A) → answer ≡ run A words starts seeds before → (value_room turn_room : ℕ)
      → StackRoom A every sheet sets value_room turn_room
      → AnswersLike A sheet (adjoint_by A starts seeds before sets sheet) answer (run_saving A every sheet sets starts seeds value_room turn_room)
  answers_like_all_saved answer contract value_room turn_room =
      by_own_sets words sheet
      (λ s. StackRoom A every sheet s value_room turn_room
      → AnswersLike A sheet (adjoint_by A starts seeds before s sheet) answer (run_saving A every sheet s starts seeds value_room turn_room))
      (own_answers A words sheet starts seeds before (own_run A needs_by words starts seeds before sheet sets ready) answer contract value_room turn_room)
      sets ready.lengths.stacks.writable.accepted

pub any_audit_solves : (words starts seeds : List ℕ) (before : Lent residues) (sheet : Sheet) (sets : Sets)
    → Runnable residues needs_by words starts seeds before sheet sets → ((x : ℕ) → x < variables_of sheet → get_or seeds x 0 < modulus)
    → (answer : Ran residues) → answer ≡ run residues words starts seeds before → AuditSolves sheet starts seeds answer
any_audit_solves words starts seeds before sheet sets ready =
    audit_solves words starts seeds before sheet (own_run residues needs_by words starts seeds before sheet sets ready)

pub demand_two : SecondDemand
demand_two A words sheet is =
    record {
      sets = (sets_of sheet, (own_sets words sheet is).least);
      table = λ sets before after answer contract fits. ((write_call words before after answer contract).when_done sheet sets fits).1;
      audit = λ sets starts seeds before after answer ready below contract.
          any_audit_solves words starts seeds before sheet sets ready below _ contract;
      all_saved = λ sets starts seeds before after answer ready contract.
          answers_like_all_saved A words sheet sets starts seeds before ready _ contract;
    }

-- ---- all three demands, of the code

pub run_meets : (A : Arithmetic) (words : List ℕ) (starts seeds : List A.Carrier) (before after : Lent A) (answer : Reply)
    → ran_of A answer after ≡ run A words starts seeds before → RunMeets A words starts seeds before (ran_of A answer after)
run_meets A words starts seeds before after answer contract =
    record {
      exactly = run_call A words starts seeds before after answer contract;
      all_saved = λ sheet sets ready. answers_like_all_saved A words sheet sets starts seeds before ready _ contract;
      replays = λ sheet sets ready.
          let stacks = ready.lengths.stacks in
          demand_three A words sheet sets stacks.writable.accepted stacks.writable.calculable starts seeds ready.lengths.start_values _ _
          stacks.values stacks.turns;
    }

pub audit_meets : (words starts seeds : List ℕ) (before after : Lent residues) (answer : Reply) → ((x : ℕ) → get_or seeds x 0 < modulus)
    → ran_of residues answer after ≡ run residues words starts seeds before → AuditMeets words starts seeds before (ran_of residues answer after)
audit_meets words starts seeds before after answer below contract =
    record {
      run = run_meets residues words starts seeds before after answer contract;
      solves = λ sheet sets ready. any_audit_solves words starts seeds before sheet sets ready (λ x h. below x) _ contract;
    }
