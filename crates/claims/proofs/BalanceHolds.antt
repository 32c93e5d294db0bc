-- The two directions balance: equation (2) and its mirror alone give equal sums, so what the two calls answer in audit does.
use Prim.Native.Nat.{ℕ, ◌*◌, ◌<◌}
use mathlib.Core.Path.{◌≡◌, refl, sym, ap, subst, ◌∙◌}
use mathlib.Core.Bool.{Bool, true, false, cond}
use mathlib.Core.List.{List}
use mathlib.Core.Logic.{◌≢◌, ◌⊎◌, inl, inr}
use lib.ListN.{length, get_or, drop, length-drop}
use native.Mathlib.Decide.{ℕ_discrete}
use native.Mathlib.Nat.{mul-zero, zero-mul}
use native.Mathlib.Omega.{arith}
use Rattle.number.specs.Residues.{residue, residues}
use Rattle.sheet.specs.Judging.{Answer, given}
use Rattle.sheet.specs.Names.{Present}
use Rattle.sheet.specs.Rows.{is_independent, is_dependent}
use Rattle.sheet.specs.Sheets.{Sheet, variables_of}
use Rattle.sheet.proofs.NamesPresent.{names_present}
use Rattle.sets.specs.Marks.{Sets}
use Rattle.sets.specs.Rounds.{sets_of}
use Rattle.table.specs.Sizes.{Needs, needs_by}
use Rattle.table.specs.declared.Reply.{Reply}
use Rattle.machine.proofs.AttemptLaws.{same_through}
use Rattle.run.specs.Runs.{Lent, Ran, ran_of, Job}
use Rattle.run.specs.Calls.{run}
use Rattle.tangent.specs.Tangent.{tangent_needs_by}
use Rattle.tangent.specs.Calls.{run_tangent}
use Rattle.claims.specs.declared.Sums.{Sums}
use Rattle.claims.specs.ExactlyWhen.{Read, Runnable}
use Rattle.claims.specs.IdealSweep.{Progress, beginning, execution}
use Rattle.claims.specs.EquationTwo.{Instance, value_no, Trace, current, EquationTwo}
use Rattle.claims.specs.ForwardEquation.{ForwardEquation}
use Rattle.claims.specs.Demands.{RunExactly, AuditSolves, AuditMeets}
use Rattle.claims.specs.Tangents.{TangentAuditMeets}
use Rattle.claims.specs.Balance.{TangentSolves, sum_below, sum_over, seeds_by_rates, adjoints_by_rates, Balances, Weighed, weighed_of, BalanceMeets}
use Rattle.claims.specs.ThreeDemands.{AreResidues, DirectionsBalance}
use Rattle.claims.specs.Inner.Summing.{dot_of, sums_if_done}
use Rattle.claims.proofs.Runs.{runs}
use Rattle.claims.proofs.StartExactlyWhen.{accepted_reads, OwnRunnable, own_run}
use Rattle.claims.proofs.EquationTwoSolved.{seed_at, full_sweep_solves}
use Rattle.claims.proofs.EquationTwoHolds.{seed_below}
use Rattle.claims.proofs.DemandTwoHolds.{any_audit_solves, audit_meets}
use Rattle.claims.proofs.TangentsHold.{tangent_audit_call}
use Rattle.claims.proofs.ForwardEquationSolved.{starting_rate, full_rates_solve}
use Rattle.claims.proofs.Transposed.{sums_agree, Named, trace_balances, runs_named}
use Rattle.claims.proofs.TangentsSolve.{starting_below, tangent_solves}
use Rattle.claims.proofs.BothRun.{RunsBoth, runs_both}

-- ---- of the two equations, over any executed assignments

equations_balance : (roles seeds rates : List ℕ) (constants : ℕ) (trace : Trace) → Named (length roles) constants trace → AreResidues seeds → AreResidues rates
    → (bar : Instance → ℕ) → EquationTwo roles seeds trace bar → (rate : Instance → ℕ) → ForwardEquation roles rates trace rate
    → residue (sum_below (length roles) (λ x. seed_at roles seeds x * rate (current trace x)))
    ≡ residue (sum_below (length roles) (λ x. bar (value_no x 0) * starting_rate roles rates x))
equations_balance roles seeds rates constants trace named residue_seeds residue_rates bar bar_solves rate rate_solves =
    let v = length roles in
    let forward = full_rates_solve roles rates trace (starting_below roles rates residue_rates) rate rate_solves in
    let backward = full_sweep_solves roles seeds trace (seed_below roles seeds (λ x h. residue_seeds x)) bar bar_solves in
    ap residue (sums_agree v _ _ (λ x h. ap (λ y. seed_at roles seeds x * y) (sym (forward x))))
    ∙ trace_balances v constants trace named (seed_at roles seeds) (starting_rate roles rates)
    ∙ ap residue (sums_agree v _ _ (λ x h. ap (λ y. y * starting_rate roles rates x) (backward x)))

-- ---- of two results that solve them

-- where the role doesn't count, a result's second half is 0, and so is the term
seed_term : (b : Bool) (seed out rate : ℕ) → out ≡ cond b rate 0 → cond b (seed * out) 0 ≡ cond b seed 0 * rate
seed_term true seed out rate e = rw e
seed_term false seed out rate e = sym (zero-mul rate)

adjoint_term : (b : Bool) (out rate bar : ℕ) → out ≡ cond b bar 0 → cond b (out * rate) 0 ≡ bar * cond b rate 0
adjoint_term true out rate bar e = rw e
adjoint_term false out rate bar e = sym (mul-zero bar)

module _ (sheet : Sheet) (starts seeds rates : List ℕ) (adjoint tangent : Ran residues)
    (named : Present (variables_of sheet) (length sheet.constants) sheet.body) (residue_seeds : AreResidues seeds) (residue_rates : AreResidues rates)
    (adjoints : AuditSolves sheet starts seeds adjoint) (tangents : TangentSolves sheet starts rates tangent) where
  solved_balance : seeds_by_rates sheet seeds tangent ≡ adjoints_by_rates sheet rates adjoint
  unfolding sum_over seed_at starting_rate Named execution
  solved_balance =
      let v = variables_of sheet in
      let trace = adjoints.progress.trace in
      let bar = adjoints.solvable.bar in
      let rate = tangents.solvable.rate in
      let same : adjoints.progress ≡ tangents.progress = same_through (sym adjoints.executes ∙ tangents.executes) in
      let rate_solves : ForwardEquation sheet.roles rates trace rate =
      subst (λ (p : Progress residues). ForwardEquation sheet.roles rates p.trace rate) (sym same) tangents.solvable.solves in
      let executed = runs residues sheet.constants sheet.body 0 (beginning residues starts) adjoints.progress adjoints.executes in
      ap residue
      (sums_agree v _ _
      (λ x h. seed_term (is_dependent (get_or sheet.roles x 0)) (get_or seeds x 0) _ (rate (current trace x))
      (tangents.rates_out rate tangents.solvable.solves x h
      ∙ ap (λ (p : Progress residues). cond (is_dependent (get_or sheet.roles x 0)) (rate (current p.trace x)) 0) (sym same))))
      ∙ equations_balance sheet.roles seeds rates (length sheet.constants) trace (runs_named v executed named tt) residue_seeds residue_rates bar
      adjoints.solvable.solves rate rate_solves
      ∙ ap residue
      (sums_agree v _ _
      (λ x h. sym (adjoint_term (is_independent (get_or sheet.roles x 0)) _ (get_or rates x 0) (bar (value_no x 0)) (adjoints.adjoints bar adjoints.solvable.solves x h))))

-- ---- of what the two calls answer

pub balance : DirectionsBalance
balance words starts seeds rates residue_seeds residue_rates before after before' after' answer answer' contract contract' sheet sets ready ready' =
    let adjoints = any_audit_solves words starts seeds before sheet sets ready (λ x h. residue_seeds x) _ contract in
    let tangents = tangent_solves words starts rates residue_rates before' sheet sets ready' _ contract' in
    let present = names_present words sheet (accepted_reads words sheet ready.lengths.stacks.writable.accepted.is_read) in
    record {
      adjoint_answers = adjoints.answers;
      tangent_answers = tangents.answers;
      equal = solved_balance sheet starts seeds rates _ _ present residue_seeds residue_rates adjoints tangents;
    }

-- ---- of the code

-- a call that answered 0 had all that it needs, of the one sheet that the words are
runnable_of : {needs : Sets → Sheet → Needs} {job : Sets → Sheet → Job residues} {words starts seeds : List ℕ} {before : Lent residues} {ran : Ran residues}
    → RunExactly residues needs job words starts seeds before ran → ran.number ≡ 0 → (sheet : Sheet) → Read words sheet
    → OwnRunnable residues needs words starts seeds before sheet
runnable_of {needs} {job} {words} {starts} {seeds} {before} exactly zero sheet is =
    let found = exactly.done.0 zero in
    let ready = found.3.runnable in
    let same : found.0 ≡ sheet = one_given (sym (accepted_reads words found.0 ready.lengths.stacks.writable.accepted.is_read) ∙ accepted_reads words sheet is) in
    subst (λ s. Runnable residues needs words starts seeds before s (sets_of s)) same (own_run residues needs words starts seeds before found.0 found.1 ready)
  where
    one_given : {s t : Sheet} → ◌≡◌ {A = Answer Sheet} (given s) (given t) → s ≡ t
    one_given e = cc

-- summing over all variables and over those with the role is the same, where the others' terms are 0
sum_by_role : (has_role : ℕ → Bool) (roles ones others : List ℕ) → length ones ≡ length roles
    → ((x : ℕ) → x < length roles → has_role (get_or roles x 0) ≡ false → get_or ones x 0 * get_or others x 0 ≡ 0) → dot_of ones others ≡ sum_over has_role roles ones others
unfolding dot_of sum_over
sum_by_role has_role roles ones others long elsewhere =
    ap residue (ap (λ n. sum_below n (λ x. get_or ones x 0 * get_or others x 0)) long ∙ sums_agree (length roles) _ _ (λ x h. by x (has_role (get_or roles x 0)) refl h))
  where
    by : (x : ℕ) (b : Bool) → has_role (get_or roles x 0) ≡ b → x < length roles → get_or ones x 0 * get_or others x 0 ≡ cond b (get_or ones x 0 * get_or others x 0) 0
    by x true e h = refl
    by x false e h = elsewhere x h e

module _ (words starts seeds rates : List ℕ) (residue_seeds : AreResidues seeds) (residue_rates : AreResidues rates) (before after before' after' : Lent residues)
    (adjoint tangent : Reply) (adjoint_ran : ran_of residues adjoint after ≡ run residues words starts seeds before)
    (tangent_ran : ran_of residues tangent after' ≡ run_tangent residues words starts rates before')
    (kept : length after.result ≡ length before.result) (kept' : length after'.result ≡ length before'.result) (answer : Sums)
    (told : answer ≡ sums_if_done adjoint tangent (length starts) seeds rates after.result after'.result) where
  both : RunsBoth words starts seeds rates before after before' after' adjoint tangent adjoint_ran tangent_ran kept kept' answer
  both = runs_both words starts seeds rates before after before' after' adjoint tangent adjoint_ran tangent_ran kept kept' answer told

  abbrev weighed : Weighed
  weighed = weighed_of answer after after'

  abbrev AdjointAccepts : Sheet → Sets → Type 0
  AdjointAccepts = Runnable residues needs_by words starts seeds before

  abbrev TangentAccepts : Sheet → Sets → Type 0
  TangentAccepts = Runnable residues tangent_needs_by words starts rates before'

  adjoint_meets : AuditMeets words starts seeds before weighed.adjoint
  adjoint_meets = audit_meets words starts seeds before after answer.adjoint residue_seeds both.adjoint_ran

  tangent_meets : TangentAuditMeets words starts rates before' weighed.tangent
  tangent_meets = tangent_audit_call words starts rates before' after' answer.tangent both.tangent_ran

  tangents_solve : (sheet : Sheet) (sets : Sets) → TangentAccepts sheet sets → TangentSolves sheet starts rates weighed.tangent
  tangents_solve sheet sets ready = tangent_solves words starts rates residue_rates before' sheet sets ready _ both.tangent_ran

  both_balance : (sheet : Sheet) (sets : Sets) → AdjointAccepts sheet sets → TangentAccepts sheet sets → Balances sheet seeds rates weighed.adjoint weighed.tangent
  both_balance =
      balance words starts seeds rates residue_seeds residue_rates before after before' after' answer.adjoint answer.tangent both.adjoint_ran both.tangent_ran

  module _ (zero : answer.adjoint.number ≡ 0) (zero' : answer.tangent.number ≡ 0) where
    adjoint_accepts : (sheet : Sheet) → Read words sheet → AdjointAccepts sheet (sets_of sheet)
    adjoint_accepts = runnable_of adjoint_meets.run.exactly zero

    tangent_accepts : (sheet : Sheet) → Read words sheet → TangentAccepts sheet (sets_of sheet)
    tangent_accepts = runnable_of tangent_meets.run.exactly zero'

    are_the_sums : (sheet : Sheet) → Read words sheet
        → (answer.of_rates ≡ seeds_by_rates sheet seeds weighed.tangent) × (answer.of_adjoints ≡ adjoints_by_rates sheet rates weighed.adjoint)
    are_the_sums sheet is =
        let v = variables_of sheet in
        let lengths = (adjoint_accepts sheet is).lengths in
        let rates_out = tangents_solve sheet (sets_of sheet) (tangent_accepts sheet is) in
        let adjoints_out = adjoint_meets.solves sheet (sets_of sheet) (adjoint_accepts sheet is) in
        let half : length (drop v after.result) ≡ v = omega (arith, length-drop v after.result, (both.long zero zero').adjoint_results, lengths.start_values) in (
          (both.sums zero zero').0 ∙ ap (λ n. dot_of seeds (drop n after'.result)) lengths.start_values
              ∙ sum_by_role is_dependent sheet.roles seeds (drop v after'.result) lengths.seed_values
              (λ x h other. ap (λ y. get_or seeds x 0 * y) (rates_out.rates_out rates_out.solvable.rate rates_out.solvable.solves x h ∙ rw other) ∙ mul-zero (get_or seeds x 0)),
          (both.sums zero zero').1 ∙ ap (λ n. dot_of (drop n after.result) rates) lengths.start_values
              ∙ sum_by_role is_independent sheet.roles (drop v after.result) rates half
              (λ x h other. ap (λ y. y * get_or rates x 0) (adjoints_out.adjoints adjoints_out.solvable.bar adjoints_out.solvable.solves x h ∙ rw other)
              ∙ zero-mul (get_or rates x 0)),
        )

    sums_equal : answer.of_rates ≡ answer.of_adjoints
    sums_equal =
        let found = adjoint_meets.run.exactly.done.0 zero in
        let sheet = found.0 in
        let is = found.3.runnable.lengths.stacks.writable.accepted.is_read in
        let sums = are_the_sums sheet is in
        sums.0 ∙ (both_balance sheet (sets_of sheet) (adjoint_accepts sheet is) (tangent_accepts sheet is)).equal ∙ sym sums.1

  -- the contract of `balance`
  pub balance_meets : BalanceMeets words starts seeds rates before before' weighed
  balance_meets =
      record {
        adjoint = adjoint_meets;
        tangent = tangent_meets;
        solves = tangents_solve;
        balances = both_balance;
        sums = λ sheet is zero zero'. are_the_sums zero zero' sheet is;
        none = both.none;
        equal = by (ℕ_discrete answer.adjoint.number 0) (ℕ_discrete answer.tangent.number 0);
      }
    where
      refused : (answer.adjoint.number ≢ 0) ⊎ (answer.tangent.number ≢ 0) → answer.of_rates ≡ answer.of_adjoints
      refused one = (both.none one).0 ∙ sym (both.none one).1

      by : Dec (answer.adjoint.number ≡ 0) → Dec (answer.tangent.number ≡ 0) → answer.of_rates ≡ answer.of_adjoints
      by (yes zero) (yes zero') = sums_equal zero zero'
      by (yes zero) (no some) = refused (inr some)
      by (no some) other = refused (inl some)
