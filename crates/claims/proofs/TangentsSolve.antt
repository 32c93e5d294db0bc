-- In audit a tangent's run holds the values of executing the sheet and, at every dependent, the rate that the forward equation gives its last value; 0 at the
-- others.
use Prim.Native.Nat.{ℕ, ◌<◌}
use mathlib.Core.Path.{◌≡◌, refl, sym, ap, subst, ◌∙◌}
use mathlib.Core.Bool.{Bool, true, false, cond}
use mathlib.Core.List.{List}
use lib.ListN.{length, get_or, take, drop}
use lib.Seq.{take_at, drop_at}
use lib.Dec.{T}
use native.Mathlib.Nat.{zero-add}
use native.Mathlib.Omega.{arith}
use Rattle.number.specs.Residues.{modulus, residues}
use Rattle.sheet.specs.Tree.{rows}
use Rattle.sheet.specs.Rows.{is_independent, is_dependent}
use Rattle.sheet.specs.Sheets.{Sheet, variables_of}
use Rattle.sheet.proofs.Feasibility.{ReadFor}
use Rattle.sets.specs.VariableSets.{has}
use Rattle.sets.specs.Equations.{Satisfy}
use Rattle.sets.specs.Rounds.{sets_of, set_at, varied, useful}
use Rattle.sets.specs.Transfers.{varied_after, useful_before}
use Rattle.sets.specs.Marks.{Sets, varied_equations, useful_equations, marked_by}
use Rattle.sets.proofs.VariableSetLaws.{places_has}
use Rattle.sets.proofs.EquationsAlong.{forward_along, backward_along}
use Rattle.machine.specs.Actions.{through, counting}
use Rattle.machine.proofs.AttemptLaws.{same_through}
use Rattle.machine.proofs.RoleLaws.{counting_length, counting_at}
use Rattle.machine.specs.Machine.{Step}
use Rattle.run.specs.Runs.{Lent, Ran, run_of}
use Rattle.run.specs.Calls.{lent_after, ran_to}
use Rattle.tangent.specs.Tangent.{tangent_by, tangent_needs_by}
use Rattle.tangent.specs.TangentRuns.{starting_rates, tangent_setting, tangent_start}
use Rattle.tangent.specs.Calls.{run_tangent}
use Rattle.plain.specs.Plain.{plain_by, plain_result}
use Rattle.plain.proofs.WholeRunsAgree.{SameEnd, both_end, both_halt, runs_agree}
use Rattle.claims.specs.ExactlyWhen.{Runnable}
use Rattle.claims.specs.IdealSweep.{Progress, beginning, execution}
use Rattle.claims.specs.EquationTwo.{Instance, current}
use Rattle.claims.specs.ForwardEquation.{ForwardEquation}
use Rattle.claims.specs.Balance.{TangentSolves}
use Rattle.claims.specs.ThreeDemands.{AreResidues}
use Rattle.claims.proofs.Runs.{runs}
use Rattle.claims.proofs.ResiduesGo.{execution_goes}
use Rattle.claims.proofs.StartExactlyWhen.{OwnRunnable, own_run, reads_to_run}
use Rattle.claims.proofs.EquationTwoHolds.{Sound, unseeded}
use Rattle.claims.proofs.AuditSolves.{sound}
use Rattle.claims.proofs.TangentsHold.{tangent_started}
use Rattle.claims.proofs.FullRates.{rates_along}
use Rattle.claims.proofs.ForwardEquationSolved.{starting_rate, forward_solvable, full_rates_solve}
use Rattle.claims.proofs.LeanRatesAlong.{Abreast, Carries, into_tree, carried}

pub starting_below : (roles rates : List ℕ) → AreResidues rates → (x : ℕ) → starting_rate roles rates x < modulus
unfolding starting_rate
starting_below roles rates below x = either (is_independent (get_or roles x 0))
  where
    either : (b : Bool) → cond b (get_or rates x 0) 0 < modulus
    either true = below x
    either false = omega arith

module _ (words starts rates : List ℕ) (below : AreResidues rates) (lent : Lent residues) (sheet : Sheet)
    (ready : OwnRunnable residues tangent_needs_by words starts rates lent sheet) where
  abbrev v : ℕ
  v = variables_of sheet

  abbrev first : ℕ → ℕ
  first = starting_rate sheet.roles rates

  reads : ReadFor false words sheet
  reads = reads_to_run residues tangent_needs_by words starts rates lent sheet ready

  soundly : Sound sheet
  soundly = sound words sheet reads

  execution_is : (progress : Progress residues) × (execution residues sheet starts ≡ through progress)
  execution_is = execution_goes sheet starts ready.lengths.start_values soundly.present soundly.feasible

  -- at the start the rates are the starting ones, which only independents have
  begins : Abreast sheet.constants (sets_of sheet) v first 0 (beginning residues starts)
      (record { values = starts; rates = starting_rates residues sheet.roles rates })
  unfolding varied_equations Satisfy starting_rate rates_along
  begins =
      record {
        sized = ready.lengths.start_values;
        values = refl;
        agrees =
            record {
              size = counting_length residues is_independent sheet.roles rates;
              below = starting_below sheet.roles rates below;
              still = λ x h unvaried. unseeded (is_independent (get_or sheet.roles x 0)) (get_or rates x 0)
                  (λ m. unvaried (subst T (sym (ap (λ s. has s x) soundly.varies.0 ∙ places_has is_independent 0 refl sheet.roles x)) m));
              serves = λ x h m. counting_at residues is_independent sheet.roles rates x 0 h (rw ready.lengths.seed_values h);
            };
      }

  -- at the end the plain engine's rates of dependents are the full ones
  goes_along : Carries sheet.constants (sets_of sheet) v first sheet.body 0 0
      (record { values = starts; rates = starting_rates residues sheet.roles rates }) (rows sheet.body) execution_is.0
  unfolding varied_equations useful_equations Satisfy execution
  goes_along =
      let varies = (forward_along (λ p. varied_after) (set_at (varied sheet)) sheet.body 0 _ soundly.varies.1).0 in
      let uses = (backward_along (λ p. useful_before) (set_at (useful sheet)) sheet.body 0 _ soundly.uses.1).0 in
      let executed = runs residues sheet.constants sheet.body 0 (beginning residues starts) execution_is.0 execution_is.1 in
      carried sheet.constants (sets_of sheet) v first executed soundly.present varies uses (rows sheet.body) (sym (zero-add (rows sheet.body))) 0 _
      (into_tree sheet.constants (sets_of sheet) v first sheet.body 0 (beginning residues starts) _ varies uses begins)

  serves_dependents : (x : ℕ) → x < v → is_dependent (get_or sheet.roles x 0) ≡ true
      → get_or goes_along.next.rates x 0 ≡ rates_along execution_is.0.trace first x
  unfolding useful_equations Satisfy
  serves_dependents x h dependent =
      goes_along.there.agrees.serves x h
      (subst T (sym (ap (λ s. has s x) soundly.uses.0 ∙ places_has is_dependent 0 refl sheet.roles x ∙ dependent)) tt)

  -- the table's run leaves what the plain engine does
  result_is : (answer : Ran residues) → answer ≡ run_tangent residues words starts rates lent
      → (answer.number ≡ 0) × (answer.lent.result ≡ plain_result residues sheet goes_along.next)
  unfolding ran_to lent_after plain_by marked_by
  result_is answer contract =
      by (runs_agree residues sheet starts rates words reads (sets_of sheet) ready.lengths.start_values)
    where
      ending : Step residues
      ending = run_of residues (tangent_by (sets_of sheet) sheet) (tangent_setting residues sheet rates) (tangent_start residues sheet starts rates)

      by : SameEnd residues sheet ending (plain_by residues (sets_of sheet) sheet starts rates)
          → (answer.number ≡ 0) × (answer.lent.result ≡ plain_result residues sheet goes_along.next)
      by (both_end memory now is goes values result) =
          let said = contract ∙ tangent_started residues words starts rates lent sheet ready _ is in
          let same : now ≡ goes_along.next = same_through (sym goes ∙ goes_along.goes) in (
            ap (λ (r : Ran residues). r.number) said,
            ap (λ (r : Ran residues). r.lent.result) said ∙ result ∙ ap (plain_result residues sheet) same,
          )
      by (both_halt row stop is goes) = absurd stop.why

  pub own_tangent_solves : (answer : Ran residues) → answer ≡ run_tangent residues words starts rates lent → TangentSolves sheet starts rates answer
  unfolding plain_result
  own_tangent_solves answer contract =
      let result = result_is answer contract in
      let next = goes_along.next in
      let last = counting residues is_dependent sheet.roles next.rates in
      let size : length next.values ≡ v = ap length goes_along.there.values ∙ goes_along.there.sized in
      record {
        progress = execution_is.0;
        executes = execution_is.1;
        answers = result.0;
        values = ap (take v) result.1 ∙ take_at next.values last v size ∙ goes_along.there.values;
        solvable = forward_solvable sheet.roles rates execution_is.0.trace;
        rates_out = λ rate solves x h.
            ap (λ (l : List ℕ). get_or (drop v l) x 0) result.1 ∙ ap (λ (l : List ℕ). get_or l x 0) (drop_at next.values last v size)
            ∙ counting_at residues is_dependent sheet.roles next.rates x 0 h (rw goes_along.there.agrees.size h)
            ∙ by_role (is_dependent (get_or sheet.roles x 0)) rate solves x h refl;
      }
    where
      by_role : (b : Bool) (rate : Instance → ℕ) → ForwardEquation sheet.roles rates execution_is.0.trace rate → (x : ℕ) → x < v
          → is_dependent (get_or sheet.roles x 0) ≡ b
          → cond b (get_or goes_along.next.rates x 0) 0 ≡ cond b (rate (current execution_is.0.trace x)) 0
      by_role true rate solves x h dependent =
          serves_dependents x h dependent
          ∙ full_rates_solve sheet.roles rates execution_is.0.trace (starting_below sheet.roles rates below) rate solves x
      by_role false rate solves x h other = refl

-- of any sets that are least
pub tangent_solves : (words starts rates : List ℕ) → AreResidues rates → (lent : Lent residues) (sheet : Sheet) (sets : Sets)
    → Runnable residues tangent_needs_by words starts rates lent sheet sets → (answer : Ran residues) → answer ≡ run_tangent residues words starts rates lent
    → TangentSolves sheet starts rates answer
tangent_solves words starts rates below lent sheet sets ready =
    own_tangent_solves words starts rates below lent sheet (own_run residues tangent_needs_by words starts rates lent sheet sets ready)
