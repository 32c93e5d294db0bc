-- 02 §5, "The two directions must balance": what makes a tangent's run in audit right by itself, the two sums, and that they are equal. Each record speaks
-- of answers that are handed to it; the last one is the contract of `balance` in src/lib.rt.
use Rattle.std.specs.Prelude.{ℕ, zero, suc, ◌+◌, ◌*◌, ◌<◌, ◌≡◌, Bool, cond, List, ◌≢◌, ◌⊎◌, length, take, drop, get_or}
use Rattle.number.specs.Residues.{residue, residues}
use Rattle.sheet.specs.Sheets.{Sheet, variables_of}
use Rattle.sheet.specs.Rows.{is_independent, is_dependent}
use Rattle.sets.specs.Marks.{Sets}
use Rattle.table.specs.Sizes.{needs_by}
use Rattle.machine.specs.Actions.{through}
use Rattle.run.specs.Runs.{Lent, Ran, ran_of}
use Rattle.tangent.specs.Tangent.{tangent_needs_by}
use Rattle.claims.specs.ExactlyWhen.{Read, Runnable}
use Rattle.claims.specs.IdealSweep.{Progress, execution}
use Rattle.claims.specs.EquationTwo.{Instance, current}
use Rattle.claims.specs.ForwardEquation.{ForwardEquation, ForwardSolvable}
use Rattle.claims.specs.Demands.{AuditMeets}
use Rattle.claims.specs.Tangents.{TangentAuditMeets}
use Rattle.claims.specs.declared.Sums as declared

-- ---- the tangent by itself, as `AuditSolves` has it of the adjoint: the run answers 0, its first V numbers are the values of executing the sheet, and
-- the other V the rate of each dependent's last value by the forward equation, which has one solution, 0 at the others

pub record TangentSolves (sheet : Sheet) (starts rates : List ℕ) (ran : Ran residues) : Type 0 where
  pub progress : Progress residues
  pub executes : execution residues sheet starts ≡ through progress
  pub answers : ran.number ≡ 0
  pub values : take (variables_of sheet) ran.lent.result ≡ progress.store
  pub solvable : ForwardSolvable sheet.roles rates progress.trace
  pub rates_out : (rate : Instance → ℕ) → ForwardEquation sheet.roles rates progress.trace rate → (x : ℕ) → x < variables_of sheet
      → get_or (drop (variables_of sheet) ran.lent.result) x 0
      ≡ cond (is_dependent (get_or sheet.roles x 0)) (rate (current progress.trace x)) 0

-- ---- the two sums

-- f 0 + .. + f (n − 1)
unfoldable pub sum_below : (n : ℕ) → (f : ℕ → ℕ) → ℕ
sum_below zero f = 0
sum_below (suc n) f = sum_below n f + f n

-- modulo 2^32, over the variables with the role, of one number times another
unfoldable pub sum_over : (has_role : ℕ → Bool) → (roles ones others : List ℕ) → ℕ
unfolding residue sum_below
sum_over has_role roles ones others = residue (sum_below (length roles) (λ x. cond (has_role (get_or roles x 0)) (get_or ones x 0 * get_or others x 0) 0))

-- "the sum over dependents of seed times rate", a rate being in the second half of the tangent's result
abbrev pub seeds_by_rates : Sheet → (seeds : List ℕ) → (tangent : Ran residues) → ℕ
seeds_by_rates sheet seeds tangent = sum_over is_dependent sheet.roles seeds (drop (variables_of sheet) tangent.lent.result)

-- "the sum over independents of adjoint times starting rate", an adjoint being in the second half of the adjoint's result
abbrev pub adjoints_by_rates : Sheet → (rates : List ℕ) → (adjoint : Ran residues) → ℕ
adjoints_by_rates sheet rates adjoint = sum_over is_independent sheet.roles (drop (variables_of sheet) adjoint.lent.result) rates

pub record Balances (sheet : Sheet) (seeds rates : List ℕ) (adjoint tangent : Ran residues) : Type 0 where
  pub adjoint_answers : adjoint.number ≡ 0
  pub tangent_answers : tangent.number ≡ 0
  pub equal : seeds_by_rates sheet seeds tangent ≡ adjoints_by_rates sheet rates adjoint

-- ---- of the code

-- both runs, and both sums
pub record Weighed : Type 0 where
  pub adjoint : Ran residues
  pub tangent : Ran residues
  pub of_rates : ℕ
  pub of_adjoints : ℕ

-- what the answer and the buffers that both runs leave say
abbrev pub weighed_of : declared.Sums → (after after' : Lent residues) → Weighed
weighed_of answer after after' =
    record {
      adjoint = ran_of residues answer.adjoint after;
      tangent = ran_of residues answer.tangent after';
      of_rates = answer.of_rates;
      of_adjoints = answer.of_adjoints;
    }

-- Both calls do as they do by themselves. Where both accept, both answer 0, the rates are the forward equation's, the sums are the two of §5, and
-- they are equal; where one refuses, there are no sums, and both are 0.
pub record BalanceMeets (words starts seeds rates : List ℕ) (before before' : Lent residues) (weighed : Weighed) : Type 0 where
  pub adjoint : AuditMeets words starts seeds before weighed.adjoint
  pub tangent : TangentAuditMeets words starts rates before' weighed.tangent
  pub solves : (sheet : Sheet) (sets : Sets) → Runnable residues tangent_needs_by words starts rates before' sheet sets
      → TangentSolves sheet starts rates weighed.tangent
  pub balances : (sheet : Sheet) (sets : Sets) → Runnable residues needs_by words starts seeds before sheet sets
      → Runnable residues tangent_needs_by words starts rates before' sheet sets
      → Balances sheet seeds rates weighed.adjoint weighed.tangent
  pub sums : (sheet : Sheet) → Read words sheet → weighed.adjoint.number ≡ 0 → weighed.tangent.number ≡ 0
      → (weighed.of_rates ≡ seeds_by_rates sheet seeds weighed.tangent) × (weighed.of_adjoints ≡ adjoints_by_rates sheet rates weighed.adjoint)
  pub none : (weighed.adjoint.number ≢ 0) ⊎ (weighed.tangent.number ≢ 0) → (weighed.of_rates ≡ 0) × (weighed.of_adjoints ≡ 0)
  pub equal : weighed.of_rates ≡ weighed.of_adjoints
