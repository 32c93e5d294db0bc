-- In audit a run's result holds the values of executing the sheet and, at every independent, the adjoint of equation (2); 0 at the others.
use Prim.Native.Nat.{ℕ, zero, suc, ◌<◌}
use mathlib.Core.Path.{◌≡◌, refl, ap, subst, ◌∙◌}
use mathlib.Core.Bool.{Bool, true, false, cond}
use mathlib.Core.List.{List, [], ◌∷◌, ◌++◌}
use lib.ListN.{length, get_or, take, drop}
use lib.Seq.{take_at, drop_at, get_or-drop}
use native.Mathlib.Nat.{not-suc-le-zero, le_of_suc-le-suc}
use native.Mathlib.Omega.{arith}
use Rattle.number.specs.Residues.{modulus, residues}
use Rattle.sheet.specs.Rows.{is_independent}
use Rattle.sheet.specs.Sheets.{Sheet, variables_of}
use Rattle.sheet.proofs.Feasibility.{ReadFor}
use Rattle.sheet.proofs.NamesPresent.{names_present}
use Rattle.sets.specs.Rounds.{sets_of}
use Rattle.sets.specs.Marks.{activity_at}
use Rattle.sets.proofs.SetsLeast.{varied_least, useful_least}
use Rattle.table.specs.Sizes.{needs_by}
use Rattle.machine.specs.Actions.{through, Setting, counting}
use Rattle.machine.proofs.AttemptLaws.{same_through, went}
use Rattle.run.specs.Runs.{Lent, Ran, setting_of, independent_adjoints}
use Rattle.run.specs.Calls.{lent_after, run}
use Rattle.claims.specs.IdealSweep.{Progress, beginning, execution, swept, first_adjoints, Ideal, ideal}
use Rattle.claims.specs.EquationTwo.{Instance, value_no, EquationTwo}
use Rattle.claims.specs.Demands.{AuditSolves}
use Rattle.claims.proofs.Runs.{runs}
use Rattle.claims.proofs.RunsKeepSizes.{runs_keep}
use Rattle.claims.proofs.StartExactlyWhen.{reads_to_run, OwnRunnable}
use Rattle.claims.proofs.RunsAnswer.{AnswersAs, run_answers}
use Rattle.claims.proofs.EquationTwoSolved.{equation_two_solvable}
use Rattle.claims.proofs.EquationTwoHolds.{Sound, Given, ideal_goes, ideal_solves}

pub sound : (words : List ℕ) (sheet : Sheet) → ReadFor false words sheet → Sound sheet
sound words sheet reads =
    record {
      varies = (varied_least words sheet reads.is_read).satisfies;
      uses = (useful_least words sheet reads.is_read).satisfies;
      present = names_present words sheet reads.is_read;
      feasible = reads.feasible;
    }

-- an independent's entry is its adjoint, any other's 0
adjoint_at : (roles adjoints : List ℕ) (x : ℕ) → x < length roles
    → get_or (independent_adjoints residues roles adjoints) x 0 ≡ cond (is_independent (get_or roles x 0)) (get_or adjoints x 0) 0
unfolding counting
adjoint_at [] adjoints x h = absurd (not-suc-le-zero h)
adjoint_at (role ∷ roles) adjoints zero h = refl
adjoint_at (role ∷ roles) adjoints (suc x) h =
    adjoint_at roles (drop 1 adjoints) x (le_of_suc-le-suc h)
    ∙ ap (λ y. cond (is_independent (get_or roles x 0)) y 0) (get_or-drop 1 adjoints x 0 ∙ ap (λ i. get_or adjoints i 0) (omega arith))

module _ (words starts seeds : List ℕ) (lent : Lent residues) (sheet : Sheet)
    (ready : OwnRunnable residues needs_by words starts seeds lent sheet) (below : (x : ℕ) → x < variables_of sheet → get_or seeds x 0 < modulus) (answer : Ran residues)
    (contract : answer ≡ run residues words starts seeds lent) where
  abbrev values : ℕ
  values = length lent.values

  abbrev turns : ℕ
  turns = length lent.turns

  abbrev setting : Setting residues
  setting = setting_of residues sheet seeds values turns

  given_soundly : Sound sheet
  given_soundly = sound words sheet (reads_to_run residues needs_by words starts seeds lent sheet ready)

  begins : Given sheet starts seeds
  begins = record { started = ready.lengths.start_values; below = below }

  -- an ideal sweep that ended began with an execution that did
  executes : (i : Ideal residues) → ideal residues sheet (sets_of sheet) setting starts ≡ through i → execution residues sheet starts ≡ through i.progress
  unfolding ideal
  executes i goes =
      let run_is = went (execution residues sheet starts) _ i goes in
      let lean = went (swept residues setting (activity_at (sets_of sheet).varied (sets_of sheet).useful) run_is.0.trace
      (first_adjoints residues setting.roles setting.seeds)) _ i run_is.2 in
      run_is.1 ∙ ap through (ap (λ (x : Ideal residues). x.progress) (same_through lean.2))

  keeps : (progress : Progress residues) → execution residues sheet starts ≡ through progress → length progress.store ≡ variables_of sheet
  unfolding execution
  keeps progress e =
      runs_keep residues sheet.constants
      (runs residues sheet.constants sheet.body 0 (beginning residues starts) progress e)
      ∙ ready.lengths.start_values

  from_answer : (i : Ideal residues) → ideal residues sheet (sets_of sheet) setting starts ≡ through i → AnswersAs residues sheet lent (through i) answer
      → AuditSolves sheet starts seeds answer
  unfolding AnswersAs lent_after
  from_answer i goes answers =
      let v = variables_of sheet in
      let size = keeps i.progress (executes i goes) in
      let last = independent_adjoints residues sheet.roles i.adjoints in
      let result : answer.lent.result ≡ i.progress.store ++ last = ap (λ (r : Ran residues). r.lent.result) answers in
      record {
        progress = i.progress;
        executes = executes i goes;
        answers = ap (λ (r : Ran residues). r.number) answers;
        values = ap (take v) result ∙ take_at i.progress.store last v size;
        solvable = equation_two_solvable sheet.roles seeds i.progress.trace;
        adjoints = λ bar solves x h.
            ap (λ (l : List ℕ). get_or (drop v l) x 0) result ∙ ap (λ (l : List ℕ). get_or l x 0) (drop_at i.progress.store last v size)
            ∙ adjoint_at sheet.roles i.adjoints x h ∙ by_role (is_independent (get_or sheet.roles x 0)) bar solves x h refl;
      }
    where
      by_role : (b : Bool) (bar : Instance → ℕ) → EquationTwo sheet.roles seeds i.progress.trace bar → (x : ℕ) → x < variables_of sheet
          → is_independent (get_or sheet.roles x 0) ≡ b → cond b (get_or i.adjoints x 0) 0 ≡ cond b (bar (value_no x 0)) 0
      by_role true bar solves x h independent =
          ideal_solves sheet starts seeds values turns given_soundly begins i goes bar solves x h independent
      by_role false bar solves x h other = refl

  pub audit_solves : AuditSolves sheet starts seeds answer
  audit_solves =
      let i = ideal_goes sheet starts seeds values turns given_soundly begins in
      from_answer i.0 i.1
      (subst (λ x. AnswersAs residues sheet lent x answer) i.1 (run_answers residues words starts seeds lent sheet ready answer contract))
