-- In residues the lean reverse sweep (only active rows, only varied operands) goes through and gives, at every independent, the adjoint
-- that equation (2) defines over all executed assignments.
use Prim.Native.Nat.{ℕ, zero, suc, ◌+◌, ◌<◌}
use mathlib.Core.Path.{◌≡◌, refl, sym, ap, subst, ◌∙◌}
use mathlib.Core.Bool.{Bool, true, false, cond}
use mathlib.Core.List.{List, [], ◌∷◌}
use lib.ListN.{length, get_or, drop, get_or-eq_default}
use lib.Dec.{T}
use native.Mathlib.Decide.{dec_lt}
use native.Mathlib.Nat.{zero-add}
use native.Mathlib.Omega.{arith}
use lib.Seq.{get_or-drop}
use Rattle.number.specs.Residues.{modulus, residues}
use Rattle.sheet.specs.Tree.{rows}
use Rattle.sheet.specs.Rows.{is_independent, is_dependent}
use Rattle.sheet.specs.Names.{Present, Feasible}
use Rattle.sheet.specs.Sheets.{Sheet, variables_of}
use Rattle.sets.specs.VariableSets.{VariableSet, places}
use Rattle.sets.specs.Rounds.{sets_of, set_at, varied, useful}
use Rattle.sets.specs.Equations.{Satisfy}
use Rattle.sets.specs.Transfers.{varied_after, useful_before}
use Rattle.sets.specs.Marks.{varied_equations, useful_equations, activity_at}
use Rattle.sets.proofs.VariableSetLaws.{places_has}
use Rattle.sets.proofs.EquationsAlong.{forward_along, backward_along}
use Rattle.machine.specs.Actions.{Attempt, through, Stop, counting}
use Rattle.machine.proofs.AttemptLaws.{same_through, went}
use Rattle.run.specs.Runs.{setting_of}
use Rattle.claims.specs.IdealSweep.{Progress, beginning, execution, swept, first_adjoints, Ideal, ideal}
use Rattle.claims.specs.EquationTwo.{Instance, value_no, Trace, EquationTwo}
use Rattle.claims.proofs.Runs.{runs}
use Rattle.claims.proofs.ResiduesGo.{execution_goes}
use Rattle.claims.proofs.EquationTwoSolved.{full_swept, seed_at, full_sweep_solves}
use Rattle.claims.proofs.RowSeventeen.{first_size}
use Rattle.claims.proofs.LeanStep.{Agrees}
use Rattle.claims.proofs.LeanSweep.{up_to_start, swept_agrees}

-- ---- the seeds, after the sheet

nothing_past : (x : ℕ) → get_or {A = ℕ} (0 ∷ 0 ∷ []) x 0 ≡ 0
nothing_past zero = refl
nothing_past (suc zero) = refl
nothing_past (suc (suc x)) = refl

seeded_at : (roles seeds : List ℕ) (x : ℕ) → get_or (first_adjoints residues roles seeds) x 0 ≡ seed_at roles seeds x
unfolding counting seed_at
seeded_at [] seeds x = nothing_past x
seeded_at (role ∷ roles) seeds zero = refl
seeded_at (role ∷ roles) seeds (suc x) =
    let e : 1 + x ≡ suc x = omega arith in
    seeded_at roles (drop 1 seeds) x ∙ ap (λ y. cond (is_dependent (get_or roles x 0)) y 0) (get_or-drop 1 seeds x 0 ∙ ap (λ k. get_or seeds k 0) e)

pub seed_below : (roles seeds : List ℕ) → ((x : ℕ) → x < length roles → get_or seeds x 0 < modulus) → (x : ℕ) → seed_at roles seeds x < modulus
unfolding seed_at
seed_below roles seeds below x = by_case (dec_lt x (length roles))
  where
    either : (b : Bool) → get_or seeds x 0 < modulus → cond b (get_or seeds x 0) 0 < modulus
    either true h = h
    either false h = omega arith

    by_case : Dec (x < length roles) → cond (is_dependent (get_or roles x 0)) (get_or seeds x 0) 0 < modulus
    by_case (yes h) = either (is_dependent (get_or roles x 0)) (below x h)
    by_case (no h) = rw (get_or-eq_default roles 0 {n = x} (omega arith)) (omega arith)

pub unseeded : (dependent : Bool) (seed : ℕ) → (T dependent → ⊥) → cond dependent seed 0 ≡ 0
unseeded true seed no_dependent = absurd (no_dependent tt)
unseeded false seed no_dependent = refl

seeds_agree : (varied : VariableSet) (roles seeds : List ℕ) → ((x : ℕ) → x < length roles → get_or seeds x 0 < modulus)
    → Agrees varied (places is_dependent roles) (length roles) (seed_at roles seeds) (first_adjoints residues roles seeds)
unfolding seed_at
seeds_agree varied roles seeds below =
    record {
      size = first_size residues roles seeds;
      below = λ x. subst (λ y. y < modulus) (sym (seeded_at roles seeds x)) (seed_below roles seeds below x);
      useless = λ x h unused. unseeded (is_dependent (get_or roles x 0)) (get_or seeds x 0)
          (λ m. unused (subst T (sym (places_has is_dependent 0 refl roles x)) m));
      varies = λ x h m. seeded_at roles seeds x;
    }

-- ---- the theorem

-- the lean sweep of a sheet's executed assignments, from the seeds
abbrev pub lean_sweep : Sheet → (seeds : List ℕ) → (value_room turn_room : ℕ) → Trace → Attempt (Stop residues) (List ℕ)
lean_sweep sheet seeds value_room turn_room trace =
    swept residues (setting_of residues sheet seeds value_room turn_room) (activity_at (sets_of sheet).varied (sets_of sheet).useful) trace
    (first_adjoints residues sheet.roles seeds)

-- what a sheet that the audit run takes gives: its sets satisfy 01's equations, it names nothing that isn't there, and it holds no quotient
pub record Sound (sheet : Sheet) : Type 0 where
  pub varies : Satisfy (varied_equations sheet) (set_at (varied sheet))
  pub uses : Satisfy (useful_equations sheet) (set_at (useful sheet))
  pub present : Present (variables_of sheet) (length sheet.constants) sheet.body
  pub feasible : Feasible false sheet.body

-- what a run is given: a start value for each variable, and seeds that are residues
pub record Given (sheet : Sheet) (starts seeds : List ℕ) : Type 0 where
  pub started : length starts ≡ variables_of sheet
  pub below : (x : ℕ) → x < variables_of sheet → get_or seeds x 0 < modulus

module _ (sheet : Sheet) (starts seeds : List ℕ) (value_room turn_room : ℕ) (sound : Sound sheet) (given : Given sheet starts seeds) where
  -- the lean sweep goes through, and agrees with the full one at the independents
  lean_is_full : (progress : Progress residues) → execution residues sheet starts ≡ through progress
      → (adjoints : List ℕ) × (lean_sweep sheet seeds value_room turn_room progress.trace ≡ through adjoints)
      × ((x : ℕ) → x < variables_of sheet → is_independent (get_or sheet.roles x 0) ≡ true
      → get_or adjoints x 0 ≡ full_swept progress.trace (seed_at sheet.roles seeds) x)
  unfolding varied_equations useful_equations Satisfy setting_of execution swept full_swept
  lean_is_full progress executes =
      let setting = setting_of residues sheet seeds value_room turn_room in
      let body = sheet.body in
      let varied_sets = varied sheet in
      let useful_sets = useful sheet in
      let full = seed_at sheet.roles seeds in
      let lean = first_adjoints residues sheet.roles seeds in
      let end = rows body in
      let varied_along = (forward_along (λ p. varied_after) (set_at varied_sets) body 0 [] sound.varies.1).0 in
      let useful_along = (backward_along (λ p. useful_before) (set_at useful_sets) body 0 [] sound.uses.1).0 in
      let executed = runs residues sheet.constants body 0 (beginning residues starts) progress executes in
      let seeds_there : Agrees (set_at varied_sets end) (set_at useful_sets end) (variables_of sheet) full lean =
      subst (λ s. Agrees (set_at varied_sets end) s (variables_of sheet) full lean) (sym sound.uses.0)
      (seeds_agree (set_at varied_sets end) sheet.roles seeds given.below) in
      let went_back = swept_agrees setting sheet.constants varied_sets useful_sets executed given.started sound.present varied_along
      useful_along end (sym (zero-add end)) full lean seeds_there in
      let came = up_to_start setting sheet.constants varied_sets useful_sets body 0 progress.trace [] full lean varied_along useful_along
      went_back in (
        came.lean_there,
        came.leans,
        λ x h independent.
            came.agrees.varies x h (rw (sound.varies.0, places_has is_independent 0 refl sheet.roles x, independent) tt)
            ∙ ap (λ (f : ℕ → ℕ). f x) (sym came.fulls),
      )

  -- residues never stop
  lean_sweep_goes : (progress : Progress residues) → execution residues sheet starts ≡ through progress
      → (adjoints : List ℕ) × (lean_sweep sheet seeds value_room turn_room progress.trace ≡ through adjoints)
  lean_sweep_goes progress executes = let lean = lean_is_full progress executes in (lean.0, lean.1)

  equation_two : (progress : Progress residues) → execution residues sheet starts ≡ through progress
      → (adjoints : List ℕ) → lean_sweep sheet seeds value_room turn_room progress.trace ≡ through adjoints
      → (bar : Instance → ℕ) → EquationTwo sheet.roles seeds progress.trace bar
      → (x : ℕ) → x < variables_of sheet → is_independent (get_or sheet.roles x 0) ≡ true → get_or adjoints x 0 ≡ bar (value_no x 0)
  equation_two progress executes adjoints goes bar solves x h independent =
      let lean = lean_is_full progress executes in
      let same : adjoints ≡ lean.0 = same_through (sym goes ∙ lean.1) in
      ap (λ (l : List ℕ). get_or l x 0) same ∙ lean.2 x h independent
      ∙ full_sweep_solves sheet.roles seeds progress.trace (seed_below sheet.roles seeds given.below) bar solves x

  -- ---- the same of the ideal sweep, the execution with it

  abbrev pub ideal_run : Attempt (Stop residues) (Ideal residues)
  ideal_run = ideal residues sheet (sets_of sheet) (setting_of residues sheet seeds value_room turn_room) starts

  pub ideal_goes : (i : Ideal residues) × (ideal_run ≡ through i)
  unfolding ideal setting_of
  ideal_goes =
      let run = execution_goes sheet starts given.started sound.present sound.feasible in
      let lean = lean_sweep_goes run.0 run.1 in
      (record { progress = run.0; adjoints = lean.0 }, rw (run.1, lean.1))

  abbrev pub SolvesEquationTwo : Ideal residues → Type 0
  SolvesEquationTwo i =
      (bar : Instance → ℕ) → EquationTwo sheet.roles seeds i.progress.trace bar
      → (x : ℕ) → x < variables_of sheet → is_independent (get_or sheet.roles x 0) ≡ true → get_or i.adjoints x 0 ≡ bar (value_no x 0)

  pub ideal_solves : (i : Ideal residues) → ideal_run ≡ through i → SolvesEquationTwo i
  unfolding ideal setting_of
  ideal_solves i goes =
      let run = went (execution residues sheet starts) _ i goes in
      let lean = went (lean_sweep sheet seeds value_room turn_room run.0.trace) _ i run.2 in
      subst SolvesEquationTwo (same_through lean.2) (equation_two run.0 run.1 lean.0 lean.1)
