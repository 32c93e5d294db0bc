-- The ideal sweep doesn't depend on how many places the stacks have: derivative rows save nothing.
use Prim.Native.Nat.{ℕ, ◌+◌, ◌≤◌}
use mathlib.Core.Path.{◌≡◌, refl, sym, ◌∙◌}
use mathlib.Core.List.{List, [], ◌∷◌}
use native.Mathlib.Omega.{arith}
use Rattle.number.specs.Arithmetic.{Arithmetic}
use Rattle.sheet.specs.Tree.{RowNumber}
use Rattle.sheet.specs.Rows.{Assignment}
use Rattle.sheet.specs.Sheets.{Sheet}
use Rattle.sets.specs.Transfers.{Activity}
use Rattle.sets.specs.Rounds.{sets_of}
use Rattle.machine.specs.Actions.{Attempt, stuck, Setting, Stop}
use Rattle.machine.specs.InTheLarge.{table_run}
use Rattle.machine.proofs.AttemptLaws.{bind_unless}
use Rattle.run.specs.Runs.{setting_of}
use Rattle.claims.specs.IdealSweep.{Executed, execution, derivation_of, derived_by, swept, Ideal, ideal}
use Rattle.claims.proofs.DerivedInTheLarge.{derived_in_the_large}
use Rattle.claims.proofs.MoreRoom.{with_rooms, more_room_same_in_the_large}

module _ (A : Arithmetic) (setting : Setting A) (values turns : ℕ) (more_values : setting.value_room ≤ values)
    (more_turns : setting.turn_room ≤ turns) where
  abbrev larger : Setting A
  larger = with_rooms A setting values turns

  derived_in_more_room : (b : Assignment) (row : RowNumber) (known : Activity) (originals adjoints : List A.Carrier)
      → (derived_by A setting b row known originals adjoints ≡ stuck → ⊥)
      → derived_by A larger b row known originals adjoints ≡ derived_by A setting b row known originals adjoints
  derived_in_more_room b row known originals adjoints =
      let rows = derivation_of A setting.variables b row known in
      rw (derived_in_the_large A setting b row known originals adjoints, derived_in_the_large A larger b row known originals adjoints)
      (bind_unless (table_run A setting rows _) (table_run A larger rows _) _ _
      (more_room_same_in_the_large A setting values turns more_values more_turns rows _) (λ x unstuck. refl))

  swept_in_more_room : (known : ℕ → Assignment → Activity) (trace : List (Executed A)) (adjoints : List A.Carrier)
      → (swept A setting known trace adjoints ≡ stuck → ⊥) → swept A larger known trace adjoints ≡ swept A setting known trace adjoints
  unfolding swept
  swept_in_more_room known [] adjoints = λ unstuck. refl
  swept_in_more_room known (e ∷ earlier) adjoints =
      bind_unless (derived_by A setting e.assignment e.row (known e.row.index e.assignment) e.before adjoints)
      (derived_by A larger e.assignment e.row (known e.row.index e.assignment) e.before adjoints) _ _
      (derived_in_more_room e.assignment e.row (known e.row.index e.assignment) e.before adjoints)
      (λ next. swept_in_more_room known earlier next)

  ideal_in_more_room : (sheet : Sheet) (starts : List A.Carrier) → (ideal A sheet (sets_of sheet) setting starts ≡ stuck → ⊥)
      → ideal A sheet (sets_of sheet) larger starts ≡ ideal A sheet (sets_of sheet) setting starts
  unfolding ideal
  ideal_in_more_room sheet starts =
      bind_unless (execution A sheet starts) (execution A sheet starts) _ _ (λ unstuck. refl)
      (λ progress. bind_unless _ _ _ _ (swept_in_more_room _ progress.trace _) (λ x unstuck. refl))

module _ (A : Arithmetic) (sheet : Sheet) (starts seeds : List A.Carrier) where
  abbrev ideal_in : (values turns : ℕ) → Attempt (Stop A) (Ideal A)
  ideal_in values turns = ideal A sheet (sets_of sheet) (setting_of A sheet seeds values turns) starts

  pub ideal_in_any_room : (values turns values' turns' : ℕ) → (ideal_in values turns ≡ stuck → ⊥) → (ideal_in values' turns' ≡ stuck → ⊥)
      → ideal_in values turns ≡ ideal_in values' turns'
  unfolding setting_of
  ideal_in_any_room values turns values' turns' unstuck unstuck' =
      let in_both = ideal_in_more_room A (setting_of A sheet seeds values turns) (values + values') (turns + turns') (omega arith) (omega arith) in
      let in_both' = ideal_in_more_room A (setting_of A sheet seeds values' turns') (values + values') (turns + turns') (omega arith) (omega arith) in
      sym (in_both sheet starts unstuck) ∙ in_both' sheet starts unstuck'
