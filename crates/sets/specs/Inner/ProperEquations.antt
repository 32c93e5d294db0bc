-- What rounds need of equations to reach their least solution.
use Rattle.std.specs.Prelude.{ℕ, ◌^◌, ◌<◌, ◌≡◌}
use mathlib.Core.List.{List, Memᴰ}
use Rattle.sets.specs.VariableSets.{VariableSet, ◌⊆◌}
use Rattle.sets.specs.Equations.{Equation, point_of, right_side}

infix 40 ◌∈◌
abbrev pub ◌∈◌ : Equation → List Equation → Type 0
e ∈ es = Memᴰ e es

-- sets at points, each within another's
abbrev pub Within : (at at' : ℕ → VariableSet) → Type 0
Within at at' = (p : ℕ) → at p ⊆ at' p

-- each settles a point of its own, and its right side is monotone and keeps to v variables
pub record Proper (v points : ℕ) (es : List Equation) : Type 0 where
  pub there : (e : Equation) → e ∈ es → point_of e < points
  pub only : (e e' : Equation) → e ∈ es → e' ∈ es → point_of e ≡ point_of e' → e ≡ e'
  pub monotone : (e : Equation) → e ∈ es → (at at' : ℕ → VariableSet) → Within at at' → right_side e at ⊆ right_side e at'
  pub below : (e : Equation) → e ∈ es → (at : ℕ → VariableSet) → ((p : ℕ) → at p < 2 ^ v) → right_side e at < 2 ^ v
