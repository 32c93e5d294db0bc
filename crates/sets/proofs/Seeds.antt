-- The variables with a role, found from the last on; and a list of empty sets.
use Prim.Native.Nat.{ℕ, zero, suc, ◌+◌, ◌*◌, ◌^◌, ◌≤◌, ◌<◌}
use native.Mathlib.Nat.{lt_of_lt_of_le}
use native.Mathlib.Omega.{arith}
use mathlib.Core.Path.{◌≡◌, refl, ap, subst, ◌∙◌}
use mathlib.Core.Bool.{Bool, true, false, cond}
use mathlib.Core.List.{List, [], ◌∷◌}
use mir.Val.{bool_byte}
use lib.ListN.{length, get_or, take, drop, replicate, length-drop, length-replicate}
use lib.Seq.{drop-cons, get_or-take, get_or-drop, length-take-le, drop-length}
use lib.Pow.{pow_mono}
use Rattle.sets.specs.Inner.Analyses.{Which}
use Rattle.sets.specs.VariableSets.{VariableSet, empty, places}
use Rattle.sets.specs.Inner.Masks.{mask_bits}
use Rattle.sets.specs.Inner.RowEquations.{has_role, seed_in}
use Rattle.sets.proofs.VariableSetSizes.{places_below}

pub byte_of : (b : Bool) → (bool_byte b ≡ cond b 1 0) × (bool_byte b < 2)
byte_of true = (refl, omega arith)
byte_of false = (refl, omega arith)

-- those from a variable on
unfoldable pub seed_from : Which → List ℕ → (variables from : ℕ) → VariableSet
seed_from which words v i = places (has_role which) (drop i (take v (drop 1 words)))

module _ (which : Which) (words : List ℕ) (v : ℕ) (there : v < length words) where
  roles_length : length (take v (drop 1 words)) ≡ v
  roles_length = length-take-le v (drop 1 words) (omega (arith, length-drop 1 words))

  pub seed_none : seed_from which words v v ≡ 0
  unfolding seed_from places
  seed_none =
      let roles = take v (drop 1 words) in
      let none : drop v roles ≡ [] = subst (λ n. drop n roles ≡ []) roles_length (drop-length roles) in
      rw (none, places)

  seed_all : seed_from which words v 0 ≡ seed_in which words v
  unfolding seed_from seed_in
  seed_all = refl

  pub seed_done : (i seed : ℕ) → i ≡ 0 → seed ≡ seed_from which words v i → seed ≡ seed_in which words v
  seed_done i seed none is = is ∙ ap (seed_from which words v) none ∙ seed_all

  pub seed_on : (i j : ℕ) → i + 1 ≡ j → j ≤ v → seed_from which words v i ≡ cond (has_role which (get_or words j 0)) 1 0 + 2 * seed_from which words v j
  unfolding seed_from places
  seed_on i j e h =
      let roles = take v (drop 1 words) in
      let here : get_or roles i 0 ≡ get_or words j 0 =
      get_or-take v (drop 1 words) i 0 (omega arith) ∙ get_or-drop 1 words i 0 ∙ ap (λ n. get_or words n 0) (omega arith) in
      let after : suc i ≡ j = omega arith in
      ap (places (has_role which)) (drop-cons roles i 0 (omega (arith, roles_length)))
      ∙ rw here (ap (λ n. cond (has_role which (get_or words j 0)) 1 0 + 2 * places (has_role which) (drop n roles)) after)

  pub seed_below : (i : ℕ) → 1 ≤ i → v ≤ mask_bits → seed_from which words v i < 2 ^ 63
  unfolding seed_from
  seed_below i h k =
      let roles = take v (drop 1 words) in
      lt_of_lt_of_le (places_below (has_role which) (drop i roles)) (pow_mono {j = 63} (omega (arith, length-drop i roles, roles_length)))

-- ---- empty sets

pub clear_length : (n : ℕ) (sets : List VariableSet) → sets ≡ replicate n empty → length sets ≡ n
clear_length n sets clear = ap length clear ∙ length-replicate n empty

-- the first of them are empty too
pub clear_first : (m n : ℕ) → m ≤ n → take m (replicate n empty) ≡ replicate m empty
clear_first zero n h = refl
clear_first (suc m) zero h = absurd (omega arith)
clear_first (suc m) (suc n) h = ap {B = List VariableSet} (λ sets. empty ∷ sets) (clear_first m n (omega arith))
