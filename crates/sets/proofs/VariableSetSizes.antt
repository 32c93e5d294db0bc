-- Sets of v variables are the numbers below 2 ^ v; how many members they have.
use Prim.Native.Nat.{ℕ, zero, suc, ◌+◌, ◌*◌, ◌/◌, ◌%◌, ◌^◌, ◌≤◌, ◌<◌, zero-le}
use native.Mathlib.Nat.{div-eq_of_lt, lt_of_lt_of_le}
use native.Mathlib.Decide.{ℕ_discrete, dec_lt}
use native.Mathlib.Omega.{arith}
use mathlib.Core.Path.{◌≡◌, ap}
use mathlib.Core.Bool.{Bool, true, false, cond}
use mathlib.Core.List.{List, [], ◌∷◌}
use mathlib.Core.Logic.{◌⊎◌, inl, inr}
use lib.ListN.{length}
use lib.Bits.{or_lt}
use lib.Dec.{T}
use lib.Pow.{pow_mono, pow-lt}
use Rattle.sets.specs.VariableSets.{VariableSet, has, ◌∪◌, single, without, places, ◌⊆◌}
use Rattle.sets.proofs.VariableSetLaws.{has_suc, lowest_within, rest_within, nothing_within_empty, without_within}

-- ---- below 2 ^ v lie the sets whose members are below v

pub member_below : (v : ℕ) (s : VariableSet) → s < 2 ^ v → (i : ℕ) → T (has s i) → i < v
unfolding has
member_below v s h i m = go (dec_lt i v)
  where
    go : Dec (i < v) → i < v
    go (yes k) = k
    go (no k) =
        let none_left : s / 2 ^ i ≡ 0 = div-eq_of_lt (lt_of_lt_of_le h (pow_mono (omega arith))) in
        absurd (rw none_left at m)

pub members_below : (v : ℕ) (s : VariableSet) → ((i : ℕ) → T (has s i) → i < v) → s < 2 ^ v
members_below zero s f = let is = nothing_within_empty s (λ i h. absurd (omega (arith, f i h))) in omega arith
members_below (suc v) s f = omega (arith, members_below v (s / 2) (λ i h. omega (arith, f (suc i) (rw (has_suc s i) h))))

pub within_below : (v : ℕ) (s t : VariableSet) → s ⊆ t → t < 2 ^ v → s < 2 ^ v
within_below v s t f h = members_below v s (λ i m. member_below v t h i (f i m))

pub union_below : (v : ℕ) (s t : VariableSet) → s < 2 ^ v → t < 2 ^ v → (s ∪ t) < 2 ^ v
union_below = or_lt

pub without_below : (v j : ℕ) (s : VariableSet) → s < 2 ^ v → without j s < 2 ^ v
without_below v j s = within_below v (without j s) s (without_within j s)

pub single_below : (v i : ℕ) → i < v → single i < 2 ^ v
single_below v i h = pow-lt h

place_below : (b : Bool) (v n : ℕ) → n < 2 ^ v → cond b 1 0 + 2 * n < 2 ^ suc v
place_below true v n h = omega arith
place_below false v n h = omega arith

pub places_below : {A : Type 0} (test : A → Bool) (xs : List A) → places test xs < 2 ^ length xs
unfolding places
places_below test [] = omega arith
places_below test (x ∷ xs) = place_below (test x) (length xs) (places test xs) (places_below test xs)

-- ---- how many members

-- those below v
pub count : ℕ → VariableSet → ℕ
count zero s = 0
count (suc v) s = s % 2 + count v (s / 2)

pub count_most : (v : ℕ) (s : VariableSet) → count v s ≤ v
unfolding count
count_most zero s = zero-le
count_most (suc v) s = omega (arith, count_most v (s / 2))

pub count_grows : (v : ℕ) (s t : VariableSet) → s ⊆ t → s < 2 ^ v → t < 2 ^ v → (s ≡ t) ⊎ (count v s < count v t)
unfolding count
count_grows zero s t f h k = inl (omega arith)
count_grows (suc v) s t f h k = go (count_grows v (s / 2) (t / 2) (rest_within s t f) (omega arith) (omega arith)) (ℕ_discrete (s % 2) (t % 2))
  where
    lowest : s % 2 ≤ t % 2
    lowest = lowest_within s t f

    go : (s / 2 ≡ t / 2) ⊎ (count v (s / 2) < count v (t / 2)) → Dec (s % 2 ≡ t % 2) → (s ≡ t) ⊎ (s % 2 + count v (s / 2) < t % 2 + count v (t / 2))
    go (inl e) (yes d) = inl (omega arith)
    go (inl e) (no d) = inr (let same : count v (s / 2) ≡ count v (t / 2) = ap (count v) e in omega (arith, lowest))
    go (inr l) d = inr (omega (arith, lowest))
