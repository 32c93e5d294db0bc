-- A store is the originals and then the adjoints, t and u: looking and putting in either part.
use Prim.Native.Nat.{ℕ, zero, suc, ◌+◌, ◌<◌}
use mathlib.Core.Path.{◌≡◌, refl, sym, ap, ◌∙◌}
use mathlib.Core.Logic.{◌≢◌}
use mathlib.Core.List.{List, [], ◌∷◌, ◌++◌}
use mathlib.Core.Option
use mathlib.Core.Option.{some}
use lib.ListN.{length, set, get_or, get_elem?}
use native.Mathlib.Nat.{suc-add, zero-add, not-suc-le-zero, le_of_suc-le-suc}

module _ {X : Type 0} where
  pub at_known : (xs : List X) (i : ℕ) → i < length xs → (x : X) × (get_elem? xs i ≡ some x)
  at_known [] i h = absurd (not-suc-le-zero h)
  at_known (x ∷ xs) zero h = (x, refl)
  at_known (x ∷ xs) (suc i) h = at_known xs i (le_of_suc-le-suc h)

  -- lists with the same at a place give the same there, whatever stands for an unknown place
  pub same_default : (xs ys : List X) (i : ℕ) (d : X) → get_elem? xs i ≡ get_elem? ys i → get_or xs i d ≡ get_or ys i d
  same_default xs ys i d e = by_option xs i ∙ ap (λ o. Option.get_or o d) e ∙ sym (by_option ys i)
    where
      by_option : (zs : List X) (j : ℕ) → get_or zs j d ≡ Option.get_or (get_elem? zs j) d
      by_option [] j = refl
      by_option (z ∷ zs) zero = refl
      by_option (z ∷ zs) (suc j) = by_option zs j

  pub at_first_part : (xs ys : List X) (i : ℕ) → i < length xs → get_elem? (xs ++ ys) i ≡ get_elem? xs i
  at_first_part [] ys i h = absurd (not-suc-le-zero h)
  at_first_part (x ∷ xs) ys zero h = refl
  at_first_part (x ∷ xs) ys (suc i) h = at_first_part xs ys i (le_of_suc-le-suc h)

  pub at_second_part : (xs ys : List X) (i : ℕ) → get_elem? (xs ++ ys) (length xs + i) ≡ get_elem? ys i
  at_second_part [] ys i = rw zero-add refl
  at_second_part (x ∷ xs) ys i = rw (suc-add (length xs) i) (at_second_part xs ys i)

  pub at_set_same : (xs : List X) (i : ℕ) (x : X) → i < length xs → get_elem? (set xs i x) i ≡ some x
  at_set_same [] i x h = absurd (not-suc-le-zero h)
  at_set_same (y ∷ xs) zero x h = refl
  at_set_same (y ∷ xs) (suc i) x h = at_set_same xs i x (le_of_suc-le-suc h)

  pub at_set_other : (xs : List X) (i j : ℕ) (x : X) → j ≢ i → get_elem? (set xs i x) j ≡ get_elem? xs j
  at_set_other [] i j x h = refl
  at_set_other (y ∷ xs) zero zero x h = absurd (h refl)
  at_set_other (y ∷ xs) zero (suc j) x h = refl
  at_set_other (y ∷ xs) (suc i) zero x h = refl
  at_set_other (y ∷ xs) (suc i) (suc j) x h = at_set_other xs i j x (λ e. h (ap suc e))

  pub set_second_part : (xs ys : List X) (i : ℕ) (x : X) → set (xs ++ ys) (length xs + i) x ≡ xs ++ set ys i x
  set_second_part [] ys i x = rw zero-add refl
  set_second_part (y ∷ xs) ys i x = rw (suc-add (length xs) i) (ap (λ l. y ∷ l) (set_second_part xs ys i x))
