-- What a list of numbers comes to where only the variables of some roles count: row 17's seeds and a result's adjoints.
use Prim.Native.Nat.{ℕ, zero, suc, ◌+◌, ◌<◌}
use mathlib.Core.Path.{◌≡◌, refl, ap, ◌∙◌}
use mathlib.Core.Bool.{Bool, cond}
use mathlib.Core.List.{List, [], ◌∷◌}
use native.Mathlib.Omega.{arith}
use lib.ListN.{length, get_or, drop}
use lib.Seq.{get_or-drop}
use Rattle.number.specs.Arithmetic.{Arithmetic}
use Rattle.machine.specs.Actions.{counting}

any_default : {X : Type 0} (l : List X) (i : ℕ) (y z : X) → i < length l → get_or l i y ≡ get_or l i z
any_default [] i y z h = absurd (omega arith)
any_default (x ∷ l) zero y z h = refl
any_default (x ∷ l) (suc i) y z h = any_default l i y z (omega arith)

module _ (A : Arithmetic) (counts : ℕ → Bool) where
  pub counting_length : (roles : List ℕ) (numbers : List A.Carrier) → length (counting A counts roles numbers) ≡ length roles
  unfolding counting
  counting_length [] numbers = refl
  counting_length (role ∷ roles) numbers = ap suc (counting_length roles (drop 1 numbers))

  counting_at_zero : (roles : List ℕ) (numbers : List A.Carrier) (i : ℕ) (z : A.Carrier) → i < length roles
      → get_or (counting A counts roles numbers) i z ≡ cond (counts (get_or roles i 0)) (get_or numbers i A.zero) A.zero
  unfolding counting
  counting_at_zero [] numbers i z h = absurd (omega arith)
  counting_at_zero (role ∷ roles) numbers zero z h = refl
  counting_at_zero (role ∷ roles) numbers (suc i) z h =
      let next : 1 + i ≡ suc i = omega arith in
      counting_at_zero roles (drop 1 numbers) i z (omega arith)
      ∙ ap (λ x. cond (counts (get_or roles i 0)) x A.zero) (get_or-drop 1 numbers i A.zero ∙ ap (λ n. get_or numbers n A.zero) next)

  -- whatever a read beyond the numbers would give
  pub counting_at : (roles : List ℕ) (numbers : List A.Carrier) (i : ℕ) (z : A.Carrier) → i < length roles → i < length numbers
      → get_or (counting A counts roles numbers) i z ≡ cond (counts (get_or roles i 0)) (get_or numbers i z) A.zero
  counting_at roles numbers i z h there =
      counting_at_zero roles numbers i z h ∙ ap (λ x. cond (counts (get_or roles i 0)) x A.zero) (any_default numbers i A.zero z there)
