-- What stands at a place that is there.
use Prim.Native.Nat.{ℕ, zero, suc, ◌<◌}
use mathlib.Core.Path.{◌≡◌, refl, sym, ap, ◌∙◌}
use mathlib.Core.List.{List, [], ◌∷◌}
use mathlib.Core.Option.{some}
use native.Mathlib.Omega.{arith}
use lib.ListN.{length, get_or, get_elem?}
use Rattle.machine.specs.Actions.{through, look}

module _ {X : Type 0} where
  pub place_there : (xs : List X) (i : ℕ) (z : X) → i < length xs → get_elem? xs i ≡ some (get_or xs i z)
  place_there [] i z h = absurd (omega arith)
  place_there (x ∷ xs) zero z h = refl
  place_there (x ∷ xs) (suc i) z h = place_there xs i z (omega arith)

module _ {Why X : Type 0} where
  pub look_there : (xs : List X) (i : ℕ) (z : X) → i < length xs → look {Why = Why} xs i ≡ through (get_or xs i z)
  look_there xs i z h = rw (place_there xs i z h)

  -- by what the code read there
  pub look_read : (xs : List X) (i : ℕ) (x : X) → i < length xs → x ≡ get_or xs i x → look {Why = Why} xs i ≡ through x
  look_read xs i x h is = look_there xs i x h ∙ ap through (sym is)
