-- What the cells carry: a variable's number and rate as they are looked up, and as one pair sets them.
use Prim.Native.Nat.{ℕ, zero, suc, ◌≤◌, ◌<◌}
use mathlib.Core.Path.{◌≡◌, refl, sym, ap, ◌∙◌}
use mathlib.Core.List.{List, [], ◌∷◌, map}
use mathlib.Core.Option.{some}
use native.Mathlib.Omega.{arith}
use lib.ListN.{length, get_or, get_elem?, take, set, length-map, get_or-map}
use lib.Seq.{length-take-le, get_or-take, take-set-lt}
use lib.Ieee.{Float}
use borrow.Author.Tests.{lt-ltb}
use Rattle.number.specs.Doubles.{doubles}
use Rattle.machine.specs.Actions.{through, replaced}
use Rattle.machine.proofs.PlaceLaws.{place_there}
use Rattle.plain.specs.Plain.{StopAt}
use Rattle.plain.specs.declared.Rated.{Rated}
use Rattle.plain.specs.Inner.Engine.{value_in, rate_in}

map_set : {X Y : Type 0} (f : X → Y) (l : List X) (i : ℕ) (x : X) → map f (set l i x) ≡ set (map f l) i (f x)
map_set f [] i x = refl
map_set f (y ∷ l) zero x = refl
map_set f (y ∷ l) (suc i) x = ap (λ m. f y ∷ m) (map_set f l i x)

module _ (v : ℕ) (cells : List Rated) (room : v ≤ length cells) where
  field_long : (f : Rated → Float) → length (map f (take v cells)) ≡ v
  field_long f = length-map (take v cells) f ∙ length-take-le v cells room

  -- what stands at a variable's place
  pub field_there : (f : Rated → Float) (i : ℕ) (z : Rated) → i < v → get_elem? (map f (take v cells)) i ≡ some (f (get_or cells i z))
  field_there f i z h =
      place_there (map f (take v cells)) i (f z) (omega (arith, field_long f))
      ∙ ap some (get_or-map f (take v cells) i z ∙ ap f (get_or-take v cells i z h))

  -- a pair set there
  field_set : (f : Rated → Float) (i : ℕ) (x : Rated) → i < v → set (map f (take v cells)) i (f x) ≡ map f (take v (set cells i x))
  field_set f i x h = sym (ap (map f) (take-set-lt v cells i x h) ∙ map_set f (take v cells) i x)

  field_replaced : (f : Rated → Float) (i : ℕ) (x : Rated) → i < v
      → replaced {Why = StopAt doubles} (map f (take v cells)) i (f x) ≡ through (map f (take v (set cells i x)))
  field_replaced f i x h =
      rw (lt-ltb i (length (map f (take v cells))) (omega (arith, field_long f))) (ap through (field_set f i x h))

  pub value_replaced : (i : ℕ) (x : Rated) → i < v
      → replaced {Why = StopAt doubles} (map value_in (take v cells)) i x.value ≡ through (map value_in (take v (set cells i x)))
  value_replaced i x h = field_replaced value_in i x h

  pub rate_replaced : (i : ℕ) (x : Rated) → i < v
      → replaced {Why = StopAt doubles} (map rate_in (take v cells)) i x.rate ≡ through (map rate_in (take v (set cells i x)))
  rate_replaced i x h = field_replaced rate_in i x h
