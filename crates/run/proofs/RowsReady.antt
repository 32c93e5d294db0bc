-- What a row evaluates or a test compares is never stuck where all that it names is there.
use Prim.Native.Nat.{ℕ, ◌<◌}
use mathlib.Core.Path.{◌≡◌, refl}
use mathlib.Core.Bool.{Bool, true}
use mathlib.Core.List.{List}
use mathlib.Core.Option.{Option, none, some}
use lib.ListN.{length, get_or}
use native.Mathlib.Omega.{arith}
use Rattle.number.specs.Arithmetic.{Arithmetic, Outcome, over, is_there, divides}
use Rattle.sheet.specs.Rows.{Source, copy, fixed, sum, difference, product, negation, quotient, Test, less}
use Rattle.sheet.specs.Names.{SourcePresent, TestPresent, SourceFeasible}
use Rattle.machine.specs.Actions.{◌>>=◌, from_outcome, present, look, evaluated, compared}
use Rattle.machine.proofs.AttemptLaws.{Ready, gives, from_outcome_ready}
use Rattle.machine.proofs.PlaceLaws.{place_there}

-- where there are quotients, one is a number or a stop
pub quotient_ready : (A : Arithmetic) → divides A ≡ true → (x y : A.Carrier) → Ready (present (over A.quotient x y) >>= λ o. from_outcome o)
quotient_ready A has x y = by A.quotient has
  where
    by : (divide : Option (A.Carrier → A.Carrier → Outcome A.Carrier A.Why)) → is_there divide ≡ true
        → Ready (present (over divide x y) >>= λ o. from_outcome o)
    by none has = let z : ◌≡◌ {A = ℕ} 0 1 = cc in absurd (omega arith)
    by (some divide) has = from_outcome_ready (divide x y)

module _ (A : Arithmetic) (constants : List ℕ) (v : ℕ) where
  both_ready : (f : A.Carrier → A.Carrier → Outcome A.Carrier A.Why) (a b : ℕ) (store : List A.Carrier) → length store ≡ v
      → a < v → b < v → Ready (look store a >>= λ x. look store b >>= λ y. from_outcome (f x y))
  both_ready f a b store n p q = rw (place_there store a A.zero (omega arith), place_there store b A.zero (omega arith)) (from_outcome_ready (f _ _))

  pub evaluated_ready : (source : Source) (store : List A.Carrier) → length store ≡ v → SourcePresent v (length constants) source
      → SourceFeasible (divides A) source
      → Ready (evaluated A constants source store)
  unfolding evaluated SourcePresent SourceFeasible
  evaluated_ready (copy a) store n p f = rw (place_there store a A.zero (omega arith)) (gives _ refl)
  evaluated_ready (fixed c) store n p f = rw (place_there constants c 0 p) (gives _ refl)
  evaluated_ready (sum a b) store n p f = both_ready A.sum a b store n p.0 p.1
  evaluated_ready (difference a b) store n p f = both_ready A.difference a b store n p.0 p.1
  evaluated_ready (product a b) store n p f = both_ready A.product a b store n p.0 p.1
  evaluated_ready (negation a) store n p f = rw (place_there store a A.zero (omega arith)) (from_outcome_ready (A.negation _))
  evaluated_ready (quotient a b) store n p f =
      rw (place_there store a A.zero (omega arith), place_there store b A.zero (omega arith)) (quotient_ready A f _ _)

  pub compared_ready : (f : Test) (store : List A.Carrier) → length store ≡ v → TestPresent v f → (first : Bool) × (compared A f store ≡ some first)
  unfolding compared TestPresent
  compared_ready (less a b) store n p =
      let first = place_there store a A.zero (omega arith) in
      (A.less (get_or store a A.zero) (get_or store b A.zero), rw (first, place_there store b A.zero (omega arith)) refl)
