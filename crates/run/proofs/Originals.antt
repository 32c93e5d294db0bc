-- Looking and putting among the originals goes as it goes without what stands behind them in the store.
use Prim.Native.Nat.{ℕ, ◌<◌}
use mathlib.Core.Path.{◌≡◌, refl, ◌∙◌}
use mathlib.Core.List.{List, ◌++◌}
use mathlib.Core.Option.{some}
use lib.ListN.{length, set, get_or, get_elem?, length-append}
use lib.Seq.{set-append_left}
use native.Mathlib.Omega.{arith}
use borrow.Author.Tests.{lt-ltb}
use Rattle.number.specs.Arithmetic.{Arithmetic}
use Rattle.sheet.specs.Rows.{Source, copy, fixed, sum, difference, product, negation, quotient, Test, less}
use Rattle.sheet.specs.Names.{SourcePresent, TestPresent}
use Rattle.machine.specs.Actions.{through, replaced, evaluated, compared}
use Rattle.machine.proofs.PlaceLaws.{place_there}
use Rattle.run.proofs.Stores.{at_first_part}

module _ (A : Arithmetic) where
  module _ (v k : ℕ) (store tail : List A.Carrier) (n : length store ≡ v) where
    same_original : (i : ℕ) → i < v → get_elem? (store ++ tail) i ≡ get_elem? store i
    same_original i h = at_first_part store tail i (omega arith)

    pub evaluated_originals : (constants : List ℕ) (source : Source) → SourcePresent v k source
        → evaluated A constants source (store ++ tail) ≡ evaluated A constants source store
    unfolding evaluated SourcePresent
    evaluated_originals constants (copy a) p = rw (same_original a p)
    evaluated_originals constants (fixed c) p = refl
    evaluated_originals constants (sum a b) p = rw (same_original a p.0, same_original b p.1)
    evaluated_originals constants (difference a b) p = rw (same_original a p.0, same_original b p.1)
    evaluated_originals constants (product a b) p = rw (same_original a p.0, same_original b p.1)
    evaluated_originals constants (negation a) p = rw (same_original a p)
    evaluated_originals constants (quotient a b) p = rw (same_original a p.0, same_original b p.1)

    pub compared_originals : (f : Test) → TestPresent v f → compared A f (store ++ tail) ≡ compared A f store
    unfolding compared TestPresent
    compared_originals (less a b) p = rw (same_original a p.0, same_original b p.1)

    -- a number put among the originals goes where it goes without the tail
    pub replaced_original : {W : Type 0} (d : ℕ) (x : A.Carrier) → d < v → replaced {Why = W} (store ++ tail) d x ≡ through (set store d x ++ tail)
    replaced_original d x h =
        let there : d < length (store ++ tail) = omega (arith, length-append store tail) in
        rw (lt-ltb d (length (store ++ tail)) there, set-append_left store tail d x (omega arith))

    pub replaced_alone : {W : Type 0} (d : ℕ) (x : A.Carrier) → d < v → replaced {Why = W} store d x ≡ through (set store d x)
    replaced_alone d x h =
        let there : d < length store = omega arith in
        rw (lt-ltb d (length store) there)

    pub looked_up : (d : ℕ) → d < v → get_elem? (store ++ tail) d ≡ some (get_or store d A.zero)
    looked_up d h = same_original d h ∙ place_there store d A.zero (omega arith)
