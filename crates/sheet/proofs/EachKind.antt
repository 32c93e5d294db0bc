-- What holds of every number of the table of kinds, and where there is no kind, holds of every number as a kind.
use Prim.Native.Nat.{ℕ, zero, suc, ◌+◌}
use mathlib.Core.Path.{◌≡◌, subst}
use mathlib.Core.List.{List, [], ◌∷◌}
use mathlib.Core.Option.{Option, none, some}
use lib.ListN.{get_or}
use native.Mathlib.Omega.{arith}
use Rattle.sheet.specs.Rows.{Kind, kinds, kind_of}

module _ (Holds : ℕ → Option Kind → Type 0) where
  -- of each entry of a table whose first has this number
  infixr 10 ◌then◌
  pub data Each : ℕ → List (Option Kind) → Type 0 where
    end : {first : ℕ} → Each first []
    ◌then◌ : {first : ℕ} {kind : Kind} {table : List (Option Kind)} → Holds first (some kind) → Each (suc first) table → Each first (some kind ∷ table)
    gap : {first : ℕ} {table : List (Option Kind)} → Each (suc first) table → Each first (none ∷ table)

  module _ (no_kind : (n : ℕ) → Holds n none) where
    at : {first : ℕ} {table : List (Option Kind)} → Each first table → (i n : ℕ) → first + i ≡ n → Holds n (get_or table i none)
    at end i n is = no_kind n
    at {table = some kind ∷ table} (holds then each) zero n is = subst (λ m. Holds m (some kind)) (omega arith) holds
    at (holds then each) (suc i) n is = at each i n (omega arith)
    at (gap each) zero n is = no_kind n
    at (gap each) (suc i) n is = at each i n (omega arith)

    pub each_kind : Each 1 kinds → (n : ℕ) → Holds n (kind_of n)
    unfolding kind_of
    each_kind each zero = no_kind 0
    each_kind each (suc i) = at each i (suc i) (omega arith)
