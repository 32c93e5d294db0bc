-- Sets of variables, as numbers: variable i is a member where binary digit i is 1.
use Rattle.std.specs.Prelude.{ℕ, ◌+◌, ◌*◌, ◌/◌, ◌%◌, ◌^◌, Bool, false, cond, List, [], ◌∷◌, T, eqb}
use Rattle.std.proofs.Math.Option.{Option, none, some}
use Rattle.std.specs.Int.Bits.{bit_or, bit_xor}

abbrev pub VariableSet : Type 0
VariableSet = ℕ

abbrev pub empty : VariableSet
empty = 0

unfoldable pub has : VariableSet → ℕ → Bool
has s i = eqb (s / 2 ^ i % 2) 1

infixl 50 ◌∪◌
abbrev pub ◌∪◌ : VariableSet → VariableSet → VariableSet
s ∪ t = bit_or s t

abbrev pub single : ℕ → VariableSet
single i = 2 ^ i

-- i is put in, so that turning its digit takes it out
unfoldable pub without : ℕ → VariableSet → VariableSet
without i s = bit_xor (s ∪ single i) (single i)

-- the places of a list that pass a test
unfoldable pub places : {A : Type 0} → (A → Bool) → List A → VariableSet
places test [] = empty
places test (x ∷ xs) = cond (test x) 1 0 + 2 * places test xs

-- a variable on a condition
abbrev pub single_if : Bool → ℕ → VariableSet
single_if there i = cond there (single i) empty

-- an operand that may be lacking
abbrev pub has_some : VariableSet → Option ℕ → Bool
has_some s none = false
has_some s (some i) = has s i

abbrev pub single_some : Option ℕ → VariableSet
single_some none = empty
single_some (some i) = single i

-- every member of s is one of t
infix 40 ◌⊆◌
abbrev pub ◌⊆◌ : VariableSet → VariableSet → Type 0
s ⊆ t = (i : ℕ) → T (has s i) → T (has t i)
