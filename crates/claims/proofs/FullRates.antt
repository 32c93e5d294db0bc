-- The full rates, carried along the executed assignments without sets, as the full sweep takes adjoints back over them.
use Prim.Native.Nat.{ℕ, ◌+◌, ◌*◌, ◌<◌}
use mathlib.Core.Bool.{cond}
use mathlib.Core.List.{List, [], ◌∷◌}
use mathlib.Core.Option.{Option, none, some}
use lib.Dec.{eqb}
use Rattle.number.specs.Residues.{residue}
use Rattle.sheet.specs.Rows.{Assignment, ◌≔◌, Source, copy, fixed, sum, difference, product, negation, quotient}
use Rattle.sheet.specs.Names.{SourcePresent}
use Rattle.sets.specs.Transfers.{first_read, second_read}
use Rattle.claims.specs.EquationTwo.{Trace}
use Rattle.claims.proofs.EquationTwoSolved.{first_factor, second_factor}

-- an operand that is there, where there is one
abbrev pub OperandPresent : (variables : ℕ) → Option ℕ → Type 0
OperandPresent variables none = Unit {0}
OperandPresent variables (some a) = a < variables

pub operands_present : (variables constants : ℕ) (source : Source) → SourcePresent variables constants source
    → OperandPresent variables (first_read source) × OperandPresent variables (second_read source)
unfolding SourcePresent first_read second_read
operands_present v k (copy a) present = (present, tt)
operands_present v k (fixed c) present = (tt, tt)
operands_present v k (sum a b) present = present
operands_present v k (difference a b) present = present
operands_present v k (product a b) present = present
operands_present v k (negation a) present = (present, tt)
operands_present v k (quotient a b) present = present

-- the rate of what is read, 0 where nothing is
abbrev pub rate_read : Option ℕ → (rates : ℕ → ℕ) → ℕ
rate_read none rates = 0
rate_read (some a) rates = rates a

-- c_ja · v̇_a + c_jb · v̇_b
unfoldable pub rate_given : Source → (before : List ℕ) → (rates : ℕ → ℕ) → ℕ
unfolding first_read second_read first_factor second_factor
rate_given source before rates =
    first_factor source before * rate_read (first_read source) rates + second_factor source before * rate_read (second_read source) rates

unfoldable pub rate_step : Assignment → (before : List ℕ) → (rates : ℕ → ℕ) → ℕ → ℕ
unfolding rate_given
rate_step (d ≔ source) before rates x = cond (eqb d x) (residue (rate_given source before rates)) (rates x)

-- the earliest assignment, which a trace has last, comes first
unfoldable pub rates_along : Trace → (rates : ℕ → ℕ) → ℕ → ℕ
unfolding rate_step
rates_along [] rates = rates
rates_along (e ∷ earlier) rates = rate_step e.assignment e.before (rates_along earlier rates)
