-- A result is the finite double or a stop, by its place between the infinities; negation turns the sign bit alone.
use Prim.Native.Nat.{ℕ, ◌+◌, ◌%◌, ◌^◌}
use mathlib.Core.Path.{◌≡◌, refl, sym}
use mathlib.Core.Bool.{true, false}
use mathlib.Core.Option.{some}
use native.Mathlib.Omega.{arith}
use lib.Dec.{T}
use lib.IntN.{ℤ}
use lib.Ieee.{Float, nan, inf, fin, binary64, lt, neg, add, sub, mul, div, fits, to_bits, of_bits}
use lib.Ieee.Bits.{to_bits-lt}
use lib.Ieee.Fits.{neg-fits}
use Rattle.number.specs.Arithmetic.{value, stop, over}
use Rattle.number.specs.Doubles.{doubles, finite, finite_or_stop, not_finite}
use Rattle.std.specs.Prelude.{Result}
use Rattle.number.specs.Answers.{outcome_of, why_not_finite}
use Rattle.number.proofs.AnswerLaws.{one_answer, one_stop}
use Rattle.number.specs.declared.NotFinite.{NotFinite}

-- ---- the test of finiteness

pub infinity_bits : of_bits binary64 0x7FF0_0000_0000_0000 ≡ inf false
unfolding of_bits
infinity_bits = refl

pub finite_within : (x : Float) → lt x (inf false) ≡ true → lt (neg (inf false)) x ≡ finite x
unfolding lt neg
finite_within nan below = refl
finite_within (inf false) below = sym below
finite_within (inf true) below = refl
finite_within (fin s m e) below = refl

pub finite_not_below : (x : Float) → lt x (inf false) ≡ false → false ≡ finite x
unfolding lt
finite_not_below nan above = refl
finite_not_below (inf s) above = refl
finite_not_below (fin s m e) above = sym above

-- ---- value exactly when finite

pub value_when_finite : (x : Float) → finite x ≡ true → value x ≡ finite_or_stop x
value_when_finite nan is = cc
value_when_finite (inf s) is = cc
value_when_finite (fin s m e) is = refl

pub stop_when_not : (x : Float) → finite x ≡ false → stop not_finite ≡ finite_or_stop x
stop_when_not nan not = refl
stop_when_not (inf s) not = refl
stop_when_not (fin s m e) not = cc

-- a NaN and both infinities
pub not_finite_lem : (doubles.admits nan ≡ false) × (doubles.admits (inf false) ≡ false) × (doubles.admits (inf true) ≡ false)
not_finite_lem = (refl, refl, refl)

-- two answers that stand for the same outcome are the same answer
pub answers_coincide : (r s : Result Float NotFinite) → outcome_of why_not_finite r ≡ outcome_of why_not_finite s → r ≡ s
answers_coincide = one_answer why_not_finite one_stop

-- ---- bit for bit

abbrev double : ℕ → Float
double = of_bits binary64

-- 0.1 + 0.2, 0.3 − 0.1 and 0.1 × 0.1 as IEEE 754 rounds them; −0 + −0 stays −0 and 1 − 1 is +0; the square of 10^200 stops
pub rounded_once : (doubles.sum (double 0x3FB9_9999_9999_999A) (double 0x3FC9_9999_9999_999A) ≡ value (double 0x3FD3_3333_3333_3334))
    × (doubles.difference (double 0x3FD3_3333_3333_3333) (double 0x3FB9_9999_9999_999A) ≡ value (double 0x3FC9_9999_9999_9999))
    × (doubles.product (double 0x3FB9_9999_9999_999A) (double 0x3FB9_9999_9999_999A) ≡ value (double 0x3F84_7AE1_47AE_147C))
    × (doubles.sum (double 0x8000_0000_0000_0000) (double 0x8000_0000_0000_0000) ≡ value (double 0x8000_0000_0000_0000))
    × (doubles.difference (double 0x3FF0_0000_0000_0000) (double 0x3FF0_0000_0000_0000) ≡ value (double 0))
    × (doubles.product (double 0x6974_E718_D7D7_625A) (double 0x6974_E718_D7D7_625A) ≡ stop not_finite)
unfolding of_bits add sub mul
rounded_once = (refl, refl, refl, refl, refl, refl)

-- 1 / 3 and 0.3 / −0.1; −0 as a divisor divides: 0 by −1 is −0, but 1 / 0, 1 / −0 and 0 / 0 stop, as 10^200 / 10^−200 does
pub quotients_rounded_once : (over doubles.quotient (double 0x3FF0_0000_0000_0000) (double 0x4008_0000_0000_0000) ≡ some (value (double 0x3FD5_5555_5555_5555)))
    × (over doubles.quotient (double 0x3FD3_3333_3333_3333) (double 0xBFB9_9999_9999_999A) ≡ some (value (double 0xC007_FFFF_FFFF_FFFF)))
    × (over doubles.quotient (double 0) (double 0xBFF0_0000_0000_0000) ≡ some (value (double 0x8000_0000_0000_0000)))
    × (over doubles.quotient (double 0x3FF0_0000_0000_0000) (double 0) ≡ some (stop not_finite))
    × (over doubles.quotient (double 0x3FF0_0000_0000_0000) (double 0x8000_0000_0000_0000) ≡ some (stop not_finite))
    × (over doubles.quotient (double 0) (double 0) ≡ some (stop not_finite))
    × (over doubles.quotient (double 0x6974_E718_D7D7_625A) (double 0x1668_7E92_154E_F7AC) ≡ some (stop not_finite))
unfolding of_bits div
quotients_rounded_once = (refl, refl, refl, refl, refl, refl, refl)

-- ---- negation

pub negation_never_stops : (x : Float) → finite x ≡ true → doubles.negation x ≡ value (neg x)
unfolding neg
negation_never_stops nan is = cc
negation_never_stops (inf s) is = cc
negation_never_stops (fin s m e) is = refl

sign_bit : (m : ℕ) (e : ℤ) → to_bits binary64 (fin true m e) ≡ 2 ^ 63 + to_bits binary64 (fin false m e)
unfolding to_bits
sign_bit m e = omega arith

-- to add 2^63 modulo 2^64 is to turn the highest bit
pub negation_turns_sign_bit_alone : (x : Float) → T (fits binary64 x) → finite x ≡ true
    → to_bits binary64 (neg x) ≡ (to_bits binary64 x + 2 ^ 63) % 2 ^ 64
unfolding neg
negation_turns_sign_bit_alone nan fit is = cc
negation_turns_sign_bit_alone (inf s) fit is = cc
negation_turns_sign_bit_alone (fin false m e) fit is =
    omega (arith, sign_bit m e, to_bits-lt binary64 (fin true m e) (neg-fits binary64 (fin false m e) fit))
negation_turns_sign_bit_alone (fin true m e) fit is = omega (arith, sign_bit m e, to_bits-lt binary64 (fin true m e) fit)
