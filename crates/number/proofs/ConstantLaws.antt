-- What a constant's word means: its whole number by the word's half, exactly at 0 and at the ends, and that number in both arithmetics.
use Prim.Native.Nat.{ℕ, zero, suc, ◌+◌, ◌-◌, ◌<◌, ◌≤◌}
use mathlib.Core.Path.{◌≡◌, refl, subst}
use mathlib.Core.Bool.{Bool, true, false}
use native.Mathlib.Decide.{dec_lt}
use native.Mathlib.Omega.{arith}
use borrow.Author.Tests.{lt-ltb, le-ltb}
use lib.Dec.{T}
use lib.IntN.{ℤ, pos, negsuc, neg_ℤ, nat_abs, sub_ℕ, ◌+ℤ◌}
use lib.Signed.{mag, lt_z, non_neg, pos-nat_abs}
use lib.Ieee.{Float, binary64, of_int, to_bits, fits}
use lib.Ieee.Back.{round_whole, whole_unique}
use lib.Ieee.Exact.{HasValue}
use lib.Ieee.Fits.{of_int-fits}
use mir.Syntax.{w32}
use mir.Val.{SFits}
use Rattle.number.specs.Arithmetic.{signed}
use Rattle.number.specs.Doubles.{doubles}
use Rattle.number.specs.Residues.{residues, residue_of, opposite, modulus}
use Rattle.number.proofs.ResidueLaws.{residue_same}

pub signed_low : (w : ℕ) → w < 32768 → signed w ≡ pos w
unfolding signed
signed_low w h = rw (lt-ltb w 32768 h)

signed_high : (w : ℕ) → 32768 ≤ w → signed w ≡ negsuc (65535 - w)
unfolding signed
signed_high w h = rw (le-ltb w 32768 h)

pub high_difference : (w : ℕ) → 32768 ≤ w → w < 65536 → sub_ℕ w 65536 ≡ signed w
high_difference w h below =
    let same : 65536 - suc w ≡ 65535 - w = omega arith in
    rw (signed_high w h, lt-ltb w 65536 below, same)

-- ---- the range

signed_within : (w : ℕ) → w < 65536 → Dec (w < 32768) → mag (signed w) < 32768
signed_within w below (yes h) = rw (signed_low w h) h
signed_within w below (no h) = rw (signed_high w (omega arith)) (omega arith)

-- from −32768 to 32767
pub signed_range : (w : ℕ) → w < 65536 → mag (signed w) < 32768
signed_range w below = signed_within w below (dec_lt w 32768)

negated_within : (z : ℤ) (n : ℕ) → mag z < n → mag (neg_ℤ z) ≤ n
negated_within (pos zero) n h = omega arith
negated_within (pos (suc k)) n h = omega arith
negated_within (negsuc k) n h = h

-- raised by h it is natural
pub raised_natural : (z : ℤ) (h : ℕ) → mag z < h → T (non_neg (z +ℤ pos h)) × (nat_abs (z +ℤ pos h) < h + h)
raised_natural (pos n) h less = (tt, omega arith)
raised_natural (negsuc n) h less = rw (le-ltb h (suc n) less) (tt, omega arith)

-- and the difference takes h off again
pub raised_difference : (k : ℕ) (z : ℤ) (h : ℕ) → mag z < h → sub_ℕ (k + nat_abs (z +ℤ pos h)) (k + h) ≡ z
raised_difference k (pos n) h less =
    let same : k + (n + h) - (k + h) ≡ n = omega arith in
    rw (le-ltb (k + (n + h)) (k + h) (omega arith), same)
raised_difference k (negsuc n) h less =
    let same : k + h - suc (k + (h - suc n)) ≡ n = omega arith in
    rw (le-ltb h (suc n) less, lt-ltb (k + (h - suc n)) (k + h) (omega arith), same)

pub signed_fits : (w : ℕ) → w < 65536 → SFits w32 (signed w)
signed_fits w below = record { sfits = omega (arith, signed_range w below) }

pub raised_fits : (w : ℕ) → w < 65536 → SFits w32 (signed w +ℤ pos 32768)
raised_fits w below =
    let natural = raised_natural (signed w) 32768 (signed_range w below) in
    subst (SFits w32) (pos-nat_abs (signed w +ℤ pos 32768) natural.0) (record { sfits = omega (arith, natural.1) })

pub negated_fits : (w : ℕ) → w < 65536 → SFits w32 (neg_ℤ (signed w))
negated_fits w below = record { sfits = omega (arith, negated_within (signed w) 32768 (signed_range w below)) }

-- ---- the meaning at zero and at the ends, and its negation

pub signed_meanings : (signed 0 ≡ pos 0)
    × (signed 1 ≡ pos 1)
    × (signed 32767 ≡ pos 32767)
    × (signed 32768 ≡ neg_ℤ (pos 32768))
    × (signed 65535 ≡ neg_ℤ (pos 1))
unfolding signed
signed_meanings = (refl, refl, refl, refl, refl)

pub negated_meanings : (neg_ℤ (signed 0) ≡ pos 0)
    × (neg_ℤ (signed 1) ≡ neg_ℤ (pos 1))
    × (neg_ℤ (signed 32767) ≡ neg_ℤ (pos 32767))
    × (neg_ℤ (signed 32768) ≡ pos 32768)
    × (neg_ℤ (signed 65535) ≡ pos 1)
unfolding signed
negated_meanings = (refl, refl, refl, refl, refl)

-- ---- in residues

pub negative_natural : (z : ℤ) → lt_z z (pos 0) ≡ true → T (non_neg (neg_ℤ z))
negative_natural (pos n) below = let z : ◌≡◌ {A = ℕ} 0 1 = cc (le-ltb n 0 (omega arith)) in absurd (omega arith)
negative_natural (negsuc n) below = tt

-- a negative number is the opposite of its negation
pub residue_negative : (z : ℤ) → lt_z z (pos 0) ≡ true → residue_of z ≡ opposite (nat_abs (neg_ℤ z))
unfolding residue_of
residue_negative (pos n) below = let z : ◌≡◌ {A = ℕ} 0 1 = cc (le-ltb n 0 (omega arith)) in absurd (omega arith)
residue_negative (negsuc n) below = refl

pub residue_natural : (z : ℤ) → lt_z z (pos 0) ≡ false → mag z < modulus → residue_of z ≡ nat_abs z
unfolding residue_of
residue_natural (pos n) from less = residue_same n less
residue_natural (negsuc n) from less = let z : ◌≡◌ {A = ℕ} 0 1 = cc in absurd (omega arith)

pub residue_of_minus_one : residues.constant (signed 65535) ≡ 4294967295
unfolding signed residue_of
residue_of_minus_one = refl

-- ---- in doubles

abbrev pub negative : ℤ → Bool
negative (pos n) = false
negative (negsuc n) = true

-- x is exactly the whole number z
abbrev pub Is : Float → ℤ → Type 0
Is x z = HasValue x (negative z) (nat_abs z) 1

small_exact : (z : ℤ) → mag z < 32768 → Is (of_int binary64 z) z
unfolding of_int
small_exact (pos n) h = round_whole binary64 false n (omega arith)
small_exact (negsuc n) h = round_whole binary64 true (suc n) (omega arith)

-- "A constant becomes the double of exactly that value": nothing is rounded
pub double_exact : (w : ℕ) → w < 65536 → Is (doubles.constant (signed w)) (signed w)
double_exact w below = small_exact (signed w) (signed_range w below)

-- and no other double is that number (a zero counts with its sign), so every bit is fixed
pub double_only : (w : ℕ) → w < 65536 → (x : Float) → T (fits binary64 x) → Is x (signed w) → x ≡ doubles.constant (signed w)
double_only w below x fit is =
    whole_unique binary64 x (of_int binary64 (signed w)) (negative (signed w)) (nat_abs (signed w)) fit
    (of_int-fits binary64 (signed w)) is (double_exact w below)

abbrev bits_of : ℕ → ℕ
bits_of w = to_bits binary64 (doubles.constant (signed w))

-- +0 and the ends, bit for bit
pub double_bits : (bits_of 0 ≡ 0)
    × (bits_of 1 ≡ 0x3FF0_0000_0000_0000)
    × (bits_of 32767 ≡ 0x40DF_FFC0_0000_0000)
    × (bits_of 32768 ≡ 0xC0E0_0000_0000_0000)
    × (bits_of 65535 ≡ 0xBFF0_0000_0000_0000)
unfolding signed of_int to_bits
double_bits = (refl, refl, refl, refl, refl)

pub double_of_zero : doubles.constant (signed 0) ≡ doubles.zero
unfolding signed of_int
double_of_zero = refl
