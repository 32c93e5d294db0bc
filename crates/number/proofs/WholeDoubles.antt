-- Whole numbers as doubles: 2^52 + n from its bits, and the difference of two, rounded once.
use Prim.Native.Nat.{ℕ, suc, ◌+◌, ◌-◌, ◌*◌, ◌/◌, ◌%◌, ◌^◌, ◌<◌, ◌≤◌}
use mathlib.Core.Path.{◌≡◌, sym, ap, ◌∙◌}
use mathlib.Core.Bool.{Bool, true, false, not}
use native.Mathlib.Nat.{mul-one, mul_comm, mul_right_comm, mul-pos, mul-sub, mul-le-mul_left, mul-lt-mul_of_pos_left, eq_of_mul-eq-mul_right}
use native.Mathlib.Decide.{dec_lt}
use native.Mathlib.Omega.{arith}
use borrow.Author.Tests.{lt-ltb, le-ltb, lt-leb}
use lib.Dec.{T, leb, lit<}
use lib.Pow.{pow_pos}
use lib.IntN.{pos, sub_ℕ}
use lib.Ieee.{Float, nan, inf, fin, Format, binary64, prec, up, down, sum, add, sub, neg, of_int, of_bits, of_fields, odd, nan_bits}
use lib.Ieee.Bits.{of_bits-fits}
use lib.Ieee.Back.{round_whole, whole_unique}
use lib.Ieee.Exact.{HasValue, odd_sign}
use lib.Ieee.Fits.{of_int-fits, down_pos}
use lib.Ieee.Scale.{round_same}

-- ---- the exact case

exponent_read : (n : ℕ) → n < 2 ^ 52 → (0x4330_0000_0000_0000 + n) % 2 ^ 63 / 2 ^ 52 ≡ 1075
exponent_read n h = omega arith

pub no_nan_bits : (n : ℕ) → n < 2 ^ 52 → T (not (nan_bits binary64 (0x4330_0000_0000_0000 + n)))
unfolding nan_bits
no_nan_bits n h = rw exponent_read tt

fields_read : (n : ℕ) → n < 2 ^ 52 → of_bits binary64 (0x4330_0000_0000_0000 + n) ≡ odd 53 false (2 ^ 52 + n) 1074 1074
unfolding of_bits of_fields
fields_read n h =
    let b = 0x4330_0000_0000_0000 + n in
    let sign : leb (2 ^ 63) b ≡ false = lt-leb (2 ^ 63) b (omega arith) in
    let digits : b % 2 ^ 52 ≡ n = omega arith in
    ap (λ s. of_fields binary64 s (b % 2 ^ 63 / 2 ^ 52) (b % 2 ^ 52)) sign
    ∙ ap (λ x. of_fields binary64 false x (b % 2 ^ 52)) (exponent_read n h)
    ∙ ap (λ t. of_fields binary64 false 1075 t) digits

unscaled : (x : Float) (s : Bool) (n k : ℕ) → HasValue x s (n * 2 ^ k) (2 ^ k) → HasValue x s n 1
unscaled nan s n k v = v
unscaled (inf t) s n k v = v
unscaled (fin t m e) s n k v = (
  v.0,
  mul-one (m * up e)
      ∙ eq_of_mul-eq-mul_right (2 ^ k) (pow_pos k) (m * up e) (n * down e) (v.1 ∙ mul_right_comm n (2 ^ k) (down e)),
)

-- 2^52 with n in the digits' field is exactly 2^52 + n, since there the last digit counts one
exact_value : (n : ℕ) → n < 2 ^ 52 → HasValue (of_bits binary64 (0x4330_0000_0000_0000 + n)) false (2 ^ 52 + n) 1
exact_value n h =
    rw (fields_read n h)
    (unscaled (odd 53 false (2 ^ 52 + n) 1074 1074) false (2 ^ 52 + n) 1074 (odd_sign 53 false (2 ^ 52 + n) 1074 1074))

pub exact_from_bits : (n : ℕ) → n < 2 ^ 52 → of_bits binary64 (0x4330_0000_0000_0000 + n) ≡ of_int binary64 (pos (2 ^ 52 + n))
unfolding of_int
exact_from_bits n h =
    let b = 0x4330_0000_0000_0000 + n in
    let z = 2 ^ 52 + n in
    whole_unique binary64 (of_bits binary64 b) (of_int binary64 (pos z)) false z (of_bits-fits binary64 b)
    (of_int-fits binary64 (pos z)) (exact_value n h) (round_whole binary64 false z (omega arith))

-- ---- one difference, rounded once

times_difference : (c a b : ℕ) → (c * a - c * b) * 1 ≡ (a - b) * c
times_difference c a b = mul-one (c * a - c * b) ∙ sym (mul-sub c a b) ∙ mul_comm c (a - b)

-- ca / c − cb / c
multiples : (f : Format) (a b c : ℕ) → 0 < c → Dec (a < b) → sum f false (c * a) true (c * b) c ≡ of_int f (sub_ℕ a b)
unfolding sum of_int
multiples f a b c p (yes h) =
    let left : suc (b - suc a) ≡ b - a = omega arith in
    rw (lt-ltb (c * a) (c * b) (mul-lt-mul_of_pos_left h p), lt-ltb a b h)
    (round_same f true (c * b - c * a) c (suc (b - suc a)) 1 p (lit< tt) (rw left (times_difference c b a)))
multiples f a b c p (no more) =
    let h : b ≤ a = omega arith in
    rw (le-ltb (c * a) (c * b) (mul-le-mul_left c h), le-ltb a b h)
    (round_same f false (c * a - c * b) c (a - b) 1 p (lit< tt) (times_difference c a b))

common : (m u a o d : ℕ) → m * u * 1 ≡ a * d → m * u * o ≡ d * o * a
common m u a o d h = ap (λ x. x * o) (sym (mul-one (m * u)) ∙ h ∙ mul_comm a d) ∙ mul_right_comm d a o

difference_of_values : (f : Format) (a b : ℕ) (x y : Float) → HasValue x false a 1 → HasValue y false b 1
    → sub f x y ≡ of_int f (sub_ℕ a b)
unfolding sub add neg
difference_of_values f a b nan y hx hy = absurd hx
difference_of_values f a b (inf s) y hx hy = absurd hx
difference_of_values f a b (fin s m e) nan hx hy = absurd hy
difference_of_values f a b (fin s m e) (inf t) hx hy = absurd hy
difference_of_values f a b (fin s m e) (fin t n d) hx hy =
    let first = common m (up e) a (down d) (down e) hx.1 in
    let second = common n (up d) b (down e) (down d) hy.1 in
    rw (hx.0, hy.0, first, second, mul_comm (down d) (down e))
    (multiples f a b (down e * down d) (mul-pos (down_pos e) (down_pos d)) (dec_lt a b))

-- the difference of two whole numbers is rounded as the whole number it is
pub whole_difference : (f : Format) (a b : ℕ) → a ≤ 2 ^ prec f → b ≤ 2 ^ prec f
    → sub f (of_int f (pos a)) (of_int f (pos b)) ≡ of_int f (sub_ℕ a b)
unfolding of_int
whole_difference f a b ha hb =
    difference_of_values f a b (of_int f (pos a)) (of_int f (pos b)) (round_whole f false a ha) (round_whole f false b hb)
