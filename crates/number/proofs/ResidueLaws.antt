-- The ring laws of residues modulo 2^32, each stated through `residue`: what is reduced early may as well be reduced late.
use Prim.Native.Nat.{ℕ, ◌+◌, ◌-◌, ◌*◌, ◌/◌, ◌%◌, ◌^◌, ◌<◌}
use mathlib.Core.Path.{◌≡◌, refl, sym, ap, ◌∙◌}
use native.Mathlib.Nat.{add_comm, add_assoc, add-zero, mul_comm, mul_assoc, mul-add, mul-one}
use native.Mathlib.Nat.{add-mul-mod_self_left, div-add-mod, le_of_lt, lt_of_le_of_lt, mul-le-mul_left, mul-lt-mul_of_pos_right}
use native.Mathlib.Omega.{arith}
use lib.Pow.{pow_pos, pow-add}
use Rattle.number.specs.Residues.{modulus, residue, opposite}

pub residue_below : (x : ℕ) → residue x < modulus
unfolding residue
residue_below x = omega arith

pub residue_same : (x : ℕ) → x < modulus → residue x ≡ x
unfolding residue
residue_same x h = omega arith

pub residue_zero : residue 0 ≡ 0
unfolding residue
residue_zero = refl

pub residue_sum_left : (a b : ℕ) → residue (residue a + b) ≡ residue (a + b)
unfolding residue
residue_sum_left a b = omega arith

pub residue_sum_right : (a b : ℕ) → residue (a + residue b) ≡ residue (a + b)
unfolding residue
residue_sum_right a b = omega arith

spread : (a q r : ℕ) → a * (modulus * q + r) ≡ a * r + modulus * (a * q)
spread a q r = omega arith

pub residue_product_right : (a b : ℕ) → residue (a * residue b) ≡ residue (a * b)
unfolding residue
residue_product_right a b =
    let q = b / modulus in
    let r = b % modulus in
    let parts : a * b ≡ a * r + modulus * (a * q) = ap (λ x. a * x) (sym (div-add-mod b modulus)) ∙ spread a q r in
    sym (ap residue parts ∙ add-mul-mod_self_left (a * r) modulus (a * q))

residue_product_left : (a b : ℕ) → residue (residue a * b) ≡ residue (a * b)
residue_product_left a b = rw (mul_comm (residue a) b, mul_comm a b) (residue_product_right b a)

-- the product of two numbers of k bits has at most k + k
pub product_below : (k : ℕ) {a b : ℕ} → a < 2 ^ k → b < 2 ^ k → a * b < 2 ^ (k + k)
product_below k {a} {b} ha hb = rw pow-add (lt_of_le_of_lt (mul-le-mul_left a (le_of_lt hb)) (mul-lt-mul_of_pos_right ha (pow_pos k)))

-- ---- opposites

pub opposite_of_residue : (x : ℕ) → x < modulus → residue (modulus - x) ≡ opposite x
unfolding opposite
opposite_of_residue x h = rw (residue_same x h)

-- −1 times x is −x
pub opposite_of_one : (a x : ℕ) → residue (a + opposite 1 * x) ≡ residue (a + opposite x)
unfolding opposite
opposite_of_one a x = omega arith

-- ---- the ring: each operation of the record is one `residue`, and these are its laws

pub sum_commutes : (a b : ℕ) → residue (a + b) ≡ residue (b + a)
sum_commutes a b = ap residue (add_comm a b)

pub sum_associates : (a b c : ℕ) → residue (residue (a + b) + c) ≡ residue (a + residue (b + c))
sum_associates a b c = simp (residue_sum_left, residue_sum_right, add_assoc)

pub product_commutes : (a b : ℕ) → residue (a * b) ≡ residue (b * a)
product_commutes a b = ap residue (mul_comm a b)

pub product_associates : (a b c : ℕ) → residue (residue (a * b) * c) ≡ residue (a * residue (b * c))
product_associates a b c = simp (residue_product_left, residue_product_right, mul_assoc)

pub product_distributes : (a b c : ℕ) → residue (a * residue (b + c)) ≡ residue (residue (a * b) + residue (a * c))
product_distributes a b c = simp (residue_product_right, residue_sum_left, residue_sum_right, mul-add)

pub sum_with_zero : (a : ℕ) → residue (a + 0) ≡ residue a
sum_with_zero a = ap residue (add-zero a)

pub product_with_one : (a : ℕ) → residue (a * 1) ≡ residue a
product_with_one a = ap residue (mul-one a)

pub sum_with_opposite : (a : ℕ) → residue (a + opposite a) ≡ 0
unfolding opposite
sum_with_opposite a = omega arith
