-- W up to one above its bound: sums, products and the larger of two can be taken of it as of W.
use Prim.Native.Nat.{ℕ, zero, suc, ◌+◌, ◌*◌, ◌≤◌, max}
use mathlib.Core.Path.{◌≡◌}
use native.Mathlib.Decide.{dec_le}
use native.Mathlib.Omega.{arith}
use native.Mathlib.Nat.{suc-mul, min-eq_left, min-eq_right}
use Rattle.sheet.specs.Bounds.{limit}
use Rattle.sheet.specs.Inner.Steps.{saturated}

pub saturated_sum : (a b : ℕ) → saturated (saturated a + b) ≡ saturated (a + b)
unfolding saturated
saturated_sum a b = omega arith

pub saturated_larger : (a b c : ℕ) → saturated (a + (1 + max (saturated b) (saturated c))) ≡ saturated (a + (1 + max b c))
unfolding saturated
saturated_larger a b c = omega arith

-- so many turns of a body: beyond the bound as soon as the body is, unless there are none
pub saturated_product : (a n b : ℕ) → saturated (a + (1 + n * (1 + saturated b))) ≡ saturated (a + (1 + n * (1 + b)))
unfolding saturated
saturated_product a n b = by n (dec_le b (suc limit.longest_run))
  where
    above : (m x : ℕ) → x ≤ suc m * x
    above m x = omega (arith, suc-mul m x)

    by : (n : ℕ) → Dec (b ≤ suc limit.longest_run) → saturated (a + (1 + n * (1 + saturated b))) ≡ saturated (a + (1 + n * (1 + b)))
    by n (yes h) = rw (min-eq_left h)
    by zero (no h) = omega arith
    by (suc m) (no h) =
        let beyond : suc limit.longest_run ≤ b = omega arith in
        rw (min-eq_right beyond) (omega (arith, above m (suc (suc limit.longest_run)), above m (1 + b)))
