-- "Doubles: IEEE 754 binary64, each operation rounded once": the library's operations, and a stop where the result isn't finite.
use Rattle.std.specs.Prelude.{Bool, true, false, pos, Float}
use Rattle.std.proofs.Math.Option.{some}
use Rattle.std.specs.Float.{nan, inf, fin, binary64}
use Rattle.std.specs.Float.Ieee.{add, sub, mul, div, neg, lt, of_int}
use Rattle.number.specs.Arithmetic.{Arithmetic, Outcome, value, stop}

-- one reason only, until 02 tells infinite from not a number
pub data Reason : Type 0 where
  not_finite : Reason

-- "A result is either a finite double or a stop"
abbrev pub finite_or_stop : Float → Outcome Float Reason
finite_or_stop nan = stop not_finite
finite_or_stop (inf s) = stop not_finite
finite_or_stop (fin s m e) = value (fin s m e)

abbrev pub finite : Float → Bool
finite nan = false
finite (inf s) = false
finite (fin s m e) = true

-- "Every zero the tool itself sets, constant 0 too, is +0 in doubles; .. kind 6 turns the sign bit alone."
abbrev pub plus_zero : Float
plus_zero = fin false 0 (pos 0)

abbrev pub doubles : Arithmetic
doubles =
    record {
      Carrier = Float;
      Why = Reason;
      sum = λ x y. finite_or_stop (add binary64 x y);
      difference = λ x y. finite_or_stop (sub binary64 x y);
      product = λ x y. finite_or_stop (mul binary64 x y);
      negation = λ x. finite_or_stop (neg x);
      quotient = some (λ x y. finite_or_stop (div binary64 x y));
      less = lt;
      constant = of_int binary64;
      zero = plus_zero;
      admits = finite;
    }
