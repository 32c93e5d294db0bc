-- "Audit: residues modulo 2^32." No operation stops, and none divides.
use Rattle.std.specs.Prelude.{ℕ, suc, ◌+◌, ◌-◌, ◌*◌, ◌%◌, ◌^◌, true, ℤ, pos, negsuc, ltb}
use Rattle.std.proofs.Math.Option.{none}
use Rattle.number.specs.Arithmetic.{Arithmetic, value}

abbrev pub modulus : ℕ
modulus = 2 ^ 32

unfoldable pub residue : ℕ → ℕ
residue n = n % modulus

-- what added to n gives 0
unfoldable pub opposite : ℕ → ℕ
unfolding residue
opposite n = residue (modulus - residue n)

-- "Constant −1 is 4294967295."
unfoldable pub residue_of : ℤ → ℕ
unfolding opposite
residue_of (pos n) = residue n
residue_of (negsuc n) = opposite (suc n)

-- "The comparison is of residues from 0 to 2^32 − 1."
abbrev pub residues : Arithmetic
residues =
    record {
      Carrier = ℕ;
      Why = ⊥;
      sum = λ x y. value (residue (x + y));
      difference = λ x y. value (residue (x + opposite y));
      product = λ x y. value (residue (x * y));
      negation = λ x. value (opposite x);
      quotient = none;
      less = ltb;
      constant = residue_of;
      zero = 0;
      admits = λ x. true;
    }
