-- The sums of `balance` as its code has them: over all variables, since a result's second half is 0 where the role doesn't count.
use Rattle.std.specs.Prelude.{ℕ, ◌*◌, ◌≡◌, Bool, ◌&&◌, cond, List, length, drop, get_or, eqb}
use Rattle.number.specs.Residues.{residue}
use Rattle.table.specs.declared.Reply.{Reply}
use Rattle.claims.specs.declared.Sums.{Sums}
use Rattle.claims.specs.Balance.{sum_below}

-- one number times the other, modulo 2^32
unfoldable pub dot_of : (ones others : List ℕ) → ℕ
unfolding residue sum_below
dot_of ones others = residue (sum_below (length ones) (λ x. get_or ones x 0 * get_or others x 0))

-- one number for each variable, and two in each result
pub record HalvesLong (variables : ℕ) (seeds rates adjoints tangents : List ℕ) : Type 0 where
  pub seed_values : length seeds ≡ variables
  pub rate_values : length rates ≡ variables
  pub adjoint_results : length adjoints ≡ 2 * variables
  pub tangent_results : length tangents ≡ 2 * variables

-- the answers as they are handed in, with both sums
unfoldable pub sums_of : (adjoint tangent : Reply) → (variables : ℕ) → (seeds rates adjoints tangents : List ℕ) → Sums
unfolding dot_of
sums_of adjoint tangent variables seeds rates adjoints tangents =
    record {
      adjoint = adjoint;
      tangent = tangent;
      of_rates = dot_of seeds (drop variables tangents);
      of_adjoints = dot_of (drop variables adjoints) rates;
    }

-- where one of them isn't 0, there is nothing to sum
abbrev pub no_sums : (adjoint tangent : Reply) → Sums
no_sums adjoint tangent = record { adjoint = adjoint; tangent = tangent; of_rates = 0; of_adjoints = 0 }

unfoldable pub both_done : (adjoint tangent : Reply) → Bool
both_done adjoint tangent = eqb adjoint.number 0 && eqb tangent.number 0

unfoldable pub sums_if_done : (adjoint tangent : Reply) → (variables : ℕ) → (seeds rates adjoints tangents : List ℕ) → Sums
unfolding sums_of both_done
sums_if_done adjoint tangent variables seeds rates adjoints tangents =
    cond (both_done adjoint tangent) (sums_of adjoint tangent variables seeds rates adjoints tangents) (no_sums adjoint tangent)
