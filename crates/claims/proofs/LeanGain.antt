-- What an assignment's derivative rows are to add to the adjoints, in residues.
use Prim.Native.Nat.{ℕ, ◌+◌, ◌*◌, ◌<◌}
use mathlib.Core.Path.{◌≡◌}
use mathlib.Core.Bool.{cond}
use mathlib.Core.List.{List}
use lib.ListN.{length, get_or}
use lib.Dec.{eqb}
use Rattle.number.specs.Residues.{modulus, residue}
use Rattle.sheet.specs.Rows.{Source}
use Rattle.sets.specs.Transfers.{first_read, second_read, Activity}
use Rattle.claims.proofs.EquationTwoSolved.{first_factor, second_factor, share}

-- what the operands that are varied gain
unfoldable pub varied_gain : Activity → Source → (before : List ℕ) → (bar x : ℕ) → ℕ
unfolding first_read second_read first_factor second_factor
varied_gain known source before bar x =
    cond known.varied_a (share (first_read source) (first_factor source before * bar) x) 0
    + cond known.varied_b (share (second_read source) (second_factor source before * bar) x) 0

-- only if the row is active
unfoldable pub lean_gain : Activity → Source → (before : List ℕ) → (bar x : ℕ) → ℕ
unfolding varied_gain
lean_gain known source before bar x = cond known.active (varied_gain known source before bar x) 0

-- the adjoints with d̄ cleared
abbrev pub cleared : ℕ → List ℕ → ℕ → ℕ
cleared d α x = cond (eqb d x) 0 (get_or α x 0)

-- V adjoints, t and u, all residues, and what each adjoint is
pub record Grown (variables : ℕ) (adjoint : ℕ → ℕ) (α : List ℕ) : Type 0 where
  pub size : length α ≡ variables + 2
  pub below : (x : ℕ) → get_or α x 0 < modulus
  pub each : (x : ℕ) → x < variables → get_or α x 0 ≡ residue (adjoint x)
