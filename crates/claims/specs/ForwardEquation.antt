-- The forward equation, equation (2)'s mirror: v̇ⱼ = Σ over i that j reads of cⱼᵢ · v̇ᵢ, over the same executed assignments with the same partials.
-- Written without the sets and without the table, over residues.
use Rattle.std.specs.Prelude.{ℕ, ◌+◌, ◌*◌, ◌≡◌, ◌&&◌, cond, List, [], ◌∷◌, get_or, eqb}
use Rattle.number.specs.Residues.{residue}
use Rattle.sheet.specs.Rows.{is_independent}
use Rattle.claims.specs.EquationTwo.{Instance, value_no, same_instance, Trace, Partial, Node, nodes_of}

-- the terms c_ji · v̇_i of one j
unfoldable pub rates_read : (rate : Instance → ℕ) → List Partial → ℕ
rates_read rate [] = 0
rates_read rate (p ∷ ps) = p.factor * rate p.of + rates_read rate ps

-- of the j that makes this value, if one does
unfoldable pub rate_made : Instance → (rate : Instance → ℕ) → List Node → ℕ
unfolding same_instance rates_read
rate_made i rate [] = 0
rate_made i rate (j ∷ js) = cond (same_instance j.makes i) (rates_read rate j.partials) 0 + rate_made i rate js

-- an independent's start value has its starting rate, all else starts at 0
unfoldable pub rates_at : (roles rates : List ℕ) → Instance → ℕ
rates_at roles rates (value_no x n) = cond (is_independent (get_or roles x 0) && eqb n 0) (get_or rates x 0) 0

-- these rates satisfy the forward equation
unfoldable pub ForwardEquation : (roles rates : List ℕ) → Trace → (rate : Instance → ℕ) → Type 0
unfolding residue rates_at rate_made nodes_of
ForwardEquation roles rates trace rate = (i : Instance) → rate i ≡ residue (rates_at roles rates i + rate_made i rate (nodes_of trace))

-- there is one such assignment of rates, and no other
pub record ForwardSolvable (roles rates : List ℕ) (trace : Trace) : Type 0 where
  pub rate : Instance → ℕ
  pub solves : ForwardEquation roles rates trace rate
  pub only : (other : Instance → ℕ) → ForwardEquation roles rates trace other → (i : Instance) → other i ≡ rate i
