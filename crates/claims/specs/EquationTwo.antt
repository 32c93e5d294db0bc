-- Equation (2) of "To Be Recorded Analysis", v̄ᵢ = Σ over j that read i of cⱼᵢ · v̄ⱼ, over the assignments that a sheet executed:
-- "each executed assignment one j". Written without the sets and without the table, over residues.
use Rattle.std.specs.Prelude.{ℕ, suc, ◌+◌, ◌*◌, ◌≡◌, Bool, ◌&&◌, cond, List, [], ◌∷◌, get_or, eqb}
use Rattle.number.specs.Residues.{residues, residue, opposite}
use Rattle.sheet.specs.Rows.{Assignment, ◌≔◌, Source, copy, fixed, sum, difference, product, negation, quotient, is_dependent}
use Rattle.claims.specs.IdealSweep.{Executed}

-- v_i: the n-th value of a variable, its start value being value 0
pub data Instance : Type 0 where
  value_no : (variable n : ℕ) → Instance

unfoldable pub same_instance : Instance → Instance → Bool
same_instance (value_no x n) (value_no y m) = eqb x y && eqb n m

abbrev pub Trace : Type 0
Trace = List (Executed residues)

abbrev pub assigns : Assignment → ℕ → Bool
assigns (d ≔ source) x = eqb d x

-- how often a trace, its latest assignment first, assigned to a variable: the number of the value that it now has
unfoldable pub times_assigned : Trace → ℕ → ℕ
times_assigned [] x = 0
times_assigned (e ∷ earlier) x = cond (assigns e.assignment x) 1 0 + times_assigned earlier x

abbrev pub current : Trace → ℕ → Instance
current trace x = value_no x (times_assigned trace x)

-- c_ji with the i that it belongs to
pub record Partial : Type 0 where
  pub of : Instance
  pub factor : ℕ

-- one j: the value that it makes, and its partials
pub record Node : Type 0 where
  pub makes : Instance
  pub partials : List Partial

-- "Partials: copy 1; sum 1, 1; difference 1, −1; negation −1; product the other operand's value; a constant none. One variable read
-- twice gets both."
unfoldable pub partials_of : Source → (before : List ℕ) → (earlier : Trace) → List Partial
unfolding times_assigned opposite
partials_of (copy a) before earlier = record { of = current earlier a; factor = 1 } ∷ []
partials_of (fixed c) before earlier = []
partials_of (sum a b) before earlier =
    record { of = current earlier a; factor = 1 } ∷ record { of = current earlier b; factor = 1 } ∷ []
partials_of (difference a b) before earlier =
    record { of = current earlier a; factor = 1 } ∷ record { of = current earlier b; factor = opposite 1 } ∷ []
partials_of (product a b) before earlier =
    record { of = current earlier a; factor = get_or before b 0 } ∷ record { of = current earlier b; factor = get_or before a 0 } ∷ []
partials_of (negation a) before earlier = record { of = current earlier a; factor = opposite 1 } ∷ []
-- "the audit half speaks of sheets without kind 18" (02 §4): no quotient is executed in residues
partials_of (quotient a b) before earlier = []

unfoldable pub node_of : Assignment → (before : List ℕ) → (earlier : Trace) → Node
unfolding times_assigned partials_of
node_of (d ≔ source) before earlier =
    record { makes = value_no d (suc (times_assigned earlier d)); partials = partials_of source before earlier }

-- the executed assignments as nodes, the latest first
unfoldable pub nodes_of : Trace → List Node
unfolding node_of
nodes_of [] = []
nodes_of (e ∷ earlier) = node_of e.assignment e.before earlier ∷ nodes_of earlier

-- the terms c_ji · v̄_j of one j, and of all
unfoldable pub terms_of : Instance → ℕ → List Partial → ℕ
unfolding same_instance
terms_of i bar [] = 0
terms_of i bar (p ∷ ps) = cond (same_instance p.of i) (p.factor * bar) 0 + terms_of i bar ps

unfoldable pub all_terms : Instance → (Instance → ℕ) → List Node → ℕ
unfolding terms_of
all_terms i bar [] = 0
all_terms i bar (j ∷ js) = terms_of i (bar j.makes) j.partials + all_terms i bar js

-- "A dependent's last value starts at its seed, all else at 0."
unfoldable pub starts_at : (roles seeds : List ℕ) → Trace → Instance → ℕ
unfolding times_assigned
starts_at roles seeds trace (value_no x n) = cond (is_dependent (get_or roles x 0) && eqb n (times_assigned trace x)) (get_or seeds x 0) 0

-- these adjoints satisfy equation (2)
unfoldable pub EquationTwo : (roles seeds : List ℕ) → Trace → (bar : Instance → ℕ) → Type 0
unfolding residue starts_at all_terms nodes_of
EquationTwo roles seeds trace bar = (i : Instance) → bar i ≡ residue (starts_at roles seeds trace i + all_terms i bar (nodes_of trace))

-- there is one such assignment of adjoints, and no other
pub record Solvable (roles seeds : List ℕ) (trace : Trace) : Type 0 where
  pub bar : Instance → ℕ
  pub solves : EquationTwo roles seeds trace bar
  pub only : (other : Instance → ℕ) → EquationTwo roles seeds trace other → (i : Instance) → other i ≡ bar i
