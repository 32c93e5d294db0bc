-- The least sets as they are computed: by rounds over all equations that only ever add members. What they come to for an accepted sheet is
-- least, and no other sets are (`sets_least`, `least_sets_only` in proofs/SetsLeast.antt): so no demand rests on how they are found.
use Rattle.std.specs.Prelude.{ℕ, zero, suc, ◌*◌, Bool, true, false, ◌&&◌, List, [], ◌∷◌, get_or, set, replicate, eqb}
use Rattle.sheet.specs.Tree.{Tree, rows}
use Rattle.sheet.specs.Sheets.{Sheet, variables_of}
use Rattle.sets.specs.VariableSets.{VariableSet, empty, ◌∪◌}
use Rattle.sets.specs.Equations.{Equation, point_of, right_side}
use Rattle.sets.specs.Marks.{varied_equations, useful_equations, required_equations, Sets, Marked, MarkedTest, marked_by}

-- a list of sets has one at each point, and beyond its end the empty one
abbrev pub set_at : List VariableSet → ℕ → VariableSet
set_at sets p = get_or sets p empty

unfoldable pub round : List Equation → List VariableSet → List VariableSet
unfolding point_of right_side
round [] sets = sets
round (e ∷ es) sets = round es (set sets (point_of e) (set_at sets (point_of e) ∪ right_side e (set_at sets)))

unfoldable pub same : List ℕ → List ℕ → Bool
same [] [] = true
same [] (y ∷ ys) = false
same (x ∷ xs) [] = false
same (x ∷ xs) (y ∷ ys) = eqb x y && same xs ys

-- rounds until one adds nothing
unfoldable pub settled : (fuel : ℕ) → List Equation → List VariableSet → List VariableSet
unfolding round same
settled zero es sets = sets
settled (suc n) es sets = let next = round es sets in elim (same sets next) [ true ↦ sets | false ↦ settled n es next ]

-- Every round but the last adds a member, and so many points hold at most so many: the fuel suffices.
unfoldable pub least : (variables points : ℕ) → List Equation → List VariableSet
unfolding settled
least variables points es = settled (suc (points * variables)) es (replicate points empty)

-- ---- of a sheet

-- the points of a sheet: one before each row and one after the last
unfoldable pub points : Sheet → ℕ
unfolding rows
points sheet = suc (rows sheet.body)

unfoldable pub varied : Sheet → List VariableSet
unfolding varied_equations points least
varied sheet = least (variables_of sheet) (points sheet) (varied_equations sheet)

unfoldable pub useful : Sheet → List VariableSet
unfolding useful_equations points least
useful sheet = least (variables_of sheet) (points sheet) (useful_equations sheet)

unfoldable pub required : Sheet → List VariableSet
unfolding varied useful required_equations points least
required sheet = least (variables_of sheet) (points sheet) (required_equations sheet (set_at (varied sheet)) (set_at (useful sheet)))

-- three lists as the sets at every point
abbrev pub sets_in : (varied useful required : List VariableSet) → Sets
sets_in varied useful required = record { varied = set_at varied; useful = set_at useful; required = set_at required }

abbrev pub sets_of : Sheet → Sets
sets_of sheet = sets_in (varied sheet) (useful sheet) (required sheet)

unfoldable pub marked : Sheet → Tree Marked MarkedTest
unfolding varied useful required marked_by
marked sheet = marked_by (sets_of sheet) sheet
