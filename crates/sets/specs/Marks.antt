-- The equations of a sheet's three sets, what it is for sets to be the least that satisfy them, and the sheet's body with what they say of each
-- assignment.
use Rattle.std.specs.Prelude.{ℕ, suc, ◌+◌, Bool, List, [], ◌∷◌}
use Rattle.sheet.specs.Tree.{loop_by, Tree, done, one, fork, again, rows, RowNumber}
use Rattle.sheet.specs.Rows.{Assignment, Test, is_independent, is_dependent}
use Rattle.sheet.specs.Sheets.{Sheet}
use Rattle.sets.specs.VariableSets.{VariableSet, empty, places}
use Rattle.sets.specs.Equations.{Equation, starts, forward, backward, Least}
use Rattle.sets.specs.Transfers.{varied_after, useful_before, Activity, activity_of, recorded_by, required_after}

-- "Varied: before the sheet, the independents."
unfoldable pub varied_equations : Sheet → List Equation
unfolding places forward varied_after
varied_equations sheet = starts 0 (places is_independent sheet.roles) ∷ forward (λ p. varied_after) sheet.body 0 []

-- "Useful: after the sheet, the dependents."
unfoldable pub useful_equations : Sheet → List Equation
unfolding places backward useful_before rows
useful_equations sheet =
    starts (rows sheet.body) (places is_dependent sheet.roles) ∷ backward (λ p. useful_before) sheet.body 0 []

-- what the first two sets say of row p, an assignment: varied before it, useful after it
unfoldable pub activity_at : (varied useful : ℕ → VariableSet) → ℕ → Assignment → Activity
unfolding activity_of
activity_at varied useful p b = activity_of b (varied p) (useful (suc p))

-- "Required: empty before the sheet. .. Branches join by union; repeat as for varied." So do loops with a test.
unfoldable pub required_equations : Sheet → (varied useful : ℕ → VariableSet) → List Equation
unfolding forward activity_at required_after
required_equations sheet varied useful =
    starts 0 empty ∷ forward (λ p b. required_after b (activity_at varied useful p b)) sheet.body 0 []

-- the three sets at every point
pub record Sets : Type 0 where
  pub varied : ℕ → VariableSet
  pub useful : ℕ → VariableSet
  pub required : ℕ → VariableSet

-- "The varied, useful and to-be-recorded sets are the least that satisfy 01's equations"
pub record LeastSets (sheet : Sheet) (sets : Sets) : Type 0 where
  pub varies : Least (varied_equations sheet) sets.varied
  pub is_useful : Least (useful_equations sheet) sets.useful
  pub is_required : Least (required_equations sheet sets.varied sets.useful) sets.required

-- ---- the marked body

-- An assignment with its row, what is known of it, and whether its target is saved before it: ours saves what is recorded.
pub record Marked : Type 0 where
  pub row : RowNumber
  pub assignment : Assignment
  pub known : Activity
  pub saved : Bool

-- a test with its row
pub record MarkedTest : Type 0 where
  pub row : RowNumber
  pub test : Test

abbrev pub test_at : (row : ℕ) → Test → MarkedTest
test_at p f = record { row = record { index = p }; test = f }

-- the body with each row's number, and each assignment marked by it
unfoldable pub numbered : (ℕ → Assignment → Marked) → Tree Assignment Test → ℕ → Tree Marked MarkedTest
unfolding rows
numbered mark done p = done
numbered mark (one b k) p = one (mark p b) (numbered mark k (suc p))
numbered mark (fork f a b k) p =
    let split = suc p + rows a in
    let end = suc split + rows b in
    fork (test_at p f) (numbered mark a (suc p)) (numbered mark b (suc split)) (numbered mark k (suc end))
numbered mark (again l a k) p = again (loop_by (test_at p) l) (numbered mark a (suc p)) (numbered mark k (suc (suc p + rows a)))

-- row p, an assignment, as the sets at its points mark it
unfoldable pub mark_by : Sets → ℕ → Assignment → Marked
unfolding activity_at recorded_by
mark_by sets p b =
    let known = activity_at sets.varied sets.useful p b in
    record { row = record { index = p }; assignment = b; known = known; saved = recorded_by b known (sets.required p) }

-- the sheet's body, every assignment marked
unfoldable pub marked_by : Sets → Sheet → Tree Marked MarkedTest
unfolding numbered mark_by
marked_by sets sheet = numbered (mark_by sets) sheet.body 0
