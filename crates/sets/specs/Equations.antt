-- "All are least solutions, over sets of variables": sets at the points of a sheet, 01's equations between them, and the least that
-- satisfy them. Point p lies before row p; the last point lies after the last row.
use Prim.Native.Nat.{ℕ, suc, ◌+◌}
use Rattle.std.specs.Prelude.{◌≡◌, cond, List, [], ◌∷◌}
use Rattle.sheet.specs.Tree.{Loop, has_test, Tree, done, one, fork, again, rows}
use Rattle.sets.specs.VariableSets.{VariableSet, ◌∪◌, ◌⊆◌}

pub data Equation : Type 0 where
  -- at a point stands this set
  starts : (point : ℕ) → VariableSet → Equation
  -- at the second point stands what the first one's set is turned into
  passes : (from to : ℕ) → (VariableSet → VariableSet) → Equation
  -- at the third point stands the union of the first two's sets
  joins : (left right to : ℕ) → Equation

unfoldable pub point_of : Equation → ℕ
point_of (starts p s) = p
point_of (passes p q f) = q
point_of (joins p q r) = r

unfoldable pub right_side : Equation → (ℕ → VariableSet) → VariableSet
right_side (starts p s) at = s
right_side (passes p q f) at = f (at p)
right_side (joins p q r) at = at p ∪ at q

-- these sets, one at each point, satisfy the equations
unfoldable pub Satisfy : List Equation → (ℕ → VariableSet) → Type 0
unfolding point_of right_side
Satisfy [] at = Unit {0}
Satisfy (e ∷ es) at = (at (point_of e) ≡ right_side e at) × Satisfy es at

-- "least solutions": these sets satisfy the equations, and lie within any that do
pub record Least (es : List Equation) (at : ℕ → VariableSet) : Type 0 where
  pub satisfies : Satisfy es at
  pub within : (other : ℕ → VariableSet) → Satisfy es other → (p : ℕ) → at p ⊆ other p

abbrev pub unchanged : VariableSet → VariableSet
unchanged s = s

-- The point whose set is the one beyond a loop, of the body's near end and its far end: of a repeat the far end; of a loop with a test the near one, "a loop
-- may do no turn" (02 §6).
abbrev pub left_from : {F : Type 0} → Loop F → (near far : ℕ) → ℕ
left_from l near far = cond (has_test l) near far

module _ {B F : Type 0} where
  -- From before to after, one equation a row, then `rest`. `after p b` is what row p, an assignment, makes of the set before it.
  -- "After an if block: union of the branch ends. Repeat: body start = before ∪ body end; after = body end." With a test: "after = body start" (02 §6).
  -- `split` is the row of "else" and `end` the block's last row, and so the points where the branches or the body end.
  -- "Tests of "if" count as no read": f is in no equation. "A repeat of 1 is treated as any repeat": neither is how often a loop turns.
  unfoldable pub forward : (ℕ → B → VariableSet → VariableSet) → Tree B F → ℕ → List Equation → List Equation
  unfolding rows
  forward after done p rest = rest
  forward after (one b k) p rest = passes p (suc p) (after p b) ∷ forward after k (suc p) rest
  forward after (fork f a b k) p rest =
      let split = suc p + rows a in
      let end = suc split + rows b in
      passes p (suc p) unchanged
      ∷ forward after a (suc p)
      (passes p (suc split) unchanged ∷ forward after b (suc split) (joins split end (suc end) ∷ forward after k (suc end) rest))
  forward after (again l a k) p rest =
      let end = suc p + rows a in
      joins p end (suc p) ∷ forward after a (suc p) (passes (left_from l (suc p) end) (suc end) unchanged ∷ forward after k (suc end) rest)

  -- From after to before, the last row's equation first. `before p b` is what row p makes of the set after it.
  -- "Before an if block: union of branch starts. Repeat: body end = after ∪ body start; before = body start." With a test: "before = that same set", the one at
  -- body end (02 §6).
  unfoldable pub backward : (ℕ → B → VariableSet → VariableSet) → Tree B F → ℕ → List Equation → List Equation
  unfolding rows
  backward before done p rest = rest
  backward before (one b k) p rest = backward before k (suc p) (passes (suc p) p (before p b) ∷ rest)
  backward before (fork f a b k) p rest =
      let split = suc p + rows a in
      let end = suc split + rows b in
      backward before k (suc end)
      (passes (suc end) end unchanged
      ∷ backward before b (suc split) (passes (suc end) split unchanged ∷ backward before a (suc p) (joins (suc p) (suc split) p ∷ rest)))
  backward before (again l a k) p rest =
      let end = suc p + rows a in
      backward before k (suc end) (joins (suc end) (suc p) end ∷ backward before a (suc p) (passes (left_from l end (suc p)) p unchanged ∷ rest))
