-- What sets that satisfy a sheet's equations satisfy at each point of its tree: the equations, block by block.
use Prim.Native.Nat.{ℕ, suc, ◌+◌}
use mathlib.Core.Path.{◌≡◌}
use mathlib.Core.List.{List}
use Rattle.sheet.specs.Tree.{Tree, done, one, fork, again, rows}
use Rattle.sets.specs.VariableSets.{VariableSet, ◌∪◌}
use Rattle.sets.specs.Equations.{Equation, Satisfy, left_from, forward, backward}

module _ {B F : Type 0} (turns : ℕ → B → VariableSet → VariableSet) (at : ℕ → VariableSet) where
  -- "After an if block: union of the branch ends. Repeat: body start = before ∪ body end; after = body end", with a test "body start".
  unfoldable pub ForwardAlong : Tree B F → ℕ → Type 0
  unfolding rows
  ForwardAlong done p = Unit {0}
  ForwardAlong (one b k) p = (at (suc p) ≡ turns p b (at p)) × ForwardAlong k (suc p)
  ForwardAlong (fork f a b k) p =
      let split = suc p + rows a in
      let end = suc split + rows b in
      (at (suc p) ≡ at p) × ForwardAlong a (suc p) × (at (suc split) ≡ at p) × ForwardAlong b (suc split)
      × (at (suc end) ≡ at split ∪ at end) × ForwardAlong k (suc end)
  ForwardAlong (again l a k) p =
      let end = suc p + rows a in
      (at (suc p) ≡ at p ∪ at end) × ForwardAlong a (suc p) × (at (suc end) ≡ at (left_from l (suc p) end)) × ForwardAlong k (suc end)

  -- "Before an if block: union of branch starts. Repeat: body end = after ∪ body start; before = body start", with a test the set at the body's end.
  unfoldable pub BackwardAlong : Tree B F → ℕ → Type 0
  unfolding rows
  BackwardAlong done p = Unit {0}
  BackwardAlong (one b k) p = (at p ≡ turns p b (at (suc p))) × BackwardAlong k (suc p)
  BackwardAlong (fork f a b k) p =
      let split = suc p + rows a in
      let end = suc split + rows b in
      (at p ≡ at (suc p) ∪ at (suc split)) × BackwardAlong a (suc p) × (at split ≡ at (suc end)) × BackwardAlong b (suc split)
      × (at end ≡ at (suc end)) × BackwardAlong k (suc end)
  BackwardAlong (again l a k) p =
      let end = suc p + rows a in
      (at p ≡ at (left_from l end (suc p))) × BackwardAlong a (suc p) × (at end ≡ at (suc end) ∪ at (suc p)) × BackwardAlong k (suc end)

  pub forward_along : (t : Tree B F) (p : ℕ) (rest : List Equation) → Satisfy (forward turns t p rest) at → ForwardAlong t p × Satisfy rest at
  unfolding Satisfy forward ForwardAlong
  forward_along done p rest h = (tt, h)
  forward_along (one b k) p rest h = let next = forward_along k (suc p) rest h.1 in ((h.0, next.0), next.1)
  forward_along (fork f a b k) p rest h =
      let first = forward_along a _ _ h.1 in
      let second = forward_along b _ _ first.1.1 in
      let next = forward_along k _ rest second.1.1 in
      ((h.0, first.0, first.1.0, second.0, second.1.0, next.0), next.1)
  forward_along (again m a k) p rest h =
      let body = forward_along a _ _ h.1 in
      let next = forward_along k _ rest body.1.1 in
      ((h.0, body.0, body.1.0, next.0), next.1)

  pub backward_along : (t : Tree B F) (p : ℕ) (rest : List Equation) → Satisfy (backward turns t p rest) at → BackwardAlong t p × Satisfy rest at
  unfolding Satisfy backward BackwardAlong
  backward_along done p rest h = (tt, h)
  backward_along (one b k) p rest h = let next = backward_along k (suc p) _ h in ((next.1.0, next.0), next.1.1)
  backward_along (fork f a b k) p rest h =
      let next = backward_along k _ _ h in
      let second = backward_along b _ _ next.1.1 in
      let first = backward_along a _ _ second.1.1 in
      ((first.1.0, first.0, second.1.0, second.0, next.1.0, next.0), first.1.1)
  backward_along (again m a k) p rest h =
      let next = backward_along k _ _ h in
      let body = backward_along a _ _ next.1.1 in
      ((body.1.0, body.0, next.1.0, next.0), body.1.1)
