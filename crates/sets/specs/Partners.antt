-- The partners of a block's rows: where an equation takes a set from besides the row's own point. A loop's far end, in the direction of the sets, has in
-- place of a row the point whose set it takes.
use Prim.Native.Nat.{ℕ, suc, ◌+◌}
use Rattle.std.specs.Prelude.{◌≡◌, List, get_or, set}
use Rattle.sheet.specs.Tree.{Tree, done, one, fork, again, rows}
use Rattle.sets.specs.Equations.{left_from}

module _ {B F : Type 0} where
  -- from before to after: "else" has its "if", "end if" its "else", "repeat" its "end repeat"
  unfoldable pub CameFrom : List ℕ → Tree B F → ℕ → Type 0
  unfolding rows
  CameFrom partners done p = Unit {0}
  CameFrom partners (one b k) p = CameFrom partners k (suc p)
  CameFrom partners (fork f a b k) p =
      let split = suc p + rows a in
      let end = suc split + rows b in
      CameFrom partners a (suc p) × (get_or partners split 0 ≡ p) × CameFrom partners b (suc split) × (get_or partners end 0 ≡ split)
      × CameFrom partners k (suc end)
  CameFrom partners (again l a k) p =
      let end = suc p + rows a in
      (get_or partners p 0 ≡ end) × CameFrom partners a (suc p) × CameFrom partners k (suc end) × (get_or partners end 0 ≡ left_from l (suc p) end)

  -- from after to before: "if" has its "else", "else" its "end if", "end repeat" its "repeat"
  unfoldable pub GoesTo : List ℕ → Tree B F → ℕ → Type 0
  unfolding rows
  GoesTo partners done p = Unit {0}
  GoesTo partners (one b k) p = GoesTo partners k (suc p)
  GoesTo partners (fork f a b k) p =
      let split = suc p + rows a in
      let end = suc split + rows b in
      (get_or partners p 0 ≡ split) × GoesTo partners a (suc p) × (get_or partners split 0 ≡ end) × GoesTo partners b (suc split)
      × GoesTo partners k (suc end)
  GoesTo partners (again l a k) p =
      let end = suc p + rows a in
      GoesTo partners a (suc p) × (get_or partners end 0 ≡ p) × GoesTo partners k (suc end) × (get_or partners p 0 ≡ left_from l end (suc p))

  -- ---- the same as whole lists, which keep every other place

  unfoldable pub came_by : Tree B F → ℕ → List ℕ → List ℕ
  unfolding rows
  came_by done p xs = xs
  came_by (one b k) p xs = came_by k (suc p) xs
  came_by (fork f a b k) p xs =
      let split = suc p + rows a in
      let end = suc split + rows b in
      came_by k (suc end) (set (came_by b (suc split) (set (came_by a (suc p) xs) split p)) end split)
  came_by (again l a k) p xs =
      let end = suc p + rows a in
      came_by k (suc end) (set (set (came_by a (suc p) xs) p end) end (left_from l (suc p) end))

  unfoldable pub goes_by : Tree B F → ℕ → List ℕ → List ℕ
  unfolding rows
  goes_by done p xs = xs
  goes_by (one b k) p xs = goes_by k (suc p) xs
  goes_by (fork f a b k) p xs =
      let split = suc p + rows a in
      let end = suc split + rows b in
      goes_by k (suc end) (goes_by b (suc split) (set (goes_by a (suc p) (set xs p split)) split end))
  goes_by (again l a k) p xs =
      let end = suc p + rows a in
      goes_by k (suc end) (set (goes_by a (suc p) (set xs p (left_from l end (suc p)))) end p)
