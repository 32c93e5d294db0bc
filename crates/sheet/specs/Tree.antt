-- Rows as blocks. One tree serves as a sheet's body, as that body with marks, and as an adjoint table.
use Rattle.std.specs.Prelude.{ℕ, ◌+◌, suc, ◌*◌, max, Bool, true, false, List, ◌∷◌}

-- how a loop turns, as the row that opens it says
pub data Loop (F : Type 0) : Type 0 where
  -- `times m`: m + 1 turns, so that no repeat does nothing
  times : ℕ → Loop F
  -- `while f m`: as long as f says, at most m + 1 turns, and none if it says so at once (02 §6)
  while : F → ℕ → Loop F

-- the most turns that it does
abbrev pub most_turns : {F : Type 0} → Loop F → ℕ
most_turns (times m) = suc m
most_turns (while f m) = suc m

abbrev pub has_test : {F : Type 0} → Loop F → Bool
has_test (times m) = false
has_test (while f m) = true

-- the same loop, by something else that it asks
abbrev pub loop_by : {F G : Type 0} → (F → G) → Loop F → Loop G
loop_by g (times m) = times m
loop_by g (while f m) = while (g f) m

-- B: rows that are no part of a block; F: what an "if" or a loop tests. The last field is what follows in the same block.
pub data Tree (B F : Type 0) : Type 0 where
  done : Tree B F
  one : B → Tree B F → Tree B F
  -- the first branch, the second, what follows
  fork : F → Tree B F → Tree B F → Tree B F → Tree B F
  -- the body of a loop, what follows
  again : Loop F → Tree B F → Tree B F → Tree B F

-- a row as it stands in a sheet or a table
pub data Line (B F : Type 0) : Type 0 where
  basic : B → Line B F
  if_line : F → Line B F
  else_line : Line B F
  end_if : Line B F
  repeat : Loop F → Line B F
  -- closes every loop, whatever opens it
  end_repeat : Line B F

module _ {B F : Type 0} where
  -- a tree's lines, before those of `rest`
  unfoldable pub flat : Tree B F → List (Line B F) → List (Line B F)
  flat done rest = rest
  flat (one b k) rest = basic b ∷ flat k rest
  flat (fork f a b k) rest = if_line f ∷ flat a (else_line ∷ flat b (end_if ∷ flat k rest))
  flat (again l a k) rest = repeat l ∷ flat a (end_repeat ∷ flat k rest)

  -- how many lines that is
  unfoldable pub rows : Tree B F → ℕ
  rows done = 0
  rows (one b k) = 1 + rows k
  rows (fork f a b k) = 3 + (rows a + rows b + rows k)
  rows (again l a k) = 2 + (rows a + rows k)

-- the number of a row, from 0: no variable can stand where one is asked for
pub record RowNumber : Type 0 where
  pub index : ℕ

-- W, on all natural numbers: eight nested repeats of 1000 go beyond 2^64.
-- "an assignment counts 1; an if block 1 + the larger branch; a repeat 1 + a × (1 + its body); rows in sequence add"; a loop with a test counts "as a
-- repeat of d" (02 §6)
unfoldable pub longest_run : {B F : Type 0} → Tree B F → ℕ
longest_run done = 0
longest_run (one b k) = 1 + longest_run k
longest_run (fork f a b k) = 1 + max (longest_run a) (longest_run b) + longest_run k
longest_run (again l a k) = 1 + most_turns l * (1 + longest_run a) + longest_run k
