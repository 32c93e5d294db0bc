-- `rows` counts the lines of a tree, and as many rows are read from words as were asked for.
use Prim.Native.Nat.{ℕ, zero, suc, ◌+◌}
use mathlib.Core.Path.{◌≡◌, refl, ap}
use mathlib.Core.List.{List, [], ◌∷◌}
use lib.ListN.{length}
use native.Mathlib.Omega.{arith}
use Rattle.sheet.specs.Bounds.{limit}
use Rattle.sheet.specs.Tree.{Tree, done, one, fork, again, Line, else_line, end_if, end_repeat, flat, rows}
use Rattle.sheet.specs.Sheets.{rows_at}

module _ {B F : Type 0} where
  pub flat_length : (t : Tree B F) (rest : List (Line B F)) → length (flat t rest) ≡ rows t + length rest
  unfolding flat rows
  flat_length done rest = omega arith
  flat_length (one b k) rest = omega (arith, flat_length k rest)
  flat_length (fork f a b k) rest =
      omega (arith, flat_length a (else_line ∷ flat b (end_if ∷ flat k rest)), flat_length b (end_if ∷ flat k rest), flat_length k rest)
  flat_length (again m a k) rest = omega (arith, flat_length a (end_repeat ∷ flat k rest), flat_length k rest)

  pub lines_counted : (t : Tree B F) → length (flat t []) ≡ rows t
  lines_counted t = omega (arith, flat_length t [])

pub rows_counted : (words : List ℕ) (place n : ℕ) → length (rows_at words place n) ≡ n
unfolding rows_at
rows_counted words place zero = refl
rows_counted words place (suc n) = ap suc (rows_counted words (place + limit.row_words) n)
