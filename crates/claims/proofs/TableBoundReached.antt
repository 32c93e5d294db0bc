-- R's bound is reached: by computation, in some 25 seconds.
use Prim.Native.Nat.{ℕ, zero, suc}
use mathlib.Core.Path.{◌≡◌, refl}
use mathlib.Core.List.{List, [], ◌∷◌}
use Rattle.sheet.specs.Bounds.{limit}
use Rattle.table.specs.RowBounds.{most_table_rows}
use Rattle.table.specs.Calls.{check}

-- so many times x := x / x
abbrev quotients : ℕ → List ℕ
quotients zero = []
quotients (suc n) = 18 ∷ 0 ∷ 0 ∷ 0 ∷ quotients n

pub bound_reached : (check (1 ∷ 3 ∷ 0 ∷ limit.rows ∷ quotients limit.rows)).sizes.rows ≡ most_table_rows
unfolding check
bound_reached = refl
