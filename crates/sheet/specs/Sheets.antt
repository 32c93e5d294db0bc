-- A sheet once it is read, and the rows that words hold from a place on.
use Rattle.std.specs.Prelude.{ℕ, zero, suc, ◌+◌, List, [], ◌∷◌, length, get_or}
use Rattle.sheet.specs.Bounds.{limit}
use Rattle.sheet.specs.Tree.{Tree}
use Rattle.sheet.specs.Rows.{Assignment, Test, Row}

pub record Sheet : Type 0 where
  pub roles : List ℕ
  pub constants : List ℕ
  pub rows : List Row
  pub body : Tree Assignment Test

-- V
abbrev pub variables_of : Sheet → ℕ
variables_of sheet = length sheet.roles

-- where its rows start: after V stand the roles, then K and the constants, then N
abbrev pub first_row : Sheet → ℕ
first_row sheet = 3 + length sheet.roles + length sheet.constants

unfoldable pub row_at : List ℕ → ℕ → Row
row_at words place =
    record { kind = get_or words place 0; d = get_or words (place + 1) 0; a = get_or words (place + 2) 0; b = get_or words (place + 3) 0 }

unfoldable pub rows_at : List ℕ → (place count : ℕ) → List Row
unfolding row_at
rows_at words place zero = []
rows_at words place (suc n) = row_at words place ∷ rows_at words (place + limit.row_words) n
