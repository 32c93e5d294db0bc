-- One pass over a sheet's rows, in order: the rows that it writes, row by row.
use Prim.Native.Nat.{ℕ, suc, ◌+◌, ◌-◌, ◌≤◌, ◌<◌}
use mathlib.Core.Path.{◌≡◌, refl, ap, ◌∙◌}
use mathlib.Core.List.{List, [], ◌++◌}
use lib.ListN.{get_or}
use native.Mathlib.Omega.{arith}
use Rattle.sheet.specs.Rows.{Row, SheetLine, sheet_row_of}
use Rattle.sheet.specs.Inner.RowLines.{line_of_row, numbered_row}
use Rattle.sheet.proofs.RowsBack.{line_back}
use Rattle.writer.specs.Inner.RowsWritten.{rows_along}

module _ (of_line : (mark : ℕ) → SheetLine → List Row) (words : List ℕ) (first : ℕ) (marks : List ℕ) where
  -- by the row that was read
  pub along_next : (p rows : ℕ) {r : Row} → p < rows → r ≡ numbered_row words first p
      → rows_along of_line words first marks p (rows - p)
      ≡ of_line (get_or marks p 0) (line_of_row r) ++ rows_along of_line words first marks (p + 1) (rows - (p + 1))
  unfolding rows_along
  along_next p rows h is =
      let next : p + 1 ≡ suc p = omega arith in
      let left : rows - p ≡ suc (rows - suc p) = omega arith in
      rw (is, next, left)

  pub along_none : (p rows : ℕ) → rows ≤ p → rows_along of_line words first marks p (rows - p) ≡ []
  unfolding rows_along
  along_none p rows h = let none : rows - p ≡ 0 = omega arith in rw none

  along_turn : (p n : ℕ) → rows_along of_line words first marks p (suc n)
      ≡ of_line (get_or marks p 0) (line_of_row (numbered_row words first p)) ++ rows_along of_line words first marks (suc p) n
  unfolding rows_along
  along_turn p n = refl

  -- by the line that stands there
  pub along_step : (l : SheetLine) (p n c : ℕ) → c ≡ suc n → numbered_row words first p ≡ sheet_row_of l
      → rows_along of_line words first marks p c ≡ of_line (get_or marks p 0) l ++ rows_along of_line words first marks (suc p) n
  along_step l p n c e stands =
      ap (rows_along of_line words first marks p) e ∙ along_turn p n
      ∙ ap (λ line. of_line (get_or marks p 0) line ++ rows_along of_line words first marks (suc p) n) (ap line_of_row stands ∙ line_back l)
