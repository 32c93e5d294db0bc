-- Rows in the words: lines that stand there from a row on, an accepted sheet's body among them.
use Prim.Native.Nat.{ℕ, suc, ◌+◌, ◌*◌, ◌≤◌}
use mathlib.Core.Path.{◌≡◌, sym, ap, subst, ◌∙◌}
use mathlib.Core.List.{List, [], map}
use lib.ListN.{length, length-map}
use native.Mathlib.Omega.{arith}
use Rattle.sheet.specs.Bounds.{limit}
use Rattle.sheet.specs.Judging.{given}
use Rattle.sheet.specs.Tree.{flat}
use Rattle.sheet.specs.Rows.{SheetLine, sheet_row_of, tree_rows}
use Rattle.sheet.specs.Sheets.{Sheet, rows_at}
use Rattle.sheet.specs.Reading.{read}
use Rattle.sheet.proofs.ReadingParts.{accepted}
use Rattle.sheet.proofs.TreeOfRows.{tree_of_rows}
use Rattle.sheet.proofs.NamesPresent.{count_judged, counts}
use Rattle.sheet.proofs.RowsCounted.{rows_counted}

-- the place of a row, by its number from 0
abbrev pub row_place : (first row : ℕ) → ℕ
row_place first row = first + row * limit.row_words

-- these lines are the rows from row number `row` on, and all of them are there
pub record Stands (words : List ℕ) (first row : ℕ) (lines : List SheetLine) : Type 0 where
  pub rows_here : rows_at words (row_place first row) (length lines) ≡ map sheet_row_of lines
  pub there : row_place first (row + length lines) ≤ length words

-- the body stands from row 0 on, after the three sections' other words
pub body_stands : (words : List ℕ) (sheet : Sheet) → read words ≡ given sheet
    → Stands words (3 + length sheet.roles + length sheet.constants) 0 (flat sheet.body [])
unfolding tree_rows
body_stands words sheet e =
    let parts = accepted words sheet e in
    let counted = counts words sheet parts in
    let lines = flat sheet.body [] in
    let judged = count_judged words _ 0 limit.rows limit.row_words parts.n parts.row_count in
    let begins : suc (1 + parts.v + 1 + parts.k) ≡ row_place (3 + length sheet.roles + length sheet.constants) 0 =
    omega (arith, counted.variables, counted.constants) in
    let begin = suc (1 + parts.v + 1 + parts.k) in
    let says : rows_at words begin parts.n ≡ map sheet_row_of lines = sym parts.rows ∙ sym (tree_of_rows words sheet e).says in
    let many : parts.n ≡ length lines = sym (rows_counted words _ parts.n) ∙ ap length says ∙ length-map lines sheet_row_of in
    record {
      rows_here = subst (λ p. rows_at words p (length lines) ≡ map sheet_row_of lines) begins
          (subst (λ n. rows_at words begin n ≡ map sheet_row_of lines) many says);
      there = omega (arith, judged.there, counted.variables, counted.constants);
    }
