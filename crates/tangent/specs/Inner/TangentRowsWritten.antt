-- One sheet row's rows in the tangent table, from its words and its byte of marks; all of them, in one pass; and what the writer leaves.
use Rattle.std.specs.Prelude.{ℕ, ◌<◌, ◌≤◌, Bool, cond, List, [], ◌∷◌, ◌++◌}
use Rattle.sheet.specs.Bounds.{limit}
use Rattle.sheet.specs.Tree.{done, basic, if_line, else_line, end_if, repeat, end_repeat}
use Rattle.sheet.specs.Rows.{◌≔◌, Row, SheetLine, sheet_row_of, quotient_kind}
use Rattle.sheet.specs.Inner.RowLines.{numbered_row}
use Rattle.sheet.specs.declared.Shape.{Shape}
use Rattle.table.specs.TableRows.{t, u}
use Rattle.table.specs.Inner.MarkedRows.{row_with, rows_in, known_by, saved_by, any_row, source_of, SmallWords}
use Rattle.writer.specs.Inner.RowsWritten.{rows_along}
use Rattle.writer.specs.Inner.JumpsNoted.{noting, WroteNoted}
use Rattle.tangent.specs.Tangent.{rate_of, active_rates, rate_rows, tangent_row}

-- ---- an assignment's rate rows

module _ (variables : ℕ) (r : Row) where
  -- of a sum or a difference: the same of both rates, a copy of ȧ alone, or of ḃ alone what `alone` is the kind of
  abbrev pub combined_rate : (first second : Bool) (alone : ℕ) → Row
  combined_rate first second alone =
      cond first
      (cond second (row_with r.kind (rate_of variables r.d) (rate_of variables r.a) (rate_of variables r.b))
      (row_with 1 (rate_of variables r.d) (rate_of variables r.a) 0))
      (row_with alone (rate_of variables r.d) (rate_of variables r.b) 0)

  -- of a product: both terms and their sum, or the one term
  abbrev pub term_rates : (first second : Bool) → List Row
  term_rates first second =
      cond first
      (cond second
      (row_with 5 (u variables) r.b (rate_of variables r.a)
      ∷ row_with 5 (t variables) r.a (rate_of variables r.b)
      ∷ row_with 3 (rate_of variables r.d) (u variables) (t variables)
      ∷ [])
      (row_with 5 (rate_of variables r.d) r.b (rate_of variables r.a) ∷ []))
      (row_with 5 (rate_of variables r.d) r.a (rate_of variables r.b) ∷ [])

  -- of a quotient: the second term's rows, and both terms with their difference, or the one term
  abbrev pub second_rates : List Row
  second_rates =
      row_with 5 (t variables) r.a (rate_of variables r.b)
      ∷ row_with quotient_kind (t variables) (t variables) r.b
      ∷ row_with quotient_kind (t variables) (t variables) r.b
      ∷ []

  abbrev pub quotient_rates : (first second : Bool) → List Row
  quotient_rates first second =
      cond first
      (cond second
      (row_with quotient_kind (u variables) (rate_of variables r.a) r.b
      ∷ (second_rates ++ (row_with 4 (rate_of variables r.d) (u variables) (t variables) ∷ [])))
      (row_with quotient_kind (rate_of variables r.d) (rate_of variables r.a) r.b ∷ []))
      (second_rates ++ (row_with 6 (rate_of variables r.d) (t variables) 0 ∷ []))

-- where it is active, and either way
unfoldable pub active_rates_of : (variables : ℕ) → Row → (mark : ℕ) → List Row
unfolding source_of active_rates rows_in
active_rates_of v r mark = rows_in (active_rates v r.d (source_of r) any_row (known_by mark) done)

unfoldable pub rates_of : (variables : ℕ) → Row → (mark : ℕ) → List Row
unfolding source_of rate_rows rows_in
rates_of v r mark = rows_in (rate_rows v (r.d ≔ source_of r) any_row (known_by mark) done)

-- ---- a sheet row's rows

-- a block's row stands as it is
unfoldable pub tangent_of_line : (variables mark : ℕ) → SheetLine → List Row
unfolding tangent_row rows_in sheet_row_of
tangent_of_line v mark (basic b) = rows_in (tangent_row v (record { row = any_row; assignment = b; known = known_by mark; saved = saved_by mark }) done)
tangent_of_line v mark (if_line f) = sheet_row_of (if_line f) ∷ []
tangent_of_line v mark else_line = sheet_row_of else_line ∷ []
tangent_of_line v mark end_if = sheet_row_of end_if ∷ []
tangent_of_line v mark (repeat m) = sheet_row_of (repeat m) ∷ []
tangent_of_line v mark end_repeat = sheet_row_of end_repeat ∷ []

-- of so many sheet rows from row p on, and of all of them
abbrev pub tangent_rows_along : (words : List ℕ) → Shape → (marks : List ℕ) (p count : ℕ) → List Row
tangent_rows_along words shape marks = rows_along (tangent_of_line shape.variables) words shape.first_row marks

abbrev pub tangent_all : (words : List ℕ) → Shape → (marks : List ℕ) → List Row
tangent_all words shape marks = tangent_rows_along words shape marks 0 shape.rows

-- what the reader has made sure of besides that the rows can be read: every number in the table fits a word
pub record WordsSmall (words : List ℕ) (shape : Shape) : Type 0 where
  pub few : shape.variables ≤ limit.variables
  pub small : (p : ℕ) → p < shape.rows → SmallWords shape.variables (numbered_row words shape.first_row p)

-- rows are written after the row count and noted from none on, wherever that ends
pub record AllNoted (before : List ℕ) (rs : List Row) (after beyond beyond' : List ℕ) : Type 0 where
  pub reached : ℕ
  pub top : ℕ
  pub did : WroteNoted before 1 rs after reached (noting 0 beyond) (noting top beyond')
