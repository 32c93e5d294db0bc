-- The line that a row's words say, for rows that are known to say one, and a sheet's rows by their numbers.
use Rattle.std.specs.Prelude.{ℕ, ◌+◌, ◌*◌, ◌≡◌, List}
use Rattle.std.proofs.Math.Option.{Option, none, some}
use Rattle.sheet.specs.Bounds.{limit}
use Rattle.sheet.specs.Tree.{end_repeat}
use Rattle.sheet.specs.Rows.{SheetLine, Row, Kind, kind_of, sheet_row_of, Assignment, ◌≔◌, Source}
use Rattle.sheet.specs.Sheets.{row_at}

-- a row of no kind isn't asked
abbrev pub said_by : Option Kind → Row → SheetLine
said_by none r = end_repeat
said_by (some kind) r = kind.means r.d r.a r.b

unfoldable pub line_of_row : Row → SheetLine
unfolding kind_of
line_of_row r = said_by (kind_of r.kind) r

-- a row that says a line says nothing else: its unused words are 0
pub record SaysLine (r : Row) : Type 0 where
  pub back : sheet_row_of (line_of_row r) ≡ r

-- a sheet's row by its number, from the place of its first
abbrev pub numbered_row : List ℕ → (first row : ℕ) → Row
numbered_row words first p = row_at words (first + p * limit.row_words)

-- what an assignment computes
abbrev pub source_of : Assignment → Source
source_of (d ≔ source) = source
