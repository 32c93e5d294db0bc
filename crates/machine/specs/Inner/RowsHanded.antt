-- What the runner is handed: a table's rows in a buffer, where each "if", each "else" and each "repeat" goes on to, and room for the open
-- repeats.
use Rattle.std.specs.Prelude.{ℕ, ◌+◌, ◌*◌, ◌≤◌, ◌<◌, ◌≡◌, List, ◌∷◌, length, get_or, drop}
use Rattle.std.proofs.Math.Option.{Option, some}
use Rattle.number.specs.Arithmetic.{Arithmetic}
use Rattle.sheet.specs.Bounds.{limit}
use Rattle.sheet.specs.Tree.{if_line, else_line, repeat}
use Rattle.sheet.specs.Rows.{Row, while_kind}
use Rattle.sheet.specs.Sheets.{row_at}
use Rattle.table.specs.TableRows.{TableLine, TableTest, table_row_of}
use Rattle.machine.specs.Actions.{Setting}
use Rattle.machine.specs.Inner.RowWords.{action_of, Named}
use Rattle.machine.specs.Machine.{its_else, its_end, one_more, seek, seek_close, State, goes_on, state_after}

-- where row p of a table stands in its buffer: after the row count, four words a row
abbrev pub place_of_row : ℕ → ℕ
place_of_row p = 1 + limit.row_words * p

-- the buffer holds these rows
pub record Holds (buffer : List ℕ) (lines : List TableLine) : Type 0 where
  pub within : place_of_row (length lines) ≤ length buffer
  pub held : (p : ℕ) (line : TableLine) (rest : List TableLine) → drop p lines ≡ line ∷ rest → row_at buffer (place_of_row p) ≡ table_row_of line

-- the operands of a comparison, an "if"'s or a loop's, are variables that are there
pub record Compared (variables : ℕ) (row : Row) : Type 0 where
  pub first : row.kind ≡ 7 → row.a < variables
  pub second : row.kind ≡ 7 → row.b < variables
  pub first_asked : row.kind ≡ while_kind → row.a < variables
  pub second_asked : row.kind ≡ while_kind → row.b < variables

-- rows that lie in a buffer, of which every straight one and every comparison names only variables and constants that are there: so many of each
pub record Indexed (buffer : List ℕ) (count variables constants : ℕ) : Type 0 where
  pub within : place_of_row count ≤ length buffer
  pub named : (p : ℕ) → p < count → Named variables constants (action_of (row_at buffer (1 + p * limit.row_words)))
  pub compared : (p : ℕ) → p < count → Compared variables (row_at buffer (1 + p * limit.row_words))

-- the same, however many constants are there
pub record Indexes (buffer : List ℕ) (count variables : ℕ) : Type 0 where
  pub constants : ℕ
  pub indexed : Indexed buffer count variables constants

-- how far a search goes, and that a list of rows names the row there
pub record Arrives (found : Option ℕ) (from to : ℕ) : Type 0 where
  pub far : ℕ
  pub finds : found ≡ some far
  pub arrives : to ≡ from + far

-- for each "if" the row after its "else", for each "else" the row after its "end if", for each "repeat" the row after its "end repeat"
pub record Jumps (lines : List TableLine) (beyond : List ℕ) : Type 0 where
  pub from_if : (p : ℕ) (test : TableTest) (rest : List TableLine) → drop p lines ≡ if_line test ∷ rest
      → Arrives (one_more (seek its_else 0 rest)) p (get_or beyond p 0)
  pub from_else : (p : ℕ) (rest : List TableLine) → drop p lines ≡ else_line ∷ rest
      → Arrives (one_more (seek its_end 0 rest)) p (get_or beyond p 0)
  pub from_repeat : (p : ℕ) (m : _) (rest : List TableLine) → drop p lines ≡ repeat m ∷ rest
      → Arrives (one_more (seek_close 0 rest)) p (get_or beyond p 0)

-- the setting that a run's sections and seeds make
pub record Suits (A : Arithmetic) (role_words constant_words : List ℕ) (lent_seeds : List A.Carrier) (setting : Setting A) : Type 0 where
  pub variables : setting.variables ≡ length role_words
  pub roles : setting.roles ≡ role_words
  pub constants : setting.constants ≡ constant_words
  pub seeds : setting.seeds ≡ lent_seeds

-- as many repeats as a sheet may nest are open at most, at every step
abbrev pub Shallow : (A : Arithmetic) → Setting A → List TableLine → State A → Type 0
Shallow A setting lines start =
    (n : ℕ) (state : State A) → state_after A n setting lines start ≡ goes_on state → length state.repeats ≤ limit.depth
