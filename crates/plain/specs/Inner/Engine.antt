-- What the engine is handed, what its cells carry, and what its end says.
use Rattle.std.specs.Prelude.{ℕ, ◌+◌, ◌*◌, ◌≤◌, ◌≡◌, List, map, ◌++◌, length, take, Float}
use Rattle.std.specs.Prelude.{Err, Ok, Result}
use Rattle.number.specs.Doubles.{not_finite, doubles}
use Rattle.sheet.specs.Bounds.{limit}
use Rattle.sheet.specs.Judging.{given}
use Rattle.sheet.specs.Rows.{is_dependent}
use Rattle.sheet.specs.Sheets.{Sheet, variables_of}
use Rattle.sheet.specs.Reading.{read}
use Rattle.sheet.specs.Answers.{shape_of}
use Rattle.sheet.specs.declared.Shape.{Shape}
use Rattle.sets.specs.Marks.{marked_by}
use Rattle.sets.specs.Rounds.{sets_of}
use Rattle.sets.specs.Partners.{GoesTo}
use Rattle.table.specs.Inner.Plans.{SheetNoted}
use Rattle.machine.specs.Actions.{Attempt, through, halted, counting}
use Rattle.tangent.specs.Inner.TangentPlans.{table_rows_before}
use Rattle.plain.specs.Plain.{Carried, StopAt, plain_run}
use Rattle.plain.specs.declared.Rated.{Rated}
use Rattle.plain.specs.declared.engine.StoppedAt.{StoppedAt}

-- ---- cells

abbrev pub value_in : Rated → Float
value_in cell = cell.value

abbrev pub rate_in : Rated → Float
rate_in cell = cell.rate

-- the first cells are the variables'
abbrev pub carried_in : (variables : ℕ) → List Rated → Carried doubles
carried_in v cells = record { values = map value_in (take v cells); rates = map rate_in (take v cells) }

-- ---- a sheet that is ready to run

-- the words are this sheet's, and its marks and partners are noted, a loop's row among them; where its rows came from is noted too, in some list
pub record Found (words : List ℕ) (shape : Shape) (marks goes : List ℕ) : Type 0 where
  pub sheet : Sheet
  pub accepted : read words ≡ given sheet
  pub shape_is : shape ≡ shape_of sheet
  pub came : List ℕ
  pub noted : SheetNoted sheet marks came goes
  pub goes_to : GoesTo goes sheet.body 0

-- and there are a mark and a partner for each row
pub record Ready (words : List ℕ) (shape : Shape) (marks goes : List ℕ) : Type 0 where
  pub found : Found words shape marks goes
  pub marks_there : shape.rows ≤ length marks
  pub goes_there : shape.rows ≤ length goes

-- ---- the end

-- a stop at so many table rows after a sheet row's first
abbrev pub stop_at : (row : ℕ) → StopAt doubles
stop_at row = record { row = record { index = row }; why = not_finite }

abbrev pub end_said : (variables : ℕ) → (before : ℕ → ℕ) → Result (List Rated) StoppedAt → Attempt (StopAt doubles) (Carried doubles)
end_said v before (Ok cells) = through (carried_in v cells)
end_said v before (Err at) = halted (stop_at (before at.row.0 + at.after))

-- there are as many cells as ever, or the row is one of the sheet's
abbrev pub EndsWithin : Shape → Result (List Rated) StoppedAt → Type 0
EndsWithin shape (Ok cells) = length cells ≡ limit.variables
EndsWithin shape (Err at) = at.row.0 ≤ shape.rows

pub record RunsTo (words : List ℕ) (shape : Shape) (marks : List ℕ) (start : List Rated) (ran : Result (List Rated) StoppedAt) : Type 0 where
  pub within : EndsWithin shape ran
  pub ends : (sheet : Sheet) → read words ≡ given sheet
      → plain_run doubles (variables_of sheet) sheet.constants (marked_by (sets_of sheet) sheet) 0 (carried_in (variables_of sheet) start)
      ≡ end_said (variables_of sheet) (table_rows_before words shape.first_row marks) ran

-- ---- buffers

pub record CarryRoom (variables : ℕ) (starts rates result : List Float) : Type 0 where
  pub starts_fit : length starts ≡ variables
  pub rates_fit : length rates ≡ variables
  pub result_fits : length result ≡ 2 * variables

-- "the V values and then each dependent's rate, 0 at others"
unfoldable pub result_of : (roles : List ℕ) → Carried doubles → List Float
unfolding counting
result_of roles now = now.values ++ counting doubles is_dependent roles now.rates
