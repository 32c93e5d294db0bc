-- What a call that marks a sheet is handed: the words of an accepted sheet, and where its rows are.
use Rattle.std.specs.Prelude.{ℕ, suc, ◌+◌, ◌≤◌, ◌≡◌, List, length, get_or, replicate}
use Rattle.sheet.specs.Tree.{rows}
use Rattle.sheet.specs.Judging.{given}
use Rattle.sheet.specs.Sheets.{Sheet}
use Rattle.sheet.specs.Reading.{read}
use Rattle.sets.specs.VariableSets.{VariableSet, empty}
use Rattle.sets.specs.Rounds.{varied, useful, required}
use Rattle.sets.specs.MarkBytes.{mark_bytes}
use Rattle.sets.specs.Calls.{ends_of}
use Rattle.sets.specs.declared.Ends.{Ends}
use Rattle.sets.specs.Inner.RowBytes.{written}

pub record Laid (words : List ℕ) (variables first count : ℕ) : Type 0 where
  pub sheet : Sheet
  pub accepted : read words ≡ given sheet
  pub variables_are : variables ≡ length sheet.roles
  -- after three counts, the roles and the constants
  pub first_is : first ≡ 3 + (length sheet.roles + length sheet.constants)
  pub rows_are : count ≡ rows sheet.body

-- the sets that were left are the least ones; each row's byte is its marks', and the bytes after the rows' are kept
pub record MarksLeft (sheet : Sheet) (count : ℕ) (sets₁ sets₂ sets₃ : List VariableSet) (before after : List ℕ) : Type 0 where
  pub varied_left : sets₁ ≡ varied sheet
  pub useful_left : sets₂ ≡ useful sheet
  pub required_left : sets₃ ≡ required sheet
  pub marks_left : after ≡ written (λ p. get_or (mark_bytes sheet) p 0) count before

abbrev pub AllMarked : (words : List ℕ) (count : ℕ) (sets₁ sets₂ sets₃ : List VariableSet) (before after : List ℕ) → Type 0
AllMarked words count sets₁ sets₂ sets₃ before after =
    (sheet : Sheet) → read words ≡ given sheet → MarksLeft sheet count sets₁ sets₂ sets₃ before after

abbrev pub EndsFound : (words : List ℕ) → Ends → Type 0
EndsFound words ends = (sheet : Sheet) → read words ≡ given sheet → ends ≡ ends_of sheet

-- what is lent: room for every row's partners and marks, and an empty set at every point
pub record ClearRoom (count came goes : ℕ) (sets₁ sets₂ sets₃ : List VariableSet) (marks : ℕ) : Type 0 where
  pub came_room : count ≤ came
  pub goes_room : count ≤ goes
  pub varied_clear : sets₁ ≡ replicate (suc count) empty
  pub useful_clear : sets₂ ≡ replicate (suc count) empty
  pub required_clear : sets₃ ≡ replicate (suc count) empty
  pub marks_room : count ≤ marks
