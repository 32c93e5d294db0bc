-- What the reader's answer says: each case of its enum as the refusal with 01's number and place (`number_in`, `place_in`), or as the sheet's shape.
use Rattle.std.specs.Prelude.{ℕ, ◌+◌, List, length}
use Rattle.std.specs.Prelude.{Err, Ok, Result}
use Rattle.sheet.specs.Judging.{Answer, refused, given, ◌>>=◌}
use Rattle.sheet.specs.Refusals.{Refusal, words_end, words_left, count_beyond, role_above, bad_row, bad_block, too_long, holds_quotient}
use Rattle.sheet.specs.Rows.{Row}
use Rattle.sheet.specs.Tree.{longest_run}
use Rattle.sheet.specs.Sheets.{Sheet, first_row}
use Rattle.sheet.specs.Reading.{read}
use Rattle.sheet.specs.declared.No.{No}
use Rattle.sheet.specs.declared.No.TheVariants.{WordsEnd, WordsLeft, CountBeyond, RoleAbove, BadRow, BadBlock, TooLong, HoldsQuotient}
use Rattle.sheet.specs.declared.Shape.{Shape}
use Rattle.sheet.specs.declared.RowWords.{RowWords}

abbrev pub refusal_of : No → Refusal
refusal_of (WordsEnd place) = words_end place
refusal_of (WordsLeft place) = words_left place
refusal_of (CountBeyond place) = count_beyond place
refusal_of (RoleAbove place) = role_above place
refusal_of (BadRow place) = bad_row place
refusal_of (BadBlock place) = bad_block place
refusal_of TooLong = too_long
refusal_of (HoldsQuotient place) = holds_quotient place

abbrev pub said : Result Shape No → Answer Shape
said (Err why) = refused (refusal_of why)
said (Ok shape) = given shape

-- V, K, N, where the constants and the rows start, and W: after V stand the roles, then K and the constants, then N and the rows
unfoldable pub shape_of : Sheet → Shape
unfolding longest_run
shape_of sheet =
    record {
      variables = length sheet.roles;
      constants = length sheet.constants;
      rows = length sheet.rows;
      first_constant = 2 + length sheet.roles;
      first_row = first_row sheet;
      longest = longest_run sheet.body;
    }

-- the shape of the sheet that the words are, or the refusal
unfoldable pub shape_read : List ℕ → Answer Shape
unfolding read shape_of
shape_read words = do
  sheet ← read words
  given (shape_of sheet)

-- a row's words as the accessor hands them out
abbrev pub row_said : RowWords → Row
row_said words = record { kind = words.kind; d = words.d; a = words.a; b = words.b }
