-- What the calls check and write answer, and what the lent table buffer then holds, as it is computed from the words.
use Rattle.std.specs.Prelude.{ℕ, Bool, true, List, ◌++◌, length, drop, leb}
use Rattle.sheet.specs.Judging.{Answer, refused, given, ◌>>=◌, number_in, place_in, unless}
use Rattle.sheet.specs.Refusals.{small_table}
use Rattle.sheet.specs.Sheets.{Sheet}
use Rattle.sheet.specs.Reading.{read, read_in}
use Rattle.sheet.specs.Tree.{longest_run}
use Rattle.sets.specs.Rounds.{marked}
use Rattle.table.specs.TableRows.{Table, table_words}
use Rattle.table.specs.Sizes.{Needs, table_rows, values_needed, turns_needed, Sizes, no_sizes, Checked, table_room, Written}
use Rattle.table.specs.Computed.{table_of, rows_needed, values_for, turns_for, needs_of}

-- ---- check

abbrev pub sizes_of : Sheet → Sizes
sizes_of sheet = record { longest = longest_run sheet.body; rows = rows_needed sheet; values = values_for sheet; turns = turns_for sheet }

-- "answers W, R, S and T, all 0 when refused"
unfoldable pub sizes_in : Answer Sheet → Sizes
unfolding longest_run marked table_rows values_needed turns_needed
sizes_in (refused r) = no_sizes
sizes_in (given sheet) = sizes_of sheet

-- "Checking a sheet uses 1 to 7"
unfoldable pub check : List ℕ → Checked
unfolding number_in place_in read sizes_in
check words = let answer = read words in record { number = number_in answer; place = place_in answer; sizes = sizes_in answer }

-- ---- write

-- the sheet, where its table, which needs so many rows, fits a buffer of so many words: refusals 1 to 8, and 13 between 7 and 8 where it is to be run in
-- an arithmetic that doesn't divide
unfoldable pub read_for : (divides : Bool) → (needs : Sheet → Needs) → List ℕ → (room : ℕ) → Answer Sheet
unfolding read_in
read_for divides needs words room = do
  sheet ← read_in divides words
  _ ← unless (leb (table_room (needs sheet).rows) room) small_table
  given sheet

-- "the table buffer starts with the table and keeps its other words"
unfoldable pub overwritten : {X : Type 0} → (front buffer : List X) → List X
overwritten front buffer = front ++ drop (length front) buffer

-- "Refusals 1 to 11 change no buffer."
unfoldable pub table_in : (table : Sheet → Table) → Answer Sheet → (buffer : List ℕ) → List ℕ
unfolding table_words overwritten
table_in table (refused r) buffer = buffer
table_in table (given sheet) buffer = overwritten (table_words (table sheet)) buffer

-- what a sheet needs and which table is written of it are said by who calls; a writer has no part in arithmetic, and accepts kind 18
unfoldable pub write_by : (needs : Sheet → Needs) → (table : Sheet → Table) → List ℕ → (buffer : List ℕ) → Written
unfolding number_in place_in read_for table_in
write_by needs table words buffer =
    let answer = read_for true needs words (length buffer) in
    record { number = number_in answer; place = place_in answer; table = table_in table answer buffer }

-- "Writing a table uses 1 to 8"
unfoldable pub write : List ℕ → (buffer : List ℕ) → Written
unfolding write_by table_of marked table_rows
write words buffer = write_by needs_of table_of words buffer
