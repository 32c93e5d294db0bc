-- Demand 1's "exactly when": 01's table of refusals as it stands there, a rule for each of its rows, and 01's order in what each rule asks for.
-- It speaks of words, counts, rows and open blocks, and of no judgement that the calls are made of. What the calls answer is in Demands.
use Rattle.std.specs.Prelude.{ℕ, zero, suc, ◌+◌, ◌*◌, ◌≤◌, ◌<◌, ◌≡◌, Bool, false, List, [], ◌∷◌, ◌++◌, ◌≢◌, length, get_or, take, drop}
use Rattle.std.proofs.Math.Option.{some}
use Rattle.number.specs.Arithmetic.{Arithmetic, divides}
use Rattle.sheet.specs.Bounds.{limit}
use Rattle.sheet.specs.Refusals.{Refusal, words_end, words_left, count_beyond, role_above, bad_row, bad_block, too_long, small_table, small_value_stack, small_turn_stack, wrong_starts, wrong_seeds, wrong_result, not_finite_given, not_finite_result, holds_quotient}
use Rattle.sheet.specs.Tree.{Loop, Tree, basic, if_line, else_line, end_if, repeat, end_repeat, RowNumber, longest_run}
use Rattle.sheet.specs.Rows.{Assignment, Test, SheetLine, Row, Slot, variable, constant, turns, unused, Kind, kind_of, quotient_kind, tree_rows}
use Rattle.sheet.specs.Sheets.{Sheet, variables_of, row_at, rows_at}
use Rattle.sets.specs.Marks.{Sets, LeastSets}
use Rattle.table.specs.TableRows.{TableRow, TableLine, lines_of}
use Rattle.table.specs.Sizes.{Needs, table_room}
use Rattle.machine.specs.Actions.{halted, Memory, acted, Stop}
use Rattle.machine.specs.Machine.{State, goes_on, state_after}
use Rattle.run.specs.Runs.{Lent, Job}

-- ---- where things stand

-- "three sections in a fixed order, each after its count"
pub data Section : Type 0 where
  variables : Section
  constants : Section
  rows : Section

-- "V, 1 to 32", "K, 0 to 64", "N, 0 to 512"
abbrev pub lowest : Section → ℕ
lowest variables = limit.fewest_variables
lowest constants = 0
lowest rows = 0

abbrev pub greatest : Section → ℕ
greatest variables = limit.variables
greatest constants = limit.constants
greatest rows = limit.rows

-- "V role words", "K words", "N rows of four words"
abbrev pub item_words : Section → ℕ
item_words variables = 1
item_words constants = 1
item_words rows = limit.row_words

-- the least number of which something holds
pub record First (Holds : ℕ → Type 0) (i : ℕ) : Type 0 where
  pub here : Holds i
  pub before : (j : ℕ) → j < i → ¬ Holds j

-- ---- rows and blocks

-- a variable or a constant that is there, "a from 1 to 1000", "A word not named in a kind's meaning is 0."
abbrev pub Fits : (variable_count constant_count : ℕ) → Slot → ℕ → Type 0
Fits v k variable word = word < v
Fits v k constant word = word < k
Fits v k turns word = (1 ≤ word) × (word ≤ limit.turns)
Fits v k unused word = word ≡ 0

-- the line that a row says: its kind is 1 to 11, 18 or 19, and each of its words fits its slot in the table of kinds
pub record Says (variable_count constant_count : ℕ) (row : Row) (line : SheetLine) : Type 0 where
  pub kind : Kind
  pub known : kind_of row.kind ≡ some kind
  pub fit_d : Fits variable_count constant_count kind.d row.d
  pub fit_a : Fits variable_count constant_count kind.a row.a
  pub fit_b : Fits variable_count constant_count kind.b row.b
  pub means : kind.means row.d row.a row.b ≡ line

-- an open block, by what stands in it now
pub data Opening : Type 0 where
  first_branch : Opening
  second_branch : Opening
  repeat_body : Opening

-- "Every "if" has one "else" and one "end if"; blocks nest at most 8 deep.": which lines may stand where, and what is open after them, nearest
-- first. "else" splits an "if" that is not split yet, "end if" closes one that is, "end repeat" closes a loop of either kind.
pub data Takes : SheetLine → (before after : List Opening) → Type 0 where
  assigns : {b : Assignment} {outer : List Opening} → Takes (basic b) outer outer
  opens_if : {f : Test} {outer : List Opening} → length outer < limit.depth → Takes (if_line f) outer (first_branch ∷ outer)
  splits_if : {outer : List Opening} → Takes else_line (first_branch ∷ outer) (second_branch ∷ outer)
  closes_if : {outer : List Opening} → Takes end_if (second_branch ∷ outer) outer
  opens_repeat : {l : Loop Test} {outer : List Opening} → length outer < limit.depth → Takes (repeat l) outer (repeat_body ∷ outer)
  closes_repeat : {outer : List Opening} → Takes end_repeat (repeat_body ∷ outer) outer

-- ---- reading

module _ (words : List ℕ) where
  abbrev pub word : ℕ → ℕ
  word place = get_or words place 0

  -- V, K and N, each where the section before it ends
  abbrev pub variable_count : ℕ
  variable_count = word 0

  abbrev pub constant_count : ℕ
  constant_count = word (1 + variable_count)

  abbrev pub row_count : ℕ
  row_count = word (1 + variable_count + 1 + constant_count)

  abbrev pub count_place : Section → ℕ
  count_place variables = 0
  count_place constants = 1 + variable_count
  count_place rows = 1 + variable_count + 1 + constant_count

  abbrev pub count : Section → ℕ
  count section = word (count_place section)

  abbrev pub first_item : Section → ℕ
  first_item section = suc (count_place section)

  -- row i, from 0: the place of its first word, and its four words
  abbrev pub row_place : ℕ → ℕ
  row_place i = first_item rows + i * limit.row_words

  abbrev pub row_no : ℕ → Row
  row_no i = row_at words (row_place i)

  abbrev pub sheet_rows : List Row
  sheet_rows = rows_at words (first_item rows) row_count

  -- "the index after the rows"
  abbrev pub after_rows : ℕ
  after_rows = row_place row_count

  -- "A count is judged (1, then 3) before its section's length (1), that before the items"
  abbrev pub CountThere : Section → Type 0
  CountThere section = count_place section < length words

  abbrev pub CountInRange : Section → Type 0
  CountInRange section = (lowest section ≤ count section) × (count section ≤ greatest section)

  abbrev pub ItemsThere : Section → Type 0
  ItemsThere section = first_item section + count section * item_words section ≤ length words

  abbrev pub InOrder : Section → Type 0
  InOrder section = CountThere section × CountInRange section × ItemsThere section

  -- "role above 3"
  abbrev pub RoleAbove : ℕ → Type 0
  RoleAbove i = (i < variable_count) × (limit.greatest_role < word (1 + i))

  -- "The words are read left to right": a section is come to where all before it is in order
  abbrev pub Reached : Section → Type 0
  Reached variables = Unit {0}
  Reached constants = InOrder variables × ((i : ℕ) → ¬ RoleAbove i)
  Reached rows = InOrder variables × ((i : ℕ) → ¬ RoleAbove i) × InOrder constants

  abbrev pub RowsReached : Type 0
  RowsReached = Reached rows × InOrder rows

  abbrev pub RowSays : ℕ → SheetLine → Type 0
  RowSays i = Says variable_count constant_count (row_no i)

  -- the first so many rows could all be taken, and what is open after them
  pub data OpenAfter : ℕ → List Opening → Type 0 where
    start : OpenAfter zero []
    next : {i : ℕ} {line : SheetLine} {before after : List Opening} → OpenAfter i before → RowSays i line → Takes line before after
        → OpenAfter (suc i) after

  -- "After the rows: 6 for never closed, then 2, 7"
  abbrev pub AllClosed : Type 0
  AllClosed = RowsReached × OpenAfter row_count []

  abbrev pub NothingLeft : Type 0
  NothingLeft = AllClosed × (length words ≤ after_rows)

  -- refusals 1 to 7: "given when", "place returned"
  pub data ReadingRefuses : Refusal → Type 0 where
    -- 1 | words end before a count, or before all of a section's items | index of the missing count, or of that section's first item
    count_missing : (section : Section) → Reached section → ¬ CountThere section → ReadingRefuses (words_end (count_place section))
    items_missing : (section : Section) → Reached section → CountThere section → CountInRange section → ¬ ItemsThere section
        → ReadingRefuses (words_end (first_item section))
    -- 2 | words left after the rows | first such word
    words_after_rows : AllClosed → after_rows < length words → ReadingRefuses (words_left after_rows)
    -- 3 | V, K or N beyond its range | the count
    count_out_of_range : (section : Section) → Reached section → CountThere section → ¬ CountInRange section
        → ReadingRefuses (count_beyond (count_place section))
    -- 4 | role above 3 | the word
    role_too_great : (i : ℕ) → InOrder variables → First RoleAbove i → ReadingRefuses (role_above (1 + i))
    -- 5 | kind not 1 to 11, nor 18, absent variable or constant, repeat count not 1 to 1000, unused word not 0 | the row's first word
    row_says_nothing : (i : ℕ) (before : List Opening) → RowsReached → i < row_count → OpenAfter i before → ((line : SheetLine) → ¬ RowSays i line)
        → ReadingRefuses (bad_row (row_place i))
    -- 6 | a block closed or split wrongly, never closed, or a ninth level opened | that row's first word; never closed: the index after the rows
    -- "At a row 5 comes before 6."
    block_wrong : (i : ℕ) (before : List Opening) (line : SheetLine) → RowsReached → i < row_count → OpenAfter i before → RowSays i line
        → ((after : List Opening) → ¬ Takes line before after) → ReadingRefuses (bad_block (row_place i))
    never_closed : (opening : Opening) (outer : List Opening) → RowsReached → OpenAfter row_count (opening ∷ outer)
        → ReadingRefuses (bad_block after_rows)
    -- 7 | W above 4,096 | 0
    run_too_long : (body : Tree Assignment Test) → NothingLeft → tree_rows body ≡ sheet_rows → limit.longest_run < longest_run body
        → ReadingRefuses too_long

  -- what is read where none of these is given
  pub record Read (sheet : Sheet) : Type 0 where
    pub nothing_left : NothingLeft
    pub roles : sheet.roles ≡ take variable_count (drop (first_item variables) words)
    pub constants : sheet.constants ≡ take constant_count (drop (first_item constants) words)
    pub rows : sheet.rows ≡ sheet_rows
    pub body : tree_rows sheet.body ≡ sheet_rows
    pub short : longest_run sheet.body ≤ limit.longest_run

  -- a row of kind 18 (02 §4)
  abbrev pub QuotientAt : ℕ → Type 0
  QuotientAt i = (i < row_count) × ((row_no i).kind ≡ quotient_kind)

  -- there is none where the arithmetic has no quotients
  abbrev pub Calculable : (divides : Bool) → Type 0
  Calculable divides = divides ≡ false → (i : ℕ) → ¬ QuotientAt i

-- such a sheet with its three sets: "All are least solutions"
pub record Accepted (words : List ℕ) (sheet : Sheet) (sets : Sets) : Type 0 where
  pub is_read : Read words sheet
  pub least : LeastSets sheet sets

-- ---- writing, where a sheet with these sets needs so much; for a run in an arithmetic that divides or doesn't. A writer has no part in arithmetic and
-- accepts kind 18, as one that divides.

module _ (divides : Bool) (needs : Sets → Sheet → Needs) (words : List ℕ) (buffer : List ℕ) where
  -- "Writing a table uses 1 to 8"
  pub data WritingRefuses : Refusal → Type 0 where
    while_reading : {r : Refusal} → ReadingRefuses words r → WritingRefuses r
    -- 13 | "Audit refuses a sheet that holds kind 18" | "the first such row's first word"; "after 7 and before 8"
    quotient_held : (sheet : Sheet) (i : ℕ) → Read words sheet → divides ≡ false → First (QuotientAt words) i
        → WritingRefuses (holds_quotient (row_place words i))
    -- 8 | table buffer below 1 + 4R words | 0
    table_too_small : (sheet : Sheet) (sets : Sets) → Accepted words sheet sets → Calculable words divides
        → length buffer < table_room (needs sets sheet).rows → WritingRefuses small_table

  -- a sheet whose table fits
  pub record Writable (sheet : Sheet) (sets : Sets) : Type 0 where
    pub accepted : Accepted words sheet sets
    pub calculable : Calculable words divides
    pub table_fits : table_room (needs sets sheet).rows ≤ length buffer

-- ---- a run

-- "a start value or seed not finite": a start value by its index, a seed by its index "from V"; "all must be finite", at dependents or not
abbrev pub NotFinite : (A : Arithmetic) → (starts seeds : List A.Carrier) → ℕ → Type 0
NotFinite A starts seeds i = (i < length (starts ++ seeds)) × (A.admits (get_or (starts ++ seeds) i A.zero) ≡ false)

module _ (A : Arithmetic) (needs : Sets → Sheet → Needs) (words : List ℕ) (starts seeds : List A.Carrier) (lent : Lent A) where
  -- "and the rest in number order": each of these asks for the one before it
  pub record StacksSuffice (sheet : Sheet) (sets : Sets) : Type 0 where
    pub writable : Writable (divides A) needs words lent.table sheet sets
    pub values : (needs sets sheet).values ≤ length lent.values
    pub turns : (needs sets sheet).turns ≤ length lent.turns

  pub record LengthsRight (sheet : Sheet) (sets : Sets) : Type 0 where
    pub stacks : StacksSuffice sheet sets
    pub start_values : length starts ≡ variables_of sheet
    pub seed_values : length seeds ≡ variables_of sheet
    pub results : length lent.result ≡ 2 * variables_of sheet

  pub record Runnable (sheet : Sheet) (sets : Sets) : Type 0 where
    pub lengths : LengthsRight sheet sets
    pub finite : (i : ℕ) → ¬ NotFinite A starts seeds i

  -- refusals before the machine starts: 1 to 11, and 13
  pub data StartRefused : Refusal → Type 0 where
    while_writing : {r : Refusal} → WritingRefuses (divides A) needs words lent.table r → StartRefused r
    -- 9 | value stack below S, or turn stack below T | 0 for the first, else 1
    value_stack_too_small : (sheet : Sheet) (sets : Sets) → Writable (divides A) needs words lent.table sheet sets → length lent.values < (needs sets sheet).values
        → StartRefused small_value_stack
    turn_stack_too_small : (sheet : Sheet) (sets : Sets) → Writable (divides A) needs words lent.table sheet sets → (needs sets sheet).values ≤ length lent.values
        → length lent.turns < (needs sets sheet).turns → StartRefused small_turn_stack
    -- 10 | start values or seeds not V long, result not 2V | 0, 1, 2, first wrong
    starts_not_v : (sheet : Sheet) (sets : Sets) → StacksSuffice sheet sets → length starts ≢ variables_of sheet → StartRefused wrong_starts
    seeds_not_v : (sheet : Sheet) (sets : Sets) → StacksSuffice sheet sets → length starts ≡ variables_of sheet → length seeds ≢ variables_of sheet
        → StartRefused wrong_seeds
    result_not2_v : (sheet : Sheet) (sets : Sets) → StacksSuffice sheet sets → length starts ≡ variables_of sheet → length seeds ≡ variables_of sheet
        → length lent.result ≢ 2 * variables_of sheet → StartRefused wrong_result
    -- 11 | a start value or seed not finite (doubles) | the first one's index; seeds from V
    given_not_finite : (sheet : Sheet) (sets : Sets) (i : ℕ) → LengthsRight sheet sets → First (NotFinite A starts seeds) i
        → StartRefused (not_finite_given i)

-- ---- how the machine's steps in turn end

module _ (A : Arithmetic) (job : Job A) where
  -- "a result not finite": the machine came to this row, which has the stop's origin, and the arithmetic refused its operation there
  pub record StoppedThere (row : RowNumber) (stop : Stop A) : Type 0 where
    pub steps : ℕ
    pub state : State A
    pub reached : state_after A steps job.setting (lines_of job.table) job.start ≡ goes_on state
    pub at_row : state.at ≡ row
    pub line : TableRow
    pub rest : List TableLine
    pub there : drop row.index (lines_of job.table) ≡ basic line ∷ rest
    pub comes_from : line.origin ≡ stop.origin
    pub refuses : acted A job.setting line.action state.memory ≡ halted stop.why

  -- it came past the last row, with this memory
  pub record FinishedWith (memory : Memory A) : Type 0 where
    pub steps : ℕ
    pub state : State A
    pub reached : state_after A steps job.setting (lines_of job.table) job.start ≡ goes_on state
    pub past_all : drop state.at.index (lines_of job.table) ≡ []
    pub leaves : state.memory ≡ memory

module _ (A : Arithmetic) (needs : Sets → Sheet → Needs) (job : Sets → Sheet → Job A) (words : List ℕ) (starts seeds : List A.Carrier)
    (lent : Lent A) where
  -- 12 | a result not finite (doubles) | table row, from 0
  pub record Stops (sheet : Sheet) (sets : Sets) (row : RowNumber) : Type 0 where
    pub runnable : Runnable A needs words starts seeds lent sheet sets
    pub stop : Stop A
    pub there : StoppedThere A (job sets sheet) row stop

  -- 0 | done | 0
  pub record Finishes (sheet : Sheet) (sets : Sets) (memory : Memory A) : Type 0 where
    pub runnable : Runnable A needs words starts seeds lent sheet sets
    pub finished : FinishedWith A (job sets sheet) memory

  -- "a run .. uses all"
  pub data RunRefuses : Refusal → Type 0 where
    before_start : {r : Refusal} → StartRefused A needs words starts seeds lent r → RunRefuses r
    result_not_finite : (sheet : Sheet) (sets : Sets) (row : RowNumber) → Stops sheet sets row → RunRefuses (not_finite_result row.index)
