-- Reading words left to right: the sheet that they are, or refusals 1 to 7, each at its place; and 13, in audit.
use Rattle.std.specs.Prelude.{ℕ, suc, ◌+◌, ◌*◌, Bool, true, false, not, ◌&&◌, List, [], ◌∷◌, length, get_or, take, drop, leb, ltb, eqb}
use Rattle.std.proofs.Math.Option.{Option, none, some}
use Rattle.sheet.specs.Bounds.{limit}
use Rattle.sheet.specs.Refusals.{words_end, words_left, count_beyond, role_above, bad_row, bad_block, too_long, holds_quotient}
use Rattle.sheet.specs.Tree.{Loop, Tree, done, one, fork, again, basic, if_line, else_line, end_if, repeat, end_repeat, longest_run}
use Rattle.sheet.specs.Rows.{Assignment, Test, SheetLine, Row, Slot, variable, constant, turns, unused, Kind, kind_of, quotient_kind}
use Rattle.sheet.specs.Sheets.{Sheet, first_row, rows_at}
use Rattle.sheet.specs.Judging.{Answer, refused, given, ◌>>=◌, unless}

-- ---- counts and sections

-- "A count is judged (1, then 3) before its section's length (1), that before the items": the count at a place, from low to high,
-- of items of so many words each.
unfoldable pub count_at : List ℕ → (place low high width : ℕ) → Answer ℕ
count_at words place low high width = do
  let count = get_or words place 0
  _ ← unless (ltb place (length words)) (words_end place)
  _ ← unless (leb low count && leb count high) (count_beyond place)
  _ ← unless (leb (suc place + count * width) (length words)) (words_end (suc place))
  given count

-- "role above 3 | the word"
unfoldable pub roles_fit : List ℕ → (place : ℕ) → Answer (Unit {0})
roles_fit [] place = given tt
roles_fit (role ∷ roles) place = do
  _ ← unless (leb role limit.greatest_role) (role_above place)
  roles_fit roles (suc place)

-- ---- rows into blocks

-- A row or a whole block that has been read, and what is still open: for each open block what stood before it, nearest first.
pub data Item : Type 0 where
  row : Assignment → Item
  branches : Test → Tree Assignment Test → Tree Assignment Test → Item
  repeated : Loop Test → Tree Assignment Test → Item

pub data Block : Type 0 where
  in_first : Test → List Item → Block
  in_second : Test → Tree Assignment Test → List Item → Block
  in_repeat : Loop Test → List Item → Block

-- the items read in a block, nearest first, and then `rest`
unfoldable pub closed : List Item → Tree Assignment Test → Tree Assignment Test
closed [] rest = rest
closed (row b ∷ items) rest = closed items (one b rest)
closed (branches f a b ∷ items) rest = closed items (fork f a b rest)
closed (repeated l a ∷ items) rest = closed items (again l a rest)

pub record RowsTaken : Type 0 where
  pub blocks : List Block
  pub items : List Item

-- "absent variable or constant, repeat count not 1 to 1000, unused word not 0"; of kind 19 "d from 1 to 1000 (else 5)" (02 §6)
unfoldable pub fits : (variables constants : ℕ) → Slot → ℕ → Bool
fits v k variable word = ltb word v
fits v k constant word = ltb word k
fits v k turns word = leb 1 word && leb word limit.turns
fits v k unused word = eqb word 0

unfoldable pub words_fit : (variables constants : ℕ) → Kind → Row → Bool
unfolding fits
words_fit v k kind r = fits v k kind.d r.d && fits v k kind.a r.a && fits v k kind.b r.b

-- "kind not 1 to 11", nor 18 or 19, or a word that doesn't fit its slot: 5
unfoldable pub line_by : (variables constants : ℕ) → Option Kind → Row → (place : ℕ) → Answer SheetLine
unfolding words_fit
line_by v k none r place = refused (bad_row place)
line_by v k (some kind) r place = do
  _ ← unless (words_fit v k kind r) (bad_row place)
  given (kind.means r.d r.a r.b)

unfoldable pub line_of : (variables constants : ℕ) → Row → (place : ℕ) → Answer SheetLine
unfolding kind_of line_by
line_of v k r place = line_by v k (kind_of r.kind) r place

-- "a block closed or split wrongly .. or a ninth level opened": 6
unfoldable pub entered : Block → (place : ℕ) → List Block → Answer RowsTaken
entered block place blocks = do
  _ ← unless (ltb (length blocks) limit.depth) (bad_block place)
  given (record { blocks = block ∷ blocks; items = [] })

unfoldable pub split_at : (place : ℕ) → List Block → List Item → Answer RowsTaken
unfolding closed
split_at place [] items = refused (bad_block place)
split_at place (in_first f outer ∷ blocks) items = given (record { blocks = in_second f (closed items done) outer ∷ blocks; items = [] })
split_at place (in_second f a outer ∷ blocks) items = refused (bad_block place)
split_at place (in_repeat l outer ∷ blocks) items = refused (bad_block place)

unfoldable pub if_ended_at : (place : ℕ) → List Block → List Item → Answer RowsTaken
unfolding closed
if_ended_at place [] items = refused (bad_block place)
if_ended_at place (in_first f outer ∷ blocks) items = refused (bad_block place)
if_ended_at place (in_second f a outer ∷ blocks) items = given (record { blocks = blocks; items = branches f a (closed items done) ∷ outer })
if_ended_at place (in_repeat l outer ∷ blocks) items = refused (bad_block place)

unfoldable pub repeat_ended_at : (place : ℕ) → List Block → List Item → Answer RowsTaken
unfolding closed
repeat_ended_at place [] items = refused (bad_block place)
repeat_ended_at place (in_first f outer ∷ blocks) items = refused (bad_block place)
repeat_ended_at place (in_second f a outer ∷ blocks) items = refused (bad_block place)
repeat_ended_at place (in_repeat l outer ∷ blocks) items = given (record { blocks = blocks; items = repeated l (closed items done) ∷ outer })

unfoldable pub taken : SheetLine → (place : ℕ) → List Block → List Item → Answer RowsTaken
unfolding entered split_at if_ended_at repeat_ended_at
taken (basic b) place blocks items = given (record { blocks = blocks; items = row b ∷ items })
taken (if_line f) place blocks items = entered (in_first f items) place blocks
taken else_line place blocks items = split_at place blocks items
taken end_if place blocks items = if_ended_at place blocks items
taken (repeat l) place blocks items = entered (in_repeat l items) place blocks
taken end_repeat place blocks items = repeat_ended_at place blocks items

-- "At a row 5 comes before 6"; "never closed: the index after the rows"
unfoldable pub body_of : (variables constants : ℕ) → List Row → (place : ℕ) → List Block → List Item → Answer (Tree Assignment Test)
unfolding closed line_of taken
body_of v k [] place [] items = given (closed items done)
body_of v k [] place (block ∷ blocks) items = refused (bad_block place)
body_of v k (r ∷ rs) place blocks items = do
  line ← line_of v k r place
  next ← taken line place blocks items
  body_of v k rs (place + limit.row_words) next.blocks next.items

-- ---- the whole sheet

-- "The words are read left to right." "After the rows: 6 for never closed, then 2, 7".
unfoldable pub read : List ℕ → Answer Sheet
unfolding count_at roles_fit rows_at body_of longest_run
read words = do
  v ← count_at words 0 limit.fewest_variables limit.variables 1
  let roles = take v (drop 1 words)
  _ ← roles_fit roles 1
  let constant_count = 1 + v
  k ← count_at words constant_count 0 limit.constants 1
  let row_count = constant_count + 1 + k
  n ← count_at words row_count 0 limit.rows limit.row_words
  let rows = rows_at words (suc row_count) n
  let after_rows = suc row_count + n * limit.row_words
  body ← body_of v k rows (suc row_count) [] []
  _ ← unless (leb (length words) after_rows) (words_left after_rows)
  _ ← unless (leb (longest_run body) limit.longest_run) too_long
  given (record { roles = roles; constants = take k (drop (suc constant_count) words); rows = rows; body = body })

-- ---- for an arithmetic without quotients (02 §4)

-- "Audit refuses a sheet that holds kind 18 with a new 13, place the first such row's first word": rows whose first stands at this place
unfoldable pub undivided : List Row → (place : ℕ) → Answer (Unit {0})
undivided [] place = given tt
undivided (r ∷ rs) place = do
  _ ← unless (not (eqb r.kind quotient_kind)) (holds_quotient place)
  undivided rs (place + limit.row_words)

-- "after 7 and before 8"
unfoldable pub read_in : (divides : Bool) → List ℕ → Answer Sheet
unfolding read undivided
read_in true words = read words
read_in false words = do
  sheet ← read words
  _ ← undivided sheet.rows (first_row sheet)
  given sheet
