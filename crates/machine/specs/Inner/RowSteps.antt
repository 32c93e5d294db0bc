-- One row of the code, held against one step of the row machine: what each row's answer says, and what every buffer then stands for.
use Rattle.std.specs.Prelude.{ℕ, zero, suc, pred, min, ◌+◌, ◌*◌, ◌≤◌, ◌<◌, Bool, ◌&&◌, cond, ◌≡◌, List, [], ◌∷◌, ◌⊎◌, ◌≢◌, length, get_or, set, drop, eqb}
use Rattle.sheet.specs.declared.RowWords.{RowWords}
use Rattle.std.specs.Prelude.{Result, Ok, Err}
use Rattle.machine.specs.declared.Stuck.{Stuck}
use Rattle.std.specs.Prelude as std
use Rattle.std.proofs.Math.Option.{none, some}
use Rattle.number.specs.Arithmetic.{Arithmetic}
use Rattle.sheet.specs.Bounds.{limit}
use Rattle.sheet.specs.Tree.{while, basic, repeat}
use Rattle.sheet.specs.Rows.{Test, Row, while_kind}
use Rattle.sheet.specs.Answers.{row_said}
use Rattle.sheet.specs.Sheets.{row_at}
use Rattle.table.specs.TableRows.{TableLine, TableRow, Action, whether, on_turn, table_row_of}
use Rattle.machine.specs.Actions.{Attempt, through, halted, stuck, ◌>>=◌, Setting, Try, count_kept, Stop, compared}
use Rattle.machine.specs.Machine.{Repeat, back_to, State, Step, goes_on, ended, stops, sticks, step_at, step}
use Rattle.machine.specs.Inner.Buffers.{Buffers, Cells, cells_of, memory_of, Sound, Does, RoundSizes}
use Rattle.machine.specs.Inner.RowAnswers.{is_stuck, whether_moved, height_after, branch_of}
use Rattle.machine.specs.Inner.RowWords.{action_of}
use Rattle.machine.specs.Inner.RowsHanded.{Holds, Jumps, Suits}
use Rattle.machine.specs.declared.Met.{Met}
use Rattle.machine.specs.declared.Met.TheVariants as met_as
use Rattle.machine.specs.declared.Place.{Place}
use Rattle.machine.specs.declared.Branch.{Branch}
use Rattle.machine.specs.declared.Branch.TheVariants as branch_as
use Rattle.machine.specs.declared.Loop.{Loop}
use Rattle.machine.specs.declared.Pending.{Pending}
use Rattle.machine.specs.declared.Ahead.{Ahead}
use Rattle.machine.specs.declared.Ahead.TheVariants as ahead_as
use Rattle.machine.specs.declared.Acted.{Acted}
use Rattle.machine.specs.declared.Acted.TheVariants as acted
use Rattle.machine.specs.declared.Ended.{Ended}
use Rattle.machine.specs.declared.Ended.TheVariants as ended_as
use Rattle.machine.specs.declared.Ran.{Ran}

-- what is noted of an open loop: twice the turns still to come, and 1 more where its row is asked before each
abbrev pub note_of : Repeat → ℕ
note_of r = 2 * r.left + cond r.asks 1 0

-- what a place of the open loops' array that isn't there is read as
abbrev pub no_loop : Loop
no_loop = record { body = 0; note = 0 }

-- the open loops, nearest first: where the next turn of each begins, and the turns of it still to come
unfoldable pub Nested : (depth : ℕ) → (loops : List Loop) → List Repeat → Type 0
Nested zero loops [] = Unit {0}
Nested zero loops (r ∷ outer) = ⊥
Nested (suc n) loops [] = ⊥
Nested (suc n) loops (r ∷ outer) =
    ((get_or loops n no_loop).body ≡ back_to r) × ((get_or loops n no_loop).note ≡ note_of r) × Nested n loops outer

-- in an array with room for as many as a sheet may nest
pub record Opened (depth : ℕ) (loops : List Loop) (repeats : List Repeat) : Type 0 where
  pub room : limit.depth ≤ length loops
  pub nested : Nested depth loops repeats

-- ---- what the answers of the code stand for

-- the same place with other heights of the two stacks
abbrev pub raised : Place → (height turn_height : ℕ) → Place
raised place height turn_height =
    record { at = place.at; depth = place.depth; values = height; turns = turn_height; left = place.left }

-- the same place at another row, or with another number of open repeats
abbrev pub moved : Place → (at : ℕ) → Place
moved place at = record { at = record { 0 = at }; depth = place.depth; values = place.values; turns = place.turns; left = place.left }

abbrev pub within : Place → (depth : ℕ) → Place
within place depth = record { at = place.at; depth = depth; values = place.values; turns = place.turns; left = place.left }

abbrev pub first_place : (steps : ℕ) → Place
first_place steps = record { at = record { 0 = 0 }; depth = 0; values = 0; turns = 0; left = steps }

abbrev pub left_at : Place → Ended → Ran
left_at place how = record { place = place; ended = how }

-- the place at the row after, with one step fewer left
abbrev pub following : Place → (at left : ℕ) → Place
following place at left = record { at = record { 0 = at }; depth = place.depth; values = place.values; turns = place.turns; left = left }

-- the row before a place, with one step more left
abbrev pub preceding : Place → (at : ℕ) → Place
preceding next at = record { at = record { 0 = at }; depth = next.depth; values = next.values; turns = next.turns; left = suc next.left }

-- What an answer lets expect at the next place says nothing of the row there: it tells a runner what to look for first, and means nothing to the machine.
abbrev pub went_to : Result (Unit {0}) Stuck → Place → Acted
went_to (Ok u) place = acted.On place ahead_as.Any
went_to (Err s) place = acted.Stuck

abbrev pub did_to : {Stop : Type 0} → Result (Unit {0}) Stop → Place → Ahead → Acted
did_to (Ok u) place ahead = acted.On place ahead
did_to (Err s) place ahead = acted.Stopped

abbrev pub values_to : Result ℕ Stuck → Place → Ahead → Acted
values_to (Ok height) place ahead = acted.On (raised place height place.turns) ahead
values_to (Err s) place ahead = acted.Stuck

abbrev pub turns_to : Result ℕ Stuck → Place → Acted
turns_to (Ok height) place = acted.On (raised place place.values height) ahead_as.Any
turns_to (Err s) place = acted.Stuck

-- the answer to an attempt that leads to a place
abbrev pub acted_by : {Why : Type 0} → Attempt Why (Unit {0}) → Place → Ahead → Acted
acted_by (through u) place ahead = acted.On place ahead
acted_by (halted why) place ahead = acted.Stopped
acted_by stuck place ahead = acted.Stuck

-- how many steps are left where the row goes on, whatever it does, and at which row
abbrev pub ActedLeft : (left : ℕ) → Acted → Type 0
ActedLeft left (acted.On next ahead) = suc next.left ≡ left
ActedLeft left acted.Block = Unit {0}
ActedLeft left acted.Stopped = Unit {0}
ActedLeft left acted.Stuck = Unit {0}

abbrev pub ActedAt : (at : ℕ) → Acted → Type 0
ActedAt at (acted.On next ahead) = next.at.0 ≡ at
ActedAt at acted.Block = Unit {0}
ActedAt at acted.Stopped = Unit {0}
ActedAt at acted.Stuck = Unit {0}

abbrev pub CrossedLeft : (left : ℕ) → Result Place Ended → Type 0
CrossedLeft left (Ok next) = suc next.left ≡ left
CrossedLeft left (Err how) = Unit {0}

-- the answer where the machine is stuck
abbrev pub stuck_there : Result Place Ended
stuck_there = Err ended_as.Stuck

-- no straight row stands at this place
abbrev pub NoneStraight : (at : ℕ) → List TableLine → Type 0
NoneStraight at lines = (row : TableRow) (rest : List TableLine) → drop at lines ≡ basic row ∷ rest → ⊥

-- nor is one due, if a step is left at all
abbrev pub NoneDue : Place → List TableLine → Type 0
NoneDue place lines = 0 < place.left → NoneStraight place.at.0 lines

-- how far rows may be done from a place, one after the other: to the last of them, or as many as steps are left
abbrev pub Reaches : (until rows : ℕ) → Place → Type 0
Reaches until rows place = until ≡ min rows (place.at.0 + place.left)

-- ---- what is read at a place of a table

-- the place of the row after it, for which a step is left
pub record Follows (place next : Place) : Type 0 where
  pub left : ℕ
  pub is : next ≡ following place (place.at.0 + 1) left
  pub spends : place.left ≡ suc left

pub record MeetsRow (table : List ℕ) (rows : ℕ) (place : Place) (row : Row) (next : Place) : Type 0 where
  pub follows : Follows place next
  pub within : place.at.0 < rows
  pub said : row ≡ row_at table (1 + place.at.0 * limit.row_words)

-- a row that asks whether a < b: an "if", or a loop with a test
abbrev pub AsksLess : (kind : ℕ) → Type 0
AsksLess kind = (kind ≡ 7) ⊎ (kind ≡ while_kind)

abbrev pub Meets : (table : List ℕ) → (rows : ℕ) → Place → Met → Type 0
Meets table rows place (met_as.Out ended_as.Finished) = (0 < place.left) × (rows ≤ place.at.0)
Meets table rows place (met_as.Out (ended_as.Stopped row)) = ⊥
Meets table rows place (met_as.Out ended_as.Stuck) = ⊥
Meets table rows place (met_as.Out ended_as.Unfinished) = place.left ≡ 0
Meets table rows place (met_as.Ask row next) = MeetsRow table rows place (row_said row) next × AsksLess row.kind
Meets table rows place (met_as.Other row next) = MeetsRow table rows place (row_said row) next × (row.kind ≢ 7) × (row.kind ≢ while_kind)

-- a row of the kind that is expected there
abbrev pub MeetsKind : (table : List ℕ) → (rows : ℕ) → Place → (kind : ℕ) → std.Option (RowWords × Place) → Type 0
MeetsKind table rows place kind (std.Some (row, next)) = MeetsRow table rows place (row_said row) next × (row.kind ≡ kind)
MeetsKind table rows place kind std.None = Unit {0}

-- ---- rows of blocks, in either arithmetic

-- from an "if" or an "else" to where the list of jumps says
pub record JumpsTo (beyond : List ℕ) (at : ℕ) (next : Place) (answer : Result Place Ended) : Type 0 where
  pub there : at < length beyond → answer ≡ Ok (moved next (get_or beyond at 0))
  pub left : CrossedLeft (suc next.left) answer

-- the branch that a comparison picks
abbrev pub BranchesTo : (beyond : List ℕ) → (at : ℕ) → (next : Place) → Branch → Result Place Ended → Type 0
BranchesTo beyond at next branch_as.First answer = answer ≡ Ok next
BranchesTo beyond at next branch_as.Second answer = JumpsTo beyond at next answer

-- the branch that a turn taken back picks
abbrev pub TurnsTo : (beyond : List ℕ) → (at : ℕ) → (next : Place) → Result (Branch × ℕ) Stuck → Result Place Ended → Type 0
TurnsTo beyond at next (Ok (branch, height)) answer = BranchesTo beyond at (raised next next.values height) branch answer
TurnsTo beyond at next (Err s) answer = answer ≡ stuck_there

-- one loop more, whose next turn begins at a row, with what is noted of it
pub record Pushes (body note : ℕ) (next : Place) (loops loops_after : List Loop) (answer : Result Place Ended) : Type 0 where
  pub left : CrossedLeft (suc next.left) answer
  pub full : limit.depth ≤ next.depth → (answer ≡ stuck_there) × (loops_after ≡ loops)
  pub room : next.depth < limit.depth → answer ≡ Ok (within next (suc next.depth))
  pub opened : next.depth < limit.depth → (r : Repeat) (repeats : List Repeat) → back_to r ≡ body → note_of r ≡ note
      → Opened next.depth loops repeats
      → Opened (suc next.depth) loops_after (r ∷ repeats)

-- one of which `count` turns are to run; its body starts at the next row
pub record Opens (count : ℕ) (next : Place) (loops loops_after : List Loop) (answer : Result Place Ended) : Type 0 where
  pub left : CrossedLeft (suc next.left) answer
  pub opens : (m : ℕ) → count ≡ suc m → Pushes next.at.0 (2 * m) next loops loops_after answer

-- the end of a turn: out of the loop, or on to its next turn
pub record Closes (next : Place) (loops loops_after : List Loop) (answer : Result Place Ended) : Type 0 where
  pub left : CrossedLeft (suc next.left) answer
  pub none : Opened next.depth loops [] → (answer ≡ stuck_there) × Opened next.depth loops_after []
  pub out : next.depth ≤ limit.depth → (r : Repeat) (outer : List Repeat)
      → Opened next.depth loops (r ∷ outer)
      → r.left ≡ 0
      → (answer ≡ Ok (within next (pred next.depth))) × Opened (pred next.depth) loops_after outer
  pub back : next.depth ≤ limit.depth → (r : Repeat) (n : ℕ) (outer : List Repeat)
      → Opened next.depth loops (r ∷ outer)
      → r.left ≡ suc n
      → (answer ≡ Ok (moved next (back_to r)))
      × Opened next.depth loops_after (record { start = r.start; asks = r.asks; left = n } ∷ outer)

-- ---- a loop with a test, at its own row

-- it is under way if it is the innermost: how many turns it may then still do, and the loops around it
abbrev pub is_under_way : (at : ℕ) → Repeat → Bool
is_under_way at r = r.asks && eqb r.start.index at

abbrev pub turns_left : (at most : ℕ) → List Repeat → ℕ
turns_left at most [] = most
turns_left at most (r ∷ outer) = cond (is_under_way at r) r.left most

abbrev pub loops_around : (at : ℕ) → List Repeat → List Repeat
loops_around at [] = []
loops_around at (r ∷ outer) = cond (is_under_way at r) outer (r ∷ outer)

pub record Pends (most at depth : ℕ) (loops : List Loop) (found : Pending) : Type 0 where
  pub noted : found.note ≡ 2 * found.left + 1
  pub left : (repeats : List Repeat) → depth ≤ limit.depth → Opened depth loops repeats → found.left ≡ turns_left at most repeats
  pub around : (repeats : List Repeat) → depth ≤ limit.depth → Opened depth loops repeats → Opened found.depth loops (loops_around at repeats)
  pub shallow : found.depth ≤ depth

-- ---- the turn stack

-- a word onto it
pub record PutAway (word height : ℕ) (turns turns_after : List ℕ) (moved : Result ℕ Stuck) : Type 0 where
  pub full : length turns ≤ height → (moved ≡ Err is_stuck) × (turns_after ≡ turns)
  pub goes : height < length turns → (moved ≡ Ok (height + 1)) × (turns_after ≡ set turns height word)

-- the word on top of it
abbrev pub CountThere : (turns : List ℕ) → (height : ℕ) → Result (ℕ × ℕ) Stuck → Type 0
CountThere turns height (Ok (count, top)) = (height ≡ suc top) × (top < length turns) × (count ≡ get_or turns top 0)
CountThere turns height (Err s) = (height ≡ 0) ⊎ (length turns < height)

module _ (A : Arithmetic) where
  -- a count that is kept, if counts are: what it means, and every cell besides
  pub record KeptAs (setting : Setting A) (count : ℕ) (before after : Buffers A) (moved : Result ℕ Stuck) : Type 0 where
    pub meaning : (whether_moved moved >>= λ _. through (memory_of A after)) ≡ count_kept A {Why = Stop A} setting count (memory_of A before)
    pub sound : Sound A setting after
    pub unchanged : moved ≡ Err is_stuck → after ≡ before

  pub record KeepsCount (count : ℕ) (keeps : Bool) (turns : List ℕ) (height : ℕ) (turns_after : List ℕ) (moved : Result ℕ Stuck) : Type 0 where
    pub kept : (setting : Setting A) (store values : List A.Carrier) (value_height : ℕ) (copied : List A.Carrier)
        → setting.keeps_counts ≡ keeps
        → Sound A setting (record { store = store; values = values; height = value_height; turns = turns; turn_height = height; copied = copied })
        → KeptAs setting count (record { store = store; values = values; height = value_height; turns = turns; turn_height = height; copied = copied })
        (record { store = store; values = values; height = value_height; turns = turns_after; turn_height = height_after moved height; copied = copied }) moved

  -- Until row 17 the copies' buffer stands for nothing, so what has been copied is said apart.
  abbrev pub buffers_at : Place → Cells A → (held : List A.Carrier) → Buffers A
  buffers_at place cells held =
      record {
        store = cells.store;
        values = cells.values;
        height = place.values;
        turns = cells.turns;
        turn_height = place.turns;
        copied = held;
      }

  abbrev pub state_at : Place → List Repeat → Cells A → (held : List A.Carrier) → State A
  state_at place repeats cells held = record { at = record { index = place.at.0 }; repeats = repeats; memory = memory_of A (buffers_at place cells held) }

  -- a row copies nothing out, or all that its buffer then holds
  abbrev pub CopiesOn : (former : List A.Carrier) → (before : Cells A) → (held : List A.Carrier) → (after : Cells A) → Type 0
  CopiesOn former before held after = ((held ≡ former) × (after.copied ≡ before.copied)) ⊎ (held ≡ after.copied)

  -- ---- one row

  -- A straight row's action: what it came to, and the buffers after it. `next` is the place of the row after it.
  pub record Acts (setting : Setting A) (action : Action) (next : Place) (before after : Cells A) (former : List A.Carrier) (answer : Acted) : Type 0 where
    pub went : Try A (Unit {0})
    pub height : ℕ
    pub turn_height : ℕ
    pub held : List A.Carrier
    pub ahead : Ahead
    pub answers : answer ≡ acted_by went (raised next height turn_height) ahead
    pub does : Does A setting action (buffers_at next before former) (buffers_at (raised next height turn_height) after held) went
    pub copies : CopiesOn former before held after

  -- the row's words say which action it is, or none
  pub record ActsBy (row : Row) (roles constants : List ℕ) (seeds : List A.Carrier) (next : Place) (before after : Cells A) (answer : Acted)
      : Type 0 where
    pub left : ActedLeft (suc next.left) answer
    pub at : ActedAt next.at.0 answer
    pub acts : (setting : Setting A) (action : Action) (former : List A.Carrier)
        → action_of row ≡ some action
        → Suits A roles constants seeds setting
        → RoundSizes A roles seeds before.store before.copied
        → Sound A setting (buffers_at next before former)
        → Acts setting action next before after former answer
    pub other : action_of row ≡ none → (answer ≡ acted.Block) × (after ≡ before)

  -- a row that does not go through leaves all as it stood
  abbrev pub Stays : Place → (before after : Cells A) → (former held : List A.Carrier) → Type 0
  Stays place before after former held = buffers_at place after held ≡ buffers_at place before former

  -- a stop at this row
  pub record StopsAt (at : ℕ) (found : Step A) : Type 0 where
    pub stop : Stop A
    pub is : found ≡ stops (record { index = at }) stop

  -- the machine is stuck, or opens one repeat more than there is room for
  abbrev pub Blocked : Step A → Type 0
  Blocked (goes_on state) = limit.depth < length state.repeats
  Blocked (ended memory) = ⊥
  Blocked (stops row stop) = ⊥
  Blocked sticks = Unit {0}

  -- the step goes on to a place, with one step fewer left
  pub record GoesTo (setting : Setting A) (place next : Place) (repeats : List Repeat) (after : Cells A) (held : List A.Carrier) (found : Step A)
      : Type 0 where
    pub is : found ≡ goes_on (state_at next repeats after held)
    pub fewer : place.left ≡ suc next.left
    pub sound : Sound A setting (buffers_at next after held)

  -- What an answer says of the machine's step. A row that is none of the straight ones is left alone.
  abbrev pub ActedSays : Setting A → List TableLine → Place → List Repeat → (before after : Cells A) → (former held : List A.Carrier)
      → Step A → Acted → Type 0
  ActedSays setting lines place repeats before after former held found (acted.On next ahead) =
      (next.depth ≡ place.depth) × GoesTo setting place next repeats after held found
  ActedSays setting lines place repeats before after former held found acted.Block =
      NoneDue place lines × (after ≡ before) × (held ≡ former)
  ActedSays setting lines place repeats before after former held found acted.Stopped =
      (0 < place.left) × StopsAt place.at.0 found × Stays place before after former held
  ActedSays setting lines place repeats before after former held found acted.Stuck =
      (0 < place.left) × Blocked found × Stays place before after former held

  pub record StepsStraight (setting : Setting A) (lines : List TableLine) (place : Place) (repeats : List Repeat) (before after : Cells A)
      (former : List A.Carrier) (answer : Acted) : Type 0 where
    pub held : List A.Carrier
    pub says : ActedSays setting lines place repeats before after former held (step A setting lines (state_at place repeats before former)) answer
    pub copies : CopiesOn former before held after

  -- a straight row at a place, as far as rows may be done, under whatever setting and lines the table stands for
  pub record StraightRow (table : List ℕ) (until : ℕ) (roles constants : List ℕ) (seeds : List A.Carrier) (place : Place)
      (before after : Cells A) (answer : Acted) : Type 0 where
    pub left : ActedLeft place.left answer
    pub at : ActedAt (suc place.at.0) answer
    pub steps : (setting : Setting A) (lines : List TableLine) (repeats : List Repeat) (former : List A.Carrier)
        → Holds table lines
        → Reaches until (length lines) place
        → Suits A roles constants seeds setting
        → RoundSizes A roles seeds before.store before.copied
        → Sound A setting (buffers_at place before former)
        → StepsStraight setting lines place repeats before after former answer

  -- Peeking at a place: nothing is done, or the straight row that stands there, which goes on and changes the variables alone.
  pub record Peeks (table : List ℕ) (until : ℕ) (place : Place) (store store_after : List A.Carrier) (answer : Place) : Type 0 where
    pub peeks : (roles constants : List ℕ) (seeds values : List A.Carrier) (turns : List ℕ) (copied : List A.Carrier)
        → ((answer ≡ place) × (store_after ≡ store))
        ⊎ StraightRow table until roles constants seeds place (cells_of A store values turns copied) (cells_of A store_after values turns copied)
        (acted.On answer ahead_as.Any)

  -- and at the place that this leads to once more
  pub record PeeksOn (table : List ℕ) (until : ℕ) (place : Place) (store store_after : List A.Carrier) (answer : Place) : Type 0 where
    pub between : Place
    pub midway : List A.Carrier
    pub long : length midway ≡ length store
    pub first : Peeks table until place store midway between
    pub second : Peeks table until between midway store_after answer

  -- a row of a block goes on with the repeats that are then open
  pub record CrossesTo (setting : Setting A) (place next : Place) (loops : List Loop) (after : Cells A) (held : List A.Carrier) (found : Step A)
      : Type 0 where
    pub repeats : List Repeat
    pub opened : Opened next.depth loops repeats
    pub goes : GoesTo setting place next repeats after held found

  -- where the run is left the same repeats are open
  pub record Rests (place : Place) (repeats : List Repeat) (loops : List Loop) (before after : Cells A) (held : List A.Carrier) : Type 0 where
    pub opened : Opened place.depth loops repeats
    pub stays : Stays place before after held held

  abbrev pub CrossedSays : Setting A → Place → List Repeat → (loops : List Loop) → (before after : Cells A) → (held : List A.Carrier)
      → Step A → Result Place Ended → Type 0
  CrossedSays setting place repeats loops before after held found (Ok next) =
      CrossesTo setting place next loops after held found
  CrossedSays setting place repeats loops before after held found (Err ended_as.Finished) =
      (0 < place.left) × (found ≡ ended (memory_of A (buffers_at place after held))) × Rests place repeats loops before after held
  CrossedSays setting place repeats loops before after held found (Err (ended_as.Stopped row)) = ⊥
  CrossedSays setting place repeats loops before after held found (Err ended_as.Stuck) =
      (0 < place.left) × Blocked found × Rests place repeats loops before after held
  CrossedSays setting place repeats loops before after held found (Err ended_as.Unfinished) =
      (place.left ≡ 0) × Rests place repeats loops before after held

  -- The rows of blocks change the turn stack and the open repeats alone.
  pub record BlockRow (table : List ℕ) (rows : ℕ) (beyond : List ℕ) (keeps : Bool) (place : Place) (store : List A.Carrier)
      (turns : List ℕ) (loops : List Loop) (turns_after : List ℕ) (loops_after : List Loop) (answer : Result Place Ended) : Type 0 where
    pub left : CrossedLeft place.left answer
    pub steps : (setting : Setting A) (lines : List TableLine) (repeats : List Repeat) (values copied held : List A.Carrier)
        → Holds table lines
        → length lines ≡ rows
        → Jumps lines beyond
        → NoneDue place lines
        → setting.keeps_counts ≡ keeps
        → Opened place.depth loops repeats
        → place.depth ≤ limit.depth
        → Sound A setting (buffers_at place (cells_of A store values turns copied) held)
        → CrossedSays setting place repeats loops_after (cells_of A store values turns copied) (cells_of A store values turns_after copied) held
        (step A setting lines (state_at place repeats (cells_of A store values turns copied) held)) answer

  -- the same of the line that a row's words say, but for the comparison; `next` is the place of the row after it
  pub record CrossesBy (row : Row) (beyond : List ℕ) (at : ℕ) (next : Place) (turns : List ℕ) (loops : List Loop) (turns_after : List ℕ) (loops_after : List Loop)
      (answer : Result Place Ended) : Type 0 where
    pub left : CrossedLeft (suc next.left) answer
    pub crosses : (setting : Setting A) (lines rest : List TableLine) (line : TableLine) (repeats : List Repeat) (store values copied held : List A.Carrier)
        → table_row_of line ≡ row
        → row.kind ≢ 7
        → row.kind ≢ while_kind
        → next.at.0 ≡ suc at
        → drop at lines ≡ line ∷ rest
        → Jumps lines beyond
        → NoneStraight at lines
        → Opened next.depth loops repeats
        → next.depth ≤ limit.depth
        → Sound A setting (buffers_at next (cells_of A store values turns copied) held)
        → CrossedSays setting (preceding next at) repeats loops_after (cells_of A store values turns copied)
        (cells_of A store values turns_after copied) held
        (step_at A setting (state_at (preceding next at) repeats (cells_of A store values turns copied) held) (line ∷ rest)) answer

  -- ---- loops with a test and loops on a count

  -- one step at a line that stands at a row, from what the code has done there
  abbrev pub StepsTo : Setting A → (line : TableLine) (rest : List TableLine) → (at : ℕ) → (next : Place) → List Repeat → (before after : Cells A)
      → (held : List A.Carrier) → (loops : List Loop) → Result Place Ended → Type 0
  StepsTo setting line rest at next repeats before after held loops answer =
      CrossedSays setting (preceding next at) repeats loops before after held
      (step_at A setting (state_at (preceding next at) repeats before held) (line ∷ rest)) answer

  -- the end of a loop with a test after so many turns, among the loops around it
  pub record EndsLoop (count : ℕ) (keeps : Bool) (beyond : List ℕ) (at : ℕ) (next : Place) (turns turns_after : List ℕ) (answer : Result Place Ended) : Type 0 where
    pub left : CrossedLeft (suc next.left) answer
    pub moved : Result ℕ Stuck
    pub keeping : KeepsCount count keeps turns next.turns turns_after moved
    pub goes : (height : ℕ) → moved ≡ Ok height → JumpsTo beyond at (raised next next.values height) answer
    pub sticks : moved ≡ Err is_stuck → answer ≡ stuck_there

  -- kind 19, from the branch that its comparison picks
  pub record AsksLoop (branch : Branch) (most : ℕ) (keeps : Bool) (beyond : List ℕ) (at : ℕ) (next : Place)
      (turns : List ℕ) (loops : List Loop) (turns_after : List ℕ) (loops_after : List Loop) (answer : Result Place Ended) : Type 0 where
    pub left : CrossedLeft (suc next.left) answer
    pub asks : (setting : Setting A) (lines rest : List TableLine) (f : Test) (m : ℕ) (repeats : List Repeat) (store values copied held : List A.Carrier)
        → most ≡ suc m
        → compared A f store ≡ branch_of branch
        → next.at.0 ≡ suc at
        → drop at lines ≡ repeat (while (whether f) m) ∷ rest
        → Jumps lines beyond
        → setting.keeps_counts ≡ keeps
        → Opened next.depth loops repeats
        → next.depth ≤ limit.depth
        → Sound A setting (buffers_at next (cells_of A store values turns copied) held)
        → StepsTo setting (repeat (while (whether f) m)) rest at next repeats (cells_of A store values turns copied) (cells_of A store values turns_after copied)
        held loops_after answer

  -- a row that asks, whichever it is; an "if" leaves the loops and the turns alone
  pub record AsksRow (branch : Branch) (row : Row) (keeps : Bool) (beyond : List ℕ) (at : ℕ) (next : Place)
      (turns : List ℕ) (loops : List Loop) (turns_after : List ℕ) (loops_after : List Loop) (answer : Result Place Ended) : Type 0 where
    pub picks : row.kind ≡ 7 → BranchesTo beyond at next branch answer × (turns_after ≡ turns) × (loops_after ≡ loops)
    pub asks : row.kind ≢ 7 → AsksLoop branch row.d keeps beyond at next turns loops turns_after loops_after answer

  -- kind 20, whatever number of turns its loop does at most
  pub record OnCount (beyond : List ℕ) (at : ℕ) (next : Place) (turns : List ℕ) (loops : List Loop) (turns_after : List ℕ) (loops_after : List Loop) (answer : Result Place Ended) : Type 0 where
    pub left : CrossedLeft (suc next.left) answer
    pub takes : (setting : Setting A) (lines rest : List TableLine) (m : ℕ) (repeats : List Repeat) (store values copied held : List A.Carrier)
        → next.at.0 ≡ suc at
        → drop at lines ≡ repeat (while on_turn m) ∷ rest
        → Jumps lines beyond
        → Opened next.depth loops repeats
        → next.depth ≤ limit.depth
        → Sound A setting (buffers_at next (cells_of A store values turns copied) held)
        → StepsTo setting (repeat (while on_turn m)) rest at next repeats (cells_of A store values turns copied) (cells_of A store values turns_after copied)
        held loops_after answer
