-- The row machine: one step a row, and a run as the steps in turn. 01: "each single row's step is shown to give the state of that row's written
-- meaning, and a run is those steps in turn".
use Prim.Native.Nat.{ℕ, zero, suc, ◌+◌, ◌*◌, ◌-◌, max}
use Rattle.std.specs.Prelude.{Bool, true, false, ◌&&◌, cond, drop, eqb}
use mathlib.Core.List.{List, [], ◌∷◌}
use Rattle.std.proofs.Math.Option.{Option, none, some}
use Rattle.number.specs.Arithmetic.{Arithmetic}
use Rattle.sheet.specs.Tree.{times, while, Tree, done, one, fork, again, Line, basic, if_line, else_line, end_if, repeat, end_repeat, RowNumber}
use Rattle.table.specs.TableRows.{TableLine, whether, on_turn}
use Rattle.machine.specs.Actions.{Attempt, through, halted, stuck, Memory, Setting, with_turns, count_kept, Stop, stopping_at, Verdict, acted, compared, tested}

-- ---- from an "if" past its "else", from an "else" past its "end if", and from a loop's first row past its last

pub data Sought : Type 0 where
  its_else : Sought
  its_end : Sought

abbrev pub one_more : Option ℕ → Option ℕ
one_more none = none
one_more (some n) = some (suc n)

-- how many of these lines lie up to and with the one sought, inside so many further "if" blocks
module _ {B F : Type 0} where
  unfoldable pub seek : Sought → ℕ → List (Line B F) → Option ℕ
  seek sought n [] = none
  seek sought n (basic b ∷ lines) = one_more (seek sought n lines)
  seek sought n (repeat m ∷ lines) = one_more (seek sought n lines)
  seek sought n (end_repeat ∷ lines) = one_more (seek sought n lines)
  seek sought n (if_line f ∷ lines) = one_more (seek sought (suc n) lines)
  seek sought (suc n) (else_line ∷ lines) = one_more (seek sought (suc n) lines)
  seek its_else zero (else_line ∷ lines) = some 1
  seek its_end zero (else_line ∷ lines) = none
  seek sought (suc n) (end_if ∷ lines) = one_more (seek sought n lines)
  seek its_else zero (end_if ∷ lines) = none
  seek its_end zero (end_if ∷ lines) = some 1

  -- how many of these lines lie up to and with the one that closes a loop, inside so many further loops
  unfoldable pub seek_close : ℕ → List (Line B F) → Option ℕ
  seek_close n [] = none
  seek_close n (basic b ∷ lines) = one_more (seek_close n lines)
  seek_close n (if_line f ∷ lines) = one_more (seek_close n lines)
  seek_close n (else_line ∷ lines) = one_more (seek_close n lines)
  seek_close n (end_if ∷ lines) = one_more (seek_close n lines)
  seek_close n (repeat m ∷ lines) = one_more (seek_close (suc n) lines)
  seek_close (suc n) (end_repeat ∷ lines) = one_more (seek_close n lines)
  seek_close zero (end_repeat ∷ lines) = some 1

-- A loop under way: its row, whether that is asked before each turn, and the turns still to come: after this one, or with this one where the row is asked.
pub record Repeat : Type 0 where
  pub start : RowNumber
  pub asks : Bool
  pub left : ℕ

-- the row that the next turn begins with
abbrev pub back_to : Repeat → ℕ
back_to r = cond r.asks r.start.index (suc r.start.index)

module _ (A : Arithmetic) where
  pub record State : Type 0 where
    pub at : RowNumber
    pub repeats : List Repeat
    pub memory : Memory A

  -- what one step, or so many in turn, come to. A stop names its table row, from 0.
  pub data Step : Type 0 where
    goes_on : State → Step
    ended : Memory A → Step
    stops : RowNumber → Stop A → Step
    sticks : Step

  -- to the row of this number
  abbrev pub go_to : ℕ → List Repeat → Memory A → Step
  go_to at repeats memory = goes_on (record { at = record { index = at }; repeats = repeats; memory = memory })

  abbrev pub jump : State → Memory A → Option ℕ → Step
  jump state memory none = sticks
  jump state memory (some n) = go_to (state.at.index + n) state.repeats memory

  abbrev pub after_action : State → Attempt (Stop A) (Memory A) → Step
  after_action state (through memory) = go_to (suc state.at.index) state.repeats memory
  after_action state (halted stop) = stops state.at stop
  after_action state stuck = sticks

  -- the branch that a test picks; the rest are the lines after the test
  abbrev pub branch_to : State → List TableLine → Bool → Memory A → Step
  branch_to state rest true memory = go_to (suc state.at.index) state.repeats memory
  branch_to state rest false memory = jump state memory (one_more (seek its_else 0 rest))

  abbrev pub after_test : State → List TableLine → Option (Verdict A) → Step
  after_test state rest none = sticks
  after_test state rest (some verdict) = branch_to state rest verdict.first verdict.memory

  abbrev pub after_turn : State → List Repeat → Step
  after_turn state [] = sticks
  after_turn state (r ∷ outer) = turn r.left
    where
      turn : ℕ → Step
      turn zero = go_to (suc state.at.index) outer state.memory
      turn (suc n) = go_to (back_to r) (record { start = r.start; asks = r.asks; left = n } ∷ outer) state.memory

  -- past a loop's last row, with these loops around it; the rest are the lines after its first
  abbrev pub past_loop : State → List TableLine → List Repeat → Memory A → Step
  past_loop state rest outer memory = jump (record { at = state.at; repeats = outer; memory = memory }) memory (one_more (seek_close 0 rest))

  -- how many turns a loop with a test may still do, and the loops around it: it is under way if it is the innermost
  pub record Pending : Type 0 where
    pub left : ℕ
    pub outer : List Repeat

  abbrev pub pending : State → (most : ℕ) → List Repeat → Pending
  pending state most [] = record { left = most; outer = [] }
  pending state most (r ∷ outer) =
      cond (r.asks && eqb r.start.index state.at.index) (record { left = r.left; outer = outer }) (record { left = most; outer = r ∷ outer })

  -- "When the loop ends, its own row puts the turns done .. on the turn stack"
  abbrev pub loop_ends : State → List TableLine → List Repeat → Attempt (Stop A) (Memory A) → Step
  loop_ends state rest outer (through memory) = past_loop state rest outer memory
  loop_ends state rest outer (halted stop) = stops state.at stop
  loop_ends state rest outer stuck = sticks

  -- the test's answer, with n + 1 turns still allowed
  abbrev pub answered : Setting A → State → List TableLine → (most n : ℕ) → List Repeat → Option Bool → Step
  answered setting state rest most n outer none = sticks
  answered setting state rest most n outer (some true) =
      go_to (suc state.at.index) (record { start = state.at; asks = true; left = suc n } ∷ outer) state.memory
  answered setting state rest most n outer (some false) = loop_ends state rest outer (count_kept A setting (most - suc n) state.memory)

  -- "The test comes before each turn; after d turns the loop ends without a further test."
  abbrev pub asked : Setting A → State → List TableLine → (most left : ℕ) → List Repeat → Option Bool → Step
  asked setting state rest most zero outer holds = loop_ends state rest outer (count_kept A setting most state.memory)
  asked setting state rest most (suc n) outer holds = answered setting state rest most n outer holds

  -- kind 20 "takes a count back and repeats that often"
  abbrev pub on_count : State → List TableLine → List ℕ → Step
  on_count state rest [] = sticks
  on_count state rest (zero ∷ turns) = past_loop state rest state.repeats (with_turns A state.memory turns)
  on_count state rest (suc n ∷ turns) =
      go_to (suc state.at.index) (record { start = state.at; asks = false; left = n } ∷ state.repeats) (with_turns A state.memory turns)

  -- the lines from this row on
  unfoldable pub step_at : Setting A → State → List TableLine → Step
  unfolding acted compared tested seek seek_close
  step_at setting state [] = ended state.memory
  step_at setting state (basic row ∷ rest) = after_action state (stopping_at A row.origin (acted A setting row.action state.memory))
  step_at setting state (if_line test ∷ rest) = after_test state rest (tested A test state.memory)
  step_at setting state (else_line ∷ rest) = jump state state.memory (one_more (seek its_end 0 rest))
  step_at setting state (end_if ∷ rest) = go_to (suc state.at.index) state.repeats state.memory
  step_at setting state (repeat (times m) ∷ rest) =
      go_to (suc state.at.index) (record { start = state.at; asks = false; left = m } ∷ state.repeats) state.memory
  step_at setting state (repeat (while (whether f) m) ∷ rest) =
      let now = pending state (suc m) state.repeats in
      asked setting state rest (suc m) now.left now.outer (compared A f state.memory.store)
  step_at setting state (repeat (while on_turn m) ∷ rest) = on_count state rest state.memory.turns
  step_at setting state (end_repeat ∷ rest) = after_turn state state.repeats

  unfoldable pub step : Setting A → List TableLine → State → Step
  unfolding step_at
  step setting lines state = step_at setting state (drop state.at.index lines)

  -- ---- the steps in turn

  abbrev pub if_it_goes_on : Step → (State → Step) → Step
  if_it_goes_on (goes_on state) next = next state
  if_it_goes_on (ended memory) next = ended memory
  if_it_goes_on (stops row stop) next = stops row stop
  if_it_goes_on sticks next = sticks

  -- what n steps in turn come to: a step that does not go on is the last. "the first result that isn't finite ends the run"
  unfoldable pub state_after : (n : ℕ) → Setting A → List TableLine → State → Step
  unfolding step
  state_after zero setting lines state = goes_on state
  state_after (suc n) setting lines state = if_it_goes_on (step setting lines state) (λ next. state_after n setting lines next)

-- How many steps a tree takes at most, if no loop takes back a count above the most turns that it does; a run takes one more, which ends it.
unfoldable pub steps_of : {B F : Type 0} → Tree B F → ℕ
steps_of done = 0
steps_of (one b k) = 1 + steps_of k
steps_of (fork f a b k) = 2 + max (steps_of a) (steps_of b) + steps_of k
steps_of (again (times m) a k) = 1 + suc m * (steps_of a + 1) + steps_of k
steps_of (again (while f m) a k) = 1 + suc m * (steps_of a + 2) + steps_of k
