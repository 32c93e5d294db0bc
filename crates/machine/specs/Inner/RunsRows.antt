-- A run of the code is the row machine's steps in turn: after any number of them, or where the run ended before that, place, heights, open repeats
-- and buffers are the machine's state.
use Rattle.std.specs.Prelude.{ℕ, ◌+◌, ◌<◌, ◌≡◌, Bool, List, [], length}
use Rattle.number.specs.Arithmetic.{Arithmetic}
use Rattle.table.specs.TableRows.{TableLine}
use Rattle.machine.specs.Actions.{Memory, Setting}
use Rattle.machine.specs.Machine.{Repeat, State, Step, goes_on, ended, sticks, step, state_after}
use Rattle.machine.specs.Inner.Buffers.{Cells, memory_of, Sound, RoundSizes}
use Rattle.machine.specs.Inner.RowsHanded.{Holds, Jumps, Suits, Shallow}
use Rattle.machine.specs.Inner.RowSteps.{Opened, buffers_at, state_at, CopiesOn, StopsAt}
use Rattle.machine.specs.declared.Loop.{Loop}
use Rattle.machine.specs.declared.Place.{Place}
use Rattle.machine.specs.declared.Ran.{Ran}
use Rattle.machine.specs.declared.Ended.{Ended}
use Rattle.machine.specs.declared.Ended.TheVariants as ended_as

module _ (A : Arithmetic) where
  abbrev pub first_state : Memory A → State A
  first_state start = record { at = record { index = 0 }; repeats = []; memory = start }

  -- what the runner is handed: a table's rows with their jumps, a setting, buffers of a run's sizes with empty stacks, and no more open
  -- repeats at any step than it has room for
  pub record Handed (table : List ℕ) (count : ℕ) (beyond : List ℕ) (keeps : Bool) (roles constants : List ℕ) (seeds : List A.Carrier) (cells : Cells A)
      (setting : Setting A) (lines : List TableLine) (start : Memory A) : Type 0 where
    pub holds : Holds table lines
    pub rows : length lines ≡ count
    pub jumps : Jumps lines beyond
    pub keeping : setting.keeps_counts ≡ keeps
    pub suits : Suits A roles constants seeds setting
    pub sizes : RoundSizes A roles seeds cells.store cells.copied
    pub store : start.store ≡ cells.store
    pub values : start.values ≡ []
    pub turns : start.turns ≡ []
    pub sound : Sound A setting (record { store = cells.store; values = cells.values; height = 0; turns = cells.turns; turn_height = 0; copied = start.copied })
    pub shallow : Shallow A setting lines (first_state start)

  -- A place, the buffers and the open repeats are the machine's state after as many steps as are no longer left. Until row 17 the copies' buffer
  -- is as it was at first.
  pub record AfterSteps (setting : Setting A) (lines : List TableLine) (start : Memory A) (steps : ℕ) (first : Cells A) (place : Place)
      (cells : Cells A) (loops : List Loop) : Type 0 where
    pub taken : ℕ
    pub spent : taken + place.left ≡ steps
    pub repeats : List Repeat
    pub held : List A.Carrier
    pub is : state_after A taken setting lines (first_state start) ≡ goes_on (state_at A place repeats cells held)
    pub opened : Opened place.depth loops repeats
    pub sound : Sound A setting (buffers_at A place cells held)
    pub copies : CopiesOn A start.copied first held cells

  -- why the run goes no further: what the step comes to that would be next, or that none is left
  abbrev pub LeavesBy : Place → Memory A → (next : Step A) → Ended → Type 0
  LeavesBy place memory next ended_as.Finished = (0 < place.left) × (next ≡ ended memory)
  LeavesBy place memory next (ended_as.Stopped row) = (0 < place.left) × (row.0 ≡ place.at.0) × StopsAt A place.at.0 next
  LeavesBy place memory next ended_as.Stuck = (0 < place.left) × (next ≡ sticks)
  LeavesBy place memory next ended_as.Unfinished = place.left ≡ 0

  pub record Leaves (setting : Setting A) (lines : List TableLine) (start : Memory A) (steps : ℕ) (first after : Cells A) (loops : List Loop)
      (answer : Ran) : Type 0 where
    pub stands : AfterSteps setting lines start steps first answer.place after loops
    pub why : LeavesBy answer.place (memory_of A (buffers_at A answer.place after stands.held))
        (step A setting lines (state_at A answer.place stands.repeats after stands.held)) answer.ended

  -- the runner's contract
  abbrev pub RunsRows : (table : List ℕ) → (rows : ℕ) → (beyond : List ℕ) → (keeps : Bool) → (roles constants : List ℕ) → (seeds : List A.Carrier) → (steps : ℕ)
      → (before after : Cells A) → (loops : List Loop) → Ran → Type 0
  RunsRows table rows beyond keeps roles constants seeds steps before after loops answer =
      (setting : Setting A) (lines : List TableLine) (start : Memory A)
      → Handed table rows beyond keeps roles constants seeds before setting lines start
      → Leaves setting lines start steps before after loops answer
