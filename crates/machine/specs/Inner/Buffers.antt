-- What the code's buffers stand for, and what each row's code must make of them: the contracts of the single rows, over the arithmetic.
use Rattle.std.specs.Prelude.{ℕ, ◌+◌, ◌-◌, ◌≤◌, ◌≡◌, Bool, List, reverse, length, take, drop, replicate}
use Rattle.std.specs.Prelude.{Result, Ok, Err}
use Rattle.machine.specs.declared.Stuck.{Stuck}
use Rattle.std.proofs.Math.Option.{Option, none}
use Rattle.number.specs.Arithmetic.{Arithmetic}
use Rattle.number.specs.Doubles.{doubles}
use Rattle.number.specs.Residues.{residues}
use Rattle.sheet.specs.Rows.{Source, fixed, ◌≔◌, less}
use Rattle.table.specs.TableRows.{Action, assign, save_turn, clear, turn_round, TableTest, whether, on_turn}
use Rattle.machine.specs.Actions.{through, ◌>>=◌, Memory, Setting, Try, evaluated, acted, tested, verdict_on}
use Rattle.machine.specs.Inner.RowAnswers.{is_stuck, whether_went, whether_moved, height_after, branch_of, turn_of, height_branched}
use Rattle.machine.specs.declared.Branch.{Branch}

-- what is shown over the arithmetic, of both: the contract of code that no arithmetic has a part in
pub record InBoth (P : Arithmetic → Type 0) : Type 0 where
  pub residues : P residues
  pub doubles : P doubles

module _ {X : Type 0} where
  -- the stack in the first `height` cells, top first
  abbrev pub stack_of : (height : ℕ) → List X → List X
  stack_of height cells = reverse (take height cells)

  -- the cells above a stack hold zeros
  pub record Stack (zero : X) (height : ℕ) (cells : List X) : Type 0 where
    pub within : height ≤ length cells
    pub above : drop height cells ≡ replicate (length cells - height) zero

module _ (A : Arithmetic) where
  -- the 2V + 2 variables, both stacks' cells with their heights, and what row 17 has copied out
  pub record Buffers : Type 0 where
    pub store : List A.Carrier
    pub values : List A.Carrier
    pub height : ℕ
    pub turns : List ℕ
    pub turn_height : ℕ
    pub copied : List A.Carrier

  -- the buffers themselves, without the heights
  pub record Cells : Type 0 where
    pub store : List A.Carrier
    pub values : List A.Carrier
    pub turns : List ℕ
    pub copied : List A.Carrier

  abbrev pub cells_of : (store values : List A.Carrier) → (turns : List ℕ) → (copied : List A.Carrier) → Cells
  cells_of store values turns copied = record { store = store; values = values; turns = turns; copied = copied }

  abbrev pub memory_of : Buffers → Memory A
  memory_of buffers =
      record {
        store = buffers.store;
        values = stack_of buffers.height buffers.values;
        turns = stack_of buffers.turn_height buffers.turns;
        copied = buffers.copied;
      }

  -- buffers that a run works on, under a setting whose rooms are the stacks' lent lengths
  pub record Sound (setting : Setting A) (buffers : Buffers) : Type 0 where
    pub values : Stack A.zero buffers.height buffers.values
    pub turns : Stack 0 buffers.turn_height buffers.turns
    pub value_room : setting.value_room ≡ length buffers.values
    pub turn_room : setting.turn_room ≡ length buffers.turns

  -- The row's meaning on what the buffers stand for, and every cell besides; a row that does not go through changes none.
  pub record Does (setting : Setting A) (action : Action) (before after : Buffers) (went : Try A (Unit {0})) : Type 0 where
    pub meaning : (went >>= λ _. through (memory_of after)) ≡ acted A setting action (memory_of before)
    pub sound : Sound setting after
    pub unchanged : (went ≡ through tt → ⊥) → after ≡ before

  -- the same of a test, whose answer picks a branch; none where it is stuck
  pub record Tests (setting : Setting A) (test : TableTest) (before after : Buffers) (answer : Option Bool) : Type 0 where
    pub meaning : verdict_on A (memory_of after) answer ≡ tested A test (memory_of before)
    pub sound : Sound setting after
    pub unchanged : answer ≡ none → after ≡ before

  -- ---- one contract a kind of row: what it does under every setting, whatever the buffers hold that it does not touch

  abbrev buffers_of : (store values : List A.Carrier) → (height : ℕ) → (turns : List ℕ) → (turn_height : ℕ) → (copied : List A.Carrier) → Buffers
  buffers_of store values height turns turn_height copied =
      record { store = store; values = values; height = height; turns = turns; turn_height = turn_height; copied = copied }

  -- the right sides, kinds 1, 3 to 6 and 18, and kind 2
  abbrev pub Evaluates : Source → (store : List A.Carrier) → Try A A.Carrier → Type 0
  Evaluates source store got = (constants : List ℕ) → got ≡ evaluated A constants source store

  abbrev pub EvaluatesFixed : (c : ℕ) → (constants : List ℕ) → Try A A.Carrier → Type 0
  EvaluatesFixed c constants got = (store : List A.Carrier) → got ≡ evaluated A constants (fixed c) store

  -- a row that changes the variables alone
  abbrev pub Stores : (setting : Setting A) → Action → (store after : List A.Carrier) → Try A (Unit {0}) → Type 0
  Stores setting action store after went =
      (values : List A.Carrier) (height : ℕ) (turns : List ℕ) (turn_height : ℕ) (copied : List A.Carrier)
      → Sound setting (buffers_of store values height turns turn_height copied)
      → Does setting action (buffers_of store values height turns turn_height copied) (buffers_of after values height turns turn_height copied) went

  -- kinds 1 to 6 and 18, from what the right side came to
  pub record Assigns (d : ℕ) (got : Try A A.Carrier) (store after : List A.Carrier) (went : Try A (Unit {0})) : Type 0 where
    pub does : (setting : Setting A) (source : Source)
        → got ≡ evaluated A setting.constants source store
        → Stores setting (assign (d ≔ source)) store after went

  -- kind 16
  pub record Clears (d : ℕ) (store after : List A.Carrier) (went : Result (Unit {0}) Stuck) : Type 0 where
    pub does : (setting : Setting A) → Stores setting (clear d) store after (whether_went went)

  -- kinds 12 and 13
  pub record MovesValues (action : Action) (store values : List A.Carrier) (height : ℕ) (store_after values_after : List A.Carrier) (moved : Result ℕ Stuck)
      : Type 0 where
    pub does : (setting : Setting A) (turns : List ℕ) (turn_height : ℕ) (copied : List A.Carrier)
        → Sound setting (buffers_of store values height turns turn_height copied)
        → Does setting action (buffers_of store values height turns turn_height copied)
        (buffers_of store_after values_after (height_after moved height) turns turn_height copied) (whether_moved moved)

  -- kind 14
  pub record SavesTurn (first : Bool) (turns : List ℕ) (height : ℕ) (turns_after : List ℕ) (moved : Result ℕ Stuck) : Type 0 where
    pub does : (setting : Setting A) (store values : List A.Carrier) (value_height : ℕ) (copied : List A.Carrier)
        → Sound setting (buffers_of store values value_height turns height copied)
        → Does setting (save_turn first) (buffers_of store values value_height turns height copied)
        (buffers_of store values value_height turns_after (height_after moved height) copied) (whether_moved moved)

  -- kind 7
  pub record Compares (a b : ℕ) (store : List A.Carrier) (picked : Branch) : Type 0 where
    pub tests : (setting : Setting A) (values : List A.Carrier) (height : ℕ) (turns : List ℕ) (turn_height : ℕ) (copied : List A.Carrier)
        → Sound setting (buffers_of store values height turns turn_height copied)
        → Tests setting (whether (less a b)) (buffers_of store values height turns turn_height copied)
        (buffers_of store values height turns turn_height copied) (branch_of picked)

  -- kind 15
  pub record TakesTurn (turns : List ℕ) (height : ℕ) (turns_after : List ℕ) (branched : Result (Branch × ℕ) Stuck) : Type 0 where
    pub tests : (setting : Setting A) (store values : List A.Carrier) (value_height : ℕ) (copied : List A.Carrier)
        → Sound setting (buffers_of store values value_height turns height copied)
        → Tests setting on_turn (buffers_of store values value_height turns height copied)
        (buffers_of store values value_height turns_after (height_branched branched height) copied) (turn_of branched)

  -- kind 17 copies into a buffer of V numbers, which until then stands for nothing
  pub record RoundSizes (roles : List ℕ) (seeds store copied : List A.Carrier) : Type 0 where
    pub seeds_fit : length seeds ≡ length roles
    pub store_fits : length roles + length roles ≤ length store
    pub copied_fits : length copied ≡ length roles

  -- under the sizes that every run has it goes through, and under others it changes nothing
  pub record TurnsRound (roles : List ℕ) (seeds store copied store_after copied_after : List A.Carrier) (went : Result (Unit {0}) Stuck) : Type 0 where
    pub round : RoundSizes roles seeds store copied
        → (setting : Setting A) (values : List A.Carrier) (height : ℕ) (turns : List ℕ) (turn_height : ℕ) (former : List A.Carrier)
        → setting.variables ≡ length roles
        → setting.roles ≡ roles
        → setting.seeds ≡ seeds
        → Sound setting (buffers_of store values height turns turn_height former)
        → Does setting turn_round (buffers_of store values height turns turn_height former)
        (buffers_of store_after values height turns turn_height copied_after) (whether_went went)
    pub refused : (RoundSizes roles seeds store copied → ⊥) → (went ≡ Err is_stuck) × (store_after ≡ store) × (copied_after ≡ copied)
