-- A table's run as the calls' code does it, between cleared stacks: for whatever rows, setting and start the runner is handed.
use Rattle.std.specs.Prelude.{ℕ, ◌≡◌, ◌⊎◌, Bool, List, length, replicate}
use Rattle.number.specs.Arithmetic.{Arithmetic}
use Rattle.table.specs.TableRows.{TableLine}
use Rattle.machine.specs.Actions.{Memory, Setting}
use Rattle.machine.specs.Machine.{State, Step, goes_on, ended, sticks, state_after}
use Rattle.machine.specs.Inner.Buffers.{Cells, cells_of}
use Rattle.machine.specs.Inner.RowSteps.{StopsAt}
use Rattle.machine.specs.Inner.RunsRows.{first_state, Handed}
use Rattle.run.specs.Runs.{enough_steps}
use Rattle.machine.specs.declared.Ended.{Ended}
use Rattle.machine.specs.declared.Ended.TheVariants as ended_as

module _ (A : Arithmetic) where
  -- ---- how a run ended, by what the code answered

  -- the buffers hold the store that the run finished with, and the copies once row 17 has made them
  pub record EndsFinished (start : Memory A) (after : Cells A) (ending : Step A) : Type 0 where
    pub memory : Memory A
    pub is : ending ≡ ended memory
    pub store : memory.store ≡ after.store
    pub copies : (memory.copied ≡ start.copied) ⊎ (memory.copied ≡ after.copied)

  abbrev pub EndsLike : (start : Memory A) → (after : Cells A) → Ended → Step A → Type 0
  EndsLike start after ended_as.Finished ending = EndsFinished start after ending
  EndsLike start after (ended_as.Stopped row) ending = StopsAt A row.0 ending
  EndsLike start after ended_as.Stuck ending = ending ≡ sticks
  EndsLike start after ended_as.Unfinished ending = (state : State A) × (ending ≡ goes_on state)

  -- ---- a table's run

  -- the buffers with both stacks cleared
  abbrev pub cleared : Cells A → Cells A
  cleared cells = cells_of A cells.store (replicate (length cells.values) A.zero) (replicate (length cells.turns) 0) cells.copied

  pub record RunsTable (table : List ℕ) (rows : ℕ) (beyond : List ℕ) (keeps : Bool) (roles constants : List ℕ) (seeds : List A.Carrier) (before after : Cells A)
      (end : Ended) : Type 0 where
    pub values_cleared : after.values ≡ replicate (length before.values) A.zero
    pub turns_cleared : after.turns ≡ replicate (length before.turns) 0
    pub ends : (setting : Setting A) (lines : List TableLine) (start : Memory A)
        → Handed A table rows beyond keeps roles constants seeds (cleared before) setting lines start
        → EndsLike start after end (state_after A enough_steps setting lines (first_state A start))
