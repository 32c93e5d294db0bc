-- A whole run held against executing the sheet and sweeping back ideally, for any choice of further saved rows.
use Rattle.std.specs.Prelude.{ℕ, ◌≤◌, ◌≡◌, Bool, true, false, ◌||◌, List, [], ◌∷◌, drop, get_or}
use Rattle.number.specs.Arithmetic.{Arithmetic}
use Rattle.sheet.specs.Tree.{RowNumber, done, one, fork, again}
use Rattle.sheet.specs.Sheets.{Sheet, variables_of}
use Rattle.sheet.specs.Rows.{Assignment, target_of}
use Rattle.sets.specs.Marks.{Sets, marked_by, mark_by}
use Rattle.table.specs.Adjoint.{adjoint_table, Body}
use Rattle.table.specs.Sizes.{values_needed, turns_needed}
use Rattle.machine.specs.Actions.{Attempt, through, halted, stuck, Memory, Stop}
use Rattle.machine.specs.Machine.{Step, ended, stops}
use Rattle.run.specs.Runs.{setting_of, start_of, run_of}
use Rattle.claims.specs.IdealSweep.{Ideal, Executed}

-- ---- tables that save more than what is recorded: "the table built as above, active rows the same, but with every assignment recorded"

-- the body with further rows saved, one choice for each sheet row
unfoldable pub also_saving : (RowNumber → Bool) → Body → Body
also_saving choice done = done
also_saving choice (one m k) =
    one (record { row = m.row; assignment = m.assignment; known = m.known; saved = m.saved || choice m.row }) (also_saving choice k)
also_saving choice (fork f a b k) = fork f (also_saving choice a) (also_saving choice b) (also_saving choice k)
also_saving choice (again n a k) = again n (also_saving choice a) (also_saving choice k)

-- the choice that makes it the all-saved table
abbrev pub every : RowNumber → Bool
every row = true

-- ---- what a choice of rows saves of an execution

module _ (A : Arithmetic) (saved : ℕ → Assignment → Bool) where
  abbrev pub onto : Bool → A.Carrier → List A.Carrier → List A.Carrier
  onto true x xs = x ∷ xs
  onto false x xs = xs

  -- of each executed assignment that is saved, its target's value before it: the latest first
  unfoldable pub saved_values : List (Executed A) → List A.Carrier
  saved_values [] = []
  saved_values (e ∷ earlier) =
      onto (saved e.row.index e.assignment) (get_or e.before (target_of e.assignment) A.zero) (saved_values earlier)

-- the rows that the sheet's own table saves
abbrev pub recorded_in : Sets → ℕ → Assignment → Bool
recorded_in sets p b = (mark_by sets p b).saved

module _ (A : Arithmetic) where
  -- the run of the sheet's table with further rows saved, on stacks of so many places
  unfoldable pub run_saving : (RowNumber → Bool) → Sheet → Sets → (starts seeds : List A.Carrier) → (value_room turn_room : ℕ) → Step A
  unfolding marked_by also_saving adjoint_table setting_of start_of run_of
  run_saving choice sheet sets starts seeds value_room turn_room =
      run_of A (adjoint_table (variables_of sheet) (also_saving choice (marked_by sets sheet))) (setting_of A sheet seeds value_room turn_room)
      (start_of A sheet starts)

  -- at least the sizes that 01 computes, every saved row counted
  pub record StackRoom (choice : RowNumber → Bool) (sheet : Sheet) (sets : Sets) (value_room turn_room : ℕ) : Type 0 where
    pub values : values_needed (also_saving choice (marked_by sets sheet)) ≤ value_room
    pub turns : turns_needed (also_saving choice (marked_by sets sheet)) ≤ turn_room

  -- a run that ended: the values are those of the execution, the adjoints those of the ideal sweep, and both stacks are empty
  pub record Ended (variables : ℕ) (i : Ideal A) (ending : Step A) : Type 0 where
    pub memory : Memory A
    pub ends : ending ≡ ended memory
    pub values : memory.copied ≡ i.progress.store
    pub adjoints : drop variables memory.store ≡ i.adjoints
    pub values_empty : memory.values ≡ []
    pub turns_empty : memory.turns ≡ []

  -- The run ends where the ideal does, or stops at some table row of the same origin, for the same reason. Neither is ever stuck.
  unfoldable pub Matches : (variables : ℕ) → Attempt (Stop A) (Ideal A) → Step A → Type 0
  Matches v (through i) ending = Ended v i ending
  Matches v (halted stop) ending = (row : RowNumber) × (ending ≡ stops row stop)
  Matches v stuck ending = ⊥
