-- What a run is held against: execute the sheet, then take the executed assignments in reverse, each by its own derivative rows on the
-- values as they were just before it; and what these rows read of the originals, in the order of execution.
use Prim.Native.Nat.{ℕ, suc, ◌+◌}
use Rattle.std.proofs.Math.Bool.{cond}
use mathlib.Core.List.{List, [], ◌∷◌, ◌++◌}
use Rattle.std.specs.Prelude.{drop}
use Rattle.number.specs.Arithmetic.{Arithmetic}
use Rattle.sheet.specs.Tree.{times, while, Tree, done, one, fork, again, rows, RowNumber}
use Rattle.sheet.specs.Rows.{Assignment, ◌≔◌, Test}
use Rattle.sheet.specs.Sheets.{Sheet}
use Rattle.sets.specs.Transfers.{Activity}
use Rattle.sets.specs.Marks.{Sets, activity_at}
use Rattle.table.specs.TableRows.{of_row, itself, turn_word, Table, lines_of}
use Rattle.table.specs.Adjoint.{derivative_rows}
use Rattle.machine.specs.Actions.{Attempt, through, ◌>>=◌, present, turns_then, while_then, replaced, Stop, stopping_at, evaluated, compared, halted, stuck, Setting, counting, seeded}
use Rattle.machine.specs.Machine.{State, Step, goes_on, ended, stops, sticks, steps_of}
use Rattle.machine.specs.RowReads.{Entry, machine_log, on_through}
use Rattle.run.specs.Runs.{run_of}

module _ (A : Arithmetic) where
  -- ---- executing a sheet by itself, without sets and without a table: its values, and what was executed

  -- one executed assignment, with the values just before it
  pub record Executed : Type 0 where
    pub row : RowNumber
    pub assignment : Assignment
    pub before : List A.Carrier

  -- the values now, the assignments executed, and the words that are put away for the way back, each the latest first
  pub record Progress : Type 0 where
    pub store : List A.Carrier
    pub trace : List Executed
    pub turns : List ℕ

  -- row p, an assignment, takes the values from `before` to `store`
  abbrev pub onward : ℕ → Assignment → Progress → List A.Carrier → Progress
  onward p b now store =
      record {
        store = store;
        trace = record { row = record { index = p }; assignment = b; before = now.store } ∷ now.trace;
        turns = now.turns;
      }

  unfoldable pub performed : (constants : List ℕ) → (row : ℕ) → Assignment → Progress → Attempt (Stop A) Progress
  unfolding evaluated
  performed constants p (d ≔ source) now = do
    x ← stopping_at A (of_row (record { index = p }) itself) (evaluated A constants source now.store)
    store ← replaced now.store d x
    through (onward p (d ≔ source) now store)

  abbrev pub turned : ℕ → Progress → Progress
  turned word now = record { store = now.store; trace = now.trace; turns = word ∷ now.turns }

  unfoldable pub executed : (constants : List ℕ) → Tree Assignment Test → (row : ℕ) → Progress → Attempt (Stop A) Progress
  unfolding performed rows compared turns_then while_then
  executed constants done p now = through now
  executed constants (one b k) p now = do
    next ← performed constants p b now
    executed constants k (suc p) next
  executed constants (fork f a b k) p now = do
    let split = suc p + rows a
    let end = suc split + rows b
    first ← present (compared A f now.store)
    next ← cond first (executed constants a (suc p) now) (executed constants b (suc split) now)
    executed constants k (suc end) (turned (turn_word first) next)
  executed constants (again (times m) a k) p now = turns_then m (executed constants a (suc p)) (executed constants k (suc (suc p + rows a))) now
  -- "The test comes before each turn"; "turns" there covers the counts (02 §6)
  executed constants (again (while f m) a k) p now =
      while_then (λ now. compared A f now.store) (executed constants a (suc p)) (λ n now. through (turned n now))
      (executed constants k (suc (suc p + rows a))) 0 (suc m) now

  -- nothing executed yet
  abbrev pub beginning : (starts : List A.Carrier) → Progress
  beginning starts = record { store = starts; trace = []; turns = [] }

  unfoldable pub execution : Sheet → (starts : List A.Carrier) → Attempt (Stop A) Progress
  unfolding executed
  execution sheet starts = executed sheet.constants sheet.body 0 (beginning starts)

  -- ---- the sweep back

  -- an assignment's derivative rows, as a table of their own
  abbrev pub derivation_of : (variables : ℕ) → Assignment → RowNumber → Activity → Table
  derivation_of v (d ≔ source) row known = derivative_rows v known.active d source row known done

  -- the machine at their first row, with these originals and these adjoints, t and u
  abbrev pub beside : (originals adjoints : List A.Carrier) → State A
  beside originals adjoints =
      record {
        at = record { index = 0 };
        repeats = [];
        memory = record { store = originals ++ adjoints; values = []; turns = []; copied = [] };
      }

  -- what it leaves of the latter
  abbrev pub adjoints_left : (variables : ℕ) → Step A → Attempt (Stop A) (List A.Carrier)
  adjoints_left v (ended memory) = through (drop v memory.store)
  adjoints_left v (stops row stop) = halted stop
  adjoints_left v sticks = stuck
  adjoints_left v (goes_on state) = stuck

  unfoldable pub derived_by : Setting A → Assignment → RowNumber → Activity → (originals adjoints : List A.Carrier)
      → Attempt (Stop A) (List A.Carrier)
  unfolding run_of derivative_rows
  derived_by setting b row known originals adjoints =
      let v = setting.variables in
      adjoints_left v (run_of A (derivation_of v b row known) setting (beside originals adjoints))

  -- and what the rows read
  unfoldable pub derived_log : Setting A → Assignment → RowNumber → Activity → (originals adjoints : List A.Carrier) → List (Entry A)
  unfolding machine_log lines_of steps_of derivative_rows
  derived_log setting b row known originals adjoints =
      let rows = derivation_of setting.variables b row known in
      machine_log A (steps_of rows) setting (lines_of rows) (beside originals adjoints)

  -- the executed assignments, the latest first
  unfoldable pub swept : Setting A → (ℕ → Assignment → Activity) → List Executed → List A.Carrier → Attempt (Stop A) (List A.Carrier)
  unfolding derived_by
  swept setting known [] adjoints = through adjoints
  swept setting known (e ∷ earlier) adjoints = do
    next ← derived_by setting e.assignment e.row (known e.row.index e.assignment) e.before adjoints
    swept setting known earlier next

  unfoldable pub swept_log : Setting A → (ℕ → Assignment → Activity) → List Executed → List A.Carrier → List (Entry A)
  unfolding derived_log derived_by
  swept_log setting known [] adjoints = []
  swept_log setting known (e ∷ earlier) adjoints =
      let is = known e.row.index e.assignment in
      derived_log setting e.assignment e.row is e.before adjoints
      ++ on_through A (derived_by setting e.assignment e.row is e.before adjoints) (λ next. swept_log setting known earlier next)

  -- the adjoints, t and u as row 17 leaves them
  abbrev pub first_adjoints : (roles : List ℕ) → (seeds : List A.Carrier) → List A.Carrier
  first_adjoints roles seeds = seeded A roles seeds ++ (A.zero ∷ A.zero ∷ [])

  pub record Ideal : Type 0 where
    pub progress : Progress
    pub adjoints : List A.Carrier

  unfoldable pub ideal : Sheet → Sets → Setting A → (starts : List A.Carrier) → Attempt (Stop A) Ideal
  unfolding execution swept counting activity_at
  ideal sheet sets setting starts = do
    progress ← execution sheet starts
    adjoints ← swept setting (activity_at sets.varied sets.useful) progress.trace (first_adjoints setting.roles setting.seeds)
    through (record { progress = progress; adjoints = adjoints })
