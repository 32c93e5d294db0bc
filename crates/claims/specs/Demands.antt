-- What the calls meet, the contracts of src/lib.rt: demand 1 call by call, and demands 2 and 3 of a run, of any sets that are least.
-- Every record speaks of an answer that is handed to it, so that it can be said of the definitions and of whatever a call's contract permits.
use Rattle.std.specs.Prelude.{ℕ, ◌≤◌, ◌<◌, ◌≡◌, List, [], ◌∷◌, ◌↔◌, ◌≢◌, length, take, drop, replicate, get_or, true, cond}
use Rattle.number.specs.Arithmetic.{Arithmetic}
use Rattle.number.specs.Residues.{residues}
use Rattle.sheet.specs.Refusals.{Refusal, number_of, place_of}
use Rattle.sheet.specs.Tree.{RowNumber, times, while, Tree, done, one, fork, again, basic, flat}
use Rattle.sheet.specs.Sheets.{Sheet, variables_of}
use Rattle.sheet.specs.Rows.{Assignment, target_of, Test, SheetLine, is_independent}
use Rattle.sets.specs.Marks.{Sets, LeastSets, activity_at}
use Rattle.table.specs.TableRows.{Table, table_words, TableLine, Origin, of_row, of_turning_round, saving, save, turn_round, lines_of}
use Rattle.table.specs.Adjoint.{table_by}
use Rattle.table.specs.Sizes.{Needs, needs_by, Checked, no_sizes, sizes_by, Written}
use Rattle.machine.specs.Actions.{Memory, Setting, Stop, through}
use Rattle.machine.specs.Machine.{State, Step, goes_on, ended, stops, sticks, state_after, steps_of}
use Rattle.machine.specs.RowReads.{machine_log}
use Rattle.run.specs.Runs.{Lent, Ran, Job, setting_of, start_of, run_of, result_of, job_of}
use Rattle.claims.specs.ExactlyWhen.{ReadingRefuses, Read, Accepted, WritingRefuses, Writable, RunRefuses, Stops, Finishes, Runnable, StoppedThere}
use Rattle.claims.specs.IdealSweep.{Progress, execution, first_adjoints, ideal, swept_log}
use Rattle.claims.specs.EquationTwo.{Instance, value_no, EquationTwo, Solvable}
use Rattle.claims.specs.WholeRun.{every, saved_values, recorded_in, run_saving, StackRoom, Matches}

-- ---- demand 1: which number and place an answer has, each exactly when 01 says, and what the lent buffers then hold

-- an answer's number and place are a refusal's
abbrev pub Names : (number place : ℕ) → Refusal → Type 0
Names number place r = (number ≡ number_of r) × (place ≡ place_of r)

-- check: "Checking a sheet uses 1 to 7 and answers W, R, S and T, all 0 when refused."
pub record CheckExactly (words : List ℕ) (answer : Checked) : Type 0 where
  pub refuses : (r : Refusal) → Names answer.number answer.place r ↔ ReadingRefuses words r
  pub done : (answer.number ≡ 0) ↔ ((sheet : Sheet) × Read words sheet)
  pub numbers : answer.number ≤ 7
  pub when_refused : 1 ≤ answer.number → answer.sizes ≡ no_sizes
  -- a sheet that is read has its three sets, and no others
  pub analysed : (sheet : Sheet) → Read words sheet → (sets : Sets) × LeastSets sheet sets
  pub one_analysis : (sheet : Sheet) (sets others : Sets) → Accepted words sheet sets → LeastSets sheet others → sets ≡ others
  pub when_done : (sheet : Sheet) (sets : Sets) → Accepted words sheet sets → (answer.place ≡ 0) × (answer.sizes ≡ sizes_by sets sheet)

-- write: "Writing a table uses 1 to 8"; "these two answer number and place alone"; "Refusals 1 to 11 change no buffer."
-- "the table buffer starts with the table and keeps its other words"
pub record StartsWith (table before after : List ℕ) : Type 0 where
  pub starts : take (length table) after ≡ table
  pub keeps : drop (length table) after ≡ drop (length table) before
  pub same_length : length after ≡ length before

-- What a sheet needs and which table is written of it are handed in.
pub record WritesExactly (needs : Sets → Sheet → Needs) (written : Sets → Sheet → Table) (words before : List ℕ) (answer : Written) : Type 0 where
  pub refuses : (r : Refusal) → Names answer.number answer.place r ↔ WritingRefuses true needs words before r
  pub done : (answer.number ≡ 0) ↔ ((sheet : Sheet) × (sets : Sets) × Writable true needs words before sheet sets)
  pub numbers : answer.number ≤ 8
  pub when_refused : 1 ≤ answer.number → answer.table ≡ before
  pub when_done : (sheet : Sheet) (sets : Sets) → Writable true needs words before sheet sets
      → (answer.place ≡ 0) × StartsWith (table_words (written sets sheet)) before answer.table

-- "the adjoint table is exactly the one 01's rules give"
abbrev pub WriteExactly : (words before : List ℕ) → Written → Type 0
WriteExactly = WritesExactly needs_by table_by

-- a run: "a run takes a sheet, never a bare table, and uses all". What a sheet needs and which job is run of it are handed in.
-- "On 0 and 12 the table buffer starts with the table and keeps its other words, and both stacks are all zeros over their lent length."
pub record LeftBehind (A : Arithmetic) (ran : Table) (before after : Lent A) : Type 0 where
  pub table : StartsWith (table_words ran) before.table after.table
  pub values : after.values ≡ replicate (length before.values) A.zero
  pub turns : after.turns ≡ replicate (length before.turns) 0

-- "Refusals 1 to 11 change no buffer.", and 13, "no buffer changed". "On 12 the result is unchanged."
pub record RunExactly (A : Arithmetic) (needs : Sets → Sheet → Needs) (job : Sets → Sheet → Job A) (words : List ℕ)
    (starts seeds : List A.Carrier) (before : Lent A) (answer : Ran A) : Type 0 where
  pub refuses : (r : Refusal) → Names answer.number answer.place r ↔ RunRefuses A needs job words starts seeds before r
  pub done : (answer.number ≡ 0)
      ↔ ((sheet : Sheet) × (sets : Sets) × (memory : Memory A) × Finishes A needs job words starts seeds before sheet sets memory)
  pub stopped : (answer.number ≡ 12)
      ↔ ((sheet : Sheet) × (sets : Sets) × (row : RowNumber) × Stops A needs job words starts seeds before sheet sets row)
  pub numbers : answer.number ≤ 13
  pub when_refused : 1 ≤ answer.number → answer.number ≢ 12 → answer.lent ≡ before
  pub when_stopped : (sheet : Sheet) (sets : Sets) (row : RowNumber) → Stops A needs job words starts seeds before sheet sets row
      → (answer.place ≡ row.index) × LeftBehind A (job sets sheet).table before answer.lent × (answer.lent.result ≡ before.result)
  pub when_done : (sheet : Sheet) (sets : Sets) (memory : Memory A) → Finishes A needs job words starts seeds before sheet sets memory
      → (answer.place ≡ 0) × LeftBehind A (job sets sheet).table before answer.lent
      × (answer.lent.result ≡ (job sets sheet).result memory)

-- the job of a sheet's own adjoint table, on the stacks that are lent
abbrev pub adjoint_by : (A : Arithmetic) → (starts seeds : List A.Carrier) → Lent A → Sets → Sheet → Job A
adjoint_by A starts seeds lent sets sheet = job_of A (table_by sets sheet) sheet starts seeds (length lent.values) (length lent.turns)

-- ---- demand 2. Its least sets are in `Accepted`, the table in `WriteExactly.when_done` and `RunExactly.when_done`.

-- "Run modulo 2^32 it yields equation (2) of "To Be Recorded Analysis" at every independent": the run answers 0, its first V numbers are
-- the values of executing the sheet, and the other V each independent's adjoint by equation (2), which has one solution, 0 at the others.
pub record AuditSolves (sheet : Sheet) (starts seeds : List ℕ) (ran : Ran residues) : Type 0 where
  pub progress : Progress residues
  pub executes : execution residues sheet starts ≡ through progress
  pub answers : ran.number ≡ 0
  pub values : take (variables_of sheet) ran.lent.result ≡ progress.store
  pub solvable : Solvable sheet.roles seeds progress.trace
  pub adjoints : (bar : Instance → ℕ) → EquationTwo sheet.roles seeds progress.trace bar → (x : ℕ) → x < variables_of sheet
      → get_or (drop (variables_of sheet) ran.lent.result) x 0 ≡ cond (is_independent (get_or sheet.roles x 0)) (bar (value_no x 0)) 0

-- "run in doubles it gives bit for bit what the all-saved table gives, or stops at the same arithmetic row", over any arithmetic, by how the
-- all-saved table ends: 0 with that table's result, or 12 at the row of the real table that has the same origin. "A stop is .. reported in the
-- rows of the real table."
pub data AnswersLike (A : Arithmetic) (sheet : Sheet) (job : Job A) (ran : Ran A) : (all_saved : Step A) → Type 0 where
  same_result : {memory : Memory A} → ran.number ≡ 0 → ran.lent.result ≡ result_of A sheet memory → AnswersLike A sheet job ran (ended memory)
  same_stop : {other : RowNumber} {stop : Stop A} (row : RowNumber) → ran.number ≡ 12 → ran.place ≡ row.index
      → StoppedThere A job row stop → AnswersLike A sheet job ran (stops other stop)

-- ---- demand 3: "For every accepted sheet, any start values and seeds, stacks of the sizes 01 computes". It speaks of the states of the row
-- machine, whose steps are the single rows' written meanings.

-- a body with no "if" in it: "without kinds 7 and 19" (02 §6)
unfoldable pub WithoutIf : Tree Assignment Test → Type 0
WithoutIf done = Unit {0}
WithoutIf (one b k) = WithoutIf k
WithoutIf (fork f a b k) = ⊥
WithoutIf (again (times m) a k) = WithoutIf a × WithoutIf k
WithoutIf (again (while f m) a k) = ⊥

-- a table row of this origin that saves d comes from a recorded assignment of the sheet, whose target d is
pub record SavesRecorded (sheet : Sheet) (sets : Sets) (origin : Origin) (d : ℕ) : Type 0 where
  pub row : RowNumber
  pub assignment : Assignment
  pub below : List SheetLine
  pub there : drop row.index (flat sheet.body []) ≡ basic assignment ∷ below
  pub comes_from : origin ≡ of_row row saving
  pub target : target_of assignment ≡ d
  pub recorded : recorded_in sets row.index assignment ≡ true

module _ (A : Arithmetic) (sheet : Sheet) (sets : Sets) (starts seeds : List A.Carrier) (value_room turn_room : ℕ) where
  abbrev pub setting : Setting A
  setting = setting_of A sheet seeds value_room turn_room

  abbrev pub lines : List TableLine
  lines = lines_of (table_by sets sheet)

  -- the machine after n steps
  abbrev pub after_steps : ℕ → Step A
  after_steps n = state_after A n setting lines (start_of A sheet starts)

  -- "the run never gets stuck"; S and T: "the height never exceeds them"
  pub record NeverStuck : Type 0 where
    pub unstuck : (n : ℕ) → after_steps n ≡ sticks → ⊥
    pub values_within : (n : ℕ) (s : State A) → after_steps n ≡ goes_on s → length s.memory.values ≤ (needs_by sets sheet).values
    pub turns_within : (n : ℕ) (s : State A) → after_steps n ≡ goes_on s → length s.memory.turns ≤ (needs_by sets sheet).turns

  -- At row 17, where nothing has been taken back yet: "only recorded values and turns are saved", in order; the height "without "if" reaches S".
  pub record SavedAtTurning (progress : Progress A) : Type 0 where
    pub steps : ℕ
    pub state : State A
    pub reached : after_steps steps ≡ goes_on state
    pub rest : List TableLine
    pub there : drop state.at.index lines ≡ basic (record { origin = of_turning_round; action = turn_round }) ∷ rest
    pub originals : take (variables_of sheet) state.memory.store ≡ progress.store
    pub values : state.memory.values ≡ saved_values A (recorded_in sets) progress.trace
    pub turns : state.memory.turns ≡ progress.turns
    pub full : WithoutIf sheet.body → length state.memory.values ≡ (needs_by sets sheet).values

  -- "replays exactly the executed assignments in reverse, every value a derivative rule reads is the value before that assignment": what
  -- derivative rows were executed and what originals they read is, row for row, the ideal sweep over the executed assignments.
  abbrev pub ReplaysInReverse : Progress A → Type 0
  ReplaysInReverse progress =
      (n : ℕ) → steps_of (table_by sets sheet) ≤ n
      → machine_log A n setting lines (start_of A sheet starts)
      ≡ swept_log A setting (activity_at sets.varied sets.useful) progress.trace (first_adjoints A sheet.roles seeds)

  -- `saves` and `replays` are of every run but one in which a double leaves the finite range while the sheet itself is executed. "both stacks
  -- end empty" is in `ends`.
  pub record DemandThree : Type 0 where
    pub never : NeverStuck
    -- "only recorded values .. are saved", of every row of the table, whether or not a run comes to it
    pub saves_only : (i d : ℕ) (origin : Origin) (rest : List TableLine)
        → drop i lines ≡ basic (record { origin = origin; action = save d }) ∷ rest → SavesRecorded sheet sets origin d
    pub saves : (progress : Progress A) → execution A sheet starts ≡ through progress → SavedAtTurning progress
    pub replays : (progress : Progress A) → execution A sheet starts ≡ through progress → ReplaysInReverse progress
    pub ends : Matches A (variables_of sheet) (ideal A sheet sets setting starts)
        (run_of A (table_by sets sheet) setting (start_of A sheet starts))

-- ---- all three demands of what a run answered: the contracts of src/lib.rt

pub record RunMeets (A : Arithmetic) (words : List ℕ) (starts seeds : List A.Carrier) (before : Lent A) (ran : Ran A) : Type 0 where
  pub exactly : RunExactly A needs_by (adjoint_by A starts seeds before) words starts seeds before ran
  pub all_saved : (sheet : Sheet) (sets : Sets) → Runnable A needs_by words starts seeds before sheet sets → (value_room turn_room : ℕ)
      → StackRoom A every sheet sets value_room turn_room
      → AnswersLike A sheet (adjoint_by A starts seeds before sets sheet) ran (run_saving A every sheet sets starts seeds value_room turn_room)
  pub replays : (sheet : Sheet) (sets : Sets) → Runnable A needs_by words starts seeds before sheet sets
      → DemandThree A sheet sets starts seeds (length before.values) (length before.turns)

pub record AuditMeets (words starts seeds : List ℕ) (before : Lent residues) (ran : Ran residues) : Type 0 where
  pub run : RunMeets residues words starts seeds before ran
  pub solves : (sheet : Sheet) (sets : Sets) → Runnable residues needs_by words starts seeds before sheet sets → AuditSolves sheet starts seeds ran
