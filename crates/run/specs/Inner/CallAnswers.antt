-- What the calls' code is handed, answers and leaves, held against what a run comes to (Calls.antt).
use Rattle.std.specs.Prelude.{ℕ, ◌+◌, ◌*◌, ◌≤◌, ◌≡◌, List, length, replicate}
use Rattle.number.specs.Arithmetic.{Arithmetic}
use Rattle.sheet.specs.Bounds.{limit}
use Rattle.sheet.specs.Judging.{given}
use Rattle.sheet.specs.Sheets.{Sheet}
use Rattle.sheet.specs.Reading.{read}
use Rattle.sheet.specs.Answers.{shape_of}
use Rattle.sheet.specs.Tree.{rows as rows_of}
use Rattle.table.specs.RowBounds.{table_variables}
use Rattle.table.specs.TableRows.{Table, lines_of, table_words}
use Rattle.table.specs.Calls.{overwritten}
use Rattle.table.specs.declared.Reply.{Reply}
use Rattle.table.specs.declared.Plan.{Plan}
use Rattle.machine.specs.Inner.RowsHanded.{Holds, Jumps}
use Rattle.run.specs.Runs.{Lent, lent_of, ran_of, Job}
use Rattle.run.specs.Calls.{ran_by, adjoint_job}

-- ---- a sheet whose table has been written

-- the sheet that was planned, this table of it over a buffer, and the table's jumps
pub record TableInPlace (its : Table) (words : List ℕ) (plan : Plan) (table beyond : List ℕ) (sheet : Sheet) (buffer : List ℕ) : Type 0 where
  pub accepted : read words ≡ given sheet
  pub shape : plan.shape ≡ shape_of sheet
  pub rows : plan.rows ≡ rows_of its
  pub written : table ≡ overwritten (table_words its) buffer
  pub jumps : Jumps (lines_of its) beyond

-- the sections and lists of a planned sheet are as long as its plan says
pub record SheetRoom {X : Type 0} (words : List ℕ) (plan : Plan) (starts seeds result : List X) : Type 0 where
  pub few : plan.shape.variables ≤ limit.variables
  pub few_constants : plan.shape.constants ≤ limit.constants
  pub first : plan.shape.first_constant ≡ 2 + plan.shape.variables
  pub within : 2 + plan.shape.variables + plan.shape.constants ≤ length words
  pub starts_fit : length starts ≡ plan.shape.variables
  pub seeds_fit : length seeds ≡ plan.shape.variables
  pub result_fits : length result ≡ 2 * plan.shape.variables

-- an accepted sheet's sections, and the rows of this table of it in a buffer with their jumps
pub record Ready (its : Table) (sheet : Sheet) (roles constants table : List ℕ) (rows : ℕ) (beyond : List ℕ) : Type 0 where
  pub words : List ℕ
  pub accepted : read words ≡ given sheet
  pub roles_are : roles ≡ sheet.roles
  pub constants_are : constants ≡ sheet.constants
  pub holds : Holds table (lines_of its)
  pub counted : length (lines_of its) ≡ rows
  pub jumps : Jumps (lines_of its) beyond

module _ (A : Arithmetic) where
  -- lists of the lengths that the roles ask, zeros for the variables of a table, and room for the values that row 17 copies out
  pub record RunRoom (roles : List ℕ) (starts seeds store copied result : List A.Carrier) : Type 0 where
    pub starts_fit : length starts ≡ length roles
    pub seeds_fit : length seeds ≡ length roles
    pub store_fits : length store ≡ table_variables (length roles)
    pub zeros : store ≡ replicate (length store) A.zero
    pub copied_fits : length copied ≡ length roles
    pub result_fits : length result ≡ 2 * length roles

  -- "both stacks are all zeros over their lent length"
  pub record StacksCleared (values : List A.Carrier) (turns : List ℕ) (values_after : List A.Carrier) (turns_after : List ℕ) : Type 0 where
    pub values_are : values_after ≡ replicate (length values) A.zero
    pub turns_are : turns_after ≡ replicate (length turns) 0

  -- what is answered and left is what the job's run comes to, its table written over the one lent
  abbrev pub RanTo : Job A → Lent A → (answer : Reply) → (after : List A.Carrier) → (turns_after : List ℕ) → (result_after : List A.Carrier) → Type 0
  RanTo job lent answer after turns_after result_after =
      ran_of A answer (lent_of A (overwritten (table_words job.table) lent.table) after turns_after result_after) ≡ ran_by A job lent

  -- of a sheet's own adjoint table
  abbrev pub AdjointRanTo : Sheet → (buffer : List ℕ) → (starts seeds before : List A.Carrier) → (turns_before : List ℕ)
      → (result_before : List A.Carrier) → (answer : Reply)
      → (after : List A.Carrier) → (turns_after : List ℕ) → (result_after : List A.Carrier) → Type 0
  AdjointRanTo sheet buffer starts seeds before turns_before result_before =
      let lent = lent_of A buffer before turns_before result_before in
      RanTo (adjoint_job A starts seeds lent sheet) lent
