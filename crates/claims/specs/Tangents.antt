-- What the tangent calls and the plain engine meet (02 §1), of any sets that are least: the contracts of src/lib.rt. Each record speaks of an answer
-- that is handed to it.
use Rattle.std.specs.Prelude.{ℕ, ◌≤◌, ◌≡◌, List, ◌⊎◌, ◌≢◌, length, take}
use Rattle.number.specs.Arithmetic.{Arithmetic}
use Rattle.number.specs.Residues.{residues}
use Rattle.sheet.specs.Sheets.{Sheet, variables_of}
use Rattle.sets.specs.Marks.{Sets}
use Rattle.table.specs.TableRows.{lines_of}
use Rattle.table.specs.Sizes.{Written, table_room}
use Rattle.machine.specs.Actions.{through}
use Rattle.machine.specs.Machine.{sticks, state_after}
use Rattle.run.specs.Runs.{Lent, Ran, Job}
use Rattle.tangent.specs.Tangent.{tangent_by, tangent_needs_by}
use Rattle.tangent.specs.TangentRuns.{tangent_job_by, without_stacks}
use Rattle.plain.specs.Carries.{Carry, SameAnswer}
use Rattle.claims.specs.ExactlyWhen.{Accepted, Runnable}
use Rattle.claims.specs.IdealSweep.{Progress, execution}
use Rattle.claims.specs.Demands.{WritesExactly, RunExactly}

-- ---- the tangent table: exactly the one that §1's rules give, and "in 8, the tangent table's own row count as R"

abbrev pub TangentWriteExactly : (words before : List ℕ) → Written → Type 0
TangentWriteExactly = WritesExactly tangent_needs_by tangent_by

-- ---- its runs

-- a finished run's first V numbers are the values of executing the sheet
pub record ExecutesSheet (A : Arithmetic) (sheet : Sheet) (starts result : List A.Carrier) : Type 0 where
  pub progress : Progress A
  pub executes : execution A sheet starts ≡ through progress
  pub values : take (variables_of sheet) result ≡ progress.store

pub record TangentMeets (A : Arithmetic) (words : List ℕ) (starts rates : List A.Carrier) (before : Lent A) (ran : Ran A) : Type 0 where
  -- "The refusals of 01 apply with rates as seeds, S = T = 0"
  pub exactly : RunExactly A tangent_needs_by (tangent_job_by A starts rates) words starts rates before ran
  pub never_nine : ran.number ≢ 9
  -- never stuck, on no stack at all
  pub unstuck : (sheet : Sheet) (sets : Sets) → Runnable A tangent_needs_by words starts rates before sheet sets → (n : ℕ)
      → let job : Job A = tangent_job_by A starts rates sets sheet in
      state_after A n job.setting (lines_of job.table) job.start ≢ sticks
  pub answers : (sheet : Sheet) (sets : Sets) → Runnable A tangent_needs_by words starts rates before sheet sets
      → (ran.number ≡ 0) ⊎ (ran.number ≡ 12)
  pub executed : (sheet : Sheet) (sets : Sets) → Runnable A tangent_needs_by words starts rates before sheet sets → ran.number ≡ 0
      → ExecutesSheet A sheet starts ran.lent.result

-- in audit always 0
pub record TangentAuditMeets (words starts rates : List ℕ) (before : Lent residues) (ran : Ran residues) : Type 0 where
  pub run : TangentMeets residues words starts rates before ran
  pub finishes : (sheet : Sheet) (sets : Sets) → Runnable residues tangent_needs_by words starts rates before sheet sets → ran.number ≡ 0

-- ---- the plain engine

-- a buffer in which the sheet's tangent table has room; any will do where the words are no sheet
abbrev pub RoomForTangent : (words table : List ℕ) → Type 0
RoomForTangent words table =
    (sheet : Sheet) (sets : Sets) → Accepted words sheet sets → table_room (tangent_needs_by sets sheet).rows ≤ length table

-- "both engines equal bit for bit, stops included; a stop in the plain engine names the table's row": number, place and result are those of the
-- tangent table's run, on whatever buffer the table has room in
pub record LikeTable (A : Arithmetic) (words : List ℕ) (starts rates result : List A.Carrier) (table : List ℕ) (carry : Carry A) : Type 0 where
  pub ran : Ran A
  pub meets : TangentMeets A words starts rates (without_stacks A table result) ran
  pub same : SameAnswer A ran carry

-- "without 8 in the plain engine", and without 9
pub record PlainMeets (A : Arithmetic) (words : List ℕ) (starts rates result : List A.Carrier) (carry : Carry A) : Type 0 where
  pub like_table : (table : List ℕ) → RoomForTangent words table → LikeTable A words starts rates result table carry
  pub never_eight : carry.number ≢ 8
  pub never_nine : carry.number ≢ 9
