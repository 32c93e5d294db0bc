-- What the tangent calls answer and what every lent buffer then holds, as it is computed from the words, by the sets as they are computed.
use Rattle.std.specs.Prelude.{ℕ, List}
use Rattle.number.specs.Arithmetic.{Arithmetic}
use Rattle.sheet.specs.Sheets.{Sheet, variables_of}
use Rattle.sets.specs.Rounds.{sets_of, marked}
use Rattle.table.specs.TableRows.{Table}
use Rattle.table.specs.Sizes.{Needs, Written}
use Rattle.table.specs.Calls.{write_by}
use Rattle.run.specs.Runs.{Lent, Ran, Job}
use Rattle.run.specs.Calls.{run_by}
use Rattle.tangent.specs.Tangent.{tangent_by, tangent_rows}
use Rattle.tangent.specs.TangentRuns.{tangent_setting, tangent_start, tangent_result, tangent_job_of}

unfoldable pub tangent_of : Sheet → Table
unfolding marked tangent_by
tangent_of sheet = tangent_by (sets_of sheet) sheet

abbrev pub tangent_needs_of : Sheet → Needs
tangent_needs_of sheet = record { rows = tangent_rows (variables_of sheet) (marked sheet); values = 0; turns = 0 }

-- the tangent table: refusals 1 to 8
unfoldable pub write_tangent : List ℕ → (buffer : List ℕ) → Written
unfolding write_by tangent_of marked tangent_rows
write_tangent = write_by tangent_needs_of tangent_of

module _ (A : Arithmetic) where
  abbrev pub tangent_job : (starts rates : List A.Carrier) → Sheet → Job A
  tangent_job starts rates sheet = tangent_job_of A (tangent_of sheet) sheet starts rates

  unfoldable pub run_tangent : (words : List ℕ) → (starts rates : List A.Carrier) → Lent A → Ran A
  unfolding run_by tangent_of marked tangent_rows tangent_setting tangent_start tangent_result
  run_tangent words starts rates lent = run_by A tangent_needs_of (tangent_job starts rates) words starts rates lent
