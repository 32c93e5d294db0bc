-- An assignment's derivative rows on the machine, in the large. They are few and have no block, so that the machine is stuck where they are.
use Prim.Native.Nat.{ℕ, ◌+◌, ◌*◌, ◌≤◌, ◌<◌}
use mathlib.Core.Path.{◌≡◌}
use mathlib.Core.Bool.{false}
use mathlib.Core.List.{List}
use lib.ListN.{drop}
use native.Mathlib.Omega.{arith}
use Rattle.number.specs.Arithmetic.{Arithmetic}
use Rattle.sheet.specs.Tree.{done, RowNumber}
use Rattle.sheet.specs.Rows.{Assignment, ◌≔◌}
use Rattle.sheet.proofs.Depth.{deep}
use Rattle.sets.specs.Transfers.{Activity}
use Rattle.table.specs.TableRows.{Table}
use Rattle.table.specs.Adjoint.{backward_of}
use Rattle.table.specs.RowBounds.{most_backward}
use Rattle.table.proofs.TableBounds.{EachRow, backward_row, row_flat}
use Rattle.machine.specs.Actions.{through, halted, stuck, ◌>>=◌, Memory, Setting}
use Rattle.machine.specs.Machine.{Step, steps_of}
use Rattle.machine.specs.InTheLarge.{table_run, table_log}
use Rattle.run.specs.Runs.{enough_steps}
use Rattle.run.proofs.EnoughSteps.{row_stepped}
use Rattle.run.proofs.MachineFollows.{Result, EndsAs, run_follows}
use Rattle.claims.specs.IdealSweep.{derivation_of, beside, adjoints_left, derived_by, derived_log}
use Rattle.claims.proofs.MachineLogs.{table_log_lem}

-- no more than a row's rows in the backward part
derivation_bounded : (A : Arithmetic) (weight : ℕ) (count : Table → ℕ) → EachRow weight count → (v : ℕ) (b : Assignment) (row : RowNumber) (known : Activity)
    → count (derivation_of A v b row known) ≤ most_backward * weight + count done
unfolding backward_of
derivation_bounded A weight count each v (d ≔ source) row known = (backward_row weight count each v (d ≔ source) row known false).few done

module _ (A : Arithmetic) (setting : Setting A) (b : Assignment) (row : RowNumber) (known : Activity) (originals adjoints : List A.Carrier) where
  abbrev rows : Table
  rows = derivation_of A setting.variables b row known

  abbrev start : Memory A
  start = (beside A originals adjoints).memory

  without_blocks : deep rows ≡ 0
  unfolding deep
  without_blocks = omega (arith, derivation_bounded A 0 deep row_flat setting.variables b row known)

  few_steps : steps_of rows < enough_steps
  unfolding steps_of
  few_steps = omega (arith, derivation_bounded A 1 steps_of row_stepped setting.variables b row known)

  left_as : (x : Result A) (out : Step A) → EndsAs A (Unit {0}) x out
      → adjoints_left A setting.variables out ≡ (x >>= λ after. through (drop setting.variables after.store))
  left_as (through memory) out ends = rw ends
  left_as (halted stop) out ends = rw ends.1
  left_as stuck out ends = rw (ends tt)

  pub derived_in_the_large : derived_by A setting b row known originals adjoints
      ≡ (table_run A setting rows start >>= λ after. through (drop setting.variables after.store))
  unfolding derived_by
  derived_in_the_large = left_as (table_run A setting rows start) _ (run_follows A (Unit {0}) rows setting start (λ _. without_blocks) few_steps)

  pub derived_log_in_the_large : derived_log A setting b row known originals adjoints ≡ table_log A setting rows start
  unfolding derived_log
  derived_log_in_the_large = table_log_lem A setting (Unit {0}) rows start (λ _. without_blocks) (λ _. tt) (steps_of rows) (omega arith)
