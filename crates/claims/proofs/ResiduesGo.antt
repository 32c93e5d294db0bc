-- In residues no operation stops: every execution of a sheet without quotients goes through.
use Prim.Native.Nat.{ℕ}
use mathlib.Core.Path.{◌≡◌}
use mathlib.Core.Bool.{false}
use mathlib.Core.List.{List}
use lib.ListN.{length}
use Rattle.number.specs.Residues.{residues}
use Rattle.sheet.specs.Names.{Present, Feasible}
use Rattle.sheet.specs.Sheets.{Sheet, variables_of}
use Rattle.machine.specs.Actions.{through}
use Rattle.machine.proofs.AttemptLaws.{Ready, gives, stops}
use Rattle.claims.specs.IdealSweep.{Progress, beginning, execution}
use Rattle.claims.proofs.ExecutionReady.{executed_ready}

pub execution_goes : (sheet : Sheet) (starts : List ℕ) → length starts ≡ variables_of sheet
    → Present (variables_of sheet) (length sheet.constants) sheet.body → Feasible false sheet.body
    → (progress : Progress residues) × (execution residues sheet starts ≡ through progress)
unfolding execution
execution_goes sheet starts n named can =
    by_end (executed_ready residues sheet.constants (variables_of sheet) sheet.body 0 (beginning residues starts) n named can)
  where
    by_end : Ready (execution residues sheet starts) → (progress : Progress residues) × (execution residues sheet starts ≡ through progress)
    by_end (gives progress e) = (progress, e)
    by_end (stops stop e) = absurd stop.why
