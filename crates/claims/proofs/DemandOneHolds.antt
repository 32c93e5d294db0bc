-- Demand 1, of the code: whatever a call answers within its contract is an answer of 01's table, given exactly when 01 says, and the lent
-- buffers then hold what 01 says.
use Prim.Native.Nat.{ℕ}
use mathlib.Core.Path.{◌≡◌, sym, subst}
use mathlib.Core.List.{List}
use Rattle.number.specs.Arithmetic.{Arithmetic}
use Rattle.table.specs.Sizes.{checked_said, written_of, needs_by}
use Rattle.table.specs.Calls.{check, write}
use Rattle.table.specs.declared.Checked.{Checked}
use Rattle.table.specs.declared.Reply.{Reply}
use Rattle.run.specs.Runs.{Lent, ran_of}
use Rattle.run.specs.Calls.{run}
use Rattle.claims.specs.Demands.{CheckExactly, WriteExactly, RunExactly, adjoint_by}
use Rattle.claims.specs.ThreeDemands.{FirstDemand}
use Rattle.claims.proofs.ExactlyWhenHolds.{check_exactly, write_exactly, run_exactly}
use Rattle.claims.proofs.TangentsHold.{tangent_write_call, tangent_call}
use Rattle.claims.proofs.PlainHolds.{plain_call}

-- the contract of `check`
pub check_call : (words : List ℕ) (answer : Checked) → checked_said answer ≡ check words → CheckExactly words (checked_said answer)
check_call words answer contract = subst (CheckExactly words) (sym contract) (check_exactly words)

-- the contract of `write`
pub write_call : (words before after : List ℕ) (answer : Reply) → written_of answer after ≡ write words before
    → WriteExactly words before (written_of answer after)
write_call words before after answer contract = subst (WriteExactly words before) (sym contract) (write_exactly words before)

-- the contracts of `run_double` and `run_audit`
pub run_call : (A : Arithmetic) (words : List ℕ) (starts seeds : List A.Carrier) (before after : Lent A) (answer : Reply)
    → ran_of A answer after ≡ run A words starts seeds before
    → RunExactly A needs_by (adjoint_by A starts seeds before) words starts seeds before (ran_of A answer after)
run_call A words starts seeds before after answer contract =
    subst (RunExactly A needs_by (adjoint_by A starts seeds before) words starts seeds before) (sym contract) (run_exactly A words starts seeds before)

pub demand_one : FirstDemand
demand_one A =
    record {
      checks = check_call;
      writes = write_call;
      runs = run_call A;
      writes_tangents = tangent_write_call;
      runs_tangents = tangent_call A;
      carries = plain_call A;
    }
