-- `machine::rows::kind_at` meets its contract.
use native.Mathlib.Omega.{arith}
use Rattle.machine.proofs.CrossLaws.{meets_row}
use Rattle.machine.proofs.rows.kind_at.Goals as goal

pub returns : goal.returns
returns c = (meets_row c.row_of-row.ensures (omega arith) (omega arith) c.following.ensures, c.if-row-kind.false)
