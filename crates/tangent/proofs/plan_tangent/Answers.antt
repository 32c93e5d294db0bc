-- `tangent::plan_tangent` meets its contract: the reader's refusal, or the plan of the sheet that it accepts, from what `sets::mark` promises.
use Rattle.std.specs.Prelude.{◌≡◌, Err}
use native.Mathlib.Omega.{arith}
use Rattle.sets.proofs.CallLaws.{marking_refuses, marking_shape}
use Rattle.table.proofs.NotedTree.{sheet_noted}
use Rattle.tangent.proofs.plan_tangent.Goals as goal

pub plan_of-requires : goal.plan_of-requires
plan_of-requires c = record { accepted = marking_shape _ _ _ _ c.mark.ensures.0 c.in_ok-shape.was; noted = sheet_noted _ _ _ c.mark.ensures.1 }

pub returns-in_err-shape : goal.returns-in_err-shape
returns-in_err-shape c =
    let gone : c.from_residual.result ≡ Err c.in_err-shape.field-0.0 = grind arith in
    rw gone (marking_refuses _ _ _ c.mark.ensures.0 c.in_err-shape.was)
