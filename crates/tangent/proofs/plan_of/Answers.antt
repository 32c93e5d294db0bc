-- `tangent::plan_of` meets its contract: the row count is found from what is noted, and no stack is needed.
use mathlib.Core.Path.{refl}
use native.Mathlib.Omega.{arith}
use Rattle.table.proofs.SheetLaid.{accepted_lies}
use Rattle.table.proofs.PlanLaws.{readable}
use Rattle.tangent.proofs.TangentPlanLaws.{rows_right}
use Rattle.tangent.proofs.plan_of.Goals as goal

pub rows_before-rows-requires-clause-readable : goal.rows_before-rows-requires-clause-readable
rows_before-rows-requires-clause-readable c =
    let lies = (accepted_lies _ _ c.requires.accepted).lies in
    let few = lies.few_rows in
    readable lies _ (omega arith)

pub returns : goal.returns
returns c =
    let found = accepted_lies _ _ c.requires.accepted in
    let lies = found.lies in
    let noted = c.requires.noted found.sheet lies.is in
    record {
      sheet = found.sheet;
      accepted = lies.is;
      planned = record { shape = lies.shape_is; rows = rows_right lies _ _ _ noted c.rows_before-rows.ensures.0; values = refl; turns = refl; noted = noted };
    }
