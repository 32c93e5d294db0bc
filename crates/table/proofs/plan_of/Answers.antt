-- `table::plan_of` meets its contract: R, S and T are found from what is noted.
use mathlib.Core.Path.{ap}
use native.Mathlib.Omega.{arith}
use Rattle.table.proofs.SheetLaid.{accepted_lies}
use Rattle.table.proofs.PlanLaws.{readable, rows_right, need_comes}
use Rattle.table.proofs.plan_of.Goals as goal

pub sizes_of-rows-requires : goal.sizes_of-rows-requires
sizes_of-rows-requires c =
    let found = accepted_lies _ _ c.requires.accepted in
    let lies = found.lies in
    let few = lies.few_rows in
    record {
      readable = readable lies _ (omega arith);
      sized = record { total = _; comes = need_comes lies _ _ _ (c.requires.noted found.sheet lies.is) };
    }

pub returns : goal.returns
returns c =
    let found = accepted_lies _ _ c.requires.accepted in
    let lies = found.lies in
    let noted = c.requires.noted found.sheet lies.is in
    let said = c.sizes_of-rows.ensures in
    let needs = said.need _ (need_comes lies _ _ _ noted) in
    record {
      sheet = found.sheet;
      accepted = lies.is;
      planned = record {
        shape = lies.shape_is;
        rows = rows_right lies _ _ _ noted _ said.rows;
        values = ap (λ need. need.values) needs;
        turns = ap (λ need. need.turns) needs;
        noted = noted;
      };
    }
