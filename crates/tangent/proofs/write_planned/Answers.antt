-- `tangent::write_planned` meets its contract: the plan's sheet is the words', so the rows that are written are its tangent table's.
use mathlib.Core.Path.{sym, ◌∙◌}
use native.Mathlib.Omega.{arith}
use Rattle.sheet.proofs.ReadingParts.{same_given}
use Rattle.table.proofs.PlanLaws.{readable, planned_lies}
use Rattle.writer.proofs.TableWritten.{room_right, rows_numbered, table_noted}
use Rattle.tangent.proofs.TangentPlanLaws.{words_small, all_right, counts_rows, planned_few}
use Rattle.tangent.proofs.write_planned.Goals as goal

pub write_table-requires : goal.write_table-requires
write_table-requires c =
    let made = c.requires.planned.made in
    let lies = planned_lies made in
    let few = lies.few_rows in
    let right = all_right lies _ _ _ made.planned.noted in
    let counted = counts_rows made in
    record {
      room = room_right _ right _ counted _ c.requires.table_fits;
      numbered = rows_numbered _ right _ counted (planned_few made);
      readable = readable lies _ (omega arith);
      small = words_small lies;
      rows_few = planned_few made;
    }

pub returns : goal.returns
returns c =
    let made = c.requires.planned.made in
    let right = all_right (planned_lies made) _ _ _ made.planned.noted in
    let noted = table_noted _ right _ (counts_rows made) c.requires.table_fits c.write_table.ensures.did in
    λ sheet e. rw (sym (same_given (sym made.accepted ∙ e))) noted
