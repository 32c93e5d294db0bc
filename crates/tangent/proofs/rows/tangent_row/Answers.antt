-- `tangent::rows::tangent_row` meets its contract, by whether the row is an assignment.
use mathlib.Core.Path.{sym, ◌∙◌}
use Rattle.writer.proofs.WritingLaws.{put_then, room_first, room_after}
use Rattle.table.proofs.LineRows.{says_assigns}
use Rattle.tangent.proofs.TangentLines.{when_assigned, when_block, is_assignment}
use Rattle.tangent.proofs.rows.tangent_row.Goals as goal

pub rates-requires : goal.rates-requires
rates-requires c =
    let x = c.args in
    let is = sym c.assigns.ensures ∙ c.if-assigns.true in
    record {
      room = room_first _ _ (rw (when_assigned c.requires.part_said x.out.now.variables x.mark is) at c.requires.room);
      small = c.requires.small;
      assigns = says_assigns c.requires.part_said (is_assignment x.part is);
    }

pub put-requires : goal.put-requires
put-requires c =
    let x = c.args in
    let is = sym c.assigns.ensures ∙ c.if-assigns.true in
    room_after _ c.rates.ensures (rw (when_assigned c.requires.part_said x.out.now.variables x.mark is) at c.requires.room)

pub returns-then-assigns : goal.returns-then-assigns
returns-then-assigns c =
    let x = c.args in
    let is = sym c.assigns.ensures ∙ c.if-assigns.true in
    rw (when_assigned c.requires.part_said x.out.now.variables x.mark is) (put_then c.rates.ensures c.put.ensures)

pub put-requires-2 : goal.put-requires-2
put-requires-2 c =
    let x = c.args in
    rw (when_block c.requires.part_said x.out.now.variables x.mark (sym c.assigns.ensures ∙ c.if-assigns.false)) at c.requires.room

pub returns : goal.returns
returns c =
    let x = c.args in
    rw (when_block c.requires.part_said x.out.now.variables x.mark (sym c.assigns.ensures ∙ c.if-assigns.false)) c.put-2.ensures
