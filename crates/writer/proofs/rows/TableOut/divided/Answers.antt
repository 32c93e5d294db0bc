-- `writer::rows::TableOut::divided` meets its contract.
use mathlib.Core.Path.{◌∙◌}
use mathlib.Core.List.{[], ◌∷◌}
use Rattle.table.specs.Inner.MarkedRows.{divisor_rows}
use Rattle.writer.proofs.WritingLaws.{put_then, put_as, room_first, room_after}
use Rattle.writer.proofs.rows.TableOut.divided.Goals as goal

pub put-requires : goal.put-requires
put-requires c = room_first (_ ∷ []) _ c.requires.room

pub put_if-requires : goal.put_if-requires
put_if-requires c = room_first _ _ (room_after {rs = _ ∷ []} _ c.put.ensures c.requires.room)

pub over_divisor-requires : goal.over_divisor-requires
over_divisor-requires c =
    let same = c.put_if.ensures.same_variables ∙ c.put.ensures.same_variables in
    record {
      room = rw same (room_after _ c.put_if.ensures (room_after {rs = _ ∷ []} _ c.put.ensures c.requires.room));
      small = (rw same c.requires.small.0, c.requires.small.1.1);
    }

pub returns : goal.returns
returns c =
    let same = c.put_if.ensures.same_variables ∙ c.put.ensures.same_variables in
    let x = c.args in
    put_then c.put.ensures (put_then c.put_if.ensures (put_as (λ v. divisor_rows v x.second x.a x.b) same c.over_divisor.ensures))
