-- `tangent::rows::second_rates` meets its contract.
use mathlib.Core.List.{[], ◌∷◌}
use Rattle.writer.proofs.WritingLaws.{put_then, room_first, room_after}
use Rattle.tangent.proofs.rows.second_rates.Goals as goal

pub put-requires-2 : goal.put-requires-2
put-requires-2 c = room_first (_ ∷ []) _ (room_after {rs = _ ∷ []} _ c.put.ensures c.requires.room)

pub put-requires-3 : goal.put-requires-3
put-requires-3 c = room_after {rs = _ ∷ []} _ c.put-2.ensures (room_after {rs = _ ∷ []} _ c.put.ensures c.requires.room)

pub returns : goal.returns
returns c =
    put_then c.put.ensures (put_then c.put-2.ensures c.put-3.ensures)
