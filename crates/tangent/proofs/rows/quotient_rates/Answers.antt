-- `tangent::rows::quotient_rates` meets its contract, by the operands that are varied.
use mathlib.Core.List.{[], ◌∷◌}
use Rattle.sheet.specs.Answers.{row_said}
use Rattle.writer.proofs.WritingLaws.{put_then, put_as, room_first, room_after}
use Rattle.tangent.specs.Inner.TangentRowsWritten.{second_rates}
use Rattle.tangent.proofs.rows.quotient_rates.Goals as goal

pub put-requires : goal.put-requires
put-requires c =
    room_first (_ ∷ []) _ (rw (c.if-first.true, c.if-second.true) at c.requires.room)

pub second_rates-requires-clause-room : goal.second_rates-requires-clause-room
second_rates-requires-clause-room c =
    rw c.put.ensures.same_variables
    (room_first (_ ∷ _ ∷ _ ∷ []) _ (room_after {rs = _ ∷ []} _ c.put.ensures (rw (c.if-first.true, c.if-second.true) at c.requires.room)))

pub put-requires-then-second : goal.put-requires-then-second
put-requires-then-second c =
    let seconds = put_as (λ v. second_rates v (row_said c.args.row)) c.put.ensures.same_variables c.second_rates.ensures in
    room_after _ seconds (room_after {rs = _ ∷ []} _ c.put.ensures (rw (c.if-first.true, c.if-second.true) at c.requires.room))

pub returns-then-second : goal.returns-then-second
returns-then-second c =
    let seconds = put_as (λ v. second_rates v (row_said c.args.row)) c.put.ensures.same_variables c.second_rates.ensures in
    rw (c.if-first.true, c.if-second.true) (put_then c.put.ensures (put_then seconds c.put-then-second.ensures))

pub put-requires-then-first : goal.put-requires-then-first
put-requires-then-first c =
    rw (c.if-first.true, c.if-second.false) at c.requires.room

pub returns-then-first : goal.returns-then-first
returns-then-first c =
    rw (c.if-first.true, c.if-second.false) c.put-then-first.ensures

pub second_rates-requires-2 : goal.second_rates-requires-2
second_rates-requires-2 c = record { room = room_first (_ ∷ _ ∷ _ ∷ []) _ (rw c.if-first.false at c.requires.room); small = c.requires.small }

pub put-requires-2 : goal.put-requires-2
put-requires-2 c =
    room_after _ c.second_rates-2.ensures (rw c.if-first.false at c.requires.room)

pub returns : goal.returns
returns c =
    rw c.if-first.false (put_then c.second_rates-2.ensures c.put-2.ensures)
