-- `writer::rows::TableOut::forward_row` meets its contract, by what the row is to the blocks.
use Prim.Native.Nat.{ℕ}
use mathlib.Core.Path.{◌≡◌, refl}
use mathlib.Core.List.{[], ◌∷◌}
use mathlib.Core.Logic.{◌⊎◌, inl, inr}
use Rattle.sheet.specs.Rows.{Row}
use Rattle.sheet.specs.Inner.RowLines.{line_of_row}
use Rattle.sheet.specs.declared.kinds.Part.{Part}
use Rattle.sheet.specs.declared.kinds.Part.TheVariants as part
use Rattle.table.specs.Inner.MarkedRows.{SaysPart, forward_of_line}
use Rattle.writer.proofs.WritingLaws.{put_then, room_first, room_after}
use Rattle.table.proofs.LineRows.{forward_by}
use Rattle.writer.proofs.rows.TableOut.forward_row.Goals as goal

-- an "if", a loop's start and its end stand alone
alone : {r : Row} {p : Part} → SaysPart r p → p ≡ part.If ⊎ (p ≡ part.Repeat ⊎ p ≡ part.EndRepeat) → (mark : ℕ)
    → forward_of_line mark (line_of_row r) ≡ r ∷ []
alone said (inl is) mark = forward_by said is mark refl
alone said (inr (inl is)) mark = forward_by said is mark refl
alone said (inr (inr is)) mark = forward_by said is mark refl

pub put_if-requires : goal.put_if-requires
put_if-requires c =
    room_first _ _ (rw (forward_by c.requires.part_said c.in-Assignment.is c.args.mark c.bit-saved.ensures) at c.requires.room)

pub put-requires : goal.put-requires
put-requires c =
    room_after _ c.put_if.ensures (rw (forward_by c.requires.part_said c.in-Assignment.is c.args.mark c.bit-saved.ensures) at c.requires.room)

pub put-requires-in-If : goal.put-requires-in-If
put-requires-in-If c =
    rw (alone c.requires.part_said c.in-If.is c.args.mark) at c.requires.room

pub put-requires-in-Else : goal.put-requires-in-Else
put-requires-in-Else c =
    room_first _ _ (rw (forward_by c.requires.part_said c.in-Else.is c.args.mark refl) at c.requires.room)

pub put-requires-in-Else-2 : goal.put-requires-in-Else-2
put-requires-in-Else-2 c =
    room_after _ c.put-in-Else.ensures (rw (forward_by c.requires.part_said c.in-Else.is c.args.mark refl) at c.requires.room)

pub put-requires-in-EndIf : goal.put-requires-in-EndIf
put-requires-in-EndIf c =
    room_first _ _ (rw (forward_by c.requires.part_said c.in-EndIf.is c.args.mark refl) at c.requires.room)

pub put-requires-in-EndIf-2 : goal.put-requires-in-EndIf-2
put-requires-in-EndIf-2 c =
    room_after _ c.put-in-EndIf.ensures (rw (forward_by c.requires.part_said c.in-EndIf.is c.args.mark refl) at c.requires.room)

pub returns-in-Assignment : goal.returns-in-Assignment
returns-in-Assignment c =
    rw (forward_by c.requires.part_said c.in-Assignment.is c.args.mark c.bit-saved.ensures) (put_then c.put_if.ensures c.put.ensures)

pub returns-in-If : goal.returns-in-If
returns-in-If c =
    rw (alone c.requires.part_said c.in-If.is c.args.mark) c.put-in-If.ensures

pub returns-in-Else : goal.returns-in-Else
returns-in-Else c =
    rw (forward_by c.requires.part_said c.in-Else.is c.args.mark refl) (put_then c.put-in-Else.ensures c.put-in-Else-2.ensures)

pub returns-in-EndIf : goal.returns-in-EndIf
returns-in-EndIf c =
    rw (forward_by c.requires.part_said c.in-EndIf.is c.args.mark refl) (put_then c.put-in-EndIf.ensures c.put-in-EndIf-2.ensures)
