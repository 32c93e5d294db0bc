-- What a line that is taken does to the blocks that are open: the cases of `taken` in which it refuses nothing.
use Prim.Native.Nat.{ℕ, ◌<◌}
use mathlib.Core.Path.{◌≡◌, subst}
use mathlib.Core.List.{List, [], ◌∷◌}
use lib.ListN.{length}
use lib.Dec.{ltb}
use Rattle.sheet.specs.Bounds.{limit}
use Rattle.sheet.specs.Judging.{given, unless}
use Rattle.sheet.specs.Refusals.{bad_block}
use Rattle.sheet.specs.Tree.{Loop, Tree, done, basic, if_line, else_line, end_if, repeat, end_repeat}
use Rattle.sheet.specs.Rows.{Assignment, Test, SheetLine}
use Rattle.sheet.specs.Reading.{Item, row, branches, repeated, Block, in_first, in_second, in_repeat, closed, RowsTaken}
use Rattle.sheet.specs.Reading.{entered, split_at, if_ended_at, repeat_ended_at, taken}
use Rattle.sheet.proofs.Judgements.{ltb_tells}
use Rattle.sheet.proofs.ReadingParts.{bound, passed, same_given, not_given}

abbrev Body : Type 0
Body = Tree Assignment Test

pub data Takes : SheetLine → List Block → List Item → RowsTaken → Type 0 where
  adds : {b : Assignment} {blocks : List Block} {items : List Item}
      → Takes (basic b) blocks items (record { blocks = blocks; items = row b ∷ items })
  opens_if : {f : Test} {blocks : List Block} {items : List Item} → length blocks < limit.depth
      → Takes (if_line f) blocks items (record { blocks = in_first f items ∷ blocks; items = [] })
  splits : {f : Test} {outer items : List Item} {blocks : List Block}
      → Takes else_line (in_first f outer ∷ blocks) items (record { blocks = in_second f (closed items done) outer ∷ blocks; items = [] })
  ends_if : {f : Test} {a : Body} {outer items : List Item} {blocks : List Block}
      → Takes end_if (in_second f a outer ∷ blocks) items (record { blocks = blocks; items = branches f a (closed items done) ∷ outer })
  opens_repeat : {m : Loop Test} {blocks : List Block} {items : List Item} → length blocks < limit.depth
      → Takes (repeat m) blocks items (record { blocks = in_repeat m items ∷ blocks; items = [] })
  ends_repeat : {m : Loop Test} {outer items : List Item} {blocks : List Block}
      → Takes end_repeat (in_repeat m outer ∷ blocks) items (record { blocks = blocks; items = repeated m (closed items done) ∷ outer })

-- a block that is entered has room, and nothing has been read in it
record Entered (block : Block) (blocks : List Block) (next : RowsTaken) : Type 0 where
  room : length blocks < limit.depth
  is : record { blocks = block ∷ blocks; items = [] } ≡ next

enters : (block : Block) (place : ℕ) (blocks : List Block) (next : RowsTaken) → entered block place blocks ≡ given next → Entered block blocks next
unfolding entered
enters block place blocks next e =
    let test = ltb (length blocks) limit.depth in
    let c = bound (unless test (bad_block place)) _ next e in
    record { room = (ltb_tells _ _).0 (passed test (bad_block place) c.1); is = same_given c.2 }

split_takes : (place : ℕ) (blocks : List Block) (items : List Item) (next : RowsTaken) → split_at place blocks items ≡ given next
    → Takes else_line blocks items next
unfolding split_at
split_takes place [] items next e = not_given e
split_takes place (in_first f outer ∷ blocks) items next e = subst (Takes _ _ items) (same_given e) splits
split_takes place (in_second f a outer ∷ blocks) items next e = not_given e
split_takes place (in_repeat m outer ∷ blocks) items next e = not_given e

if_ended_takes : (place : ℕ) (blocks : List Block) (items : List Item) (next : RowsTaken) → if_ended_at place blocks items ≡ given next
    → Takes end_if blocks items next
unfolding if_ended_at
if_ended_takes place [] items next e = not_given e
if_ended_takes place (in_first f outer ∷ blocks) items next e = not_given e
if_ended_takes place (in_second f a outer ∷ blocks) items next e = subst (Takes _ _ items) (same_given e) ends_if
if_ended_takes place (in_repeat m outer ∷ blocks) items next e = not_given e

repeat_ended_takes : (place : ℕ) (blocks : List Block) (items : List Item) (next : RowsTaken) → repeat_ended_at place blocks items ≡ given next
    → Takes end_repeat blocks items next
unfolding repeat_ended_at
repeat_ended_takes place [] items next e = not_given e
repeat_ended_takes place (in_first f outer ∷ blocks) items next e = not_given e
repeat_ended_takes place (in_second f a outer ∷ blocks) items next e = not_given e
repeat_ended_takes place (in_repeat m outer ∷ blocks) items next e = subst (Takes _ _ items) (same_given e) ends_repeat

pub takes : (l : SheetLine) (place : ℕ) (blocks : List Block) (items : List Item) (next : RowsTaken) → taken l place blocks items ≡ given next
    → Takes l blocks items next
unfolding taken
takes (basic b) place blocks items next e = subst (Takes _ blocks items) (same_given e) adds
takes (if_line f) place blocks items next e =
    let into = enters (in_first f items) place blocks next e in subst (Takes _ blocks items) into.is (opens_if into.room)
takes else_line place blocks items next e = split_takes place blocks items next e
takes end_if place blocks items next e = if_ended_takes place blocks items next e
takes (repeat m) place blocks items next e =
    let into = enters (in_repeat m items) place blocks next e in subst (Takes _ blocks items) into.is (opens_repeat into.room)
takes end_repeat place blocks items next e = repeat_ended_takes place blocks items next e
