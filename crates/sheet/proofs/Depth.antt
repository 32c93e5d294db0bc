-- "blocks nest at most 8 deep": so does an accepted sheet's tree, since no block is entered inside eight others.
use Prim.Native.Nat.{ℕ, suc, ◌+◌, ◌≤◌, max}
use mathlib.Core.Path.{◌≡◌, subst}
use mathlib.Core.List.{List, [], ◌∷◌}
use lib.ListN.{length}
use native.Mathlib.Omega.{arith}
use Rattle.sheet.specs.Bounds.{limit}
use Rattle.sheet.specs.Judging.{given}
use Rattle.sheet.specs.Tree.{Tree, done, one, fork, again}
use Rattle.sheet.specs.Rows.{Assignment, Test, SheetLine, Row}
use Rattle.sheet.specs.Reading.{Item, row, branches, repeated, Block, in_first, in_second, in_repeat, closed, RowsTaken}
use Rattle.sheet.specs.Sheets.{Sheet}
use Rattle.sheet.specs.Reading.{line_of, taken, body_of, read}
use Rattle.sheet.proofs.ReadingParts.{not_given, bound, same_given, accepted}
use Rattle.sheet.proofs.LinesTaken.{Takes, adds, opens_if, splits, ends_if, opens_repeat, ends_repeat, takes}

unfoldable pub deep : {B F : Type 0} → Tree B F → ℕ
deep done = 0
deep (one b k) = deep k
deep (fork f a b k) = max (suc (max (deep a) (deep b))) (deep k)
deep (again m a k) = max (suc (deep a)) (deep k)

-- ---- of what has been read

items_deep : List Item → ℕ
items_deep [] = 0
items_deep (row b ∷ items) = items_deep items
items_deep (branches f a b ∷ items) = max (suc (max (deep a) (deep b))) (items_deep items)
items_deep (repeated m a ∷ items) = max (suc (deep a)) (items_deep items)

closed_deep : (items : List Item) (rest : Tree Assignment Test) → deep (closed items rest) ≡ max (items_deep items) (deep rest)
unfolding closed items_deep deep
closed_deep [] rest = omega arith
closed_deep (row b ∷ items) rest = closed_deep items (one b rest)
closed_deep (branches f a b ∷ items) rest = omega (arith, closed_deep items (fork f a b rest))
closed_deep (repeated m a ∷ items) rest = omega (arith, closed_deep items (again m a rest))

-- what stands inside so many blocks leaves room for them
abbrev Inside : (blocks : List Block) (depth : ℕ) → Type 0
Inside blocks depth = length blocks + depth ≤ limit.depth

BlocksFit : List Block → Type 0
BlocksFit [] = Unit {0}
BlocksFit (in_first f outer ∷ blocks) = Inside blocks (items_deep outer) × BlocksFit blocks
BlocksFit (in_second f a outer ∷ blocks) = Inside blocks (items_deep outer) × Inside blocks (suc (deep a)) × BlocksFit blocks
BlocksFit (in_repeat m outer ∷ blocks) = Inside blocks (items_deep outer) × BlocksFit blocks

record Fits (next : RowsTaken) : Type 0 where
  blocks : BlocksFit next.blocks
  items : Inside next.blocks (items_deep next.items)

-- ---- one row more

taken_fits : {l : SheetLine} {blocks : List Block} {items : List Item} {next : RowsTaken} → Takes l blocks items next → BlocksFit blocks
    → Inside blocks (items_deep items) → Fits next
unfolding BlocksFit items_deep deep
taken_fits adds hb hi = record { blocks = hb; items = hi }
taken_fits (opens_if room) hb hi = record { blocks = (hi, hb); items = omega arith }
taken_fits {items = items} splits hb hi = record { blocks = (hb.0, omega (arith, closed_deep items done), hb.1); items = omega arith }
taken_fits {items = items} ends_if hb hi = record { blocks = hb.2; items = omega (arith, hb.0, hb.1, closed_deep items done) }
taken_fits (opens_repeat room) hb hi = record { blocks = (hi, hb); items = omega arith }
taken_fits {items = items} ends_repeat hb hi = record { blocks = hb.1; items = omega (arith, hb.0, closed_deep items done) }

-- ---- all rows

read_fits : (v k : ℕ) (rs : List Row) (place : ℕ) (blocks : List Block) (items : List Item) (t : Tree Assignment Test) → BlocksFit blocks
    → Inside blocks (items_deep items) → body_of v k rs place blocks items ≡ given t → deep t ≤ limit.depth
unfolding body_of deep
read_fits v k [] place [] items t hb hi e =
    subst (λ body. deep body ≤ limit.depth) (same_given e) (omega (arith, hi, closed_deep items done))
read_fits v k [] place (block ∷ blocks) items t hb hi e = not_given e
read_fits v k (r ∷ rs) place blocks items t hb hi e =
    let line = bound (line_of v k r place) _ t e in
    let took = bound (taken line.0 place blocks items) _ t line.2 in
    let next = took.0 in
    let fits = taken_fits (takes line.0 place blocks items next took.1) hb hi in
    read_fits v k rs (place + limit.row_words) next.blocks next.items t fits.blocks fits.items took.2

pub sheet_deep : (words : List ℕ) (sheet : Sheet) → read words ≡ given sheet → deep sheet.body ≤ limit.depth
unfolding BlocksFit items_deep
sheet_deep words sheet e =
    let parts = accepted words sheet e in
    read_fits parts.v parts.k sheet.rows _ [] [] sheet.body tt (omega arith) parts.body
