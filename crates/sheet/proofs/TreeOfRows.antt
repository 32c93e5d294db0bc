-- An accepted sheet's rows are exactly its tree's rows, and no other tree has them.
use Prim.Native.Nat.{ℕ, ◌+◌}
use mathlib.Core.Path.{◌≡◌, refl, sym, ap, ◌∙◌}
use mathlib.Core.List.{List, [], ◌∷◌, map}
use mathlib.Core.Option.{Option, none, some}
use Rattle.sheet.specs.Bounds.{limit}
use Rattle.sheet.specs.Judging.{given, unless}
use Rattle.sheet.specs.Refusals.{bad_row}
use Rattle.sheet.specs.Tree.{Tree, done, one, fork, again, basic, if_line, else_line, end_if, repeat, end_repeat, flat}
use Rattle.sheet.specs.Reading.{words_fit, line_by, line_of, taken, body_of, read, Item, row, branches, repeated, Block, in_first, in_second, in_repeat, closed, RowsTaken}
use Rattle.sheet.specs.Rows.{Assignment, Test, SheetLine, Row, Kind, kind_of, sheet_row_of, tree_rows}
use Rattle.sheet.specs.Sheets.{Sheet}
use Rattle.sheet.proofs.ReadingParts.{not_given, bound, passed, same_given, accepted}
use Rattle.sheet.proofs.LinesTaken.{Takes, adds, opens_if, splits, ends_if, opens_repeat, ends_repeat, takes}
use Rattle.sheet.proofs.TreeOnly.{only_tree}
use Rattle.sheet.proofs.RowsBack.{only_lines, row_back}

abbrev Body : Type 0
Body = Tree Assignment Test

-- ---- the lines that have been read: of items, and of the blocks still open

item_lines : List Item → List SheetLine → List SheetLine
item_lines [] rest = rest
item_lines (row b ∷ items) rest = item_lines items (basic b ∷ rest)
item_lines (branches f a b ∷ items) rest = item_lines items (if_line f ∷ flat a (else_line ∷ flat b (end_if ∷ rest)))
item_lines (repeated m a ∷ items) rest = item_lines items (repeat m ∷ flat a (end_repeat ∷ rest))

block_lines : List Block → List SheetLine → List SheetLine
block_lines [] rest = rest
block_lines (in_first f outer ∷ blocks) rest = block_lines blocks (item_lines outer (if_line f ∷ rest))
block_lines (in_second f a outer ∷ blocks) rest = block_lines blocks (item_lines outer (if_line f ∷ flat a (else_line ∷ rest)))
block_lines (in_repeat m outer ∷ blocks) rest = block_lines blocks (item_lines outer (repeat m ∷ rest))

-- everything up to here, then `rest`
read_lines : List Block → List Item → List SheetLine → List SheetLine
read_lines blocks items rest = block_lines blocks (item_lines items rest)

closed_lines : (items : List Item) (k : Body) (rest : List SheetLine) → flat (closed items k) rest ≡ item_lines items (flat k rest)
unfolding closed flat item_lines
closed_lines [] k rest = refl
closed_lines (row b ∷ items) k rest = closed_lines items (one b k) rest
closed_lines (branches f a b ∷ items) k rest = closed_lines items (fork f a b k) rest
closed_lines (repeated m a ∷ items) k rest = closed_lines items (again m a k) rest

-- ---- one row more

-- the line of an accepted row says that row
line_by_says : (v k : ℕ) (r : Row) (place : ℕ) (l : SheetLine) (o : Option Kind) → kind_of r.kind ≡ o
    → line_by v k o r place ≡ given l → sheet_row_of l ≡ r
unfolding line_by
line_by_says v k r place l none p e = not_given e
line_by_says v k r place l (some kind) p e =
    let h = bound (unless (words_fit v k kind r) (bad_row place)) _ l e in
    let fit = passed (words_fit v k kind r) (bad_row place) h.1 in
    cc (row_back v k r kind p fit, h.2)

line_says : (v k : ℕ) (r : Row) (place : ℕ) (l : SheetLine) → line_of v k r place ≡ given l → sheet_row_of l ≡ r
unfolding line_of
line_says v k r place l e = line_by_says v k r place l (kind_of r.kind) refl e

-- taking a line adds it to what has been read
abbrev Adds : List Block → List Item → SheetLine → RowsTaken → Type 0
Adds blocks items l next = (rest : List SheetLine) → read_lines next.blocks next.items rest ≡ read_lines blocks items (l ∷ rest)

taken_adds : {l : SheetLine} {blocks : List Block} {items : List Item} {next : RowsTaken} → Takes l blocks items next → Adds blocks items l next
unfolding read_lines block_lines item_lines flat
taken_adds adds = λ rest. refl
taken_adds (opens_if room) = λ rest. refl
taken_adds {items = items} splits = λ rest. rw (closed_lines items done (else_line ∷ rest))
taken_adds {items = items} ends_if = λ rest. rw (closed_lines items done (end_if ∷ rest))
taken_adds (opens_repeat room) = λ rest. refl
taken_adds {items = items} ends_repeat = λ rest. rw (closed_lines items done (end_repeat ∷ rest))

-- ---- all rows

-- the lines that rows stand for
record Lines (rs : List Row) (t : Body) (blocks : List Block) (items : List Item) : Type 0 where
  lines : List SheetLine
  say : map sheet_row_of lines ≡ rs
  follow : flat t [] ≡ read_lines blocks items lines

body_lines : (v k : ℕ) (rs : List Row) (place : ℕ) (blocks : List Block) (items : List Item) (t : Body) → body_of v k rs place blocks items ≡ given t
    → Lines rs t blocks items
unfolding body_of read_lines block_lines flat
body_lines v k [] place [] items t e =
    record { lines = []; say = refl; follow = ap (λ b. flat b []) (sym (same_given e)) ∙ closed_lines items done [] }
body_lines v k [] place (block ∷ blocks) items t e = not_given e
body_lines v k (r ∷ rs) place blocks items t e =
    let read = bound (line_of v k r place) _ t e in
    let line = read.0 in
    let took = bound (taken line place blocks items) _ t read.2 in
    let next = took.0 in
    let rest = body_lines v k rs (place + limit.row_words) next.blocks next.items t took.2 in
    record {
      lines = line ∷ rest.lines;
      say = cc (line_says v k r place line read.1, rest.say);
      follow = rest.follow ∙ taken_adds (takes line place blocks items next took.1) rest.lines;
    }

pub body_rows : (v k : ℕ) (rs : List Row) (place : ℕ) (t : Body) → body_of v k rs place [] [] ≡ given t → tree_rows t ≡ rs
unfolding tree_rows read_lines block_lines item_lines
body_rows v k rs place t e = let h = body_lines v k rs place [] [] t e in ap (map sheet_row_of) h.follow ∙ h.say

pub only_body : (t t' : Body) → tree_rows t ≡ tree_rows t' → t ≡ t'
unfolding tree_rows
only_body t t' e = only_tree t t' (only_lines (flat t []) (flat t' []) e)

-- ---- the sheet

-- what an accepted sheet's body is: the one tree that says its rows
pub record Exact (sheet : Sheet) : Type 0 where
  pub says : tree_rows sheet.body ≡ sheet.rows
  pub only : (t : Body) → tree_rows t ≡ sheet.rows → t ≡ sheet.body

pub tree_of_rows : (words : List ℕ) (sheet : Sheet) → read words ≡ given sheet → Exact sheet
tree_of_rows words sheet e =
    let parts = accepted words sheet e in
    let says = body_rows _ _ sheet.rows _ sheet.body parts.body in
    record { says = says; only = λ t p. only_body t sheet.body (p ∙ sym says) }
