-- Every variable and every constant that an accepted sheet names is there: each accepted line names what is there, and the reading
-- only puts such lines together. Also: how many variables an accepted sheet has.
use Prim.Native.Nat.{ℕ, suc, ◌+◌, ◌*◌, ◌≤◌, ◌<◌}
use mathlib.Core.Path.{◌≡◌, ap, subst, ◌∙◌}
use mathlib.Core.Bool.{true, ◌&&◌}
use mathlib.Core.List.{List, [], ◌∷◌}
use mathlib.Core.Option.{Option, none, some}
use lib.ListN.{length, get_or, take, drop, length-take, length-drop}
use lib.Dec.{leb, ltb}
use native.Mathlib.Omega.{arith}
use Rattle.sheet.specs.Bounds.{limit}
use Rattle.sheet.specs.Judging.{given, unless}
use Rattle.sheet.specs.Refusals.{words_end, count_beyond, bad_row}
use Rattle.sheet.specs.Tree.{Tree, done, one, fork, again, basic, if_line, else_line, end_if, repeat, end_repeat}
use Rattle.sheet.specs.Reading.{fits, words_fit, count_at, line_by, line_of, taken, body_of, read, Item, row, branches, repeated, Block, in_first, in_second, in_repeat, closed, RowsTaken}
use Rattle.sheet.specs.Rows.{Assignment, Test, SheetLine, Row, variable, constant, Kind, kind_of}
use Rattle.sheet.specs.Names.{SourcePresent, AssignmentPresent, TestPresent, LoopPresent, Present}
use Rattle.sheet.specs.Sheets.{Sheet}
use Rattle.sheet.proofs.Judgements.{leb_tells, ltb_tells}
use Rattle.sheet.proofs.EachKind.{each_kind, ◌then◌, gap, end}
use Rattle.sheet.proofs.ReadingParts.{not_given, bound, passed, same_given, ReadParts, accepted}
use Rattle.sheet.proofs.LinesTaken.{Takes, adds, opens_if, splits, ends_if, opens_repeat, ends_repeat, takes}
use Rattle.sheet.proofs.RowsBack.{both, each_fits}

abbrev Body : Type 0
Body = Tree Assignment Test

module _ (v k : ℕ) where
  -- ---- presence of what has been read

  LinePresent : SheetLine → Type 0
  LinePresent (basic b) = AssignmentPresent v k b
  LinePresent (if_line f) = TestPresent v f
  LinePresent else_line = Unit {0}
  LinePresent end_if = Unit {0}
  LinePresent (repeat l) = LoopPresent v l
  LinePresent end_repeat = Unit {0}

  ItemsPresent : List Item → Type 0
  ItemsPresent [] = Unit {0}
  ItemsPresent (row b ∷ items) = AssignmentPresent v k b × ItemsPresent items
  ItemsPresent (branches f a b ∷ items) = TestPresent v f × Present v k a × Present v k b × ItemsPresent items
  ItemsPresent (repeated l a ∷ items) = Present v k a × ItemsPresent items × LoopPresent v l

  BlocksPresent : List Block → Type 0
  BlocksPresent [] = Unit {0}
  BlocksPresent (in_first f outer ∷ blocks) = TestPresent v f × ItemsPresent outer × BlocksPresent blocks
  BlocksPresent (in_second f a outer ∷ blocks) = TestPresent v f × Present v k a × ItemsPresent outer × BlocksPresent blocks
  BlocksPresent (in_repeat l outer ∷ blocks) = ItemsPresent outer × BlocksPresent blocks × LoopPresent v l

  record ReadPresent (next : RowsTaken) : Type 0 where
    blocks : BlocksPresent next.blocks
    items : ItemsPresent next.items

  closed_present : (items : List Item) (rest : Body) → ItemsPresent items → Present v k rest → Present v k (closed items rest)
  unfolding closed ItemsPresent Present
  closed_present [] rest h r = r
  closed_present (row b ∷ items) rest h r = closed_present items (one b rest) h.1 (h.0, r)
  closed_present (branches f a b ∷ items) rest h r = closed_present items (fork f a b rest) h.3 (h.0, h.1, h.2, r)
  closed_present (repeated l a ∷ items) rest h r = closed_present items (again l a rest) h.1 (h.0, r, h.2)

  -- ---- one row more

  variable_there : (word : ℕ) → fits v k variable word ≡ true → word < v
  unfolding fits
  variable_there word e = (ltb_tells word v).0 e

  constant_there : (word : ℕ) → fits v k constant word ≡ true → word < k
  unfolding fits
  constant_there word e = (ltb_tells word k).0 e

  -- what a kind's words have to name, if they fit
  abbrev Names : Option Kind → (d a b : ℕ) → Type 0
  Names none d a b = Unit {0}
  Names (some kind) d a b =
      fits v k kind.d d ≡ true → fits v k kind.a a ≡ true → fits v k kind.b b ≡ true → LinePresent (kind.means d a b)

  names : (d a b n : ℕ) → Names (kind_of n) d a b
  unfolding LinePresent AssignmentPresent TestPresent SourcePresent
  names d a b =
      each_kind (λ n o. Names o d a b) (λ n. tt)
      ((λ p q r. (variable_there d p, variable_there a q))
      then (λ p q r. (variable_there d p, constant_there a q))
      then (λ p q r. (variable_there d p, (variable_there a q, variable_there b r)))
      then (λ p q r. (variable_there d p, (variable_there a q, variable_there b r)))
      then (λ p q r. (variable_there d p, (variable_there a q, variable_there b r)))
      then (λ p q r. (variable_there d p, variable_there a q))
      then (λ p q r. (variable_there a q, variable_there b r))
      then (λ p q r. tt)
      then (λ p q r. tt)
      then (λ p q r. tt)
      then (λ p q r. tt)
      then gap (gap (gap (gap (gap (gap
      ((λ p q r. (variable_there d p, (variable_there a q, variable_there b r)))
      then (λ p q r. (variable_there a q, variable_there b r))
      then end)))))))

  line_by_present : (r : Row) (place : ℕ) (l : SheetLine) (o : Option Kind) → Names o r.d r.a r.b
      → line_by v k o r place ≡ given l → LinePresent l
  unfolding line_by
  line_by_present r place l none p e = not_given e
  line_by_present r place l (some kind) p e =
      let h = bound (unless (words_fit v k kind r) (bad_row place)) _ l e in
      let fit = each_fits v k kind r (passed (words_fit v k kind r) (bad_row place) h.1) in
      subst LinePresent (same_given h.2) (p fit.0 fit.1 fit.2)

  line_present : (r : Row) (place : ℕ) (l : SheetLine) → line_of v k r place ≡ given l → LinePresent l
  unfolding line_of
  line_present r place l e = line_by_present r place l (kind_of r.kind) (names r.d r.a r.b r.kind) e

  taken_present : {l : SheetLine} {blocks : List Block} {items : List Item} {next : RowsTaken} → Takes l blocks items next → LinePresent l
      → BlocksPresent blocks → ItemsPresent items → ReadPresent next
  unfolding LinePresent BlocksPresent ItemsPresent Present
  taken_present adds hl hb hi = record { blocks = hb; items = (hl, hi) }
  taken_present (opens_if room) hl hb hi = record { blocks = (hl, hi, hb); items = tt }
  taken_present {items = items} splits hl hb hi = record { blocks = (hb.0, closed_present items done hi tt, hb.1, hb.2); items = tt }
  taken_present {items = items} ends_if hl hb hi = record { blocks = hb.3; items = (hb.0, hb.1, closed_present items done hi tt, hb.2) }
  taken_present (opens_repeat room) hl hb hi = record { blocks = (hi, hb, hl); items = tt }
  taken_present {items = items} ends_repeat hl hb hi = record { blocks = hb.1; items = (closed_present items done hi tt, hb.0, hb.2) }

  -- ---- all rows

  read_present : (rs : List Row) (place : ℕ) (blocks : List Block) (items : List Item) (t : Body) → BlocksPresent blocks → ItemsPresent items
      → body_of v k rs place blocks items ≡ given t → Present v k t
  unfolding body_of Present
  read_present [] place [] items t hb hi e = subst (Present v k) (same_given e) (closed_present items done hi tt)
  read_present [] place (block ∷ blocks) items t hb hi e = not_given e
  read_present (r ∷ rs) place blocks items t hb hi e =
      let line = bound (line_of v k r place) _ t e in
      let took = bound (taken line.0 place blocks items) _ t line.2 in
      let next = took.0 in
      let present = taken_present (takes line.0 place blocks items next took.1) (line_present r place line.0 line.1) hb hi in
      read_present rs (place + limit.row_words) next.blocks next.items t present.blocks present.items took.2

  body_present : (rs : List Row) (place : ℕ) (t : Body) → body_of v k rs place [] [] ≡ given t → Present v k t
  unfolding BlocksPresent ItemsPresent
  body_present rs place t e = read_present rs place [] [] t tt tt e

-- ---- the sheet

-- a count that was judged: in its range, and its items are there
pub record Counted (words : List ℕ) (place low high width count : ℕ) : Type 0 where
  pub least : low ≤ count
  pub most : count ≤ high
  pub there : suc place + count * width ≤ length words

pub count_judged : (words : List ℕ) (place low high width count : ℕ) → count_at words place low high width ≡ given count
    → Counted words place low high width count
unfolding count_at
count_judged words place low high width count e =
    let read = get_or words place 0 in
    let c₁ = bound (unless (ltb place (length words)) (words_end place)) _ count e in
    let c₂ = bound (unless (leb low read && leb read high) (count_beyond place)) _ count c₁.2 in
    let c₃ = bound (unless (leb (suc place + read * width) (length words)) (words_end (suc place))) _ count c₂.2 in
    let range = both (leb low read) (leb read high) (passed (leb low read && leb read high) (count_beyond place) c₂.1) in
    subst (Counted words place low high width) (same_given c₃.2)
    (record {
      least = (leb_tells low read).0 range.0;
      most = (leb_tells read high).0 range.1;
      there = (leb_tells _ _).0 (passed (leb (suc place + read * width) (length words)) (words_end (suc place)) c₃.1);
    })

-- a section of one-word items that are there is as long as its count
pub section_length : (words : List ℕ) (place count : ℕ) → suc place + count * 1 ≤ length words → length (take count (drop (suc place) words)) ≡ count
section_length words place count h = simp (length-take, length-drop) (omega arith)

-- an accepted sheet's roles and constants are as many as its counts say, which are in range
pub record Counts (words : List ℕ) (sheet : Sheet) (parts : ReadParts words sheet) : Type 0 where
  pub variables : length sheet.roles ≡ parts.v
  pub constants : length sheet.constants ≡ parts.k
  pub some_variable : 1 ≤ length sheet.roles
  pub not_too_many : length sheet.roles ≤ limit.variables

pub counts : (words : List ℕ) (sheet : Sheet) (parts : ReadParts words sheet) → Counts words sheet parts
counts words sheet parts =
    let v = count_judged words 0 limit.fewest_variables limit.variables 1 parts.v parts.variables in
    let k = count_judged words (1 + parts.v) 0 limit.constants 1 parts.k parts.constant_count in
    let roles = ap length parts.roles ∙ section_length words 0 parts.v v.there in
    let constants = ap length parts.constants ∙ section_length words (1 + parts.v) parts.k k.there in
    record { variables = roles; constants = constants; some_variable = omega (arith, v.least); not_too_many = omega (arith, v.most) }

pub names_present : (words : List ℕ) (sheet : Sheet) → read words ≡ given sheet
    → Present (length sheet.roles) (length sheet.constants) sheet.body
names_present words sheet e =
    let parts = accepted words sheet e in
    let counted = counts words sheet parts in
    rw (counted.variables, counted.constants) (body_present parts.v parts.k sheet.rows _ sheet.body parts.body)
