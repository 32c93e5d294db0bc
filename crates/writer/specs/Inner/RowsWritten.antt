-- Rows in a lent buffer, and the rows of the table's two parts as the writer puts them, from a sheet's rows, their marks and their partners.
use Prim.Native.Nat.{ℕ, zero, suc, ◌+◌, ◌*◌, ◌-◌, ◌≤◌, ◌<◌}
use Rattle.std.specs.Prelude.{◌≡◌, Bool, true, false, cond, length, get_or, eqb}
use mathlib.Core.List.{List, [], ◌∷◌, ◌++◌}
use Rattle.std.proofs.lemmas.List.Edits.{sets}
use Rattle.sheet.specs.Sheets.{row_at}
use Rattle.sheet.specs.Bounds.{limit}
use Rattle.sheet.specs.Rows.{Row, SheetLine, while_kind}
use Rattle.sheet.specs.Inner.RowLines.{line_of_row, numbered_row}
use Rattle.sheet.specs.Inner.Kinds.{part_of}
use Rattle.sheet.specs.declared.Shape.{Shape}
use Rattle.sheet.specs.declared.kinds.Part.{Part}
use Rattle.sheet.specs.declared.kinds.Part.TheVariants as part
use Rattle.table.specs.TableRows.{words_of}
use Rattle.writer.specs.declared.rows.TableOut.{TableOut}
use Rattle.table.specs.Inner.MarkedRows.{row_with, forward_of_line, backward_of_line, SmallWords}

-- ---- rows in a buffer

-- a buffer has room for rows from a place on
pub record RowRoom (buffer : List ℕ) (place : ℕ) (rs : List Row) : Type 0 where
  pub fits : place + limit.row_words * length rs ≤ length buffer

-- the buffer holds the rows' words from a place on and is else as it was; `reached` is the place after them
pub record Wrote (before : List ℕ) (place : ℕ) (rs : List Row) (after : List ℕ) (reached : ℕ) : Type 0 where
  pub words : after ≡ sets before place (words_of rs)
  pub place_after : reached ≡ place + limit.row_words * length rs

-- both said of the table and the place that rows go to
abbrev pub HasRoom : TableOut → List Row → Type 0
HasRoom out rs = RowRoom out.table.now out.place rs

pub record Put (before : TableOut) (rs : List Row) (after : TableOut) : Type 0 where
  pub wrote : Wrote before.table.now before.place rs after.table.now after.place
  pub same_table : after.table.ghost_name ≡ before.table.ghost_name
  pub same_variables : after.variables ≡ before.variables

-- ---- in one pass over the sheet's rows, in order

-- the rows that so many sheet rows from row p on give, each by its mark and its line
unfoldable pub rows_along : (of_line : (mark : ℕ) → SheetLine → List Row) (words : List ℕ) (first : ℕ) (marks : List ℕ) (p count : ℕ) → List Row
unfolding line_of_row row_at
rows_along of_line words first marks p zero = []
rows_along of_line words first marks p (suc n) =
    of_line (get_or marks p 0) (line_of_row (numbered_row words first p)) ++ rows_along of_line words first marks (suc p) n

-- ---- the forward part

-- its rows, for so many rows from row p on, and for all of them
abbrev pub forward_rows : (words : List ℕ) (first : ℕ) (marks : List ℕ) (p count : ℕ) → List Row
forward_rows = rows_along forward_of_line

abbrev pub forward_all : (words : List ℕ) → Shape → (marks : List ℕ) → List Row
forward_all words shape marks = forward_rows words shape.first_row marks 0 shape.rows

-- ---- the backward part

-- the last row of the if block that row q opens
abbrev pub if_end : (goes : List ℕ) (q : ℕ) → ℕ
if_end goes q = get_or goes (get_or goes q 0) 0

-- a row from which `goes` leads to another row that is read: an "if" to its "else", an "end repeat" to its "repeat"
abbrev pub leads_on : Part → Bool
leads_on part.Assignment = false
leads_on part.If = true
leads_on part.Else = false
leads_on part.EndIf = false
leads_on part.Repeat = false
leads_on part.EndRepeat = true

-- The backward part walks over the rows from the last on. From a row it goes to the end of what comes next, which is
-- the row before; but "end if" to the first branch, "if" to the second, "else" to what is before the block.
unfoldable pub step_back : (came goes : List ℕ) (q : ℕ) → Part → ℕ
step_back came goes q part.Assignment = q
step_back came goes q part.If = if_end goes q
step_back came goes q part.Else = get_or came q 0
step_back came goes q part.EndIf = get_or came q 0
step_back came goes q part.Repeat = q
step_back came goes q part.EndRepeat = q

-- the turns that the backward part says of the loop that a row opens: a loop with a test says none
abbrev pub turns_said_by : Row → ℕ
turns_said_by r = cond (eqb r.kind while_kind) 0 r.a

-- the turns of an "end repeat"'s "repeat"
unfoldable pub turns_back : (words : List ℕ) (first : ℕ) (goes : List ℕ) (q : ℕ) → Part → ℕ
unfolding row_at
turns_back words first goes q part.Assignment = 0
turns_back words first goes q part.If = 0
turns_back words first goes q part.Else = 0
turns_back words first goes q part.EndIf = 0
turns_back words first goes q part.Repeat = 0
turns_back words first goes q part.EndRepeat = turns_said_by (numbered_row words first (get_or goes q 0))

-- what the writer is handed for the backward part
pub record Handed : Type 0 where
  pub words : List ℕ
  pub first : ℕ
  pub rows : ℕ
  pub marks : List ℕ
  pub came : List ℕ
  pub goes : List ℕ
  pub variables : ℕ

abbrev pub handed : (words : List ℕ) → Shape → (marks came goes : List ℕ) → Handed
handed words shape marks came goes =
    record {
      words = words;
      first = shape.first_row;
      rows = shape.rows;
      marks = marks;
      came = came;
      goes = goes;
      variables = shape.variables;
    }

module _ (given : Handed) where
  abbrev pub row_of_number : ℕ → Row
  row_of_number q = numbered_row given.words given.first q

  -- the backward part's rows: of row q, and of so many rows from the one before `end` on
  abbrev pub backward_at : (q : ℕ) → List Row
  backward_at q =
      let l = line_of_row (row_of_number q) in
      backward_of_line given.variables (get_or given.marks q 0) (turns_back given.words given.first given.goes q (part_of l)) l

  abbrev pub part_of_number : ℕ → Part
  part_of_number q = part_of (line_of_row (row_of_number q))

  abbrev pub way_back : (q : ℕ) → ℕ
  way_back q = step_back given.came given.goes q (part_of_number q)

  unfoldable pub backward_rows : (count end : ℕ) → List Row
  unfolding backward_of_line turns_back line_of_row row_at step_back
  backward_rows zero end = []
  backward_rows (suc n) end = backward_at (end - 1) ++ backward_rows n (way_back (end - 1))

  abbrev pub backward_all : List Row
  backward_all = backward_rows given.rows given.rows

  -- the row before `end` is there, and so is the row that it leads to
  pub record Visited (end : ℕ) : Type 0 where
    pub some : 1 ≤ end
    pub within : end ≤ given.rows
    pub leads : leads_on (part_of_number (end - 1)) ≡ true → get_or given.goes (end - 1) 0 < given.rows

  -- the walk stays on the rows for so many of them
  unfoldable pub Walks : (count end : ℕ) → Type 0
  unfolding row_at line_of_row step_back
  Walks zero end = Unit
  Walks (suc n) end = Visited end × Walks n (way_back (end - 1))

  -- what the reader has made sure of besides
  pub record Walkable : Type 0 where
    pub few : given.variables ≤ limit.variables
    pub small : (p : ℕ) → p < given.rows → SmallWords given.variables (row_of_number p)
    pub came_there : given.rows ≤ length given.came
    pub goes_there : given.rows ≤ length given.goes
    pub walks : Walks given.rows given.rows

-- ---- the whole table

-- the forward part, row 17 and the backward part
unfoldable pub whole_rows : Handed → List Row
unfolding rows_along forward_of_line backward_rows
whole_rows given =
    forward_rows given.words given.first given.marks 0 given.rows ++ (row_with 17 0 0 0 ∷ backward_all given)
