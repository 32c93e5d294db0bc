-- The table's rows, sheet row by sheet row, from a row's words and its byte of marks; how many they are; and what the arrays of marks and
-- partners hold of a sheet's tree.
use Prim.Native.Nat.{ℕ, zero, suc, ◌+◌, ◌*◌, ◌≤◌, ◌<◌}
use Rattle.std.specs.Prelude.{◌≡◌, ◌≢◌, Bool, true, false, List, [], ◌∷◌, ◌++◌, map, length, get_or}
use Rattle.sheet.specs.Sheets.{row_at}
use Rattle.sheet.specs.Bounds.{limit}
use Rattle.sheet.specs.Tree.{Tree, done, one, fork, again, rows, RowNumber, basic, if_line, else_line, end_if, repeat, end_repeat}
use Rattle.sheet.specs.Rows.{Assignment, Test, ◌≔◌, Source, fixed, SheetLine, Row, row_of_test, sheet_row_of, quotient_kind}
use Rattle.sheet.specs.Inner.RowLines.{line_of_row, SaysLine, numbered_row}
use Rattle.sheet.specs.Inner.Kinds.{part_of}
use Rattle.sheet.specs.declared.Shape.{Shape}
use Rattle.sheet.specs.declared.kinds.Part.{Part}
use Rattle.sets.specs.Transfers.{Activity}
use Rattle.sets.specs.Marks.{Marked}
use Rattle.sets.specs.MarkBytes.{weight, bit_of}
use Rattle.table.specs.TableRows.{adjoint_of, t, u, Table, lines_of, table_row_of, row_of_action, save_turn, on_turn}
use Rattle.table.specs.Adjoint.{forward_row, parts_of, derivative_rows, backward_of}

-- ---- rows

abbrev pub row_with : (kind d a b : ℕ) → Row
row_with kind d a b = record { kind = kind; d = d; a = a; b = b }

-- a row, only if
abbrev pub row_if : Bool → Row → List Row
row_if true r = r ∷ []
row_if false r = []

-- a table's rows, without where they come from
unfoldable pub rows_in : Table → List Row
unfolding lines_of table_row_of
rows_in table = map table_row_of (lines_of table)

-- ---- the marks

abbrev pub known_by : ℕ → Activity
known_by mark =
    record { varied_a = bit_of mark weight.varied_a; varied_b = bit_of mark weight.varied_b; active = bit_of mark weight.active }

abbrev pub saved_by : ℕ → Bool
saved_by mark = bit_of mark weight.saved

-- ---- one sheet row

-- the row number that a row's words don't show
abbrev pub any_row : RowNumber
any_row = record { index = 0 }

-- small enough words that every number in the table fits a word
pub record SmallWords (variables : ℕ) (r : Row) : Type 0 where
  pub few : variables ≤ limit.variables
  pub d : r.d ≤ limit.turns
  pub a : r.a ≤ limit.turns
  pub b : r.b ≤ limit.turns

-- a row says a line, and this is what the line is to the blocks
pub record SaysPart (r : Row) (p : Part) : Type 0 where
  pub says : SaysLine r
  pub is : p ≡ part_of (line_of_row r)

abbrev pub source_said : SheetLine → Source
source_said (basic (d ≔ source)) = source
source_said (if_line f) = fixed 0
source_said else_line = fixed 0
source_said end_if = fixed 0
source_said (repeat l) = fixed 0
source_said end_repeat = fixed 0

-- an assignment's kinds
pub record Assigns (kind : ℕ) : Type 0 where
  pub some : 1 ≤ kind
  pub most : kind ≢ quotient_kind → kind ≤ 6

-- what an assignment's row reads
unfoldable pub source_of : Row → Source
unfolding line_of_row
source_of r = source_said (line_of_row r)

-- the rows of an assignment's parts, its derivative rows, and all its backward rows
unfoldable pub part_rows : (variables : ℕ) → Row → (mark : ℕ) → List Row
unfolding source_of parts_of rows_in
part_rows v r mark = rows_in (parts_of v (source_of r) any_row (known_by mark) done)

-- of these, those of a product for one operand: u := operand × t, and u into the adjoint of the other
abbrev pub scaled_rows : (variables : ℕ) → Bool → (operand other : ℕ) → List Row
scaled_rows v test operand other =
    row_if test (row_with 5 (u v) operand (t v)) ++ row_if test (row_with 3 (adjoint_of v other) (adjoint_of v other) (u v))

-- and those of a quotient for the divisor: u := a × u, u := u / b, and u out of b̄
abbrev pub divisor_rows : (variables : ℕ) → Bool → (a b : ℕ) → List Row
divisor_rows v test a b =
    row_if test (row_with 5 (u v) a (u v))
    ++ (row_if test (row_with quotient_kind (u v) (u v) b) ++ row_if test (row_with 4 (adjoint_of v b) (adjoint_of v b) (u v)))

-- for both: u := t / b, u into ā, and the divisor's
abbrev pub divided_rows : (variables : ℕ) → (first second : Bool) → (a b : ℕ) → List Row
divided_rows v first second a b =
    row_with quotient_kind (u v) (t v) b ∷ (row_if first (row_with 3 (adjoint_of v a) (adjoint_of v a) (u v)) ++ divisor_rows v second a b)

unfoldable pub derivatives_of : (variables : ℕ) → Row → (mark : ℕ) → List Row
unfolding source_of derivative_rows rows_in
derivatives_of v r mark = rows_in (derivative_rows v (known_by mark).active r.d (source_of r) any_row (known_by mark) done)

unfoldable pub assignment_back : (variables : ℕ) → Row → (mark : ℕ) → List Row
unfolding source_of backward_of rows_in
assignment_back v r mark = rows_in (backward_of v (r.d ≔ source_of r) any_row (known_by mark) (saved_by mark) done)

-- a sheet row's rows in the forward part
unfoldable pub forward_of_line : (mark : ℕ) → SheetLine → List Row
unfolding forward_row rows_in row_of_test row_of_action table_row_of sheet_row_of
forward_of_line mark (basic b) = rows_in (forward_row (record { row = any_row; assignment = b; known = known_by mark; saved = saved_by mark }) done)
forward_of_line mark (if_line f) = row_of_test f ∷ []
forward_of_line mark else_line = row_of_action (save_turn true) ∷ table_row_of else_line ∷ []
forward_of_line mark end_if = row_of_action (save_turn false) ∷ table_row_of end_if ∷ []
forward_of_line mark (repeat l) = sheet_row_of (repeat l) ∷ []
forward_of_line mark end_repeat = table_row_of end_repeat ∷ []

-- a loop's first row in the backward part: a repeat has turns; a loop that takes its count back has none to say
abbrev pub loop_back : (turns : ℕ) → Row
loop_back zero = row_with 20 0 0 0
loop_back (suc m) = row_with 10 0 (suc m) 0

-- and in the backward part: a block's end is its start there, with the turns of its "repeat"
unfoldable pub backward_of_line : (variables mark turns : ℕ) → SheetLine → List Row
unfolding backward_of rows_in table_row_of
backward_of_line v mark turns (basic b) = rows_in (backward_of v b any_row (known_by mark) (saved_by mark) done)
backward_of_line v mark turns (if_line f) = table_row_of else_line ∷ []
backward_of_line v mark turns else_line = table_row_of end_if ∷ []
backward_of_line v mark turns end_if = table_row_of (if_line on_turn) ∷ []
backward_of_line v mark turns (repeat l) = table_row_of end_repeat ∷ []
backward_of_line v mark turns end_repeat = loop_back turns ∷ []

-- in both parts; how many they are doesn't hang on the turns
abbrev pub both_parts : (variables mark : ℕ) → SheetLine → List Row
both_parts v mark l = forward_of_line mark l ++ backward_of_line v mark 0 l

-- so many rows, whatever the number of variables, and how many they can be
pub record Counted (most count : ℕ) (rows_for : (variables : ℕ) → List Row) : Type 0 where
  pub within : count ≤ most
  pub is : (v : ℕ) → count ≡ length (rows_for v)

-- ---- all rows

-- what the reader has made sure of: the rows are there, few, each says a line, and a mark is there for each
pub record RowsReadable (words : List ℕ) (shape : Shape) (marks : List ℕ) : Type 0 where
  pub few : shape.rows ≤ limit.rows
  pub marked : shape.rows ≤ length marks
  pub says : (p : ℕ) → p < shape.rows → SaysLine (numbered_row words shape.first_row p)
  pub there : shape.first_row + shape.rows * limit.row_words ≤ length words

-- how many rows so many rows from row p on give in both parts
unfoldable pub count_rows : (variables : ℕ) (words : List ℕ) (first : ℕ) (marks : List ℕ) (p count : ℕ) → ℕ
unfolding forward_of_line backward_of_line line_of_row row_at
count_rows v words first marks p zero = 0
count_rows v words first marks p (suc n) =
    length (both_parts v (get_or marks p 0) (line_of_row (numbered_row words first p))) + count_rows v words first marks (suc p) n

abbrev pub count_all : (variables : ℕ) (words : List ℕ) → Shape → (marks : List ℕ) → ℕ
count_all v words shape marks = count_rows v words shape.first_row marks 0 shape.rows

-- ---- what the arrays hold, of a sheet's tree

-- a byte says what is marked of an assignment
pub record MarkSays (byte : ℕ) (b : Assignment) (m : Marked) : Type 0 where
  pub assignment : m.assignment ≡ b
  pub known : m.known ≡ known_by byte
  pub saved : m.saved ≡ saved_by byte

module _ (marks came goes : List ℕ) (mark : ℕ → Assignment → Marked) where
  -- the partners of an "if", its "else" and its "end if"
  pub record BranchNoted (start split end : ℕ) : Type 0 where
    pub if_goes : get_or goes start 0 ≡ split
    pub else_goes : get_or goes split 0 ≡ end
    pub else_came : get_or came split 0 ≡ start
    pub end_came : get_or came end 0 ≡ split

  -- the partner of an "end repeat"
  pub record RepeatNoted (start end : ℕ) : Type 0 where
    pub end_goes : get_or goes end 0 ≡ start

  -- of the rows of a tree from row p on: each assignment's marks and each block row's partners
  unfoldable pub Noted : Tree Assignment Test → (p : ℕ) → Type 0
  unfolding rows
  Noted done p = Unit
  Noted (one b k) p = MarkSays (get_or marks p 0) b (mark p b) × Noted k (suc p)
  Noted (fork f a b k) p =
      let split = suc p + rows a in
      let end = suc split + rows b in
      BranchNoted p split end × (Noted a (suc p) × (Noted b (suc split) × Noted k (suc end)))
  Noted (again l a k) p = let end = suc p + rows a in RepeatNoted p end × (Noted a (suc p) × Noted k (suc end))
