-- Where each "if", each "else" and each "repeat" of a table goes on to, as the writer notes it row by row, without a stack.
use Rattle.std.specs.Prelude.{ℕ, suc, ◌+◌, ◌*◌, ◌-◌, ◌/◌, ◌≤◌, ◌≡◌, cond, ◌||◌, List, [], ◌∷◌, length, get_or, set, eqb}
use Rattle.sheet.specs.Bounds.{limit}
use Rattle.sheet.specs.Rows.{Row}
use Rattle.sheet.specs.declared.kinds.Part.{Part}
use Rattle.sheet.specs.declared.kinds.Part.TheVariants as part
use Rattle.table.specs.TableRows.{Table, table_words}
use Rattle.table.specs.RowBounds.{most_table_rows}
use Rattle.table.specs.Calls.{overwritten}
use Rattle.table.specs.Inner.MarkedRows.{rows_in}
use Rattle.writer.specs.declared.jumps.Branching.{Branching}
use Rattle.writer.specs.declared.jumps.Branching.TheVariants as branching
use Rattle.writer.specs.declared.rows.TableOut.{TableOut}
use Rattle.writer.specs.Inner.RowsWritten.{Wrote, Put}

-- The row that opened the innermost open branch or loop, or split its block, and what is noted at each row. While what it opened is open, a row
-- has the one that was innermost around it; then what it goes on to.
pub record Noting : Type 0 where
  pub top : ℕ
  pub beyond : List ℕ

abbrev pub noting : (top : ℕ) (beyond : List ℕ) → Noting
noting top beyond = record { top = top; beyond = beyond }

-- what one row does, by what it is to the blocks: an "if" goes on to the row after its "else", an "else" to the row after its "end if", a
-- "repeat" to the row after its "end repeat"
unfoldable pub noted_by : Branching → (row : ℕ) → Noting → Noting
noted_by branching.Opens p s = noting p (set s.beyond p s.top)
noted_by branching.Splits p s = noting p (set (set s.beyond s.top (suc p)) p (get_or s.beyond s.top 0))
noted_by branching.Closes p s = noting (get_or s.beyond s.top 0) (set s.beyond s.top (suc p))
noted_by branching.Passes p s = s

-- "if", also on a turn, and each kind of loop; "else"; "end if" and "end repeat"
abbrev pub branching_of : (kind : ℕ) → Branching
branching_of kind =
    cond (eqb kind 7 || eqb kind 15 || eqb kind 10 || eqb kind 19 || eqb kind 20) branching.Opens
    (cond (eqb kind 8) branching.Splits (cond (eqb kind 9 || eqb kind 11) branching.Closes branching.Passes))

-- rows one after another, the first with this number
unfoldable pub noted_over : List Row → (row : ℕ) → Noting → Noting
unfolding noted_by
noted_over [] p s = s
noted_over (r ∷ rs) p s = noted_over rs (suc p) (noted_by (branching_of r.kind) p s)

-- what the last of a sheet row's rows is in the forward part
abbrev pub forward_branching : Part → Branching
forward_branching part.Assignment = branching.Passes
forward_branching part.If = branching.Opens
forward_branching part.Else = branching.Splits
forward_branching part.EndIf = branching.Closes
forward_branching part.Repeat = branching.Opens
forward_branching part.EndRepeat = branching.Closes

-- and in the backward part, where a block's end is its start
abbrev pub backward_branching : Part → Branching
backward_branching part.Assignment = branching.Passes
backward_branching part.If = branching.Splits
backward_branching part.Else = branching.Closes
backward_branching part.EndIf = branching.Opens
backward_branching part.Repeat = branching.Closes
backward_branching part.EndRepeat = branching.Opens

-- ---- rows in a buffer

-- how many rows stand before a place
abbrev pub rows_before : (place : ℕ) → ℕ
rows_before place = (place - 1) / limit.row_words

-- a place where a row ends that a table can have
pub record RowEnds (place : ℕ) : Type 0 where
  pub some : 1 + limit.row_words ≤ place
  pub few : place ≤ 1 + limit.row_words * most_table_rows

-- a place where a row begins, and from there on no more rows than a table can have
pub record Numbered (place : ℕ) (rs : List Row) : Type 0 where
  pub begins : place ≡ 1 + limit.row_words * rows_before place
  pub few : rows_before place + length rs ≤ most_table_rows

-- rows are written, and what they do to the blocks is noted
pub record WroteNoted (before : List ℕ) (place : ℕ) (rs : List Row) (after : List ℕ) (reached : ℕ) (s s' : Noting) : Type 0 where
  pub wrote : Wrote before place rs after reached
  pub noted : s' ≡ noted_over rs (rows_before place) s

pub record PutNoted (before : TableOut) (rs : List Row) (after : TableOut) (s s' : Noting) : Type 0 where
  pub put : Put before rs after
  pub noted : s' ≡ noted_over rs (rows_before before.place) s

-- the jumps of a whole table, over whatever was there
abbrev pub JumpsNoted : Table → (before after : List ℕ) → Type 0
JumpsNoted table before after = after ≡ (noted_over (rows_in table) 0 (noting 0 before)).beyond

-- a table over a buffer, with its jumps
pub record TableNoted (table : Table) (before after beyond beyond' : List ℕ) : Type 0 where
  pub words : after ≡ overwritten (table_words table) before
  pub jumps : JumpsNoted table beyond beyond'
