-- A table's words in the buffer: its row count and its rows, whichever table it is, and the jumps that they note.
use Prim.Native.Nat.{ℕ, ◌+◌, ◌≤◌}
use mathlib.Core.Path.{◌≡◌, refl, sym, ap, subst, ◌∙◌}
use mathlib.Core.List.{List, ◌∷◌, ◌++◌}
use lib.ListN.{length, set, drop}
use lib.Seq.{sets-eq}
use native.Mathlib.Omega.{arith}
use Rattle.sheet.specs.Tree.{rows}
use Rattle.sheet.specs.Rows.{Row}
use Rattle.sheet.proofs.RowsCounted.{lines_counted}
use Rattle.table.specs.TableRows.{Table, lines_of, words_of, table_words}
use Rattle.table.specs.RowBounds.{most_table_rows}
use Rattle.table.specs.Sizes.{table_room}
use Rattle.table.specs.Calls.{overwritten}
use Rattle.table.specs.Inner.MarkedRows.{rows_in}
use Rattle.table.proofs.TableLength.{table_rows_counted, words_counted}
use Rattle.writer.specs.Inner.RowsWritten.{RowRoom, Wrote}
use Rattle.writer.specs.Inner.JumpsNoted.{noting, noted_over, Numbered, WroteNoted, TableNoted}

-- the count and the rows, written from word 0 on, are the table over the buffer
buffer_overwritten : (buffer after : List ℕ) (count next : ℕ) (table : Table) → count ≡ rows table → RowRoom buffer 1 (rows_in table)
    → Wrote (set buffer 0 count) 1 (rows_in table) after next → after ≡ overwritten (table_words table) buffer
unfolding overwritten table_words rows_in lines_of
buffer_overwritten buffer after count next table counted room wrote =
    let ws = words_of (rows_in table) in
    let n : length (lines_of table) ≡ count = lines_counted table ∙ sym counted in
    let fits : 0 + length (count ∷ ws) ≤ length buffer = omega (arith, room.fits, words_counted (rows_in table)) in
    let zero_first : 0 + length (count ∷ ws) ≡ length (count ∷ ws) = omega arith in
    rw n (wrote.words ∙ sets-eq (count ∷ ws) buffer 0 fits ∙ ap (λ k. (count ∷ ws) ++ drop k buffer) zero_first)

-- by the rows that the writer puts
module _ {rs : List Row} (table : Table) (right : rs ≡ rows_in table) (count : ℕ) (counted : count ≡ rows table) where
  many : length rs ≡ count
  many = ap length right ∙ table_rows_counted table ∙ sym counted

  pub room_right : (buffer : List ℕ) → table_room count ≤ length buffer → RowRoom buffer 1 rs
  room_right buffer long = record { fits = omega (arith, many) }

  pub rows_numbered : count ≤ most_table_rows → Numbered 1 rs
  rows_numbered few = record { begins = refl; few = omega (arith, many) }

  pub table_noted : {buffer after beyond beyond' : List ℕ} {next top : ℕ} → table_room count ≤ length buffer
      → WroteNoted (set buffer 0 count) 1 rs after next (noting 0 beyond) (noting top beyond') → TableNoted table buffer after beyond beyond'
  table_noted {buffer} {after} {beyond} {next = next} long did =
      record {
        words =
            buffer_overwritten buffer after count next table counted (subst (RowRoom buffer 1) right (room_right buffer long))
            (subst (λ rows. Wrote (set buffer 0 count) 1 rows after next) right did.wrote);
        jumps = ap (λ s. s.beyond) did.noted ∙ ap (λ rows. (noted_over rows 0 (noting 0 beyond)).beyond) right;
      }
