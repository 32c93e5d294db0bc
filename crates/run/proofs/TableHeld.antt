-- A buffer that starts with a table's words holds its rows.
use Prim.Native.Nat.{ℕ, zero, suc, ◌+◌, ◌*◌}
use mathlib.Core.Path.{◌≡◌, ap, ◌∙◌}
use mathlib.Core.List.{List, [], ◌∷◌, ◌++◌, map}
use lib.ListN.{length, drop, length-append}
use native.Mathlib.Omega.{arith}
use Rattle.sheet.specs.Bounds.{limit}
use Rattle.sheet.specs.Sheets.{row_at}
use Rattle.sheet.proofs.RowsCounted.{lines_counted}
use Rattle.table.specs.TableRows.{Table, TableLine, table_row_of, lines_of, words_of, table_words}
use Rattle.table.specs.Calls.{overwritten}
use Rattle.table.proofs.TableLength.{table_words_lem}
use Rattle.machine.specs.Inner.RowsHanded.{place_of_row, Holds}

row_behind : (word : ℕ) (words : List ℕ) (place : ℕ) → row_at (word ∷ words) (suc place) ≡ row_at words place
unfolding row_at
row_behind word words place =
    let one : suc place + 1 ≡ suc (place + 1) = omega arith in
    let two : suc place + 2 ≡ suc (place + 2) = omega arith in
    let three : suc place + 3 ≡ suc (place + 3) = omega arith in
    rw (one, two, three)

four_behind : (k d a b : ℕ) (words : List ℕ) (place : ℕ) → row_at (k ∷ d ∷ a ∷ b ∷ words) (suc (suc (suc (suc place)))) ≡ row_at words place
four_behind k d a b words place =
    row_behind k (d ∷ a ∷ b ∷ words) (suc (suc (suc place))) ∙ row_behind d (a ∷ b ∷ words) (suc (suc place))
    ∙ row_behind a (b ∷ words) (suc place) ∙ row_behind b words place

words_row : (lines : List TableLine) (behind : List ℕ) (p : ℕ) (line : TableLine) (rest : List TableLine) → drop p lines ≡ line ∷ rest
    → row_at (words_of (map table_row_of lines) ++ behind) (limit.row_words * p) ≡ table_row_of line
unfolding words_of row_at
words_row [] behind zero line rest e = let z : ◌≡◌ {A = ℕ} 0 1 = cc in absurd (omega arith)
words_row [] behind (suc p) line rest e = let z : ◌≡◌ {A = ℕ} 0 1 = cc in absurd (omega arith)
words_row (l ∷ lines) behind zero line rest e = let same : l ≡ line = cc in ap table_row_of same
words_row (l ∷ lines) behind (suc p) line rest e =
    let next : limit.row_words * suc p ≡ suc (suc (suc (suc (limit.row_words * p)))) = omega arith in
    let row = table_row_of l in
    ap (row_at (words_of (map table_row_of (l ∷ lines)) ++ behind)) next
    ∙ four_behind row.kind row.d row.a row.b (words_of (map table_row_of lines) ++ behind) (limit.row_words * p)
    ∙ words_row lines behind p line rest e

-- behind the row count
table_row : (table : Table) (behind : List ℕ) (p : ℕ) (line : TableLine) (rest : List TableLine) → drop p (lines_of table) ≡ line ∷ rest
    → row_at (table_words table ++ behind) (place_of_row p) ≡ table_row_of line
unfolding table_words
table_row table behind p line rest e =
    let place : place_of_row p ≡ suc (limit.row_words * p) = omega arith in
    ap (row_at (table_words table ++ behind)) place
    ∙ row_behind (length (lines_of table)) (words_of (map table_row_of (lines_of table)) ++ behind) (limit.row_words * p)
    ∙ words_row (lines_of table) behind p line rest e

pub table_holds : (table : Table) (before : List ℕ) → Holds (overwritten (table_words table) before) (lines_of table)
unfolding overwritten lines_of
table_holds table before =
    let behind = drop (length (table_words table)) before in
    record { within = omega (arith, table_words_lem table, lines_counted table, length-append (table_words table) behind); held = table_row table behind }
