-- The tangent table's rows before a sheet's row, counted one sheet row after another, and that they are as many as are written.
use Prim.Native.Nat.{ℕ, zero, suc, ◌+◌}
use mathlib.Core.Path.{◌≡◌, refl, sym, ap, ◌∙◌}
use mathlib.Core.List.{List}
use native.Mathlib.Omega.{arith}
use native.Mathlib.Numerals.{add-one}
use lib.ListN.{get_or, length, length-append}
use Rattle.sheet.specs.Rows.{Row}
use Rattle.sheet.specs.Inner.RowLines.{line_of_row, numbered_row}
use Rattle.table.specs.Inner.MarkedRows.{known_by}
use Rattle.writer.specs.Inner.RowsWritten.{rows_along}
use Rattle.tangent.specs.Inner.TangentPlans.{line_count, table_rows_before}
use Rattle.tangent.specs.Inner.TangentRowsWritten.{tangent_of_line}
use Rattle.tangent.proofs.TangentLines.{line_length}

next_before : (words : List ℕ) (first : ℕ) (marks : List ℕ) (p : ℕ)
    → table_rows_before words first marks (suc p)
    ≡ table_rows_before words first marks p + line_count (known_by (get_or marks p 0)) (line_of_row (numbered_row words first p))
unfolding table_rows_before
next_before words first marks p = refl

pub one_passed : (words : List ℕ) (first : ℕ) (marks : List ℕ) (p : ℕ) {count more : ℕ} {r : Row} → count ≡ table_rows_before words first marks p
    → r ≡ numbered_row words first p → more ≡ line_count (known_by (get_or marks p 0)) (line_of_row r)
    → count + more ≡ table_rows_before words first marks (p + 1)
unfolding table_rows_before
one_passed words first marks p {more = more} so_far read counted =
    let known = known_by (get_or marks p 0) in
    let own : more ≡ line_count known (line_of_row (numbered_row words first p)) = counted ∙ ap (λ r. line_count known (line_of_row r)) read in
    rw (so_far, own) (ap (table_rows_before words first marks) (sym (add-one p)))

-- those of the rows from p on are written behind them
pub along_counted : (v : ℕ) (words : List ℕ) (first : ℕ) (marks : List ℕ) (p n : ℕ)
    → table_rows_before words first marks p + length (rows_along (tangent_of_line v) words first marks p n) ≡ table_rows_before words first marks (p + n)
unfolding rows_along
along_counted v words first marks p zero = let all : p + 0 ≡ p = omega arith in rw all (omega arith)
along_counted v words first marks p (suc n) =
    let here = tangent_of_line v (get_or marks p 0) (line_of_row (numbered_row words first p)) in
    let behind = rows_along (tangent_of_line v) words first marks (suc p) n in
    let all : p + suc n ≡ suc p + n = omega arith in
    rw all
    (omega (
      arith,
      length-append here behind,
      line_length v (get_or marks p 0) (line_of_row (numbered_row words first p)),
      next_before words first marks p,
      along_counted v words first marks (suc p) n,
    ))
