-- `table::sizes::sizes_of` meets its contract. The invariant: what is counted and what the rows from p on still count make up the whole, and the
-- levels stand for the blocks from which these rows come to what all rows come to.
use Prim.Native.Nat.{ℕ, ◌+◌, ◌*◌, ◌-◌, ◌≤◌}
use mathlib.Core.Path.{◌≡◌}
use Rattle.table.specs.RowBounds.{most_rows_each}
use Rattle.table.specs.Inner.MarkedRows.{count_rows, count_all}
use Rattle.table.proofs.SizesPass.{Going}
use Rattle.table.proofs.sizes.sizes_of.Given as goal

abbrev pub invariant-loop-p : goal.invariant-loop-p
invariant-loop-p l = record {
  few : l.rows ≤ 1 + most_rows_each * l.p;
  whole : (v : ℕ) → l.rows + count_rows v l.words l.shape.first_row l.marks l.p (l.shape.rows - l.p) ≡ 1 + count_all v l.words l.shape l.marks;
  going : Going l.words l.shape.first_row l.shape.rows l.marks l.levels l.depth l.need l.p;
}
