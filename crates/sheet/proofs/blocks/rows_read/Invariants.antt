-- `sheet::blocks::rows_read` meets its contract. The invariant: the levels stand for blocks and items, from which the rows that are left come
-- to what all rows do.
use Rattle.std.proofs.Common.{◌+◌, ◌*◌, ◌-◌}
use Rattle.sheet.specs.Bounds.{limit}
use Rattle.sheet.proofs.RowsFollowed.{Going}
use Rattle.sheet.proofs.blocks.rows_read.Given as goal

abbrev pub invariant-loop-number : goal.invariant-loop-number
invariant-loop-number l =
    Going l.words l.first l.counts.rows l.counts.variables l.counts.constants l.levels l.depth l.inner (l.first + l.number * limit.row_words) (l.counts.rows - l.number)
