-- The backward part along its walk.
use Prim.Native.Nat.{ℕ, zero, suc, ◌-◌, ◌≤◌, ◌<◌}
use mathlib.Core.Path.{◌≡◌, refl}
use mathlib.Core.List.{[], ◌++◌}
use lib.ListN.{get_or}
use native.Mathlib.Omega.{arith}
use Rattle.sheet.specs.Rows.{Row}
use Rattle.sheet.specs.Inner.RowLines.{line_of_row}
use Rattle.sheet.specs.Inner.Kinds.{part_of}
use Rattle.sheet.specs.declared.kinds.Part.{Part}
use Rattle.table.specs.Inner.MarkedRows.{backward_of_line}
use Rattle.writer.specs.Inner.RowsWritten.{Handed, row_of_number, step_back, turns_back, backward_at, way_back, backward_rows, Visited, Walks}

pub backward_turn : (given : Handed) (n end : ℕ)
    → backward_rows given (suc n) end ≡ backward_at given (end - 1) ++ backward_rows given n (way_back given (end - 1))
unfolding backward_rows
backward_turn given n end = refl

-- one turn of the walk, by the row that was read there
pub backward_next : (given : Handed) (left end : ℕ) {r : Row} {p : Part} {turns next : ℕ} → 0 < left → r ≡ row_of_number given (end - 1)
    → p ≡ part_of (line_of_row r) → turns ≡ turns_back given.words given.first given.goes (end - 1) p
    → next ≡ step_back given.came given.goes (end - 1) p
    → backward_rows given left end
    ≡ backward_of_line given.variables (get_or given.marks (end - 1) 0) turns (line_of_row r) ++ backward_rows given (left - 1) next
backward_next given zero end h is part_is turns_are goes = absurd (omega arith)
backward_next given (suc n) end h is part_is turns_are goes =
    let less : suc n - 1 ≡ n = omega arith in
    rw (less, turns_are, goes, part_is, is) (backward_turn given n end)

pub backward_none : (given : Handed) (left end : ℕ) → left ≤ 0 → backward_rows given left end ≡ []
unfolding backward_rows
backward_none given zero end h = refl
backward_none given (suc n) end h = absurd (omega arith)

visited : (given : Handed) (n end : ℕ) → Walks given (suc n) end → Visited given end × Walks given n (way_back given (end - 1))
unfolding Walks
visited given n end w = w

pub visit_now : (given : Handed) (left end : ℕ) → 0 < left → Walks given left end → Visited given end
visit_now given zero end h w = absurd (omega arith)
visit_now given (suc n) end h w = (visited given n end w).0

pub walk_on : (given : Handed) (left end : ℕ) {r : Row} {p : Part} {next : ℕ} → 0 < left → r ≡ row_of_number given (end - 1)
    → p ≡ part_of (line_of_row r) → next ≡ step_back given.came given.goes (end - 1) p → Walks given left end → Walks given (left - 1) next
walk_on given zero end h is part_is goes w = absurd (omega arith)
walk_on given (suc n) end h is part_is goes w = let less : suc n - 1 ≡ n = omega arith in rw (less, goes, part_is, is) (visited given n end w).1
