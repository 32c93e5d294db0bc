-- `table::count::assignment_count` meets its contract.
use native.Mathlib.Omega.{arith}
use mathlib.Core.Path.{sym, ◌∙◌}
use Rattle.sheet.specs.Answers.{row_said}
use Rattle.sets.proofs.Seeds.{byte_of}
use Rattle.table.proofs.RowCounts.{active_count, inactive_count}
use Rattle.table.proofs.count.assignment_count.Goals as goal

pub returns-then-active : goal.returns-then-active
returns-then-active c =
    let x = c.args in
    let parts = c.parts_count-parts.ensures in
    let taken = c.from-taken.ensures in
    let active = sym c.bit-active.ensures ∙ c.if-active.true in
    record {
      within = omega (arith, parts.within, taken, (byte_of c.bit-saved.result).1);
      is = λ v. omega (arith, active_count v (row_said x.row) x.mark c.bit-saved.ensures active, taken, parts.is v);
    }

pub returns-else-active : goal.returns-else-active
returns-else-active c =
    let x = c.args in
    let parts = c.parts_count-parts.ensures in
    let taken = c.from-taken.ensures in
    let active = sym c.bit-active.ensures ∙ c.if-active.false in
    record {
      within = omega (arith, parts.within, taken, (byte_of c.bit-saved.result).1);
      is = λ v. omega (arith, inactive_count v (row_said x.row) x.mark c.bit-saved.ensures active, taken, parts.is v);
    }
