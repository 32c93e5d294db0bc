-- `table::count::parts_count` meets its contract.
use Prim.Native.Nat.{ℕ, ◌≤◌}
use mathlib.Core.Path.{◌≡◌, sym, ap₂, ◌∙◌}
use lib.ListN.{length}
use mathlib.Core.Bool.{not, ◌&&◌, ◌||◌}
use lib.Dec.{eqb}
use borrow.Author.Tests.{eq-eqb, ne_eqb}
use native.Mathlib.Omega.{arith}
use Rattle.sheet.specs.Answers.{row_said}
use Rattle.sets.proofs.Seeds.{byte_of}
use Rattle.table.specs.Inner.MarkedRows.{part_rows}
use Rattle.table.proofs.RowCounts.{part_count, parts_counted}
use Rattle.table.proofs.count.parts_count.Goals.{After-from-of_b}
use Rattle.table.proofs.count.parts_count.Goals as goal

-- both operands, once they are counted
module _ (c : After-from-of_b) where
  abbrev kind : ℕ
  kind = c.args.row.kind

  counted : (v : ℕ) → length (part_rows v (row_said c.args.row) c.args.mark) ≡ part_count kind c.from-of_a.result c.from-of_b.result
  counted v =
      parts_counted v (row_said c.args.row) c.args.mark c.bit.ensures c.bit-2.ensures c.requires
      ∙ ap₂ (part_count kind) (sym c.from-of_a.ensures) (sym c.from-of_b.ensures)

  few : (c.from-of_a.result ≤ 1) × (c.from-of_b.result ≤ 1)
  few =
      (omega (arith, c.from-of_a.ensures, (byte_of (not (eqb kind 2) && c.bit.result)).1), omega (arith, c.from-of_b.ensures, (byte_of ((((eqb kind 3 || eqb kind 4) || eqb kind 5) || eqb kind 18) && c.bit-2.result)).1))

pub returns-then-row-eq-PRODUCT : goal.returns-then-row-eq-PRODUCT
returns-then-row-eq-PRODUCT c =
    let here = (goal.at.returns-then-row-eq-PRODUCT c).After-from-of_b in
    record {
      within = omega (arith, few here);
      is = λ v. omega (arith, rw (eq-eqb c.args.row.kind 5 c.if-row-eq-PRODUCT.true) at (counted here v));
    }

pub returns-then-row-eq-QUOTIENT : goal.returns-then-row-eq-QUOTIENT
returns-then-row-eq-QUOTIENT c =
    let here = (goal.at.returns-then-row-eq-QUOTIENT c).After-from-of_b in
    record {
      within = omega (arith, few here);
      is = λ v. omega (arith, rw (ne_eqb c.args.row.kind 5 (λ e. omega arith), eq-eqb c.args.row.kind 18 c.if-row-eq-QUOTIENT.true) at (counted here v));
    }

pub returns-else-row-eq-QUOTIENT : goal.returns-else-row-eq-QUOTIENT
returns-else-row-eq-QUOTIENT c =
    let here = (goal.at.returns-else-row-eq-QUOTIENT c).After-from-of_b in
    record {
      within = omega (arith, few here);
      is = λ v. omega (arith, rw (ne_eqb c.args.row.kind 5 (λ e. omega arith), ne_eqb c.args.row.kind 18 (λ e. omega arith)) at (counted here v));
    }
