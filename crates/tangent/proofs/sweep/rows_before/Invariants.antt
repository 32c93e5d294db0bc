-- `tangent::sweep::rows_before` meets its contract. The invariant: the rows passed are counted.
use Prim.Native.Nat.{◌*◌, ◌≤◌}
use mathlib.Core.Path.{◌≡◌}
use Rattle.tangent.specs.Inner.TangentPlans.{most_line_count, table_rows_before}
use Rattle.tangent.proofs.sweep.rows_before.Given as goal

abbrev pub invariant-loop-p : goal.invariant-loop-p
invariant-loop-p l = record {
  few : l.rows ≤ most_line_count * l.p;
  is : l.rows ≡ table_rows_before l.words l.shape.first_row l.marks l.p;
}
