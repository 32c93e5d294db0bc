-- `tangent::count::rows_over` meets its contract.
use Prim.Native.Nat.{ℕ, ◌+◌, ◌≤◌}
use mathlib.Core.Path.{◌≡◌, ◌∙◌}
use native.Mathlib.Omega.{arith}
use Rattle.tangent.specs.Inner.TangentPlans.{most_line_count}
use Rattle.tangent.proofs.LineCounts.{quotient_row, inactive_row, product_row, other_row}
use Rattle.tangent.proofs.count.rows_over.Goals.{in-18, in-5, in_default-2, in_default}
use Rattle.tangent.proofs.count.rows_over.Goals as goal

-- by the rate rows that it was counted to have
with_rates : {rates counted : ℕ} {count : ℕ} → rates ≡ counted → counted + 1 ≡ count → counted ≤ 5 → (rates + 1 ≡ count) × (rates + 1 ≤ most_line_count)
with_rates is whole few = (omega (arith, is, whole), omega (arith, is, few))

pub returns-then-not-active : goal.returns-then-not-active
returns-then-not-active c =
    (inactive_row c.requires _ c.assigns.ensures c.if-not-assigns.false c.bit-active.ensures c.bit-first.ensures c.bit-second.ensures c.if-not-active.true, omega arith)

pub returns : goal.returns
returns c =
    let s = c.requires in
    let e = c.assigns.ensures in
    let is = c.if-not-assigns.false in
    let active = c.bit-active.ensures in
    let first = c.bit-first.ensures in
    let second = c.bit-second.ensures in
    let on = c.if-not-active.false in
    elim c.match-row.branch [
      | in-18 w ↦ with_rates (w.rates-is ∙ w.quotient_count-rates.ensures.0) (quotient_row s _ e is active first second on w.in-18.is) (omega (arith, w.quotient_count-rates.ensures))
      | in-5 w ↦ with_rates w.rates-is (product_row s _ e is active first second on w.in-5.is w.if-first-second.true) (omega arith)
      | in_default-2 w ↦ with_rates w.rates-is (product_row s _ e is active first second on w.in-5.is w.if-first-second.false) (omega arith)
      | in_default w ↦ with_rates w.rates-is (other_row s _ e is active first second (λ h. omega arith) (λ h. omega arith)) (omega arith)
    ]
