-- `tangent::rows::rates` meets its contract, by whether the assignment is active.
use mathlib.Core.Path.{sym, ◌∙◌}
use Rattle.sheet.specs.Answers.{row_said}
use Rattle.tangent.proofs.RateRows.{when_active, when_inactive}
use Rattle.tangent.proofs.rows.rates.Goals as goal

pub active_rates-requires : goal.active_rates-requires
active_rates-requires c =
    let x = c.args in
    let active = sym c.bit.ensures ∙ c.if-bit.true in
    record {
      room = rw (when_active x.out.now.variables (row_said x.row) x.mark active) at c.requires.room;
      small = c.requires.small;
      assigns = c.requires.assigns;
    }

pub returns-then-bit : goal.returns-then-bit
returns-then-bit c =
    let x = c.args in
    let active = sym c.bit.ensures ∙ c.if-bit.true in
    rw (when_active x.out.now.variables (row_said x.row) x.mark active) c.active_rates.ensures

pub put-requires : goal.put-requires
put-requires c =
    let x = c.args in
    let inactive = sym c.bit.ensures ∙ c.if-bit.false in
    rw (when_inactive x.out.now.variables (row_said x.row) x.mark inactive) at c.requires.room

pub returns : goal.returns
returns c =
    let x = c.args in
    let inactive = sym c.bit.ensures ∙ c.if-bit.false in
    rw (when_inactive x.out.now.variables (row_said x.row) x.mark inactive) c.put.ensures
