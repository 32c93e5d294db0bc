-- `plain::engine::run_rows` meets its contract.
use Prim.Native.Nat.{ℕ, ◌<◌}
use Rattle.std.specs.Prelude.{Err, Ok}
use mathlib.Core.Path.{◌≡◌, refl, sym, ap, subst, ◌∙◌}
use mathlib.Core.List.{List}
use lib.ListN.{get_or}
use native.Mathlib.Omega.{arith}
use lib.Ieee.{nan}
use Rattle.sheet.specs.Bounds.{limit}
use Rattle.sheet.specs.Answers.{row_said}
use Rattle.sheet.specs.Inner.RowLines.{SaysLine, numbered_row}
use Rattle.sheet.specs.Inner.Kinds.{part_for}
use Rattle.sheet.specs.declared.kinds.Part.{Part}
use Rattle.sheet.proofs.PartsRead.{form_in, part_there}
use Rattle.sheet.proofs.RowsByKind.{row_kind}
use Rattle.plain.specs.declared.Rated.{Rated}
use Rattle.plain.proofs.ReadyLaws.{ready_readable}
use Rattle.plain.proofs.EngineRun.{running_starts, running_left, running_room, running_ends, asked_below, crosses, goes_across, says_assignment, constant_within, goes_assigned, stops_assigned, runs_to}
use Rattle.plain.proofs.engine.run_rows.Goals.{After-wide-kind}
use Rattle.plain.proofs.engine.run_rows.Goals as goal

module _ (c : After-wide-kind) where
  -- the row that was read says a line
  says : SaysLine (row_said c.row_of-said.result)
  says = subst SaysLine (sym c.row_of-said.ensures) ((ready_readable c.loop-number.invariant.ready).says _ c.loop-number-test.true)

  abbrev part : Part
  part = (form_in c.forms-forms.result c.wide-kind.result).3

  -- and its part is the one that the table has for its kind
  found : part ≡ part_for c.row_of-said.result.kind
  found = part_there c.forms-forms.ensures c.wide-kind.ensures.0 (row_kind says)

-- what a read beyond the cells would give
abbrev none : Rated
none = record { value = nan; rate = nan }

-- the cell of a word that names a variable
cell_named : (cells : List Rated) {to word : ℕ} → (word < limit.variables → to ≡ word) → word < limit.variables
    → get_or cells to none ≡ get_or cells word none
cell_named cells names h = ap (λ i. get_or cells i none) (names h)

pub loop-number-init : goal.loop-number-init
loop-number-init c = running_starts c.requires.ready _ _ c.requires.start_fits refl

pub row_of-said-requires : goal.row_of-said-requires
row_of-said-requires c = omega (arith, (ready_readable c.loop-number.invariant.ready).there, c.loop-number-test.true)

pub bounds-forms-kind : goal.bounds-forms-kind
bounds-forms-kind c = omega (arith, c.wide-kind.ensures.0, row_kind (says (goal.at.bounds-forms-kind c).After-wide-kind))

pub overflow_sub-left : goal.overflow_sub-left
overflow_sub-left c = running_left c.loop-number.invariant c.loop-number-test.true

pub assigned-requires : goal.assigned-requires
assigned-requires c =
    let here = (goal.at.assigned-requires c).After-wide-kind in
    let running = c.loop-number.invariant in
    let below = c.loop-number-test.true in
    let assigning = sym c.assigns.ensures ∙ c.if-assigns.true in
    record {
      constant_in = constant_within running below c.row_of-said.ensures (says here) (found here) assigning;
      part_said = says_assignment running below c.row_of-said.ensures (says here) (found here) assigning;
    }

pub returns-in-Err : goal.returns-in-Err
returns-in-Err c =
    let here = (goal.at.returns-in-Err c).After-wide-kind in
    let running = c.loop-number.invariant in
    let below = c.loop-number-test.true in
    let assigning = sym c.assigns.ensures ∙ c.if-assigns.true in
    runs_to running.ready _ (Err _) (omega (arith, below))
    (stops_assigned running below c.row_of-said.ensures (says here) (found here) assigning _ _ none (cell_named c.loop-number.cells c.cell_of.ensures.1)
    (cell_named c.loop-number.cells c.cell_of-then-assigns.ensures.1) c.assigned.result c.assigned.ensures c.in-Err.is)

pub loop-number-smaller-then-assigns : goal.loop-number-smaller-then-assigns
loop-number-smaller-then-assigns c = omega (arith, running_left c.loop-number.invariant c.loop-number-test.true)

pub loop-number-preserved-then-assigns : goal.loop-number-preserved-then-assigns
loop-number-preserved-then-assigns c =
    let here = (goal.at.loop-number-preserved-then-assigns c).After-wide-kind in
    let assigning = sym c.assigns.ensures ∙ c.if-assigns.true in
    goes_assigned c.loop-number.invariant c.loop-number-test.true c.row_of-said.ensures (says here) (found here) assigning _ _ none
    (cell_named c.loop-number.cells c.cell_of.ensures.1) (cell_named c.loop-number.cells c.cell_of-then-assigns.ensures.1) c.assigned.result c.assigned.ensures c.in-Ok.is
    c.cell_of-in-Ok.result c.cell_of-in-Ok.ensures.1

pub row_of-asked-requires : goal.row_of-asked-requires
row_of-asked-requires c =
    let here = (goal.at.row_of-asked-requires c).After-wide-kind in
    let running = c.loop-number.invariant in
    omega (
      arith,
      (ready_readable running.ready).there,
      c.asked_row.ensures,
      asked_below running c.loop-number-test.true c.row_of-said.ensures (says here) (found here),
    )

pub cross-next-requires : goal.cross-next-requires
cross-next-requires c =
    let here = (goal.at.cross-next-requires c).After-wide-kind in
    let running = c.loop-number.invariant in
    let below = c.loop-number-test.true in
    let block = sym c.assigns.ensures ∙ c.if-assigns.false in (
      omega (arith, running.ready.goes_there, below),
      crosses running below c.row_of-said.ensures (says here) (found here) block (c.row_of-asked.ensures ∙ ap (λ row. numbered_row c.args.words.now c.args.shape.first_row row) c.asked_row.ensures) _ _ none
          (cell_named c.loop-number.cells c.cell_of-else-assigns.ensures.1) (cell_named c.loop-number.cells c.cell_of-else-assigns-2.ensures.1) c.less-holds.ensures,
    )

pub loop-number-smaller : goal.loop-number-smaller
loop-number-smaller c = omega (arith, running_left c.loop-number.invariant c.loop-number-test.true)

pub loop-number-preserved : goal.loop-number-preserved
loop-number-preserved c =
    let here = (goal.at.loop-number-preserved c).After-wide-kind in
    let block = sym c.assigns.ensures ∙ c.if-assigns.false in
    goes_across c.loop-number.invariant c.loop-number-test.true c.row_of-said.ensures (says here) (found here) block
    (c.row_of-asked.ensures ∙ ap (λ row. numbered_row c.args.words.now c.args.shape.first_row row) c.asked_row.ensures) _ _ none (cell_named c.loop-number.cells c.cell_of-else-assigns.ensures.1)
    (cell_named c.loop-number.cells c.cell_of-else-assigns-2.ensures.1) c.less-holds.ensures c.cross-next.result _ c.cross-next.ensures

pub returns : goal.returns
returns c =
    let running = c.loop-number.invariant in
    runs_to running.ready _ (Ok _) (running_room running) (running_ends running c.loop-number-test.false)
