-- `writer::sweep::backward_part` meets its contract.
use Prim.Native.Nat.{ℕ, ◌+◌, ◌-◌, ◌<◌}
use mathlib.Core.Path.{◌≡◌, refl, sym, ap, subst, ◌∙◌}
use mathlib.Core.Bool.{true}
use mathlib.Core.List.{List, ◌++◌}
use lib.ListN.{get_or}
use native.Mathlib.Omega.{arith}
use Rattle.sheet.specs.Rows.{Row}
use Rattle.sheet.specs.Answers.{row_said}
use Rattle.sheet.specs.declared.kinds.Part.{Part}
use Rattle.sheet.specs.Inner.RowLines.{line_of_row, SaysLine}
use Rattle.sheet.specs.Inner.Kinds.{part_of}
use Rattle.sheet.proofs.PartsRead.{form_in, part_there}
use Rattle.sheet.proofs.RowsByKind.{row_kind}
use Rattle.table.specs.Inner.MarkedRows.{SaysPart, SmallWords, backward_of_line}
use Rattle.table.proofs.LineRows.{says_part}
use Rattle.writer.specs.Inner.RowsWritten.{leads_on, Handed, backward_rows, step_back, turns_back, Visited}
use Rattle.writer.specs.Inner.TableHanded.{handed_by}
use Rattle.writer.proofs.WritingLaws.{put_as, underway_start, underway_room, underway_next, underway_end, room_first}
use Rattle.writer.proofs.JumpLaws.{jumping_start, backward_ends, row_ends, jumping_next, jumping_end}
use Rattle.writer.proofs.BackwardOver.{backward_next, backward_none, visit_now, walk_on}
use Rattle.writer.proofs.sweep.backward_part.Goals.{In-loop, After-wide-kind}
use Rattle.writer.proofs.sweep.backward_part.Goals as goal

module _ (c : In-loop) where
  visit : Visited (handed_by c.args.given) c.loop.until
  visit = visit_now _ _ _ (omega arith) c.loop.invariant.walks

module _ (c : After-wide-kind) where
  abbrev given : Handed
  given = handed_by c.args.given

  abbrev q : ℕ
  q = c.loop.until - 1

  some : 0 < given.rows - c.loop.counter
  some = omega (arith, c.loop-test.true)

  here : Visited given c.loop.until
  here = visit_now given _ _ some c.loop.invariant.walks

  there : q < given.rows
  there = omega (arith, here)

  -- the row that was read says a line
  says : SaysLine (row_said c.row-row.result)
  says = subst SaysLine (sym c.row-row.ensures) (c.requires.readable.says _ there)

  abbrev part : Part
  part = (form_in c.forms-forms.result c.wide-kind.result).3

  -- and what its line is
  said : SaysPart (row_said c.row-row.result) part
  said = says_part _ _ says (part_there c.forms-forms.ensures c.wide-kind.ensures.0 (row_kind says))

  -- the row that it leads to is there
  leads : leads_on part ≡ true → get_or given.goes q 0 < given.rows
  leads e = here.leads (ap leads_on (sym (said.is ∙ ap (λ r. part_of (line_of_row r)) c.row-row.ensures)) ∙ e)

  small : SmallWords given.variables (row_said c.row-row.result)
  small = subst (SmallWords given.variables) (sym c.row-row.ensures) (c.requires.walkable.small _ there)

  -- the row's rows before those of the rest of the walk
  left : {turns next : ℕ} → turns ≡ turns_back given.words given.first given.goes q part → next ≡ step_back given.came given.goes q part
      → backward_rows given (given.rows - c.loop.counter) c.loop.until
      ≡ backward_of_line given.variables (get_or given.marks q 0) turns (line_of_row (row_said c.row-row.result))
      ++ backward_rows given (given.rows - (c.loop.counter + 1)) next
  left turns goes =
      let fewer : given.rows - (c.loop.counter + 1) ≡ given.rows - c.loop.counter - 1 = omega arith in
      rw fewer (backward_next given _ _ some c.row-row.ensures said.is turns goes)

  -- the row's rows, said of so many variables
  abbrev rows_for : (turns variables : ℕ) → List Row
  rows_for turns variables = backward_of_line variables (get_or given.marks q 0) turns (line_of_row (row_said c.row-row.result))

pub loop-init : goal.loop-init
loop-init c =
    let given = handed_by c.args.given in
    let whole : given.rows - 0 ≡ given.rows = omega arith in
    let all = ap (λ n. backward_rows given n given.rows) whole in
    record { walks = rw whole c.requires.walkable.walks; written = underway_start _ all; noted = jumping_start _ all c.requires.numbered }

pub overflow_sub-q : goal.overflow_sub-q
overflow_sub-q c = omega (arith, visit (goal.at.overflow_sub-q c).In-loop)

pub row-row-requires : goal.row-row-requires
row-row-requires c = omega (arith, visit (goal.at.row-row-requires c).In-loop, c.requires.readable.there)

pub bounds-forms-kind : goal.bounds-forms-kind
bounds-forms-kind c = omega (arith, c.wide-kind.ensures.0, row_kind (says (goal.at.bounds-forms-kind c).After-wide-kind))

pub turns_back-turns-requires : goal.turns_back-turns-requires
turns_back-turns-requires c =
    let at_row = (goal.at.turns_back-turns-requires c).After-wide-kind in
    (omega (arith, there at_row, c.requires.walkable.goes_there), λ e. omega (arith, leads at_row e, c.requires.readable.there))

pub bounds-given-q : goal.bounds-given-q
bounds-given-q c = omega (arith, there (goal.at.bounds-given-q c).After-wide-kind, c.requires.readable.marked)

pub backward_row-requires : goal.backward_row-requires
backward_row-requires c =
    let at_row = (goal.at.backward_row-requires c).After-wide-kind in
    let same = c.loop.invariant.written.put.same_variables ∙ c.requires.variables in
    record {
      room = rw same (room_first _ _ (rw (left at_row c.turns_back-turns.ensures refl) at (underway_room c.loop.invariant.written c.requires.room)));
      part_said = said at_row;
      small = rw same (small at_row);
    }

pub note-top-requires : goal.note-top-requires
note-top-requires c =
    let at_row = (goal.at.note-top-requires c).After-wide-kind in
    let same = c.loop.invariant.written.put.same_variables ∙ c.requires.variables in
    row_ends c.loop.invariant.noted _ (left at_row c.turns_back-turns.ensures refl) (put_as (rows_for at_row c.turns_back-turns.result) same c.backward_row.ensures).wrote
    (backward_ends (said at_row) _ _ _ c.backward.ensures)

pub step_back-until-requires : goal.step_back-until-requires
step_back-until-requires c =
    let at_row = (goal.at.step_back-until-requires c).After-wide-kind in
    let walkable = c.requires.walkable in (
      omega (arith, there at_row, walkable.came_there),
      omega (arith, there at_row, walkable.goes_there),
      λ e. omega (arith, leads at_row e, walkable.goes_there),
    )

pub loop-preserved : goal.loop-preserved
loop-preserved c =
    let at_row = (goal.at.loop-preserved c).After-wide-kind in
    let held = c.loop.invariant in
    let rows = put_as (rows_for at_row c.turns_back-turns.result) (held.written.put.same_variables ∙ c.requires.variables) c.backward_row.ensures in
    let goes = c.step_back-until.ensures in
    let rest = left at_row c.turns_back-turns.ensures goes in
    let rows_in = c.args.given.shape.rows in
    let fewer : rows_in - (c.loop.counter + 1) ≡ rows_in - c.loop.counter - 1 = omega arith in
    record {
      walks = rw fewer (walk_on (given at_row) _ _ (some at_row) c.row-row.ensures (said at_row).is goes held.walks);
      written = underway_next _ held.written rest rows;
      noted = jumping_next held.noted _ rest rows.wrote (backward_ends (said at_row) _ _ _ c.backward.ensures) c.note-top.ensures;
    }

pub returns : goal.returns
returns c =
    let given = handed_by c.args.given in
    let none = backward_none given _ _ (omega arith) in
    record { put = underway_end c.loop.invariant.written none; noted = jumping_end c.loop.invariant.noted none }
