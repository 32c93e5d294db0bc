-- `table::sizes::sizes_of` meets its contract: each row goes on as its part says.
use Prim.Native.Nat.{◌+◌, ◌≤◌}
use mathlib.Core.Path.{◌≡◌, refl, ap, sym, subst}
use lib.ListN.{length}
use native.Mathlib.Omega.{arith}
use Rattle.sheet.specs.Inner.RowLines.{SaysLine}
use Rattle.sheet.specs.Answers.{row_said}
use Rattle.sheet.specs.Rows.{kinds}
use Rattle.sheet.specs.Inner.Kinds.{part_for}
use Rattle.sheet.proofs.PartsRead.{form_in, part_there}
use Rattle.sheet.proofs.RowsByKind.{row_kind}
use Rattle.table.specs.Inner.MarkedRows.{count_rows}
use Rattle.table.proofs.LineRows.{says_part}
use Rattle.table.proofs.RowCounts.{count_more, count_done}
use Rattle.table.proofs.SizesPass.{Going, going_starts, going_ends, saved_few, goes_saved, if_fits, goes_into_if, repeat_fits, count_few, goes_into_repeat, goes_to_second, if_few, if_inside, goes_past_if, repeat_few, repeat_inside, goes_past_repeat}
use Rattle.table.proofs.sizes.sizes_of.Goals.{After-wide-kind, in-Assignment, in-If, in-Else, in-EndIf, in-Repeat, in-EndRepeat}
use Rattle.table.proofs.sizes.sizes_of.Goals as goal

module _ (c : After-wide-kind) where
  -- the row that was read says a line
  says : SaysLine (row_said c.row_of-row.result)
  says = subst SaysLine (sym c.row_of-row.ensures) (c.requires.readable.says _ c.loop-p-test.true)

  in_table : c.wide-kind.result ≤ length kinds
  in_table = rw c.wide-kind.ensures.0 (row_kind says)

  -- what the row is to the blocks, as the table has it for its kind
  found : (form_in c.forms-forms.result c.wide-kind.result).3 ≡ part_for c.row_of-row.result.kind
  found = part_there c.forms-forms.ensures c.wide-kind.ensures.0 (row_kind says)

pub loop-p-init : goal.loop-p-init
loop-p-init c =
    let x = c.args in
    record {
      few = omega arith;
      whole = λ v. ap (λ n. 1 + count_rows v x.words.now x.shape.first_row x.marks.now 0 n) (omega arith);
      going = going_starts _ _ _ _ _ refl;
    }

pub bounds-forms-kind : goal.bounds-forms-kind
bounds-forms-kind c = omega (arith, in_table (goal.at.bounds-forms-kind c).After-wide-kind)

pub row_count-rows-requires : goal.row_count-rows-requires
row_count-rows-requires c =
    let here = (goal.at.row_count-rows-requires c).After-wide-kind in
    says_part _ _ (says here) (found here)

pub with_saved-need-requires : goal.with_saved-need-requires
with_saved-need-requires c = saved_few c.loop-p.invariant.going c.requires.sized c.loop-p-test.true c.row_of-row.ensures (found (goal.at.with_saved-need-requires c).After-wide-kind) c.in-Assignment.is

pub bounds-levels-depth : goal.bounds-levels-depth
bounds-levels-depth c = omega (arith, if_fits c.loop-p.invariant.going c.requires.sized c.loop-p-test.true c.row_of-row.ensures (found (goal.at.bounds-levels-depth c).After-wide-kind) c.in-If.is)

pub after_if-need-requires : goal.after_if-need-requires
after_if-need-requires c = if_few c.loop-p.invariant.going c.requires.sized c.loop-p-test.true c.row_of-row.ensures (found (goal.at.after_if-need-requires c).After-wide-kind) c.in-EndIf.is

pub overflow_sub-depth : goal.overflow_sub-depth
overflow_sub-depth c = if_inside c.loop-p.invariant.going c.requires.sized c.loop-p-test.true c.row_of-row.ensures (found (goal.at.overflow_sub-depth c).After-wide-kind) c.in-EndIf.is

pub loop_opened-requires : goal.loop_opened-requires
loop_opened-requires c = count_few c.loop-p.invariant.going c.requires.sized c.loop-p-test.true c.row_of-row.ensures (found (goal.at.loop_opened-requires c).After-wide-kind) c.in-Repeat.is

pub bounds-levels-depth-in-Repeat : goal.bounds-levels-depth-in-Repeat
bounds-levels-depth-in-Repeat c = omega (arith, repeat_fits c.loop-p.invariant.going c.requires.sized c.loop-p-test.true c.row_of-row.ensures (found (goal.at.bounds-levels-depth-in-Repeat c).After-wide-kind) c.in-Repeat.is)

pub after_repeat-need-requires : goal.after_repeat-need-requires
after_repeat-need-requires c = repeat_few c.loop-p.invariant.going c.requires.sized c.loop-p-test.true c.row_of-row.ensures (found (goal.at.after_repeat-need-requires c).After-wide-kind) c.in-EndRepeat.is

pub overflow_sub-depth-in-EndRepeat : goal.overflow_sub-depth-in-EndRepeat
overflow_sub-depth-in-EndRepeat c = repeat_inside c.loop-p.invariant.going c.requires.sized c.loop-p-test.true c.row_of-row.ensures (found (goal.at.overflow_sub-depth-in-EndRepeat c).After-wide-kind) c.in-EndRepeat.is

pub loop-p-preserved : goal.loop-p-preserved
loop-p-preserved c =
    let x = c.args in
    let so_far = c.loop-p.invariant in
    let more = c.row_count-rows.ensures in
    let sized = c.requires.sized in
    let below = c.loop-p-test.true in
    let read = c.row_of-row.ensures in
    let part = found (goal.at.loop-p-preserved c).After-wide-kind in
    let on : Going x.words.now x.shape.first_row x.shape.rows x.marks.now c.match-part.levels c.match-part.depth c.match-part.need (c.loop-p.p + 1) =
    elim c.match-part.branch [
      | in-Assignment w ↦ rw (w.levels-is, w.depth-is, w.need-is, w.with_saved-need.ensures) (goes_saved so_far.going sized below read part w.in-Assignment.is)
      | in-If w ↦ rw (w.levels-is, w.depth-is, w.need-is, w.opened.ensures) (goes_into_if so_far.going sized below read part w.in-If.is)
      | in-Else w ↦ rw (w.levels-is, w.depth-is, w.need-is, w.split.ensures) (goes_to_second so_far.going sized below read part w.in-Else.is)
      | in-EndIf w ↦ rw (w.levels-is, w.depth-is, w.need-is, w.after_if-need.ensures) (goes_past_if so_far.going sized below read part w.in-EndIf.is)
      | in-Repeat w ↦ rw (w.levels-is, w.depth-is, w.need-is, w.loop_opened.ensures) (goes_into_repeat so_far.going sized below read part w.in-Repeat.is)
      | in-EndRepeat w ↦ rw (w.levels-is, w.depth-is, w.need-is, w.after_repeat-need.ensures) (goes_past_repeat so_far.going sized below read part w.in-EndRepeat.is)
    ] in
    record {
      few = omega (arith, so_far.few, more.within);
      whole = λ v. count_more v x.words.now x.shape.first_row x.marks.now c.loop-p.p x.shape.rows c.loop-p.rows (so_far.whole v) below read (more.is v);
      going = on;
    }

pub returns : goal.returns
returns c =
    let x = c.args in
    let so_far = c.loop-p.invariant in
    record {
      rows = λ v. count_done v x.words.now x.shape.first_row x.marks.now c.loop-p.p x.shape.rows c.loop-p.rows (so_far.whole v) c.loop-p-test.false;
      need = going_ends so_far.going c.loop-p-test.false;
    }
