-- `sets::walk::settle` meets its contract: each row passes the walk on, and at its end what is passed is every row.
use mathlib.Core.Path.{sym, ◌∙◌}
use Rattle.sets.proofs.MarkByteLaws.{marks_start, marks_lent, marks_end}
use Rattle.sets.proofs.Walking.{turn_below}
use Rattle.sets.proofs.WalkNeeds.{begun, ended, at_row, row_below, operation_there, assignment_there, assignment_passed, at_block, block_passed}
use Rattle.sets.proofs.WalkNeeds.{gone_on, known_as, assigned_marks, block_marks}
use Rattle.sets.proofs.walk.settle.Goals as goal

pub loop-reached-init : goal.loop-reached-init
loop-reached-init g c =
    record {
      carried = begun c.requires.settles c.begin-reached.ensures;
      marking = rw c.begin-reached.ensures.0 (marks_start g.A.Analysis.which _ _ _ _ _ _);
    }

pub kind_of-kind-requires : goal.kind_of-kind-requires
kind_of-kind-requires g c =
    rw c.row_in_turn-row.ensures (turn_below g.A.Analysis.which _ _ c.loop-reached-test.true)

pub operation_at-operation-requires : goal.operation_at-operation-requires
operation_at-operation-requires g c =
    let at = at_row c.args.laid.readable c.requires.settles c.loop-reached.invariant.carried c.loop-reached-test.true c.row_in_turn-row.ensures c.forms-forms.ensures c.kind_of-kind.ensures in
    operation_there at (sym c.assigns.ensures ∙ c.if-assigns.true)

pub pass_assignment-reached-requires : goal.pass_assignment-reached-requires
pass_assignment-reached-requires g c =
    let at = at_row c.args.laid.readable c.requires.settles c.loop-reached.invariant.carried c.loop-reached-test.true c.row_in_turn-row.ensures c.forms-forms.ensures c.kind_of-kind.ensures in
    assignment_there at
    (marks_lent g.A.Analysis.which _ _ _ _ _ _ _ _ _ c.loop-reached.invariant.marking c.requires.lent (row_below at))

pub loop-reached-smaller-then-assigns : goal.loop-reached-smaller-then-assigns
loop-reached-smaller-then-assigns g c =
    let at = at_row c.args.laid.readable c.requires.settles c.loop-reached.invariant.carried c.loop-reached-test.true c.row_in_turn-row.ensures c.forms-forms.ensures c.kind_of-kind.ensures in
    (gone_on at
    (assignment_passed at (sym c.assigns.ensures ∙ c.if-assigns.true) c.operation_at-operation.ensures
    (known_as g.A.Analysis.which _ _ _ _ _) c.pass_assignment-reached.ensures.turn c.pass_assignment-reached.ensures.set)).1

pub loop-reached-preserved-then-assigns : goal.loop-reached-preserved-then-assigns
loop-reached-preserved-then-assigns g c =
    let at = at_row c.args.laid.readable c.requires.settles c.loop-reached.invariant.carried c.loop-reached-test.true c.row_in_turn-row.ensures c.forms-forms.ensures c.kind_of-kind.ensures in
    let is_assigned = sym c.assigns.ensures ∙ c.if-assigns.true in
    let passes =
    assignment_passed at is_assigned c.operation_at-operation.ensures (known_as g.A.Analysis.which _ _ _ _ _)
    c.pass_assignment-reached.ensures.turn c.pass_assignment-reached.ensures.set in
    record {
      carried = (gone_on at passes).0;
      marking =
          assigned_marks g.A.Analysis.which at _ _ _ _ _ is_assigned c.operation_at-operation.ensures passes c.loop-reached.invariant.marking
          c.requires.lent c.pass_assignment-reached.ensures.marks;
    }

pub pass_over-requires : goal.pass_over-requires
pass_over-requires g c =
    let at = at_row c.args.laid.readable c.requires.settles c.loop-reached.invariant.carried c.loop-reached-test.true c.row_in_turn-row.ensures c.forms-forms.ensures c.kind_of-kind.ensures in
    marks_lent g.A.Analysis.which _ _ _ _ _ _ _ _ _ c.loop-reached.invariant.marking c.requires.lent (row_below at)

pub pass_block_row-reached-requires : goal.pass_block_row-reached-requires
pass_block_row-reached-requires g c =
    at_block (at_row c.args.laid.readable c.requires.settles c.loop-reached.invariant.carried c.loop-reached-test.true c.row_in_turn-row.ensures c.forms-forms.ensures c.kind_of-kind.ensures)

pub loop-reached-smaller : goal.loop-reached-smaller
loop-reached-smaller g c =
    let at = at_row c.args.laid.readable c.requires.settles c.loop-reached.invariant.carried c.loop-reached-test.true c.row_in_turn-row.ensures c.forms-forms.ensures c.kind_of-kind.ensures in
    (gone_on at (block_passed at (sym c.assigns.ensures ∙ c.if-assigns.false) c.pass_block_row-reached.ensures)).1

pub loop-reached-preserved : goal.loop-reached-preserved
loop-reached-preserved g c =
    let at = at_row c.args.laid.readable c.requires.settles c.loop-reached.invariant.carried c.loop-reached-test.true c.row_in_turn-row.ensures c.forms-forms.ensures c.kind_of-kind.ensures in
    let unassigned = sym c.assigns.ensures ∙ c.if-assigns.false in
    let passes = block_passed at unassigned c.pass_block_row-reached.ensures in
    record {
      carried = (gone_on at passes).0;
      marking =
          block_marks g.A.Analysis.which at _ _ _ _ _ unassigned passes c.loop-reached.invariant.marking c.requires.lent c.pass_over.ensures;
    }

pub returns-clause-sets : goal.returns-clause-sets
returns-clause-sets g c =
    ended c.requires.settles c.loop-reached.invariant.carried c.loop-reached-test.false

pub returns-clause-marks : goal.returns-clause-marks
returns-clause-marks g c =
    marks_end g.A.Analysis.which _ _ _ _ _ _ _ _ c.loop-reached.invariant.marking c.loop-reached-test.false
