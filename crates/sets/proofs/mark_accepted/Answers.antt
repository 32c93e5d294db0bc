-- `sets::mark_accepted` meets its contract: there is room for the sets, and what marking leaves is what the definitions say.
use native.Mathlib.Omega.{arith}
use native.Mathlib.Numerals.{add-one}
use mathlib.Core.Path.{sym, ◌∙◌}
use Rattle.sets.proofs.CallLaws.{few_points, first_points, first_clear, sheet_marks}
use Rattle.sets.proofs.SheetMarked.{facts}
use Rattle.sets.proofs.mark_accepted.Goals as goal

pub overflow_add-points : goal.overflow_add-points
overflow_add-points c = record { fits = omega (arith, few_points c.requires) }

pub slice_bounds-varied-end : goal.slice_bounds-varied-end
slice_bounds-varied-end c = omega (arith, few_points c.requires)

pub slice_bounds-settle_and_mark-end-3 : goal.slice_bounds-settle_and_mark-end-3
slice_bounds-settle_and_mark-end-3 c = add-one _ ∙ sym (first_points c.requires _ (omega arith))

pub slice_bounds-useful-end : goal.slice_bounds-useful-end
slice_bounds-useful-end c = omega (arith, few_points c.requires)

pub slice_bounds-settle_and_mark-end-4 : goal.slice_bounds-settle_and_mark-end-4
slice_bounds-settle_and_mark-end-4 c = add-one _ ∙ sym (first_points c.requires _ (omega arith))

pub slice_bounds-required-end : goal.slice_bounds-required-end
slice_bounds-required-end c = omega (arith, few_points c.requires)

pub slice_bounds-settle_and_mark-end-5 : goal.slice_bounds-settle_and_mark-end-5
slice_bounds-settle_and_mark-end-5 c = add-one _ ∙ sym (first_points c.requires _ (omega arith))

pub invariant_of-laid : goal.invariant_of-laid
invariant_of-laid c =
    let known = facts _ _ _ _ c.requires in record { readable = known.readable; small = known.variables_small; roles = known.roles_there }

pub settle_and_mark-requires : goal.settle_and_mark-requires
settle_and_mark-requires c =
    let few = few_points c.requires in
    let clear = first_clear c.requires in (
      c.requires,
      record {
        came_room = omega arith;
        goes_room = omega arith;
        varied_clear = clear;
        useful_clear = clear;
        required_clear = clear;
        marks_room = omega arith;
      },
    )

pub returns : goal.returns
returns c =
    let laid = c.requires in
    let few = few_points laid in
    let left = c.settle_and_mark.ensures in
    λ sheet accepted. (
      sheet_marks laid _ _ _ _ _ _ _ _ _ (omega arith) (omega arith) (omega arith) left.0 left.1 sheet accepted,
      left.2 sheet accepted,
    )
