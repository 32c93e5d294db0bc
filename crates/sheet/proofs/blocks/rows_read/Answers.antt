-- `sheet::blocks::rows_read` meets its contract. The invariant: the levels stand for blocks and items, from which the rows that are left come
-- to what all rows do.
use Rattle.std.proofs.Common.{◌≡◌, ◌+◌, ◌*◌, Option, None, Some, get_or, refl, sym, ap, ◌∙◌, arith, rules}
use Rattle.sheet.specs.Bounds.{limit}
use Rattle.sheet.specs.Answers.{row_said}
use Rattle.sheet.specs.Inner.Kinds.{turns_in}
use Rattle.sheet.specs.Inner.Steps.{no_rule, step_of, body_said}
use Rattle.sheet.specs.declared.Step.{Step}
use Rattle.sheet.specs.declared.Step.TheVariants as step
use Rattle.sheet.specs.declared.kinds.Part.TheVariants as part
use Rattle.sheet.proofs.Levels.{Follows}
use Rattle.sheet.proofs.RowsFollowed.{going_starts, row_here, row_refused, row_stays, row_enters, row_leaves, rows_done, no_kind, row_unfit, row_says}
use Rattle.sheet.proofs.blocks.rows_read.Goals.{After-follow, in-Stay, in-Enter, in-Leave}
use Rattle.sheet.proofs.blocks.rows_read.Goals as goal

pub loop-number-init : goal.loop-number-init
loop-number-init c = going_starts _ _ _ _ _ _ refl (omega arith)

pub returns-then-kind-gt-LAST : goal.returns-then-kind-gt-LAST
returns-then-kind-gt-LAST c =
    no_kind c.loop-number.invariant c.loop-number-test.true _ c.rules-rules.ensures c.row_at-row.ensures c.wide-kind.ensures.0 c.if-kind-gt-LAST.true

pub returns-then-not-row_fits : goal.returns-then-not-row_fits
returns-then-not-row_fits c =
    row_unfit c.loop-number.invariant c.loop-number-test.true _ c.rules-rules.ensures c.row_at-row.ensures c.wide-kind.ensures.0
    c.if-kind-gt-LAST.false (sym c.row_fits.ensures ∙ c.if-not-row_fits.true)

pub loop-number-preserved-then-eq : goal.loop-number-preserved-then-eq
unfolding step_of
loop-number-preserved-then-eq c =
    let assigns : (get_or c.rules-rules.result c.wide-kind.result no_rule).part ≡ part.Assignment = search rules in
    row_stays c.loop-number.invariant c.loop-number-test.true _
    (row_says c.loop-number.invariant c.loop-number-test.true _ c.rules-rules.ensures c.row_at-row.ensures c.wide-kind.ensures.0
    c.if-kind-gt-LAST.false (sym c.row_fits.ensures ∙ c.if-not-row_fits.false) (Some (step.Stay c.counted-inner.result)) (turns_in (row_said c.row_at-row.result)) refl
    (rw (assigns, c.counted-inner.ensures)))

-- of a row of the blocks, what it does to them says what it comes to
module _ (c : After-follow) where
  abbrev Says : Option Step → Type 0
  Says s =
      Follows (c.args.first + c.loop-number.number * limit.row_words) c.loop-number.depth c.loop-number.levels c.loop-number.inner s
      (row_here c.loop-number.invariant)

  says : (s : Option Step) → c.follow.result ≡ s → Says s
  says s is =
      row_says c.loop-number.invariant c.loop-number-test.true _ c.rules-rules.ensures c.row_at-row.ensures c.wide-kind.ensures.0
      c.if-kind-gt-LAST.false (sym c.row_fits.ensures ∙ c.if-not-row_fits.false) s _ c.turns_of-turns.ensures (sym is ∙ c.follow.ensures)

pub returns-in_default : goal.returns-in_default
returns-in_default c =
    row_refused c.loop-number.invariant c.loop-number-test.true _ (says (goal.at.returns-in_default c).After-follow None c.in_default.is)

pub bounds-levels-depth-in-Enter : goal.bounds-levels-depth-in-Enter
bounds-levels-depth-in-Enter c =
    let entered = says (goal.at.bounds-levels-depth-in-Enter c).After-follow (Some (step.Enter _)) (c.in-Some.is ∙ ap Some c.in-Enter.is) in
    omega (arith, entered.0)

pub overflow_sub-depth : goal.overflow_sub-depth
overflow_sub-depth c =
    (says (goal.at.overflow_sub-depth c).After-follow (Some (step.Leave _)) (c.in-Some.is ∙ ap Some c.in-Leave.is)).0

pub loop-number-preserved : goal.loop-number-preserved
loop-number-preserved c =
    let going = c.loop-number.invariant in
    let more = c.loop-number-test.true in
    let stepped = says (goal.at.loop-number-preserved c).After-follow in
    elim c.match-step.branch [
      | in-Stay w ↦ rw (w.levels-is, w.depth-is, w.inner-is) (row_stays going more _ (stepped (Some (step.Stay _)) (c.in-Some.is ∙ ap Some w.in-Stay.is)))
      | in-Enter w ↦ rw (w.levels-is, w.depth-is, w.inner-is) (row_enters going more _ (stepped (Some (step.Enter _)) (c.in-Some.is ∙ ap Some w.in-Enter.is)))
      | in-Leave w ↦ rw (w.levels-is, w.depth-is, w.inner-is) (row_leaves going more _ (stepped (Some (step.Leave _)) (c.in-Some.is ∙ ap Some w.in-Leave.is)))
    ]

pub returns : goal.returns
returns c = ap body_said c.after_rows.ensures ∙ rows_done c.loop-number.invariant (omega arith)
