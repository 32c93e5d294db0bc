-- `run::refusals::lengths_fit` meets its contract.
use Prim.Native.Nat.{◌*◌}
use borrow.Author.Tests.{eq-eqb, ne_eqb}
use native.Mathlib.Omega.{arith}
use Rattle.run.proofs.refusals.lengths_fit.Goals as goal

pub returns-then-starts-variables : goal.returns-then-starts-variables
returns-then-starts-variables c = simp (ne_eqb _ _ c.if-starts-variables.true)

pub returns-then-seeds-variables : goal.returns-then-seeds-variables
returns-then-seeds-variables c = simp (eq-eqb _ _ c.if-starts-variables.false, ne_eqb _ _ c.if-seeds-variables.true)

pub returns-then-res-ne0 : goal.returns-then-res-ne0
returns-then-res-ne0 c =
    let args = c.args in
    simp (
      eq-eqb _ _ c.if-starts-variables.false,
      eq-eqb _ _ c.if-seeds-variables.false,
      ne_eqb args.res (2 * args.variables) (λ e. omega arith),
    )

pub returns-then-res-variables : goal.returns-then-res-variables
returns-then-res-variables c =
    let args = c.args in
    simp (
      eq-eqb _ _ c.if-starts-variables.false,
      eq-eqb _ _ c.if-seeds-variables.false,
      ne_eqb args.res (2 * args.variables) (λ e. omega arith),
    )

pub returns : goal.returns
returns c =
    let args = c.args in
    simp (
      eq-eqb _ _ c.if-starts-variables.false,
      eq-eqb _ _ c.if-seeds-variables.false,
      eq-eqb args.res (2 * args.variables) (omega arith),
    )
