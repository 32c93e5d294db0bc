-- `run::refusals::admitted_from` meets its contract.
use native.Mathlib.Omega.{arith}
use mathlib.Core.Path.{sym, ap, ◌∙◌}
use Rattle.number.specs.Arithmetic.{arithmetic_on}
use Rattle.run.proofs.AdmittedLaws.{judging_starts, judging_goes_on, judging_refuses, judging_ends}
use Rattle.run.proofs.refusals.admitted_from.Goals as goal

pub loop-i-init : goal.loop-i-init
loop-i-init g c = judging_starts (arithmetic_on g.N.Number.operations) _ _

pub returns-then-not-is_admitted : goal.returns-then-not-is_admitted
returns-then-not-is_admitted g c =
    judging_refuses (arithmetic_on g.N.Number.operations) _ _ _ _ c.loop-i-test.true
    (ap g.N.Number.operations.admits (sym c.index-numbers-i.is) ∙ sym c.is_admitted.ensures ∙ c.if-not-is_admitted.true) c.loop-i.invariant

pub loop-i-preserved : goal.loop-i-preserved
loop-i-preserved g c =
    judging_goes_on (arithmetic_on g.N.Number.operations) _ _ _ _ c.loop-i-test.true
    (ap g.N.Number.operations.admits (sym c.index-numbers-i.is) ∙ sym c.is_admitted.ensures ∙ c.if-not-is_admitted.false) c.loop-i.invariant

pub returns : goal.returns
returns g c = judging_ends (arithmetic_on g.N.Number.operations) _ _ _ (omega arith) c.loop-i.invariant
