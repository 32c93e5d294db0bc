-- `machine::turns::count_there` meets its contract: the top is one below the height.
use mathlib.Core.Logic.{inl, inr}
use native.Mathlib.Omega.{arith}
use Rattle.machine.proofs.turns.count_there.Goals as goal

pub returns-then-height-eq0 : goal.returns-then-height-eq0
returns-then-height-eq0 c = inl c.if-height-eq0.true

pub returns-then-turns-top : goal.returns-then-turns-top
returns-then-turns-top c = inr (omega (arith, c.if-turns-top.true, c.if-height-eq0.false))
