-- `runner::rows::take_back` meets its contract.
use native.Mathlib.Omega.{arith}
use borrow.Author.Rules.{rules}
use Rattle.machine.proofs.RowLaws.{take_back_goes, take_back_empty}
use Rattle.runner.proofs.rows.take_back.Goals as goal

pub returns-then-height-eq0 : goal.returns-then-height-eq0
returns-then-height-eq0 g c = take_back_empty c.if-height-eq0.true

pub returns : goal.returns
returns g c = take_back_goes c.index-values-top.is (search rules) (omega arith) (omega arith) (omega arith)
