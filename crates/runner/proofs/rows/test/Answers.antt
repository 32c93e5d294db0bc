-- `runner::rows::test` meets its contract.
use mathlib.Core.Path.{sym, ap, ◌∙◌}
use mathlib.Core.Option.{some}
use Rattle.machine.proofs.RowLaws.{compares}
use Rattle.runner.proofs.rows.test.Goals as goal

pub returns-then-less : goal.returns-then-less
returns-then-less g c =
    compares c.index-store-a.is c.index-store-b.is c.requires.a_in c.requires.b_in (ap some (sym c.if-less.true ∙ c.less.ensures))

pub returns-else-less : goal.returns-else-less
returns-else-less g c =
    compares c.index-store-a.is c.index-store-b.is c.requires.a_in c.requires.b_in (ap some (sym c.if-less.false ∙ c.less.ensures))
