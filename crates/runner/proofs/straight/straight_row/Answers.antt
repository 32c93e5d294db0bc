-- `runner::straight::straight_row` meets its contract.
use mathlib.Core.Path.{refl}
use native.Mathlib.Omega.{arith}
use Rattle.sheet.specs.Sheets.{row_at}
use Rattle.machine.proofs.StraightLaws.{straight_acts}
use Rattle.runner.proofs.straight.straight_row.Goals as goal

pub act-requires : goal.act-requires
unfolding row_at
act-requires g c = c.requires.indexed.named _ (omega arith)

pub returns : goal.returns
unfolding row_at
returns g c =
    straight_acts (omega (arith, c.requires.until_in, c.if-until-number.false)) c.if-until-number.false refl c.following-next.ensures c.act.ensures
