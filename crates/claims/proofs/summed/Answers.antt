-- `claims::summed` meets its contract: a second half has a number for each variable.
use Rattle.claims.proofs.BothRun.{sums_are}
use Rattle.claims.proofs.summed.Goals as goal

pub returns : goal.returns
returns c =
    sums_are _ _ _ _ _ _ _ c.dot-of_rates.ensures c.dot-of_adjoints.ensures
