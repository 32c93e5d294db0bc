-- `claims::run_double` meets demands 1 and 2.
use Rattle.number.specs.Doubles.{doubles}
use Rattle.claims.proofs.DemandTwoHolds.{run_meets}
use Rattle.claims.proofs.run_double.Goals as goal

pub returns : goal.returns
returns c =
    run_meets doubles _ _ _ _ _ _ c.run_double.ensures
