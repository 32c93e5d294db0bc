-- `number::residue::U32Number::difference` meets its contract: the sum with the opposite.
use mathlib.Core.Path.{◌≡◌}
use Rattle.number.specs.Residues.{opposite}
use Rattle.number.proofs.residue.U32Number.difference.Goals as goal

pub returns : goal.returns
returns c =
    let turned : c.opposite.result ≡ opposite c.args.other = cc in
    rw (c.reduced.ensures, turned)
