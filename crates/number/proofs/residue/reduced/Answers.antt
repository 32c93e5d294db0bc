-- `number::residue::reduced` meets its contract: the remainder is the definition.
use mathlib.Core.Path.{refl}
use Rattle.number.specs.Residues.{residue}
use Rattle.number.proofs.residue.reduced.Goals as goal

pub returns : goal.returns
unfolding residue
returns c = refl
