-- `number::residue::opposite` meets its contract: a u32 is its own residue.
use mathlib.Core.Path.{◌∙◌}
use native.Mathlib.Omega.{arith}
use Rattle.number.proofs.ResidueLaws.{opposite_of_residue}
use Rattle.number.proofs.residue.opposite.Goals as goal

pub returns : goal.returns
returns c = c.reduced.ensures ∙ opposite_of_residue c.args.x (omega arith)
