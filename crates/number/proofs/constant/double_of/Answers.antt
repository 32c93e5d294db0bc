-- `number::constant::double_of` meets its contract: every number of 32 bits is a double exactly, so the conversion rounds nothing.
use mathlib.Core.Path.{ap}
use native.Mathlib.Omega.{arith}
use lib.Ieee.{of_int, binary64}
use mir.Syntax.{w32}
use mir.ValLaws.{to_z-of_z}
use Rattle.number.specs.Arithmetic.{signed}
use Rattle.number.proofs.ConstantLaws.{signed_fits}
use Rattle.number.proofs.constant.double_of.Goals as goal

pub returns : goal.returns
returns c =
    let w = c.args.word in
    rw c.signed.ensures (ap (of_int binary64) (to_z-of_z w32 (signed w) (signed_fits w (omega arith))))
