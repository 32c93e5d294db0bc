-- `number::constant::above_two_to_52` meets its contract: the stated exact case.
use native.Mathlib.Omega.{arith}
use Rattle.number.proofs.WholeDoubles.{no_nan_bits, exact_from_bits}
use Rattle.number.proofs.constant.above_two_to_52.Goals as goal

pub float_from_bits-result : goal.float_from_bits-result
float_from_bits-result c = no_nan_bits c.args.n (omega arith)

pub returns : goal.returns
returns c = exact_from_bits c.args.n (omega arith)
