-- `number::residue::product` meets its contract: the product of two 32-bit numbers fits 64 bits.
use borrow.Author.Rules.{rules}
use Rattle.number.proofs.ResidueLaws.{product_below}
use Rattle.number.proofs.residue.product.Goals as goal

pub overflow_mul-x : goal.overflow_mul-x
overflow_mul-x c = record { fits = product_below 32 (search rules) (search rules) }
