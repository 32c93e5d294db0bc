-- `number::constant::negated` meets its contract: zero less the word's number, from −32767 to 32768, which an i32 holds.
use mathlib.Core.Path.{◌≡◌, ap, ◌∙◌}
use native.Mathlib.Omega.{arith}
use borrow.Author.Rules.{rules}
use lib.IntN.{pos, neg_ℤ, ◌-ℤ◌, +ℤ_idl}
use mir.Syntax.{w32}
use mir.Val.{to_z, of_z}
use mir.ValLaws.{to_z-of_z}
use Rattle.number.specs.Arithmetic.{signed}
use Rattle.number.proofs.ConstantLaws.{signed_fits, negated_fits}
use Rattle.number.proofs.constant.negated.Statement.{statement}
use Rattle.number.proofs.constant.negated.Tie as tie

difference : (c : tie.After-signed) → pos 0 -ℤ to_z w32 (of_z w32 c.signed.result) ≡ neg_ℤ (signed c.args.word)
difference c =
    let w = c.args.word in
    rw c.signed.ensures (+ℤ_idl (neg_ℤ (to_z w32 (of_z w32 (signed w)))) ∙ ap neg_ℤ (to_z-of_z w32 (signed w) (signed_fits w (omega arith))))

signed_requires : tie.Need-signed-requires
signed_requires c κs = search rules

sub_result : tie.Need-overflow_sub-result
sub_result c = rw (difference c) (negated_fits c.args.word (omega arith))

returns : tie.Need-returns
returns c = to_z-of_z w32 _ (sub_result c) ∙ difference c

pub negated_spec : {M : Type 1} → statement M
negated_spec =
    tie.close (tie.spec signed_requires sub_result returns)
