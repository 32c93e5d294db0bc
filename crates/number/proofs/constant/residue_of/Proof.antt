-- `number::constant::residue_of` meets its contract: a negative number is the opposite of its negation.
use mathlib.Core.Path.{◌≡◌, sym, ap, ◌∙◌}
use mathlib.Core.Bool.{true, false}
use native.Mathlib.Omega.{arith}
use borrow.Author.Rules.{rules}
use lib.IntN.{pos, neg_ℤ, nat_abs}
use lib.Signed.{lt_z, lt_z_no, yes_non_neg, nat_abs-le}
use mir.Syntax.{w32}
use mir.Val.{to_z, of_z}
use mir.ValLaws.{to_z-of_z}
use Rattle.number.specs.Arithmetic.{signed}
use Rattle.number.specs.Residues.{opposite}
use Rattle.number.proofs.ConstantLaws.{signed_range, signed_fits, negated_fits, negative_natural, residue_negative, residue_natural}
use Rattle.number.proofs.constant.residue_of.Statement.{statement}
use Rattle.number.proofs.constant.residue_of.Tie as tie

number : (c : tie.After-signed-number) → to_z w32 (of_z w32 c.signed-number.result) ≡ signed c.args.word
number c =
    let w = c.args.word in
    rw c.signed-number.ensures (to_z-of_z w32 (signed w) (signed_fits w (omega arith)))

negative : (c : tie.Then-number-lt0) → lt_z (signed c.args.word) (pos 0) ≡ true
negative c = rw (number c.before) at c.if-number-lt0.true

natural : (c : tie.Else-number-lt0) → lt_z (signed c.args.word) (pos 0) ≡ false
natural c = rw (number c.before) at c.if-number-lt0.false

negated : (c : tie.After-negated) → to_z w32 (of_z w32 c.negated.result) ≡ neg_ℤ (signed c.args.word)
negated c =
    let w = c.args.word in
    rw c.negated.ensures (to_z-of_z w32 (neg_ℤ (signed w)) (negated_fits w (omega arith)))

signed_requires : tie.Need-signed-number-requires
signed_requires c κs = search rules

negated_requires : tie.Need-negated-requires
negated_requires c κs = search rules

cast_negation : tie.Need-overflow_cast-negated
cast_negation c =
    let w = c.args.word in
    let small = nat_abs-le (neg_ℤ (signed w)) (negated_fits w (omega arith)).sfits in
    rw (negated c) (negative_natural (signed w) (negative c.before), record { fits = omega (arith, small) })

opposite_requires : tie.Need-opposite-requires
opposite_requires c κs = search rules

cast_result : tie.Need-overflow_cast-result
cast_result c =
    let w = c.args.word in
    let small = nat_abs-le (signed w) (signed_range w (omega arith)) in
    rw (number c.before) (yes_non_neg {z = signed w} (lt_z_no (rw (natural c) tt)), record { fits = omega (arith, small) })

returns : tie.Need-returns-then-number-lt0
returns c =
    let w = c.args.word in
    let turned : c.opposite.result ≡ opposite (nat_abs (neg_ℤ (signed w))) = cc (negated c.before) in
    turned ∙ sym (residue_negative (signed w) (negative c.before.before))

returns_2 : tie.Need-returns-else-number-lt0
returns_2 c =
    let w = c.args.word in
    ap nat_abs (number c.before) ∙ sym (residue_natural (signed w) (natural c) (omega (arith, signed_range w (omega arith))))

pub residue_of_spec : {M : Type 1} → statement M
residue_of_spec =
    tie.close (tie.spec signed_requires negated_requires cast_negation opposite_requires cast_result returns returns_2)
