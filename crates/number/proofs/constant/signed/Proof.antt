-- `number::constant::signed` meets its contract: below 32768 the word itself, from there on the word less 65536.
use mathlib.Core.Path.{◌≡◌, sym, ap, ◌∙◌}
use native.Mathlib.Omega.{arith}
use borrow.Author.Rules.{rules}
use lib.IntN.{pos, ◌-ℤ◌}
use mir.Syntax.{w32}
use mir.Val.{to_z}
use mir.ValLaws.{to_z_pos, to_z-of_z}
use Rattle.number.specs.Arithmetic.{signed}
use Rattle.number.proofs.ConstantLaws.{signed_low, signed_fits, high_difference}
use Rattle.number.proofs.constant.signed.Statement.{statement}
use Rattle.number.proofs.constant.signed.Tie as tie

difference : (c : tie.Else-word-lt-FIRST_NEGATIVE) → to_z w32 c.args.word -ℤ pos 65536 ≡ signed c.args.word
difference c =
    let w = c.args.word in
    ap (λ z. z -ℤ pos 65536) (to_z_pos w32 w (omega arith))
    ∙ high_difference w c.if-word-lt-FIRST_NEGATIVE.false (omega arith)

cast_number : tie.Need-overflow_cast-number
cast_number c = search rules

cast_result : tie.Need-overflow_cast-result
cast_result c = search rules

sub_result : tie.Need-overflow_sub-result
sub_result c = rw (difference c) (signed_fits c.args.word (omega arith))

returns : tie.Need-returns-then-word-lt-FIRST_NEGATIVE
returns c = to_z_pos w32 c.args.word (omega arith) ∙ sym (signed_low c.args.word c.if-word-lt-FIRST_NEGATIVE.true)

returns_2 : tie.Need-returns-else-word-lt-FIRST_NEGATIVE
returns_2 c = to_z-of_z w32 _ (sub_result c) ∙ difference c

pub signed_spec : {M : Type 1} → statement M
signed_spec =
    tie.close (tie.spec cast_number cast_result sub_result returns returns_2)
