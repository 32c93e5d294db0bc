-- What a row is to the blocks when it isn't what was asked for.
use Rattle.std.specs.Prelude.{ℕ, ◌≡◌, ◌≢◌, List}
use Rattle.std.proofs.Common.{refl}
use Rattle.sheet.specs.declared.kinds.Part.{Part}
use Rattle.sheet.specs.declared.kinds.Part.TheVariants as part
use Rattle.writer.specs.Inner.RowsWritten.{turns_back}

pub not_end_repeat : (words : List ℕ) (first : ℕ) (goes : List ℕ) (q : ℕ) (p : Part) → p ≢ part.EndRepeat → turns_back words first goes q p ≡ 0
unfolding turns_back
not_end_repeat words first goes q part.Assignment other = refl
not_end_repeat words first goes q part.If other = refl
not_end_repeat words first goes q part.Else other = refl
not_end_repeat words first goes q part.EndIf other = refl
not_end_repeat words first goes q part.Repeat other = refl
not_end_repeat words first goes q part.EndRepeat other = absurd (other refl)
