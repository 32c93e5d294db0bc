-- "a block closed or split wrongly": what the open block comes to when it isn't the one asked for.
use Rattle.std.specs.Prelude.{ℕ, ◌≡◌, ◌≢◌, None}
use Rattle.std.proofs.Common.{refl}
use Rattle.sheet.specs.Inner.Steps.{split_of, if_end_of, repeat_end_of}
use Rattle.sheet.specs.declared.Open.{Open}
use Rattle.sheet.specs.declared.Open.TheVariants as block
use Rattle.sheet.specs.declared.Level.{Level}

pub not_first : (b : Open) (longest : ℕ) → b ≢ block.First → None ≡ split_of b longest
unfolding split_of
not_first block.Outermost longest other = refl
not_first block.First longest other = absurd (other refl)
not_first (block.Second first) longest other = refl
not_first (block.Turns m) longest other = refl

pub not_second : (b : Open) (longest : ℕ) (outer : Level) → ((first : ℕ) → b ≢ block.Second first) → None ≡ if_end_of b longest outer
unfolding if_end_of
not_second block.Outermost longest outer other = refl
not_second block.First longest outer other = refl
not_second (block.Second first) longest outer other = absurd (other first refl)
not_second (block.Turns m) longest outer other = refl

pub not_repeat : (b : Open) (longest : ℕ) (outer : Level) → ((turns : ℕ) → b ≢ block.Turns turns) → None ≡ repeat_end_of b longest outer
unfolding repeat_end_of
not_repeat block.Outermost longest outer other = refl
not_repeat block.First longest outer other = refl
not_repeat (block.Second first) longest outer other = refl
not_repeat (block.Turns m) longest outer other = absurd (other m refl)
