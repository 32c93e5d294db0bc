-- Judging: a refusal or what was asked for, one judgement after another.
use Rattle.std.specs.Prelude.{ℕ, Bool, true, false}
use Rattle.sheet.specs.Refusals.{Refusal, number_of, place_of}

-- What a call comes to: a refusal, or what was asked for. "0 | done | 0" is `number_in` and `place_in` of `given`.
pub data Answer {ℓ} (A : Type ℓ) : Type ℓ where
  refused : Refusal → Answer A
  given : A → Answer A

unfoldable pub number_in {ℓ} : {A : Type ℓ} → Answer A → ℕ
unfolding number_of
number_in (refused r) = number_of r
number_in (given a) = 0

unfoldable pub place_in {ℓ} : {A : Type ℓ} → Answer A → ℕ
unfolding place_of
place_in (refused r) = place_of r
place_in (given a) = 0

-- one judgement after another: the first refusal is the answer
infixl 30 ◌>>=◌
abbrev pub ◌>>=◌ {ℓ κ} : {A : Type ℓ} {B : Type κ} → Answer A → (A → Answer B) → Answer B
refused r >>= next = refused r
given a >>= next = next a

-- a refusal unless the test passes
abbrev pub unless : Bool → Refusal → Answer (Unit {0})
unless true r = given tt
unless false r = refused r
