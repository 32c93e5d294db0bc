-- The pattern that a lent buffer holds before a call: each place its own number, none of them zero.
use Rattle.std.specs.Prelude.{◌≡◌, ℕ, ◌+◌, ◌%◌, ◌^◌, ◌<◌, ◌≤◌, List, length, slice_index_or, from_bits}
use Rattle.std.specs.Float.Ieee.{Float, binary64}

-- a place's stamp: from 1 on, and round again after 65521 places
abbrev pub stamp : ℕ → ℕ
stamp at = at % 65521 + 1

-- what a stamp is written as: a word itself, a residue with its topmost bit set, a double with the bits of 2 before it
abbrev pub word_stamp : ℕ → ℕ
word_stamp n = n

abbrev pub residue_stamp : ℕ → ℕ
residue_stamp n = 2 ^ 31 + n

abbrev pub double_stamp : ℕ → Float
double_stamp n = from_bits binary64 (2 ^ 62 + n)

-- each place of the list holds what `stamp_of` makes of its stamp
abbrev pub IsPattern : {A : Type 0} → (ℕ → A) → List A → Type 0
IsPattern {A} stamp_of xs = (k : ℕ) (d : A) → k < length xs → slice_index_or xs k d ≡ stamp_of (stamp k)

-- from this place on the list's numbers have the pattern's bits
abbrev pub StandsFrom : {A : Type 0} → (A → ℕ) → (ℕ → A) → List A → ℕ → Type 0
StandsFrom {A} bits_of stamp_of xs from =
    (k : ℕ) (d : A) → from ≤ k → k < length xs → bits_of (slice_index_or xs k d) ≡ bits_of (stamp_of (stamp k))

-- the first `count` places hold numbers whose bits are zero
abbrev pub ClearBelow : {A : Type 0} → (A → ℕ) → List A → ℕ → Type 0
ClearBelow {A} bits_of xs count = (k : ℕ) (d : A) → k < count → k < length xs → bits_of (slice_index_or xs k d) ≡ 0
