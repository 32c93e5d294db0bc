-- The numbers that a field writes.
use Rattle.std.specs.Prelude.{ℕ, ◌+◌, ◌-◌, ◌*◌, ◌^◌, min, ◌&&◌, ◌==◌, nat_le, nat_lt, if◌then◌else◌, List, [], ◌∷◌, length, Option, Some, None, option_map, option_and_then, from_bits}
use Rattle.std.specs.Float.Ieee.{Float, binary64}

-- a digit's worth: of 0 to 9, and to the base 16 of a to f, in small letters alone
abbrev pub digit : ℕ → ℕ → Option ℕ
digit base byte =
    if nat_le 48 byte && nat_le byte 57 then Some (byte - 48)
    else if base == 16 && (nat_le 97 byte && nat_le byte 102) then Some (10 + (byte - 97))
    else None

-- the largest number of 64 bits, which larger ones count as
abbrev pub LARGEST : ℕ
LARGEST = 2 ^ 64 - 1

-- the number whose first digits are worth `number`, and whose others follow; with a byte that is no digit it is no number
abbrev pub number_from : ℕ → ℕ → List ℕ → Option ℕ
number_from base number [] = Some number
number_from base number (byte ∷ bytes) = option_and_then (λ d. number_from base (min (number * base + d) LARGEST) bytes) (digit base byte)

-- a number in decimal has a digit at least
abbrev pub decimal : List ℕ → Option ℕ
decimal [] = None
decimal (byte ∷ bytes) = number_from 10 0 (byte ∷ bytes)

-- a number below the bound, where there is one
abbrev pub below : ℕ → Option ℕ → Option ℕ
below bound None = None
below bound (Some n) = if nat_lt n bound then Some n else None

-- a length, a word, a residue
abbrev pub length_said : List ℕ → Option ℕ
length_said field = decimal field

abbrev pub word_said : List ℕ → Option ℕ
word_said field = below (2 ^ 16) (decimal field)

abbrev pub residue_said : List ℕ → Option ℕ
residue_said field = below (2 ^ 32) (decimal field)

-- a double is written by its bits, 16 digits to the base 16
abbrev pub double_said : List ℕ → Option Float
double_said field = if length field == 16 then option_map (λ bits. from_bits binary64 bits) (number_from 16 0 field) else None
