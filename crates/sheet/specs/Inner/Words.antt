-- How many values a word of a sheet has.
use Rattle.std.specs.Prelude.{ℕ, ◌-◌}

-- "A sheet is a slice of 16-bit words": how many values a word has, and the greatest
abbrev pub word_values : ℕ
word_values = 65536

abbrev pub greatest_word : ℕ
greatest_word = word_values - 1
