-- `text::numbers::number_in` reads the digits in turn. The invariant: the whole number is what the digits that are left make of the number so far.
use Rattle.std.proofs.Common.{◌≡◌, drop}
use Rattle.text.specs.Numbers.{number_from}
use Rattle.text.proofs.numbers.number_in.Given as goal

abbrev pub invariant-loop-byte : goal.invariant-loop-byte
invariant-loop-byte l = number_from l.base 0 l.field ≡ number_from l.base l.number (drop l.byte-index l.field)
