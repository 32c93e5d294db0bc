-- How much room a number takes: little, so that a call's own arrays of numbers are none that memory can't hold.
use Rattle.std.specs.Prelude.{ℕ, ◌<◌, ◌^◌}
use prog.Memory.{size}
use denote.RattleType.{RattleType}
use denote.Memory.{lone}

abbrev pub TakesLittle : RattleType → Type 0
TakesLittle R = size (lone R.mir) < 2 ^ 32
