-- Sets of variables as masks: variable i is bit i.
use Rattle.std.specs.Prelude.{ℕ, Bool, not, cond, eqb}
use Rattle.std.specs.Int.Bits.{bit_and}
use Rattle.sheet.specs.Inner.Kinds.{names_variable}
use Rattle.sheet.specs.declared.kinds.Slot.{Slot}
use Rattle.sets.specs.VariableSets.{VariableSet, empty, single}

-- how many variables a mask has room for
abbrev pub mask_bits : ℕ
mask_bits = 64

-- the variable that a word names, by what the table of kinds says of the word
abbrev pub named_by : Slot → (word : ℕ) → VariableSet
named_by slot word = cond (names_variable slot) (single word) empty

-- two sets have a variable in common
abbrev pub meets : VariableSet → VariableSet → Bool
meets s t = not (eqb (bit_and s t) 0)
