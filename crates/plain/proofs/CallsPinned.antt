-- Any two results that the contract of tangent_plain permits coincide.
use Prim.Native.Nat.{ℕ}
use mathlib.Core.Path.{◌≡◌, sym, ap, ◌∙◌}
use mathlib.Core.List.{List}
use lib.Ieee.{Float}
use Rattle.number.specs.Doubles.{doubles}
use Rattle.table.specs.declared.Reply.{Reply}
use Rattle.plain.specs.Carries.{Carry, carry_of}
use Rattle.plain.specs.Calls.{plain}

-- an answer with what the result then holds
pub record Left : Type 0 where
  pub answer : Reply
  pub result : List Float

left_by : Carry doubles → Left
left_by carry = record { answer = record { number = carry.number; place = carry.place }; result = carry.result }

pub one_carry : (words : List ℕ) (starts rates result : List Float) (left left' : Left)
    → carry_of doubles left.answer left.result ≡ plain doubles words starts rates result
    → carry_of doubles left'.answer left'.result ≡ plain doubles words starts rates result → left ≡ left'
unfolding left_by
one_carry words starts rates result left left' e e' = ap left_by (e ∙ sym e')
