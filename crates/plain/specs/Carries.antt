-- What the plain engine's call answers, and that a tangent table's run answers the same.
use Rattle.std.specs.Prelude.{ℕ, ◌≡◌, List}
use Rattle.number.specs.Arithmetic.{Arithmetic}
use Rattle.table.specs.declared.Reply as declared
use Rattle.run.specs.Runs.{Ran}

module _ (A : Arithmetic) where
  -- number, place and what the lent result then holds
  pub record Carry : Type 0 where
    pub number : ℕ
    pub place : ℕ
    pub result : List A.Carrier

  abbrev pub carry_of : declared.Reply → (result : List A.Carrier) → Carry
  carry_of answer result = record { number = answer.number; place = answer.place; result = result }

  pub record SameAnswer (ran : Ran A) (carry : Carry) : Type 0 where
    pub number : ran.number ≡ carry.number
    pub place : ran.place ≡ carry.place
    pub result : ran.lent.result ≡ carry.result
