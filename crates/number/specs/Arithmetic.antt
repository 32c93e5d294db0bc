-- What the row machine and the claims know of an arithmetic: one record, of which doubles and residues are the instances.
use Rattle.std.specs.Prelude.{Bool, true, false, cond, ℤ, pos, negsuc, ℕ, ◌-◌, ltb}
use Rattle.std.proofs.Math.Option.{Option, none, some}

-- "A result is either a finite double or a stop". Why says for what reason.
pub data Outcome (Value Why : Type 0) : Type 0 where
  value : Value → Outcome Value Why
  stop : Why → Outcome Value Why

pub record Arithmetic : Type 1 where
  pub Carrier : Type 0
  -- the reason of a stop: 02 adds a second one
  pub Why : Type 0
  pub sum : Carrier → Carrier → Outcome Carrier Why
  pub difference : Carrier → Carrier → Outcome Carrier Why
  pub product : Carrier → Carrier → Outcome Carrier Why
  pub negation : Carrier → Outcome Carrier Why
  -- where there is one: "Add kind 18, d := a / b, in doubles" (02 §4)
  pub quotient : Option (Carrier → Carrier → Outcome Carrier Why)
  pub less : Carrier → Carrier → Bool
  pub constant : ℤ → Carrier
  -- the zero that the tool itself sets
  pub zero : Carrier
  -- "Start values and seeds must be finite"
  pub admits : Carrier → Bool

-- the operations of an arithmetic, with the types of its numbers and reasons named outside: so a type of the code can be the one and the other
pub record Operations (Carrier Why : Type 0) : Type 0 where
  pub sum : Carrier → Carrier → Outcome Carrier Why
  pub difference : Carrier → Carrier → Outcome Carrier Why
  pub product : Carrier → Carrier → Outcome Carrier Why
  pub negation : Carrier → Outcome Carrier Why
  pub quotient : Option (Carrier → Carrier → Outcome Carrier Why)
  pub less : Carrier → Carrier → Bool
  pub constant : ℤ → Carrier
  pub zero : Carrier
  pub admits : Carrier → Bool

abbrev pub operations_of : (A : Arithmetic) → Operations A.Carrier A.Why
operations_of A =
    record {
      sum = A.sum;
      difference = A.difference;
      product = A.product;
      negation = A.negation;
      quotient = A.quotient;
      less = A.less;
      constant = A.constant;
      zero = A.zero;
      admits = A.admits;
    }

-- and the arithmetic of these operations, which is again the one that they are of
abbrev pub arithmetic_on : {Carrier Why : Type 0} → Operations Carrier Why → Arithmetic
arithmetic_on {Carrier} {Why} on =
    record {
      Carrier = Carrier;
      Why = Why;
      sum = on.sum;
      difference = on.difference;
      product = on.product;
      negation = on.negation;
      quotient = on.quotient;
      less = on.less;
      constant = on.constant;
      zero = on.zero;
      admits = on.admits;
    }

-- x over y, where there are quotients
abbrev pub over : {X Why : Type 0} → Option (X → X → Outcome X Why) → X → X → Option (Outcome X Why)
over none x y = none
over (some divide) x y = some (divide x y)

abbrev pub is_there : {X : Type 0} → Option X → Bool
is_there none = false
is_there (some x) = true

-- whether an arithmetic has quotients
abbrev pub divides : Arithmetic → Bool
divides A = is_there A.quotient

-- "each a two's complement whole number, so constants run from −32768 to 32767"; `negsuc n` is −1 − n
unfoldable pub signed : ℕ → ℤ
signed word = cond (ltb word 32768) (pos word) (negsuc (65535 - word))
