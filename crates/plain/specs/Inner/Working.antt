-- One assignment on the pairs that it reads: its rate first, then its value, or after how many of its table rows it stops.
use Rattle.std.specs.Prelude.{ℕ, ◌+◌, Bool, cond, List, get_or, eqb, Float}
use Rattle.std.specs.Prelude.{Err, Ok, Result}
use Rattle.std.specs.Float.{binary64}
use Rattle.std.specs.Float.Ieee.{div}
use Rattle.number.specs.Arithmetic.{Outcome, value, stop, signed}
use Rattle.number.specs.Doubles.{Reason, finite_or_stop, doubles}
use Rattle.sheet.specs.Rows.{quotient_kind}
use Rattle.sets.specs.Transfers.{Activity}
use Rattle.machine.specs.Actions.{Attempt, through, halted, ◌>>=◌}
use Rattle.plain.specs.declared.Rated.{Rated}

-- ---- what the code's answers say

abbrev pub rate_said : Result Float ℕ → Attempt ℕ Float
rate_said (Ok x) = through x
rate_said (Err rows) = halted rows

abbrev pub worked_said : Result Rated ℕ → Attempt ℕ Rated
worked_said (Ok x) = through x
worked_said (Err rows) = halted rows

-- an operation that so many rows stand before
abbrev pub after : {X : Type 0} → (rows : ℕ) → Outcome X Reason → Attempt ℕ X
after rows (value x) = through x
after rows (stop why) = halted rows

-- ---- the rate

-- from both operands, from a alone, from b alone
abbrev pub by_varied : {X : Type 0} → (a b : Bool) → (both of_a of_b : X) → X
by_varied a b both of_a of_b = cond a (cond b both of_a) of_b

-- by an assignment's kind: one that moves a number, a copy or a constant, is none of the five
abbrev pub by_kind : {X : Type 0} → (kind : ℕ) → (moved added subtracted multiplied negated divided : X) → X
by_kind kind moved added subtracted multiplied negated divided =
    cond (eqb kind 3) added
    (cond (eqb kind 4) subtracted (cond (eqb kind 5) multiplied (cond (eqb kind 6) negated (cond (eqb kind quotient_kind) divided moved))))

-- x over y, which doubles have
abbrev pub over_of : (x y : Float) → Outcome Float Reason
over_of x y = finite_or_stop (div binary64 x y)

abbrev pub sum_rate : (vary_a vary_b : Bool) → (a b : Float) → Outcome Float Reason
sum_rate vary_a vary_b a b = by_varied vary_a vary_b (doubles.sum a b) (value a) (value b)

abbrev pub difference_rate : (vary_a vary_b : Bool) → (a b : Float) → Outcome Float Reason
difference_rate vary_a vary_b a b = by_varied vary_a vary_b (doubles.difference a b) (value a) (doubles.negation b)

abbrev pub two_terms : (a b : Rated) → Attempt ℕ Float
two_terms a b = do
  u ← after 0 (doubles.product b.value a.rate)
  t ← after 1 (doubles.product a.value b.rate)
  after 2 (doubles.sum u t)

abbrev pub product_rate : (vary_a vary_b : Bool) → (a b : Rated) → Attempt ℕ Float
product_rate vary_a vary_b a b =
    by_varied vary_a vary_b (two_terms a b) (after 0 (doubles.product b.value a.rate)) (after 0 (doubles.product a.value b.rate))

-- a quotient's second term, which so many rows stand before; both terms; the second alone
abbrev pub second_over : (rows : ℕ) → (a b : Rated) → Attempt ℕ Float
second_over rows a b = do
  t ← after rows (doubles.product a.value b.rate)
  once ← after (rows + 1) (over_of t b.value)
  after (rows + 2) (over_of once b.value)

abbrev pub both_over : (a b : Rated) → Attempt ℕ Float
both_over a b = do
  u ← after 0 (over_of a.rate b.value)
  t ← second_over 1 a b
  after 4 (doubles.difference u t)

abbrev pub second_alone : (a b : Rated) → Attempt ℕ Float
second_alone a b = do
  t ← second_over 0 a b
  after 3 (doubles.negation t)

abbrev pub quotient_rate : (vary_a vary_b : Bool) → (a b : Rated) → Attempt ℕ Float
quotient_rate vary_a vary_b a b = by_varied vary_a vary_b (both_over a b) (after 0 (over_of a.rate b.value)) (second_alone a b)

abbrev pub active_rate_of : (kind : ℕ) → (vary_a vary_b : Bool) → (a b : Rated) → Attempt ℕ Float
active_rate_of kind vary_a vary_b a b =
    by_kind kind (through a.rate) (after 0 (sum_rate vary_a vary_b a.rate b.rate)) (after 0 (difference_rate vary_a vary_b a.rate b.rate))
    (product_rate vary_a vary_b a b) (after 0 (doubles.negation a.rate)) (quotient_rate vary_a vary_b a b)

abbrev pub rate_on : (kind : ℕ) → Activity → (a b : Rated) → Attempt ℕ Float
rate_on kind known a b = cond known.active (active_rate_of kind known.varied_a known.varied_b a b) (through doubles.zero)

-- ---- the value

abbrev pub value_on : (kind : ℕ) → (a b : Float) → Outcome Float Reason
value_on kind a b = by_kind kind (value a) (doubles.sum a b) (doubles.difference a b) (doubles.product a b) (doubles.negation a) (over_of a b)

-- ---- both

-- a constant is a number whose rate is 0
abbrev pub operand_on : (words : List ℕ) → (first_constant kind word : ℕ) → Rated → Rated
operand_on words first_constant kind word a =
    cond (eqb kind 2) (record { value = doubles.constant (signed (get_or words (first_constant + word) 0)); rate = doubles.zero }) a

-- the value's own row comes after the rate rows
abbrev pub worked_on : (kind : ℕ) → Activity → (rate_rows : ℕ) → (a b : Rated) → Attempt ℕ Rated
worked_on kind known rate_rows a b = do
  rate ← rate_on kind known a b
  x ← after rate_rows (value_on kind a.value b.value)
  through (record { value = x; rate = rate })
