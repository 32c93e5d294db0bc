-- The plain engine (02 §1): straight from the sheet, each number with its rate, under the same sets. A stop names the tangent table's row.
use Prim.Native.Nat.{ℕ, suc, ◌+◌}
use Rattle.std.proofs.Math.Bool.{cond}
use mathlib.Core.List.{List, [], ◌++◌}
use Rattle.number.specs.Arithmetic.{Arithmetic, over}
use Rattle.sheet.specs.Tree.{times, while, done, one, fork, again, RowNumber}
use Rattle.sheet.specs.Rows.{Assignment, ◌≔◌, Source, copy, fixed, sum, difference, product, negation, quotient, is_dependent}
use Rattle.sheet.specs.Sheets.{Sheet, variables_of}
use Rattle.sets.specs.Transfers.{Activity}
use Rattle.sets.specs.Marks.{Sets, marked_by}
use Rattle.table.specs.Adjoint.{Body}
use Rattle.machine.specs.Actions.{Attempt, through, halted, stuck, ◌>>=◌, from_outcome, present, turns_then, while_then, look, replaced, Try, evaluated, counting, compared}
use Rattle.tangent.specs.Tangent.{from_varied, rate_count, rows_over, tangent_rows}
use Rattle.tangent.specs.TangentRuns.{starting_rates}

module _ (A : Arithmetic) where
  -- each variable's number and its rate, at the same place of two lists
  pub record Carried : Type 0 where
    pub values : List A.Carrier
    pub rates : List A.Carrier

  pub record StopAt : Type 0 where
    pub row : RowNumber
    pub why : A.Why

  -- an attempt whose stop names the table's row
  abbrev pub stopping_in : {X : Type 0} → (row : ℕ) → Try A X → Attempt StopAt X
  stopping_in row (through x) = through x
  stopping_in row (halted why) = halted (record { row = record { index = row }; why = why })
  stopping_in row stuck = stuck

  -- a term of a product's rate: the value of i times the rate of j
  abbrev pub term : (i j : ℕ) → Carried → Try A A.Carrier
  term i j now = do
    x ← look now.values i
    rate ← look now.rates j
    from_outcome (A.product x rate)

  -- of a quotient's rate (02 §4): x over the value of b; ȧ / b; and from this row of the table on "t := a × ḃ, t := t / b, t := t / b"
  abbrev pub over_value : A.Carrier → (b : ℕ) → Carried → Try A A.Carrier
  over_value x b now = do
    y ← look now.values b
    outcome ← present (over A.quotient x y)
    from_outcome outcome

  abbrev pub first_over : (a b : ℕ) → Carried → Try A A.Carrier
  first_over a b now = do
    rate ← look now.rates a
    over_value rate b now

  abbrev pub second_over : (a b row : ℕ) → Carried → Attempt StopAt A.Carrier
  second_over a b row now = do
    t ← stopping_in row (term a b now)
    once ← stopping_in (suc row) (over_value t b now)
    stopping_in (suc (suc row)) (over_value once b now)

  -- an active row's ḋ, whose rate rows begin at this row of the table. "Copy: ȧ. Negation: the rate negated. Sum and difference: the same
  -- operation on the rates, or copy or negation of the one varied. Product: u := b × ȧ, t := a × ḃ, ḋ := u + t, or the one term alone". A quotient:
  -- "u := ȧ / b, .. ḋ := u − t", ȧ / b alone, or the second term negated
  unfoldable pub active_rate : Source → Activity → (row : ℕ) → Carried → Attempt StopAt A.Carrier
  unfolding evaluated
  active_rate (copy a) known row now = stopping_in row (evaluated A [] (copy a) now.rates)
  active_rate (fixed c) known row now = through A.zero
  active_rate (sum a b) known row now = stopping_in row (evaluated A [] (from_varied known (sum a b) (copy a) (copy b)) now.rates)
  active_rate (difference a b) known row now =
      stopping_in row (evaluated A [] (from_varied known (difference a b) (copy a) (negation b)) now.rates)
  active_rate (product a b) known row now =
      from_varied known
      (do
        u ← stopping_in row (term b a now)
        t ← stopping_in (suc row) (term a b now)
        stopping_in (suc (suc row)) (from_outcome (A.sum u t)))
      (stopping_in row (term b a now)) (stopping_in row (term a b now))
  active_rate (negation a) known row now = stopping_in row (evaluated A [] (negation a) now.rates)
  active_rate (quotient a b) known row now =
      from_varied known
      (do
        u ← stopping_in row (first_over a b now)
        t ← second_over a b (suc row) now
        stopping_in (suc (suc (suc (suc row)))) (from_outcome (A.difference u t)))
      (stopping_in row (first_over a b now))
      (do
        t ← second_over a b row now
        stopping_in (suc (suc (suc row))) (from_outcome (A.negation t)))

  -- "An inactive assignment's .. sets ḋ to 0."
  unfoldable pub rate_for : Source → Activity → (row : ℕ) → Carried → Attempt StopAt A.Carrier
  unfolding active_rate
  rate_for source known row now = cond known.active (active_rate source known row now) (through A.zero)

  -- an assignment: its rate is worked out before its value
  unfoldable pub carried_over : (constants : List ℕ) → Assignment → Activity → (row : ℕ) → Carried → Attempt StopAt Carried
  unfolding rate_for rate_count evaluated
  carried_over constants (d ≔ source) known row now = do
    rate ← rate_for source known row now
    x ← stopping_in (row + rate_count source known) (evaluated A constants source now.values)
    values ← replaced now.values d x
    rates ← replaced now.rates d rate
    through (record { values = values; rates = rates })

  module _ (variables : ℕ) (constants : List ℕ) where
    -- a body whose tangent table begins at this row
    unfoldable pub plain_run : Body → (row : ℕ) → Carried → Attempt StopAt Carried
    unfolding carried_over rate_count compared tangent_rows turns_then while_then
    plain_run done row now = through now
    plain_run (one m k) row now = do
      next ← carried_over constants m.assignment m.known row now
      plain_run k (row + rows_over m.assignment m.known) next
    plain_run (fork f a b k) row now = do
      let split = suc row + tangent_rows variables a
      let end = suc split + tangent_rows variables b
      first ← present (compared A f.test now.values)
      next ← cond first (plain_run a (suc row) now) (plain_run b (suc split) now)
      plain_run k (suc end) next
    plain_run (again (times m) a k) row now = turns_then m (plain_run a (suc row)) (plain_run k (suc (suc row + tangent_rows variables a))) now
    plain_run (again (while f m) a k) row now =
        while_then (λ now. compared A f.test now.values) (plain_run a (suc row)) (λ n now. through now)
        (plain_run k (suc (suc row + tangent_rows variables a))) 0 (suc m) now

  -- "Starting rates are read at independents only and are 0 elsewhere"
  unfoldable pub plain_by : Sets → Sheet → (starts rates : List A.Carrier) → Attempt StopAt Carried
  unfolding plain_run marked_by counting
  plain_by sets sheet starts rates =
      plain_run (variables_of sheet) sheet.constants (marked_by sets sheet) 0 (record { values = starts; rates = starting_rates A sheet.roles rates })

  -- "the result is the V values and then each dependent's rate, 0 at others"
  unfoldable pub plain_result : Sheet → Carried → List A.Carrier
  unfolding counting
  plain_result sheet now = now.values ++ counting A is_dependent sheet.roles now.rates
