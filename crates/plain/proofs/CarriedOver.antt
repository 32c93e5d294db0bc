-- An assignment over all that is carried is one on the pairs that it reads: the code's answer for a row is the definition's.
use Prim.Native.Nat.{ℕ, suc, ◌+◌, ◌≤◌, ◌<◌}
use mathlib.Core.Path.{◌≡◌, refl, ap}
use mathlib.Core.Bool.{Bool, true, false}
use mathlib.Core.List.{List, map}
use mathlib.Core.Option.{some}
use native.Mathlib.Omega.{arith}
use lib.ListN.{length, get_or, get_elem?, take, set}
use lib.Ieee.{Float}
use Rattle.number.specs.Arithmetic.{Outcome, value, stop}
use Rattle.number.specs.Doubles.{Reason, not_finite, doubles}
use Rattle.sheet.specs.Bounds.{limit}
use Rattle.sheet.specs.Tree.{basic}
use Rattle.sheet.specs.Rows.{◌≔◌, Source, copy, fixed, sum, difference, product, negation, quotient, Row, row_of, row_of_assignment, sheet_row_of}
use Rattle.sheet.specs.Names.{SourcePresent, AssignmentPresent}
use Rattle.sets.specs.Transfers.{Activity}
use Rattle.machine.specs.Actions.{Attempt, through, halted, stuck, ◌>>=◌, from_outcome, evaluated, replaced}
use Rattle.tangent.specs.Tangent.{rate_count}
use Rattle.plain.specs.Plain.{Carried, StopAt, stopping_in, active_rate, rate_for, carried_over}
use Rattle.plain.specs.declared.Rated.{Rated}
use Rattle.plain.specs.Inner.Working.{after, over_of, second_over, rate_on, active_rate_of, value_on, operand_on, worked_on}
use Rattle.plain.specs.Inner.Engine.{value_in, rate_in, carried_in, stop_at}
use Rattle.plain.proofs.CellLaws.{field_there, value_replaced, rate_replaced}

-- ---- stops

-- a stop so many rows into a sheet row's rows, named by the table's row
abbrev pub stopping_from : {X : Type 0} → (row : ℕ) → Attempt ℕ X → Attempt (StopAt doubles) X
stopping_from row (through x) = through x
stopping_from row (halted n) = halted (stop_at (row + n))
stopping_from row stuck = stuck

-- an operation at a row of the table
at_row : (row n q : ℕ) → q ≡ row + n → (o : Outcome Float Reason) → stopping_in doubles q (from_outcome o) ≡ stopping_from row (after n o)
at_row row n q e (value x) = refl
at_row row n q e (stop not_finite) = rw e

at_first : (row : ℕ) (o : Outcome Float Reason) → stopping_in doubles row (from_outcome o) ≡ stopping_from row (after 0 o)
at_first row o = at_row row 0 row (omega arith) o

-- one after another
then_at : (row : ℕ) {m : Attempt (StopAt doubles) Float} (m' : Attempt ℕ Float) (next : Float → Attempt (StopAt doubles) Float) (then : Float → Attempt ℕ Float)
    → m ≡ stopping_from row m' → ((x : Float) → next x ≡ stopping_from row (then x)) → (m >>= next) ≡ stopping_from row (m' >>= then)
then_at row (through x) next then e h = rw e (h x)
then_at row (halted n) next then e h = rw e
then_at row stuck next then e h = rw e

both_at : (row : ℕ) (first second : Outcome Float Reason) (last : Float → Float → Outcome Float Reason)
    → (stopping_in doubles row (from_outcome first)
    >>= λ u. stopping_in doubles (suc row) (from_outcome second) >>= λ t. stopping_in doubles (suc (suc row)) (from_outcome (last u t)))
    ≡ stopping_from row (after 0 first >>= λ u. after 1 second >>= λ t. after 2 (last u t))
both_at row first second last =
    then_at row (after 0 first) _ _ (at_first row first)
    (λ u. then_at row (after 1 second) _ _ (at_row row 1 (suc row) (omega arith) second)
    (λ t. at_row row 2 (suc (suc row)) (omega arith) (last u t)))

-- a quotient's second term, so many rows into the row's
second_at : (row n q : ℕ) → q ≡ row + n → (scaled : Outcome Float Reason) (y : Float)
    → (stopping_in doubles q (from_outcome scaled)
    >>= λ t. stopping_in doubles (suc q) (from_outcome (over_of t y)) >>= λ once. stopping_in doubles (suc (suc q)) (from_outcome (over_of once y)))
    ≡ stopping_from row (after n scaled >>= λ t. after (n + 1) (over_of t y) >>= λ once. after (n + 2) (over_of once y))
second_at row n q e scaled y =
    then_at row (after n scaled) _ _ (at_row row n q e scaled)
    (λ t. then_at row (after (n + 1) (over_of t y)) _ _ (at_row row (n + 1) (suc q) (omega arith) (over_of t y))
    (λ once. at_row row (n + 2) (suc (suc q)) (omega arith) (over_of once y)))

-- ---- the rate and the value, from the pairs that a source reads

-- x and y are what it reads: its first word's pair, or its constant, and its second word's
abbrev Reads : (constants : List ℕ) → Carried doubles → Source → (x y : Rated) → Type 0
Reads constants now (copy a) x y = (get_elem? now.values a ≡ some x.value) × (get_elem? now.rates a ≡ some x.rate)
Reads constants now (fixed c) x y = (evaluated doubles constants (fixed c) now.values ≡ through x.value) × (doubles.zero ≡ x.rate)
Reads constants now (sum a b) x y =
    (get_elem? now.values a ≡ some x.value) × (get_elem? now.rates a ≡ some x.rate)
    × (get_elem? now.values b ≡ some y.value) × (get_elem? now.rates b ≡ some y.rate)
Reads constants now (difference a b) x y =
    (get_elem? now.values a ≡ some x.value) × (get_elem? now.rates a ≡ some x.rate)
    × (get_elem? now.values b ≡ some y.value) × (get_elem? now.rates b ≡ some y.rate)
Reads constants now (product a b) x y =
    (get_elem? now.values a ≡ some x.value) × (get_elem? now.rates a ≡ some x.rate)
    × (get_elem? now.values b ≡ some y.value) × (get_elem? now.rates b ≡ some y.rate)
Reads constants now (negation a) x y = (get_elem? now.values a ≡ some x.value) × (get_elem? now.rates a ≡ some x.rate)
Reads constants now (quotient a b) x y =
    (get_elem? now.values a ≡ some x.value) × (get_elem? now.rates a ≡ some x.rate)
    × (get_elem? now.values b ≡ some y.value) × (get_elem? now.rates b ≡ some y.rate)

-- the words of an assignment's row
abbrev row_for : ℕ → Source → Row
row_for d source = sheet_row_of (basic (d ≔ source))

module _ (constants : List ℕ) (now : Carried doubles) (d : ℕ) where
  active_rate_lem : (source : Source) (p q s : Bool) (row : ℕ) (x y : Rated) → Reads constants now source x y
      → active_rate doubles source (record { varied_a = p; varied_b = q; active = s }) row now
      ≡ stopping_from row (active_rate_of (row_for d source).kind p q x y)
  unfolding active_rate evaluated sheet_row_of row_of row_of_assignment
  active_rate_lem (copy a) p q s row x y reads = rw reads.1
  active_rate_lem (fixed c) p q s row x y reads = ap through reads.1
  active_rate_lem (sum a b) true true s row x y reads = rw (reads.1, reads.3) (at_first row (doubles.sum x.rate y.rate))
  active_rate_lem (sum a b) true false s row x y reads = rw reads.1
  active_rate_lem (sum a b) false q s row x y reads = rw reads.3
  active_rate_lem (difference a b) true true s row x y reads = rw (reads.1, reads.3) (at_first row (doubles.difference x.rate y.rate))
  active_rate_lem (difference a b) true false s row x y reads = rw reads.1
  active_rate_lem (difference a b) false q s row x y reads = rw reads.3 (at_first row (doubles.negation y.rate))
  active_rate_lem (product a b) true true s row x y reads =
      rw (reads.0, reads.1, reads.2, reads.3)
      (both_at row (doubles.product y.value x.rate) (doubles.product x.value y.rate) (λ u t. doubles.sum u t))
  active_rate_lem (product a b) true false s row x y reads = rw (reads.2, reads.1) (at_first row (doubles.product y.value x.rate))
  active_rate_lem (product a b) false q s row x y reads = rw (reads.0, reads.3) (at_first row (doubles.product x.value y.rate))
  active_rate_lem (negation a) p q s row x y reads = rw reads.1 (at_first row (doubles.negation x.rate))
  active_rate_lem (quotient a b) true true s row x y reads =
      rw (reads.0, reads.1, reads.2, reads.3)
      (then_at row (after 0 (over_of x.rate y.value)) _ _ (at_first row (over_of x.rate y.value))
      (λ u. then_at row (second_over 1 x y) _ _ (second_at row 1 (suc row) (omega arith) (doubles.product x.value y.rate) y.value)
      (λ t. at_row row 4 (suc (suc (suc (suc row)))) (omega arith) (doubles.difference u t))))
  active_rate_lem (quotient a b) true false s row x y reads = rw (reads.1, reads.2) (at_first row (over_of x.rate y.value))
  active_rate_lem (quotient a b) false q s row x y reads =
      rw (reads.0, reads.2, reads.3)
      (then_at row (second_over 0 x y) _ _ (second_at row 0 row (omega arith) (doubles.product x.value y.rate) y.value)
      (λ t. at_row row 3 (suc (suc (suc row))) (omega arith) (doubles.negation t)))

  rate_for_lem : (source : Source) (p q s : Bool) (row : ℕ) (x y : Rated) → Reads constants now source x y
      → rate_for doubles source (record { varied_a = p; varied_b = q; active = s }) row now
      ≡ stopping_from row (rate_on (row_for d source).kind (record { varied_a = p; varied_b = q; active = s }) x y)
  unfolding rate_for
  rate_for_lem source p q true row x y reads = active_rate_lem source p q true row x y reads
  rate_for_lem source p q false row x y reads = refl

  value_for : (source : Source) (x y : Rated) → Reads constants now source x y
      → evaluated doubles constants source now.values ≡ from_outcome (value_on (row_for d source).kind x.value y.value)
  unfolding evaluated sheet_row_of row_of row_of_assignment
  value_for (copy a) x y reads = rw reads.0
  value_for (fixed c) x y reads = reads.0
  value_for (sum a b) x y reads = rw (reads.0, reads.2)
  value_for (difference a b) x y reads = rw (reads.0, reads.2)
  value_for (product a b) x y reads = rw (reads.0, reads.2)
  value_for (negation a) x y reads = rw reads.0
  value_for (quotient a b) x y reads = rw (reads.0, reads.2)

-- ---- both, set in the cells

module _ (v : ℕ) (cells : List Rated) (room : v ≤ length cells) (d : ℕ) (there : d < v) where
  set_both : (row n : ℕ) (rate : Attempt ℕ Float) (x : Outcome Float Reason)
      → (stopping_from row rate >>= λ rate. stopping_in doubles (row + n) (from_outcome x)
      >>= λ x. replaced (map value_in (take v cells)) d x
      >>= λ values. replaced (map rate_in (take v cells)) d rate
      >>= λ rates. through (record { values = values; rates = rates }))
      ≡ (stopping_from row (rate >>= λ rate. after n x >>= λ x. through (record { value = x; rate = rate })) >>= λ pair. through (carried_in v (set cells d pair)))
  set_both row n stuck x = refl
  set_both row n (halted m) x = refl
  set_both row n (through rate) (stop not_finite) = refl
  set_both row n (through rate) (value x) =
      let pair : Rated = record { value = x; rate = rate } in
      rw (value_replaced v cells room d pair there, rate_replaced v cells room d pair there)

module _ (words constants : List ℕ) (first_constant : ℕ)
    (constants_are : (c : ℕ) → c < length constants → get_elem? constants c ≡ some (get_or words (first_constant + c) 0))
    (v : ℕ) (cells : List Rated) (few : v ≤ limit.variables) (room : v ≤ length cells) (z : Rated) where
  -- a word's pair, where it names a variable
  abbrev PairAt : (word : ℕ) → Rated → Type 0
  PairAt word x = word < limit.variables → x ≡ get_or cells word z

  two : (a b : ℕ) (x y : Rated) → a < v → b < v → x ≡ get_or cells a z → y ≡ get_or cells b z
      → (get_elem? (map value_in (take v cells)) a ≡ some x.value) × (get_elem? (map rate_in (take v cells)) a ≡ some x.rate)
      × (get_elem? (map value_in (take v cells)) b ≡ some y.value) × (get_elem? (map rate_in (take v cells)) b ≡ some y.rate)
  two a b x y h k e f =
      rw (e, f) (field_there v cells room value_in a z h, field_there v cells room rate_in a z h, field_there v cells room value_in b z k, field_there v cells room rate_in b z k)

  reads_these : (d : ℕ) (source : Source) (x y : Rated) → AssignmentPresent v (length constants) (d ≔ source)
      → PairAt (row_for d source).a x → PairAt (row_for d source).b y
      → Reads constants (carried_in v cells) source (operand_on words first_constant (row_for d source).kind (row_for d source).a x) y
  unfolding AssignmentPresent SourcePresent sheet_row_of row_of row_of_assignment evaluated
  reads_these d (copy a) x y (_, h) at_a at_b =
      let e = at_a (omega arith) in rw e (field_there v cells room value_in a z h, field_there v cells room rate_in a z h)
  reads_these d (fixed c) x y (_, h) at_a at_b = (rw (constants_are c h), refl)
  reads_these d (sum a b) x y (_, (h, k)) at_a at_b = two a b x y h k (at_a (omega arith)) (at_b (omega arith))
  reads_these d (difference a b) x y (_, (h, k)) at_a at_b = two a b x y h k (at_a (omega arith)) (at_b (omega arith))
  reads_these d (product a b) x y (_, (h, k)) at_a at_b = two a b x y h k (at_a (omega arith)) (at_b (omega arith))
  reads_these d (quotient a b) x y (_, (h, k)) at_a at_b = two a b x y h k (at_a (omega arith)) (at_b (omega arith))
  reads_these d (negation a) x y (_, h) at_a at_b =
      let e = at_a (omega arith) in rw e (field_there v cells room value_in a z h, field_there v cells room rate_in a z h)

  pub carried_over_lem : (d : ℕ) (source : Source) (known : Activity) (row : ℕ) (x y : Rated) → AssignmentPresent v (length constants) (d ≔ source)
      → PairAt (row_for d source).a x → PairAt (row_for d source).b y
      → carried_over doubles constants (d ≔ source) known row (carried_in v cells)
      ≡ (stopping_from row
      (worked_on (row_for d source).kind known (rate_count source known) (operand_on words first_constant (row_for d source).kind (row_for d source).a x) y)
      >>= λ pair. through (carried_in v (set cells d pair)))
  unfolding carried_over AssignmentPresent
  carried_over_lem d source known row x y present at_a at_b =
      let first = operand_on words first_constant (row_for d source).kind (row_for d source).a x in
      let reads = reads_these d source x y present at_a at_b in
      let now = carried_in v cells in
      rw (rate_for_lem constants now d source known.varied_a known.varied_b known.active row first y reads, value_for constants now d source first y reads)
      (set_both v cells room d present.0 row (rate_count source known) (rate_on (row_for d source).kind known first y)
      (value_on (row_for d source).kind first.value y.value))
