-- What an assignment does to each of the three sets, its activity and its adjoint use.
use Rattle.std.specs.Prelude.{ℕ, Bool, ◌&&◌, ◌||◌, cond}
use Rattle.std.proofs.Math.Option.{Option, none, some}
use Rattle.sheet.specs.Rows.{Assignment, ◌≔◌, Source, copy, fixed, sum, difference, product, negation, quotient}
use Rattle.sets.specs.VariableSets.{VariableSet, empty, has, ◌∪◌, single, single_if, without, has_some, single_some}

-- the variables that an assignment reads: a, and b where there is one; a constant is no variable
unfoldable pub first_read : Source → Option ℕ
first_read (copy a) = some a
first_read (fixed c) = none
first_read (sum a b) = some a
first_read (difference a b) = some a
first_read (product a b) = some a
first_read (negation a) = some a
first_read (quotient a b) = some a

unfoldable pub second_read : Source → Option ℕ
second_read (copy a) = none
second_read (fixed c) = none
second_read (sum a b) = some b
second_read (difference a b) = some b
second_read (product a b) = some b
second_read (negation a) = none
second_read (quotient a b) = some b

unfoldable pub any_read : VariableSet → Source → Bool
unfolding has first_read second_read
any_read s source = has_some s (first_read source) || has_some s (second_read source)

unfoldable pub reads : Source → VariableSet
unfolding first_read second_read
reads source = single_some (first_read source) ∪ single_some (second_read source)

-- "After an assignment d is varied if any read variable was, else it isn't."
unfoldable pub varied_after : Assignment → VariableSet → VariableSet
unfolding any_read without
varied_after (d ≔ source) before = cond (any_read before source) (before ∪ single d) (without d before)

-- "Before an assignment: if d was useful, take d out and put the reads in; else unchanged."
unfoldable pub useful_before : Assignment → VariableSet → VariableSet
unfolding has reads without
useful_before (d ≔ source) after = cond (has after d) (without d after ∪ reads source) after

-- what is known of an assignment: a, b varied before it, and whether it is active
pub record Activity : Type 0 where
  pub varied_a : Bool
  pub varied_b : Bool
  pub active : Bool

-- "Active row: d useful after it and some read varied before it."
unfoldable pub activity_of : Assignment → (varied useful : VariableSet) → Activity
unfolding has first_read second_read any_read
activity_of (d ≔ source) varied useful =
    record {
      varied_a = has_some varied (first_read source);
      varied_b = has_some varied (second_read source);
      active = has useful d && any_read varied source;
    }

-- A row's adjoint use: of an active product "b is needed only if a is varied before the row, and a only if b is" (02 §3); "An active quotient needs b
-- always, a if b is varied; an inactive one nothing" (02 §4); "every other row needs nothing". Nothing else looks inside.
unfoldable pub adjoint_use : Source → Activity → VariableSet
adjoint_use (copy a) known = empty
adjoint_use (fixed c) known = empty
adjoint_use (sum a b) known = empty
adjoint_use (difference a b) known = empty
adjoint_use (product a b) known = cond known.active (single_if known.varied_b a ∪ single_if known.varied_a b) empty
adjoint_use (negation a) known = empty
adjoint_use (quotient a b) known = cond known.active (single_if known.varied_b a ∪ single b) empty

-- "A row is recorded if d is required before it or is in its own adjoint use."
unfoldable pub recorded_by : Assignment → Activity → (required : VariableSet) → Bool
unfolding has adjoint_use
recorded_by (d ≔ source) known required = has required d || has (adjoint_use source known) d

-- "After: (required before ∪ adjoint use) without d."
unfoldable pub required_after : Assignment → Activity → VariableSet → VariableSet
unfolding adjoint_use without
required_after (d ≔ source) known before = without d (before ∪ adjoint_use source known)
