-- "When the tool says no": the refusals by name, and for each 01's number and place.
use Rattle.std.specs.Prelude.{ℕ}

pub data Refusal : Type 0 where
  -- words end before a count, or before all of a section's items
  words_end : ℕ → Refusal
  -- words left after the rows
  words_left : ℕ → Refusal
  -- V, K or N beyond its range
  count_beyond : ℕ → Refusal
  -- role above 3
  role_above : ℕ → Refusal
  -- kind not 1 to 11, 18 or 19, absent variable or constant, count of turns not 1 to 1000, unused word not 0
  bad_row : ℕ → Refusal
  -- a block closed or split wrongly, never closed, or a ninth level opened
  bad_block : ℕ → Refusal
  -- W above 4,096
  too_long : Refusal
  -- table buffer below 1 + 4R words
  small_table : Refusal
  -- value stack below S, or turn stack below T
  small_value_stack : Refusal
  small_turn_stack : Refusal
  -- start values or seeds not V long, result not 2V
  wrong_starts : Refusal
  wrong_seeds : Refusal
  wrong_result : Refusal
  -- a start value or seed not finite (doubles)
  not_finite_given : ℕ → Refusal
  -- a result not finite (doubles)
  not_finite_result : ℕ → Refusal
  -- a row of kind 18 (audit; 02 §4)
  holds_quotient : ℕ → Refusal

unfoldable pub number_of : Refusal → ℕ
number_of (words_end p) = 1
number_of (words_left p) = 2
number_of (count_beyond p) = 3
number_of (role_above p) = 4
number_of (bad_row p) = 5
number_of (bad_block p) = 6
number_of too_long = 7
number_of small_table = 8
number_of small_value_stack = 9
number_of small_turn_stack = 9
number_of wrong_starts = 10
number_of wrong_seeds = 10
number_of wrong_result = 10
number_of (not_finite_given p) = 11
number_of (not_finite_result p) = 12
number_of (holds_quotient p) = 13

unfoldable pub place_of : Refusal → ℕ
place_of (words_end p) = p
place_of (words_left p) = p
place_of (count_beyond p) = p
place_of (role_above p) = p
place_of (bad_row p) = p
place_of (bad_block p) = p
place_of too_long = 0
place_of small_table = 0
place_of small_value_stack = 0
place_of small_turn_stack = 1
place_of wrong_starts = 0
place_of wrong_seeds = 1
place_of wrong_result = 2
place_of (not_finite_given p) = p
place_of (not_finite_result p) = p
place_of (holds_quotient p) = p
