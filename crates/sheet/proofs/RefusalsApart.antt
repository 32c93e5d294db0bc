-- A number and a place name one refusal only, and never "done".
use Prim.Native.Nat.{ℕ, zero, suc, pred, ◌≤◌}
use mathlib.Core.Path.{◌≡◌, refl, ap, ap₂}
use mathlib.Core.List.{List, [], ◌∷◌}
use mathlib.Core.Option.{Option, none, some}
use lib.ListN.{get_elem?}
use native.Mathlib.Omega.{arith}
use Rattle.sheet.specs.Judging.{Answer, refused, given, number_in, place_in}
use Rattle.sheet.specs.Refusals.{Refusal, number_of, place_of}
use Rattle.sheet.specs.Refusals.{words_end, words_left, count_beyond, role_above, bad_row, bad_block, too_long, small_table}
use Rattle.sheet.specs.Refusals.{small_value_stack, small_turn_stack, wrong_starts, wrong_seeds, wrong_result, not_finite_given, not_finite_result, holds_quotient}

-- the refusal of a place, for each number from 1 on
abbrev stack_no : ℕ → Refusal
stack_no zero = small_value_stack
stack_no (suc n) = small_turn_stack

abbrev length_no : ℕ → Refusal
length_no zero = wrong_starts
length_no (suc zero) = wrong_seeds
length_no (suc (suc n)) = wrong_result

abbrev in_order : List (ℕ → Refusal)
in_order =
    words_end ∷ words_left ∷ count_beyond ∷ role_above ∷ bad_row ∷ bad_block ∷ (λ p. too_long) ∷ (λ p. small_table) ∷ stack_no ∷ length_no
    ∷ not_finite_given ∷ not_finite_result ∷ holds_quotient ∷ []

abbrev at : ℕ → Option (ℕ → Refusal) → Option Refusal
at place none = none
at place (some of) = some (of place)

abbrev named : (number place : ℕ) → Option Refusal
named number place = at place (get_elem? in_order (pred number))

named_back : (r : Refusal) → named (number_of r) (place_of r) ≡ some r
unfolding number_of place_of
named_back (words_end p) = refl
named_back (words_left p) = refl
named_back (count_beyond p) = refl
named_back (role_above p) = refl
named_back (bad_row p) = refl
named_back (bad_block p) = refl
named_back too_long = refl
named_back small_table = refl
named_back small_value_stack = refl
named_back small_turn_stack = refl
named_back wrong_starts = refl
named_back wrong_seeds = refl
named_back wrong_result = refl
named_back (not_finite_given p) = refl
named_back (not_finite_result p) = refl
named_back (holds_quotient p) = refl

pub same_refusal : (r r' : Refusal) → number_of r ≡ number_of r' → place_of r ≡ place_of r' → r ≡ r'
same_refusal r r' number place = cc (named_back r, named_back r', ap₂ named number place)

pub from_1_to_13 : (r : Refusal) → (1 ≤ number_of r) × (number_of r ≤ 13)
unfolding number_of
from_1_to_13 (words_end p) = omega arith
from_1_to_13 (words_left p) = omega arith
from_1_to_13 (count_beyond p) = omega arith
from_1_to_13 (role_above p) = omega arith
from_1_to_13 (bad_row p) = omega arith
from_1_to_13 (bad_block p) = omega arith
from_1_to_13 too_long = omega arith
from_1_to_13 small_table = omega arith
from_1_to_13 small_value_stack = omega arith
from_1_to_13 small_turn_stack = omega arith
from_1_to_13 wrong_starts = omega arith
from_1_to_13 wrong_seeds = omega arith
from_1_to_13 wrong_result = omega arith
from_1_to_13 (not_finite_given p) = omega arith
from_1_to_13 (not_finite_result p) = omega arith
from_1_to_13 (holds_quotient p) = omega arith

-- ---- of an answer

module _ {ℓ} {A : Type ℓ} where
  pub refused_named : (answer : Answer A) (r : Refusal) → number_in answer ≡ number_of r → place_in answer ≡ place_of r → answer ≡ refused r
  unfolding number_in place_in
  refused_named (refused r') r number place = ap refused (same_refusal r' r number place)
  refused_named (given a) r number place = absurd (omega (arith, from_1_to_13 r))

  pub done_given : (answer : Answer A) → number_in answer ≡ 0 → (a : A) × (answer ≡ given a)
  unfolding number_in
  done_given (refused r) e = absurd (omega (arith, from_1_to_13 r))
  done_given (given a) e = (a, refl)
