-- Refusal 11 as one pass over the start values and the seeds.
use Prim.Native.Nat.{ℕ, suc, ◌+◌, ◌≤◌, ◌<◌}
use mathlib.Core.Path.{◌≡◌, refl, sym, ap, ◌∙◌}
use mathlib.Core.Bool.{Bool, true, false}
use mathlib.Core.List.{List, [], ◌∷◌, ◌++◌}
use native.Mathlib.Omega.{arith}
use lib.ListN.{length, get_or, drop, drop_of_length-le}
use lib.Seq.{drop-cons}
use Rattle.number.specs.Arithmetic.{Arithmetic}
use Rattle.number.specs.Residues.{residues}
use Rattle.sheet.specs.Judging.{refused, given, ◌>>=◌, unless}
use Rattle.sheet.specs.Refusals.{not_finite_given}
use Rattle.run.specs.Calls.{all_admitted}

module _ (A : Arithmetic) where
  module _ (numbers : List A.Carrier) (place : ℕ) where
    -- what is left after i numbers comes to what all of them do
    pub record Judging (i : ℕ) : Type 0 where
      pub within : i ≤ length numbers
      pub same : all_admitted A (drop i numbers) (place + i) ≡ all_admitted A numbers place

    pub judging_starts : Judging 0
    judging_starts =
        let here : place + 0 ≡ place = omega arith in
        record { within = omega arith; same = rw here }

    -- the number at hand, by its test
    judging_next : {i : ℕ} {admitted : Bool} (z : A.Carrier) → i < length numbers → A.admits (get_or numbers i z) ≡ admitted → Judging i
        → (unless admitted (not_finite_given (place + i)) >>= λ _. all_admitted A (drop (suc i) numbers) (suc (place + i)))
        ≡ all_admitted A numbers place
    unfolding all_admitted
    judging_next {i} z h is j =
        sym (ap (λ l. all_admitted A l (place + i)) (drop-cons numbers i z h)
        ∙ ap (λ b. unless b (not_finite_given (place + i)) >>= λ _. all_admitted A (drop (suc i) numbers) (suc (place + i))) is)
        ∙ j.same

    pub judging_goes_on : (i : ℕ) (z : A.Carrier) → i < length numbers → A.admits (get_or numbers i z) ≡ true → Judging i → Judging (i + 1)
    judging_goes_on i z h is j =
        let next : place + (i + 1) ≡ suc (place + i) = omega arith in
        let after : i + 1 ≡ suc i = omega arith in
        record { within = omega arith; same = rw (next, after) (judging_next z h is j) }

    pub judging_refuses : (i : ℕ) (z : A.Carrier) → i < length numbers → A.admits (get_or numbers i z) ≡ false → Judging i
        → refused (not_finite_given (place + i)) ≡ all_admitted A numbers place
    judging_refuses i z h is j = judging_next z h is j

    pub judging_ends : (i : ℕ) → length numbers ≤ i → Judging i → given tt ≡ all_admitted A numbers place
    unfolding all_admitted
    judging_ends i h j = sym (ap (λ l. all_admitted A l (place + i)) (drop_of_length-le numbers {i = i} h)) ∙ j.same

  -- the seeds after the start values
  pub admitted_append : (xs ys : List A.Carrier) (place : ℕ)
      → all_admitted A (xs ++ ys) place ≡ (all_admitted A xs place >>= λ _. all_admitted A ys (place + length xs))
  unfolding all_admitted
  admitted_append [] ys place =
      let here : place + 0 ≡ place = omega arith in
      rw here
  admitted_append (x ∷ xs) ys place =
      let there : place + suc (length xs) ≡ suc place + length xs = omega arith in
      rw there (by_test (A.admits x) (admitted_append xs ys (suc place)))
    where
      by_test : (b : Bool) → all_admitted A (xs ++ ys) (suc place) ≡ (all_admitted A xs (suc place) >>= λ _. all_admitted A ys (suc place + length xs))
          → (unless b (not_finite_given place) >>= λ _. all_admitted A (xs ++ ys) (suc place))
          ≡ ((unless b (not_finite_given place) >>= λ _. all_admitted A xs (suc place)) >>= λ _. all_admitted A ys (suc place + length xs))
      by_test true ih = ih
      by_test false ih = refl

-- no residue is refused
pub residues_admitted : (numbers : List ℕ) (place : ℕ) → all_admitted residues numbers place ≡ given tt
unfolding all_admitted
residues_admitted [] place = refl
residues_admitted (x ∷ xs) place = residues_admitted xs (suc place)
