-- What an answer stands for settles the answer, in any arithmetic where each reason is one stop's; so it is in both.
use Rattle.std.specs.Prelude.{Option, Some, None, Result, Ok, Err}
use mathlib.Core.Path.{◌≡◌, refl, ap}
use lib.Ieee.{Float}
use Prim.Native.Nat.{ℕ}
use Rattle.number.specs.Answers.{outcome_of, outcome_if_any, why_not_finite, why_never}
use Rattle.number.specs.declared.NotFinite.{NotFinite}
use Rattle.number.specs.declared.Never.{Never}

pub one_answer : {X Stop Why : Type 0} (why : Stop → Why) → ((s t : Stop) → why s ≡ why t → s ≡ t)
    → (r s : Result X Stop) → outcome_of why r ≡ outcome_of why s → r ≡ s
one_answer why only (Ok x) (Ok y) same = cc
one_answer why only (Ok x) (Err s) same = cc
one_answer why only (Err s) (Ok y) same = cc
one_answer why only (Err s) (Err t) same = ap Err (only s t cc)

pub one_answer_if_any : {X Stop Why : Type 0} (why : Stop → Why) → ((s t : Stop) → why s ≡ why t → s ≡ t)
    → (r s : Option (Result X Stop)) → outcome_if_any why r ≡ outcome_if_any why s → r ≡ s
one_answer_if_any why only None None same = refl
one_answer_if_any why only None (Some s) same = cc
one_answer_if_any why only (Some r) None same = cc
one_answer_if_any why only (Some r) (Some s) same = ap Some (one_answer why only r s cc)

pub one_stop : (s t : NotFinite) → why_not_finite s ≡ why_not_finite t → s ≡ t
one_stop s t same = refl

pub quotients_coincide : (r s : Option (Result Float NotFinite)) → outcome_if_any why_not_finite r ≡ outcome_if_any why_not_finite s → r ≡ s
quotients_coincide = one_answer_if_any why_not_finite one_stop

one_never : (s t : Never) → why_never s ≡ why_never t → s ≡ t
one_never s t same = elim s [ ]

pub residues_coincide : (r s : Result ℕ Never) → outcome_of why_never r ≡ outcome_of why_never s → r ≡ s
residues_coincide = one_answer why_never one_never

pub residue_quotients_coincide : (r s : Option (Result ℕ Never)) → outcome_if_any why_never r ≡ outcome_if_any why_never s → r ≡ s
residue_quotients_coincide = one_answer_if_any why_never one_never
