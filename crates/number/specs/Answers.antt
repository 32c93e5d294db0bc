-- What an answer of the code stands for in the record of an arithmetic, and that there are two arithmetics.
use Rattle.std.specs.Prelude.{Option, Some, None, Result, Ok, Err}
use Rattle.std.proofs.Math.Option as maybe
use Rattle.number.specs.Arithmetic as record_of
use Rattle.number.specs.Arithmetic.{Arithmetic, value, stop}
use Rattle.number.specs.Doubles.{Reason, not_finite, doubles}
use Rattle.number.specs.Residues.{residues}
use Rattle.number.specs.declared.NotFinite.{NotFinite}
use Rattle.number.specs.declared.Never.{Never}

-- by the reason that each stop of the code is
abbrev pub outcome_of : {X Stop Why : Type 0} → (Stop → Why) → Result X Stop → record_of.Outcome X Why
outcome_of why (Ok x) = value x
outcome_of why (Err s) = stop (why s)

-- the same where there may be no such operation
abbrev pub outcome_if_any : {X Stop Why : Type 0} → (Stop → Why) → Option (Result X Stop) → maybe.Option (record_of.Outcome X Why)
outcome_if_any why None = maybe.none
outcome_if_any why (Some answer) = maybe.some (outcome_of why answer)

abbrev pub why_not_finite : NotFinite → Reason
why_not_finite s = not_finite

-- no residue stops
abbrev pub why_never : Never → ⊥
why_never s = elim s [ ]

-- an arithmetic that the code has: what is shown of both is shown of it
pub data Known : Arithmetic → Type 1 where
  is_residues : Known residues
  is_doubles : Known doubles
