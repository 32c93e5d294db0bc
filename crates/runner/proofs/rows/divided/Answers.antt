-- `runner::rows::divided` meets its contract.
use Rattle.std.specs.Prelude.{Option, Some, None, Result}
use mathlib.Core.Path.{◌≡◌, refl, ap, ◌∙◌}
use Rattle.std.proofs.Math.Option as maybe
use Rattle.number.specs.Arithmetic.{Outcome}
use Rattle.number.specs.Answers.{outcome_if_any}
use Rattle.machine.specs.Actions.{Attempt, ◌>>=◌, present, evaluated, from_outcome}
use Rattle.machine.specs.Inner.RowAnswers.{tried}
use Rattle.machine.proofs.PlaceLaws.{look_read}
use Rattle.runner.proofs.rows.divided.Goals as goal

-- what an outcome that is there comes to
abbrev divided_in : {X Why : Type 0} → maybe.Option (Outcome X Why) → Attempt Why X
divided_in outcome = present outcome >>= λ o. from_outcome o

tried_is : {X Stop Why : Type 0} (why : Stop → Why) (answer : Option (Result X Stop)) → tried why answer ≡ divided_in (outcome_if_any why answer)
tried_is why (Some answer) = refl
tried_is why None = refl

pub returns : goal.returns
unfolding evaluated
returns g c constants =
    let store = c.args.store.now in
    rw (look_read store c.args.a.0 _ c.requires.a_in c.index-store-a.is, look_read store c.args.b.0 _ c.requires.b_in c.index-store-b.is)
    (tried_is g.N.Number.why c.quotient.result ∙ ap divided_in c.quotient.ensures)
