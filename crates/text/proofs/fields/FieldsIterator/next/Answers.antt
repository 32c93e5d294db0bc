-- `text::fields::FieldsIterator::next` gives the first field of those that are left.
use Rattle.std.proofs.Common.{length, rules, arith, ap, ◌∙◌, add-one}
use Rattle.std.proofs.lemmas.List.{take_rest}
use Rattle.text.specs.Lines.{fields_of_rest}
use Rattle.text.proofs.FieldsAt.{fields_at, fields_whole}
use Rattle.text.proofs.fields.FieldsIterator.next.Goals as goal

-- the field ends at the first space
pub returns-in-Some-clause-steps : goal.returns-in-Some-clause-steps
returns-in-Some-clause-steps c =
    let split = fields_at c.in_ok-rest.rest.now c.in-Some.end (search rules) (search rules) (search rules) in
    ap fields_of_rest c.in_ok-rest.was ∙ split ∙ simp (take_rest, add-one)

pub returns-in-Some-clause-goes : goal.returns-in-Some-clause-goes
returns-in-Some-clause-goes c =
    record { on = λ _. (tt, tt, omega (arith, ap length (returns-in-Some-clause-steps c))); keeps = tt; rests = λ _. tt }

pub returns-in-None-clause-steps : goal.returns-in-None-clause-steps
returns-in-None-clause-steps c = ap fields_of_rest c.in_ok-rest.was ∙ fields_whole c.in_ok-rest.rest.now (search rules)
