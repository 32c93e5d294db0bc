-- From what the engine leaves to what the call answers and leaves; before it, refusals 1 to 7, 10 and 11.
use Prim.Native.Nat.{ℕ, ◌+◌, ◌-◌, ◌≤◌}
use Rattle.std.specs.Prelude.{Err, Ok, Result}
use mathlib.Core.Path.{◌≡◌, sym, ap, subst, ◌∙◌}
use mathlib.Core.List.{List, ◌++◌}
use native.Mathlib.Omega.{arith}
use lib.ListN.{length, take, drop}
use lib.Dec.{eqb}
use lib.Ieee.{Float}
use borrow.Author.Tests.{eqb-true}
use Rattle.number.specs.Doubles.{doubles}
use Rattle.sheet.specs.Bounds.{limit}
use Rattle.sheet.specs.Judging.{refused, given, ◌>>=◌, unless}
use Rattle.sheet.specs.Refusals.{Refusal, wrong_starts, wrong_seeds, wrong_result}
use Rattle.sheet.specs.Sheets.{Sheet, variables_of}
use Rattle.sheet.specs.Reading.{read, read_in}
use Rattle.sheet.specs.Answers.{shape_of, shape_read}
use Rattle.sheet.specs.declared.Shape.{Shape}
use Rattle.sheet.proofs.Judgements.{bind_assoc}
use Rattle.sheet.proofs.ReadingParts.{bound, passed, same_given}
use Rattle.sets.specs.Rounds.{sets_of}
use Rattle.sets.specs.Calls.{Lent, MarksSaid}
use Rattle.table.specs.declared.Reply.{Reply}
use Rattle.table.proofs.SheetLaid.{accepted_lies}
use Rattle.table.proofs.NotedTree.{sheet_noted}
use Rattle.run.specs.Calls.{all_admitted}
use Rattle.run.specs.Inner.CallSteps.{lengths_fit, Answers}
use Rattle.tangent.specs.TangentRuns.{starting_rates}
use Rattle.tangent.specs.Inner.TangentPlans.{table_rows_before}
use Rattle.plain.specs.Plain.{plain_by, plain_result}
use Rattle.plain.specs.Carries.{carry_of}
use Rattle.plain.specs.Calls.{read_to_carry, carried_to, carried_on, plain}
use Rattle.plain.specs.declared.Rated.{Rated}
use Rattle.plain.specs.declared.engine.StoppedAt.{StoppedAt}
use Rattle.plain.specs.Inner.Engine.{carried_in, Found, end_said, RunsTo, CarryRoom, result_of}
use Rattle.plain.proofs.ReadyLaws.{found_sections, found_lies}

-- ---- the engine on an accepted sheet

module _ {words : List ℕ} {shape : Shape} {marks goes : List ℕ} (found : Found words shape marks goes) where
  abbrev roles_part : List ℕ
  roles_part = take (1 + shape.variables - 1) (drop 1 words)

  abbrev its : Sheet
  its = found.sheet

  roles_are_lem : roles_part ≡ its.roles
  roles_are_lem = let part : 1 + shape.variables - 1 ≡ shape.variables = omega arith in rw part (found_sections found).roles_are

  pub roles_long : length roles_part ≡ shape.variables
  roles_long = ap length roles_are_lem ∙ sym (found_lies found).variables

  pub roles_within : 1 + shape.variables ≤ length words
  roles_within = omega (arith, (found_sections found).constants_within)

  pub roles_few : length roles_part ≤ limit.variables
  roles_few = omega (arith, roles_long, (found_lies found).few_variables)

  module _ (starts rates : List Float) (start : List Rated)
      (laid : carried_in (length roles_part) start ≡ record { values = starts; rates = starting_rates doubles roles_part rates })
      (ran : Result (List Rated) StoppedAt) (runs : RunsTo words shape marks start ran) where
    -- what the run of the sheet comes to
    run_is : plain_by doubles (sets_of its) its starts rates ≡ end_said (variables_of its) (table_rows_before words shape.first_row marks) ran
    unfolding plain_by
    run_is =
        let from : carried_in (variables_of its) start ≡ record { values = starts; rates = starting_rates doubles its.roles rates } =
        subst (λ roles. carried_in (length roles) start ≡ record { values = starts; rates = starting_rates doubles roles rates }) roles_are_lem laid in
        rw (sym from) (runs.ends its found.accepted)

    -- for whichever sheet the words are said to be
    this_sheet : (P : Sheet → Type 0) → P its → (sheet : Sheet) → read words ≡ given sheet → P sheet
    this_sheet P here sheet e = subst P (same_given (sym found.accepted ∙ e)) here

    module _ (result : List Float) where
      pub finished : {cells : List Rated} → ran ≡ Ok cells → (after : List Float) → after ≡ result_of roles_part (carried_in (length roles_part) cells)
          → (sheet : Sheet) → read words ≡ given sheet
          → carry_of doubles (record { number = 0; place = 0 }) after ≡ carried_to doubles sheet result (plain_by doubles (sets_of sheet) sheet starts rates)
      unfolding carried_to plain_result result_of
      finished told after written =
          this_sheet (λ sheet. carry_of doubles (record { number = 0; place = 0 }) after
          ≡ carried_to doubles sheet result (plain_by doubles (sets_of sheet) sheet starts rates))
          (rw (run_is, told, written, roles_are_lem))

      pub stopped : {at : StoppedAt} → ran ≡ Err at → (place : ℕ) → place ≡ table_rows_before words shape.first_row marks at.row.0
          → (sheet : Sheet) → read words ≡ given sheet
          → carry_of doubles (record { number = 12; place = place + at.after }) result ≡ carried_to doubles sheet result (plain_by doubles (sets_of sheet) sheet starts rates)
      unfolding carried_to
      stopped {at} told place counted =
          this_sheet (λ sheet. carry_of doubles (record { number = 12; place = place + at.after }) result
          ≡ carried_to doubles sheet result (plain_by doubles (sets_of sheet) sheet starts rates))
          (rw (run_is, told, counted))

-- ---- the call

module _ (words : List ℕ) (starts rates result : List Float) where
  pub unread : {why : Refusal} {answer : Reply} → read words ≡ refused why → Answers answer why → carry_of doubles answer result ≡ plain doubles words starts rates result
  unfolding plain read_to_carry read_in carried_on
  unread e answers = rw (e, answers.number, answers.place)

  module _ {shape : Shape} {marks goes : List ℕ} (found : Found words shape marks goes) where
    judged : read_to_carry doubles words starts rates result
        ≡ (lengths_fit shape.variables (length starts) (length rates) (length result) >>= λ _. all_admitted doubles (starts ++ rates) 0
        >>= λ _. given found.sheet)
    unfolding read_to_carry read_in shape_of
    judged =
        let variables = ap (λ (s : Shape). s.variables) found.shape_is in
        rw (found.accepted, variables) (simp bind_assoc)

    pub lengths_refuse : {why : Refusal} {answer : Reply}
        → lengths_fit shape.variables (length starts) (length rates) (length result) ≡ refused why → Answers answer why
        → carry_of doubles answer result ≡ plain doubles words starts rates result
    unfolding plain carried_on
    lengths_refuse e answers = rw (judged, e, answers.number, answers.place)

    module _ (fit : lengths_fit shape.variables (length starts) (length rates) (length result) ≡ given tt) where
      pub lengths_fit_lem : CarryRoom shape.variables starts rates result
      lengths_fit_lem =
          let v = shape.variables in
          let first = bound (unless (eqb (length starts) v) wrong_starts) _ tt fit in
          let second = bound (unless (eqb (length rates) v) wrong_seeds) _ tt first.2 in
          record {
            starts_fit = eqb-true _ _ (passed _ wrong_starts first.1);
            rates_fit = eqb-true _ _ (passed _ wrong_seeds second.1);
            result_fits = eqb-true _ _ (passed _ wrong_result second.2);
          }

      pub numbers_refuse : {why : Refusal} {answer : Reply} → all_admitted doubles (starts ++ rates) 0 ≡ refused why → Answers answer why
          → carry_of doubles answer result ≡ plain doubles words starts rates result
      unfolding plain carried_on
      numbers_refuse e answers = rw (judged, fit, e, answers.number, answers.place)

      pub carried : all_admitted doubles (starts ++ rates) 0 ≡ given tt → {answer : Reply} {after : List Float}
          → ((sheet : Sheet) → read words ≡ given sheet
          → carry_of doubles answer after ≡ carried_to doubles sheet result (plain_by doubles (sets_of sheet) sheet starts rates))
          → carry_of doubles answer after ≡ plain doubles words starts rates result
      unfolding plain carried_on
      carried admitted runs = rw (judged, fit, admitted) (runs found.sheet found.accepted)

-- what marking finds
pub found_by : {words : List ℕ} {shape : Shape} (before after : Lent) → shape_read words ≡ given shape → MarksSaid (read words) before after
    → Found words shape after.marks after.goes
found_by {words} {shape} before after shaped marked =
    let some = accepted_lies words shape shaped in
    record {
      sheet = some.sheet;
      accepted = some.lies.is;
      shape_is = some.lies.shape_is;
      came = after.came;
      noted = sheet_noted words before after marked some.sheet some.lies.is;
      goes_to = (subst (λ answer. MarksSaid answer before after) some.lies.is marked).goes_to;
    }
