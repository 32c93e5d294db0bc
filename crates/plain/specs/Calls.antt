-- What the plain engine's call answers and leaves of the result, as it is computed from the words.
use Rattle.std.specs.Prelude.{ℕ, ◌*◌, List, ◌++◌, length, eqb}
use Rattle.number.specs.Arithmetic.{Arithmetic, divides}
use Rattle.sheet.specs.Judging.{Answer, refused, given, ◌>>=◌, unless}
use Rattle.sheet.specs.Refusals.{number_of, place_of, wrong_starts, wrong_seeds, wrong_result, not_finite_result}
use Rattle.sheet.specs.Sheets.{Sheet, variables_of}
use Rattle.sheet.specs.Reading.{read_in}
use Rattle.sets.specs.Rounds.{sets_of, marked}
use Rattle.machine.specs.Actions.{Attempt, through, halted, stuck}
use Rattle.run.specs.Calls.{all_admitted, stuck_number}
use Rattle.plain.specs.Carries.{Carry}
use Rattle.plain.specs.Plain.{Carried, StopAt, plain_by, plain_result}

module _ (A : Arithmetic) where
  -- refusals 1 to 7, 10 and 11: "without 8 in the plain engine", which has no stacks either; 13 would be given where the arithmetic doesn't divide
  unfoldable pub read_to_carry : (words : List ℕ) → (starts rates result : List A.Carrier) → Answer Sheet
  unfolding read_in all_admitted
  read_to_carry words starts rates result = do
    sheet ← read_in (divides A) words
    let v = variables_of sheet
    _ ← unless (eqb (length starts) v) wrong_starts
    _ ← unless (eqb (length rates) v) wrong_seeds
    _ ← unless (eqb (length result) (2 * v)) wrong_result
    _ ← all_admitted A (starts ++ rates) 0
    given sheet

  unfoldable pub carried_to : Sheet → (result : List A.Carrier) → Attempt (StopAt A) (Carried A) → Carry A
  unfolding plain_result number_of place_of
  carried_to sheet result (through now) = record { number = 0; place = 0; result = plain_result A sheet now }
  carried_to sheet result (halted stop) =
      let stopped = not_finite_result stop.row.index in
      record { number = number_of stopped; place = place_of stopped; result = result }
  carried_to sheet result stuck = record { number = stuck_number A; place = 0; result = result }

  unfoldable pub carried_on : Answer Sheet → (starts rates result : List A.Carrier) → Carry A
  unfolding carried_to plain_by marked number_of place_of
  carried_on (refused r) starts rates result = record { number = number_of r; place = place_of r; result = result }
  carried_on (given sheet) starts rates result = carried_to sheet result (plain_by A (sets_of sheet) sheet starts rates)

  unfoldable pub plain : (words : List ℕ) → (starts rates result : List A.Carrier) → Carry A
  unfolding read_to_carry carried_on
  plain words starts rates result = carried_on (read_to_carry words starts rates result) starts rates result
