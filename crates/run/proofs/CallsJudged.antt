-- Refusals 1 to 11 in a call's order, and the run behind them.
use Prim.Native.Nat.{ℕ}
use Rattle.run.specs.declared.Unfit.{Unfit}
use Rattle.sheet.specs.declared.No.{No}
use Rattle.std.specs.Prelude.{Err, Ok, Result, IsErrAnd}
use mathlib.Core.Path.{◌≡◌, sym, ap, ◌∙◌}
use mathlib.Core.Bool.{Bool, true}
use mathlib.Core.List.{List, ◌++◌}
use lib.ListN.{length}
use lib.Dec.{eqb}
use borrow.Author.Tests.{leb-true, eqb-true}
use Rattle.number.specs.Arithmetic.{Arithmetic, divides}
use Rattle.sheet.specs.Judging.{Answer, refused, given, ◌>>=◌, unless}
use Rattle.sheet.specs.Refusals.{Refusal, small_table, wrong_starts, wrong_seeds, wrong_result}
use Rattle.sheet.specs.Sheets.{Sheet}
use Rattle.sheet.specs.Reading.{read_in}
use Rattle.sheet.specs.Answers.{shape_of}
use Rattle.sheet.specs.declared.Shape.{Shape}
use Rattle.sheet.proofs.Judgements.{bind_assoc}
use Rattle.sheet.proofs.ReadingParts.{bound, passed}
use Rattle.table.specs.Sizes.{Needs}
use Rattle.table.specs.Calls.{read_for}
use Rattle.table.specs.Inner.Plans.{PlanMadeFor, PlanSaysFor, PlanSaysIn}
use Rattle.table.specs.declared.Reply as answered
use Rattle.table.specs.declared.Plan.{Plan}
use Rattle.run.specs.Runs.{Lent, lent_of, ran_of, Job}
use Rattle.run.specs.Calls.{all_admitted, read_to_run, ran_on, run_by}
use Rattle.run.specs.declared.Rooms.{Rooms}
use Rattle.run.specs.Inner.CallSteps.{table_fits, stacks_fit, rooms_fit, fit_said, read_with_room, Answers, NoRoom, HasRoom, JudgedAs}
use Rattle.run.specs.Inner.CallAnswers.{TableInPlace, RanTo}

-- what a judgement comes to, by the code's answer
pub said : {judgement : Answer (Unit {0})} {fit answer : Result (Unit {0}) Unfit} → fit_said fit ≡ judgement → fit ≡ answer → judgement ≡ fit_said answer
said {judgement} {fit} {answer} is told = sym is ∙ ap fit_said told

-- what `?` hands on
pub handed_on : {X : Type 0} {answer : Result X Unfit} {why : Unfit} → IsErrAnd answer (λ e. e ≡ why) → answer ≡ Err why
handed_on {answer = Ok x} never = absurd never
handed_on {answer = Err e} is = ap Err is

-- a judgement that hands an answer on, by what is known of each such answer
pub judged_no : {divides : Bool} {needs : Sheet → Needs} {words : List ℕ} {rooms : Rooms} (marks came goes : List ℕ) (judgement : Result Plan answered.Reply)
    {Is : answered.Reply → Type 0}
    → IsErrAnd judgement Is
    → ((answer : answered.Reply) → Is answer → NoRoom divides needs words rooms answer)
    → JudgedAs divides needs words rooms marks came goes judgement
judged_no marks came goes (Ok plan) never refuses = absurd never
judged_no marks came goes (Err answer) is refuses = refuses answer is

-- ---- 1 to 10, by a plan

-- a plan says of an arithmetic that divides what it says of the words
pub planned_in : (needs : Sheet → Needs) (words marks came goes : List ℕ) (plans : Result Plan No) → PlanSaysFor needs words marks came goes plans
    → PlanSaysIn true needs words marks came goes plans
unfolding read_in
planned_in needs words marks came goes (Err why) says = says
planned_in needs words marks came goes (Ok plan) made = (made, made.accepted)

module _ (divides : Bool) {needs : Sheet → Needs} {words : List ℕ} (rooms : Rooms) where
  pub unread : {why : Refusal} {answer : answered.Reply} → read_in divides words ≡ refused why → Answers answer why
      → NoRoom divides needs words rooms answer
  unfolding read_with_room read_for
  unread {why} e answers = record { why = why; is = rw e; answers = answers }

  module _ {plan : Plan} {marks came goes : List ℕ} (made : PlanMadeFor needs words plan marks came goes)
      (allowed : read_in divides words ≡ given made.sheet) where
    judged : read_with_room divides needs words rooms ≡ (rooms_fit plan rooms >>= λ _. given made.sheet)
    unfolding read_with_room read_for shape_of
    judged =
        let plans = made.planned in
        let variables = ap (λ (s : Shape). s.variables) plans.shape in
        rw (allowed, plans.rows, plans.values, plans.turns, variables) (simp bind_assoc)

    pub rooms_refuse : {why : Refusal} {answer : answered.Reply} → rooms_fit plan rooms ≡ refused why → Answers answer why
        → NoRoom divides needs words rooms answer
    rooms_refuse {why} e answers = record { why = why; is = judged ∙ rw e; answers = answers }

    pub rooms_fit_lem : rooms_fit plan rooms ≡ given tt → HasRoom divides needs words rooms marks came goes plan
    rooms_fit_lem fit =
        let v = plan.shape.variables in
        let table = bound (table_fits plan.rows rooms.table) _ tt fit in
        let stacks = bound (stacks_fit plan.values rooms.values plan.turns rooms.turns) _ tt table.2 in
        let starts = bound (unless (eqb rooms.starts v) wrong_starts) _ tt stacks.2 in
        let seeds = bound (unless (eqb rooms.seeds v) wrong_seeds) _ tt starts.2 in
        record {
          made = made;
          is = judged ∙ rw fit;
          table_fits = leb-true _ _ (passed _ small_table table.1);
          starts_fit = eqb-true _ _ (passed _ wrong_starts starts.1);
          seeds_fit = eqb-true _ _ (passed _ wrong_seeds seeds.1);
          result_fits = eqb-true _ _ (passed _ wrong_result seeds.2);
        }

-- ---- a call

abbrev pub rooms_of : (A : Arithmetic) → (starts seeds : List A.Carrier) → Lent A → Rooms
rooms_of A starts seeds lent =
    record {
      table = length lent.table;
      values = length lent.values;
      turns = length lent.turns;
      starts = length starts;
      seeds = length seeds;
      result = length lent.result;
    }

module _ (A : Arithmetic) (needs : Sheet → Needs) (words : List ℕ) (starts seeds : List A.Carrier) (lent : Lent A) where
  -- 11 is judged last
  numbers_last : read_to_run A needs words starts seeds lent
      ≡ (read_with_room (divides A) needs words (rooms_of A starts seeds lent) >>= λ sheet. all_admitted A (starts ++ seeds) 0 >>= λ _. given sheet)
  unfolding read_to_run read_with_room
  numbers_last = simp bind_assoc

  module _ (job : Sheet → Job A) where
    pub refused_run : {answer : answered.Reply} → NoRoom (divides A) needs words (rooms_of A starts seeds lent) answer → ran_of A answer lent ≡ run_by A needs job words starts seeds lent
    unfolding run_by ran_on
    refused_run refusal = rw (numbers_last, refusal.is, refusal.answers.number, refusal.answers.place)

    module _ {marks came goes : List ℕ} {plan : Plan} (room : HasRoom (divides A) needs words (rooms_of A starts seeds lent) marks came goes plan) where
      pub numbers_refuse : {why : Refusal} {answer : answered.Reply} → all_admitted A (starts ++ seeds) 0 ≡ refused why → Answers answer why
          → ran_of A answer lent ≡ run_by A needs job words starts seeds lent
      unfolding run_by ran_on
      numbers_refuse e answers = rw (numbers_last, room.is, e, answers.number, answers.place)

      pub accepted_run : all_admitted A (starts ++ seeds) 0 ≡ given tt
          → {table beyond : List ℕ} → TableInPlace (job room.made.sheet).table words plan table beyond room.made.sheet lent.table
          → {answer : answered.Reply} {values : List A.Carrier} {turns : List ℕ} {result : List A.Carrier}
          → RanTo A (job room.made.sheet) lent answer values turns result
          → ran_of A answer (lent_of A table values turns result) ≡ run_by A needs job words starts seeds lent
      unfolding run_by ran_on
      accepted_run admitted place ran = rw (place.written, numbers_last, room.is, admitted) ran
