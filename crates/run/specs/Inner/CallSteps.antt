-- The steps of a call: refusals 1 to 11 one by one, an answer's number and place, and what is laid into and read out of whole buffers.
use Rattle.std.specs.Prelude.{ℕ, ◌*◌, ◌≤◌, ◌≡◌, Bool, List, ◌++◌, length, leb, eqb}
use Rattle.table.specs.declared.Reply.{Reply}
use Rattle.std.specs.Prelude.{Err, Ok, Result}
use Rattle.number.specs.Arithmetic.{Arithmetic}
use Rattle.number.specs.Doubles.{doubles}
use Rattle.sheet.specs.Judging.{Answer, refused, given, ◌>>=◌, unless}
use Rattle.sheet.specs.Refusals.{Refusal, number_of, place_of}
use Rattle.sheet.specs.Refusals.{small_table, small_value_stack, small_turn_stack, wrong_starts, wrong_seeds, wrong_result, not_finite_given, not_finite_result}
use Rattle.sheet.specs.Rows.{is_independent, is_dependent}
use Rattle.sheet.specs.Sheets.{Sheet, variables_of}
use Rattle.table.specs.Sizes.{Needs, table_room}
use Rattle.table.specs.Calls.{read_for}
use Rattle.table.specs.Inner.Plans.{PlanMadeFor}
use Rattle.table.specs.declared.Plan.{Plan}
use Rattle.machine.specs.Actions.{counting}
use Rattle.machine.specs.declared.Ended.{Ended}
use Rattle.machine.specs.declared.Ended.TheVariants as ended
use Rattle.run.specs.Calls.{stuck_number}
use Rattle.run.specs.declared.Rooms.{Rooms}
use Rattle.run.specs.declared.Unfit.{Unfit}
use Rattle.run.specs.declared.Unfit.TheVariants as unfit
use Rattle.run.specs.declared.Counted.{Counted}
use Rattle.run.specs.declared.Counted.TheVariants as counted

-- ---- refusals

-- 8
abbrev pub table_fits : (rows room : ℕ) → Answer (Unit {0})
table_fits rows room = unless (leb (table_room rows) room) small_table

-- 9
abbrev pub stacks_fit : (values value_room turns turn_room : ℕ) → Answer (Unit {0})
stacks_fit values value_room turns turn_room = do
  _ ← unless (leb values value_room) small_value_stack
  unless (leb turns turn_room) small_turn_stack

-- 10
abbrev pub lengths_fit : (variables starts seeds result : ℕ) → Answer (Unit {0})
lengths_fit variables starts seeds result = do
  _ ← unless (eqb starts variables) wrong_starts
  _ ← unless (eqb seeds variables) wrong_seeds
  unless (eqb result (2 * variables)) wrong_result

-- 8 to 10, of a plan's R, S, T and V
abbrev pub rooms_fit : Plan → Rooms → Answer (Unit {0})
rooms_fit plan rooms = do
  _ ← table_fits plan.rows rooms.table
  _ ← stacks_fit plan.values rooms.values plan.turns rooms.turns
  lengths_fit plan.shape.variables rooms.starts rooms.seeds rooms.result

-- 1 to 10, and 13 between 7 and 8, of the words themselves, where a sheet needs so much
unfoldable pub read_with_room : (divides : Bool) → (needs : Sheet → Needs) → (words : List ℕ) → Rooms → Answer Sheet
unfolding read_for
read_with_room divides needs words rooms = do
  sheet ← read_for divides needs words rooms.table
  _ ← stacks_fit (needs sheet).values rooms.values (needs sheet).turns rooms.turns
  _ ← lengths_fit (variables_of sheet) rooms.starts rooms.seeds rooms.result
  given sheet

-- what the code's answers say
abbrev pub unfit_refusal : Unfit → Refusal
unfit_refusal unfit.SmallTable = small_table
unfit_refusal unfit.SmallValueStack = small_value_stack
unfit_refusal unfit.SmallTurnStack = small_turn_stack
unfit_refusal unfit.WrongStarts = wrong_starts
unfit_refusal unfit.WrongSeeds = wrong_seeds
unfit_refusal unfit.WrongResult = wrong_result
unfit_refusal (unfit.NotFinite place) = not_finite_given place

abbrev pub fit_said : Result (Unit {0}) Unfit → Answer (Unit {0})
fit_said (Err why) = refused (unfit_refusal why)
fit_said (Ok _) = given tt

-- a refusal's number and place
pub record Answers (answer : Reply) (why : Refusal) : Type 0 where
  pub number : answer.number ≡ number_of why
  pub place : answer.place ≡ place_of why

-- refused by one of these, and answered so
pub record NoRoom (divides : Bool) (needs : Sheet → Needs) (words : List ℕ) (rooms : Rooms) (answer : Reply) : Type 0 where
  pub why : Refusal
  pub is : read_with_room divides needs words rooms ≡ refused why
  pub answers : Answers answer why

-- refused by none of them, and planned: the lengths are those that the plan asks
pub record HasRoom (divides : Bool) (needs : Sheet → Needs) (words : List ℕ) (rooms : Rooms) (marks came goes : List ℕ) (plan : Plan) : Type 0 where
  pub made : PlanMadeFor needs words plan marks came goes
  pub is : read_with_room divides needs words rooms ≡ given made.sheet
  pub table_fits : table_room plan.rows ≤ rooms.table
  pub starts_fit : rooms.starts ≡ plan.shape.variables
  pub seeds_fit : rooms.seeds ≡ plan.shape.variables
  pub result_fits : rooms.result ≡ 2 * plan.shape.variables

abbrev pub JudgedAs : (divides : Bool) (needs : Sheet → Needs) (words : List ℕ) → Rooms → (marks came goes : List ℕ) → Result Plan Reply → Type 0
JudgedAs divides needs words rooms marks came goes (Err answer) = NoRoom divides needs words rooms answer
JudgedAs divides needs words rooms marks came goes (Ok plan) = HasRoom divides needs words rooms marks came goes plan

-- ---- a run's end

-- 0; 12 at its row; the number of no run, which is one for both arithmetics
unfoldable pub answer_at : Ended → Reply
unfolding number_of place_of
answer_at ended.Finished = record { number = 0; place = 0 }
answer_at (ended.Stopped row) =
    let stopped = not_finite_result row.0 in
    record { number = number_of stopped; place = place_of stopped }
answer_at ended.Stuck = record { number = stuck_number doubles; place = 0 }
answer_at ended.Unfinished = record { number = stuck_number doubles; place = 0 }

-- what a run leaves of the result: it is written where the run has finished
unfoldable pub result_at : {X : Type 0} → Ended → (finished before : List X) → List X
result_at ended.Finished finished before = finished
result_at (ended.Stopped row) finished before = before
result_at ended.Stuck finished before = before
result_at ended.Unfinished finished before = before

-- ---- buffers

abbrev pub counts_of : Counted → ℕ → Bool
counts_of counted.Independents = is_independent
counts_of counted.Dependents = is_dependent

-- a number for each variable, then a second one for each, 0 where its role doesn't count
unfoldable pub halves_of : (A : Arithmetic) → (first : List A.Carrier) → Counted → (roles : List ℕ) → (second : List A.Carrier) → List A.Carrier
unfolding counting
halves_of A first role roles second = first ++ counting A (counts_of role) roles second

module _ {X : Type 0} where
  pub record HalvesFit (roles : List ℕ) (first second into : List X) : Type 0 where
    pub first_fits : length first ≡ length roles
    pub second_fits : length roles ≤ length second
    pub room : 2 * length roles ≤ length into

  pub record ResultFits (roles : List ℕ) (first second result : List X) : Type 0 where
    pub first_fits : length first ≡ length roles
    pub second_fits : length roles ≤ length second
    pub result_fits : length result ≡ 2 * length roles
