-- A run: what it is lent, what it is made of and what it leaves. Which table is run, what the run starts from and what its result is are said
-- apart from how a run goes, which is the row machine's steps in turn (machine/specs/Machine.antt).
use Rattle.std.specs.Prelude.{ℕ, ◌+◌, ◌*◌, Bool, List, [], ◌++◌, length, drop, replicate}
use Rattle.std.proofs.Math.Bool.{true}
use Rattle.number.specs.Arithmetic.{Arithmetic}
use Rattle.sheet.specs.Bounds.{limit}
use Rattle.sheet.specs.Rows.{is_independent}
use Rattle.sheet.specs.Sheets.{Sheet, variables_of}
use Rattle.table.specs.TableRows.{Table, lines_of}
use Rattle.table.specs.RowBounds.{most_forward, most_backward}
use Rattle.table.specs.declared.Reply as declared
use Rattle.machine.specs.Actions.{Memory, Setting, counting}
use Rattle.machine.specs.Machine.{State, Step, state_after}

-- How many steps suffice for every accepted sheet's tables. For each that W counts: forward an if block takes the "if", the save of its turn and its "else" or
-- "end if", one more than any row has rows there; backward no more than a row has rows.
abbrev pub most_steps_forward : ℕ
most_steps_forward = 1 + most_forward

abbrev pub most_steps_each : ℕ
most_steps_each = most_steps_forward + most_backward

-- these, row 17, and the step that ends the run
abbrev pub enough_steps : ℕ
enough_steps = most_steps_each * limit.longest_run + 2

module _ (A : Arithmetic) where
  pub record Lent : Type 0 where
    pub table : List ℕ
    pub values : List A.Carrier
    pub turns : List ℕ
    pub result : List A.Carrier

  abbrev pub lent_of : (table : List ℕ) → (values : List A.Carrier) → (turns : List ℕ) → (result : List A.Carrier) → Lent
  lent_of table values turns result = record { table = table; values = values; turns = turns; result = result }

  pub record Ran : Type 0 where
    pub number : ℕ
    pub place : ℕ
    pub lent : Lent

  -- what a call's answer and the buffers that it leaves say
  abbrev pub ran_of : declared.Reply → Lent → Ran
  ran_of answer lent = record { number = answer.number; place = answer.place; lent = lent }

  -- what a run is made of
  pub record Job : Type 0 where
    pub table : Table
    -- what stays as it is
    pub setting : Setting A
    pub start : State A
    -- read off what the run left
    pub result : Memory A → List A.Carrier

  -- the steps in turn, as many as suffice
  unfoldable pub run_of : Table → Setting A → State A → Step A
  unfolding lines_of state_after
  run_of table setting start = state_after A enough_steps setting (lines_of table) start

  -- of any table that was made for the sheet
  unfoldable pub setting_keeping : (keeps_counts : Bool) → Sheet → (seeds : List A.Carrier) → (value_room turn_room : ℕ) → Setting A
  setting_keeping keeps_counts sheet seeds value_room turn_room =
      record {
        variables = variables_of sheet;
        roles = sheet.roles;
        constants = sheet.constants;
        seeds = seeds;
        value_room = value_room;
        turn_room = turn_room;
        keeps_counts = keeps_counts;
      }

  -- ---- the run of an adjoint table

  unfoldable pub setting_of : Sheet → (seeds : List A.Carrier) → (value_room turn_room : ℕ) → Setting A
  unfolding setting_keeping
  setting_of = setting_keeping true

  -- "Until then adjoints, t and u are 0."
  unfoldable pub start_of : Sheet → (starts : List A.Carrier) → State A
  start_of sheet starts =
      record {
        at = record { index = 0 };
        repeats = [];
        memory = record { store = starts ++ replicate (variables_of sheet + 2) A.zero; values = []; turns = []; copied = [] };
      }

  -- "the values copied at row 17, then each independent's final adjoint and 0 for every other variable"
  abbrev pub independent_adjoints : (roles : List ℕ) → (adjoints : List A.Carrier) → List A.Carrier
  independent_adjoints roles adjoints = counting A is_independent roles adjoints

  abbrev pub result_from : (roles : List ℕ) → (copied store : List A.Carrier) → List A.Carrier
  result_from roles copied store = copied ++ independent_adjoints roles (drop (length roles) store)

  unfoldable pub result_of : Sheet → Memory A → List A.Carrier
  unfolding counting
  result_of sheet memory = result_from sheet.roles memory.copied memory.store

  -- of a table that was made for the sheet, on stacks of so many places
  abbrev pub job_of : Table → Sheet → (starts seeds : List A.Carrier) → (value_room turn_room : ℕ) → Job
  job_of table sheet starts seeds value_room turn_room =
      record {
        table = table;
        setting = setting_of sheet seeds value_room turn_room;
        start = start_of sheet starts;
        result = result_of sheet;
      }
