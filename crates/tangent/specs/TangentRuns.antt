-- The run of a tangent table: what it starts from and what its result is (02 §1). How it goes is the row machine's steps in turn, as of any table.
use Rattle.std.specs.Prelude.{ℕ, List, [], ◌∷◌, ◌++◌, drop}
use Rattle.std.proofs.Math.Bool.{false}
use Rattle.std.proofs.Math.ListN.{take}
use Rattle.number.specs.Arithmetic.{Arithmetic}
use Rattle.sheet.specs.Rows.{is_independent, is_dependent}
use Rattle.sheet.specs.Sheets.{Sheet, variables_of}
use Rattle.sets.specs.Marks.{Sets}
use Rattle.table.specs.TableRows.{Table}
use Rattle.machine.specs.Actions.{Memory, Setting, counting}
use Rattle.machine.specs.Machine.{State}
use Rattle.run.specs.Runs.{Lent, Job, setting_keeping}
use Rattle.tangent.specs.Tangent.{tangent_by}

module _ (A : Arithmetic) where
  -- "No stacks": a run is lent a table buffer and its result
  abbrev pub without_stacks : (table : List ℕ) → (result : List A.Carrier) → Lent A
  without_stacks table result = record { table = table; values = []; turns = []; result = result }

  -- "Starting rates are read at independents only and are 0 elsewhere"; t and u are 0
  abbrev pub starting_rates : (roles : List ℕ) → (rates : List A.Carrier) → List A.Carrier
  starting_rates roles rates = counting A is_independent roles rates

  unfoldable pub tangent_start : Sheet → (starts rates : List A.Carrier) → State A
  unfolding counting
  tangent_start sheet starts rates =
      record {
        at = record { index = 0 };
        repeats = [];
        memory =
            record {
              store = starts ++ starting_rates sheet.roles rates ++ (A.zero ∷ A.zero ∷ []);
              values = [];
              turns = [];
              copied = [];
            };
      }

  -- without stacks; "with rates as seeds", which no row reads
  unfoldable pub tangent_setting : Sheet → (rates : List A.Carrier) → Setting A
  unfolding setting_keeping
  tangent_setting sheet rates = setting_keeping A false sheet rates 0 0

  -- "the result is the V values and then each dependent's rate, 0 at others"
  unfoldable pub tangent_result : Sheet → Memory A → List A.Carrier
  unfolding counting
  tangent_result sheet memory =
      let v = variables_of sheet in
      take v memory.store ++ counting A is_dependent sheet.roles (drop v memory.store)

  -- of a table that was made for the sheet
  abbrev pub tangent_job_of : Table → Sheet → (starts rates : List A.Carrier) → Job A
  tangent_job_of table sheet starts rates =
      record {
        table = table;
        setting = tangent_setting sheet rates;
        start = tangent_start sheet starts rates;
        result = tangent_result sheet;
      }

  -- of the sheet's own tangent table
  abbrev pub tangent_job_by : (starts rates : List A.Carrier) → Sets → Sheet → Job A
  tangent_job_by starts rates sets sheet = tangent_job_of (tangent_by sets sheet) sheet starts rates
