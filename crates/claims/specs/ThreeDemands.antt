-- The three demands, whole: over any arithmetic, of every accepted sheet, and of whatever the calls' contracts let them answer and leave behind; and 02's
-- balance of the two directions, likewise.
use Rattle.std.specs.Prelude.{ℕ, ◌≤◌, ◌<◌, ◌≡◌, true, List, length, get_or, drop}
use Rattle.number.specs.Arithmetic.{Arithmetic, divides}
use Rattle.number.specs.Residues.{modulus, residues}
use Rattle.sheet.specs.Tree.{RowNumber}
use Rattle.sheet.specs.Sheets.{Sheet, variables_of}
use Rattle.sets.specs.Marks.{Sets, LeastSets}
use Rattle.table.specs.TableRows.{table_words}
use Rattle.table.specs.Adjoint.{table_by}
use Rattle.table.specs.Sizes.{needs_by, checked_said, written_of}
use Rattle.table.specs.Calls.{check, write}
use Rattle.table.specs.declared.Checked as declared
use Rattle.table.specs.declared.Reply.{Reply}
use Rattle.machine.specs.Actions.{Memory, Stop}
use Rattle.machine.specs.Machine.{Step, ended, stops}
use Rattle.run.specs.Runs.{Lent, ran_of, setting_of, start_of, run_of}
use Rattle.run.specs.Calls.{run}
use Rattle.tangent.specs.Tangent.{tangent_needs_by}
use Rattle.tangent.specs.Calls.{write_tangent, run_tangent}
use Rattle.plain.specs.Carries.{carry_of}
use Rattle.plain.specs.Calls.{plain}
use Rattle.claims.specs.ExactlyWhen.{Read, Accepted, Calculable, Writable, Runnable}
use Rattle.claims.specs.Demands.{CheckExactly, StartsWith, WriteExactly, RunExactly, adjoint_by, AuditSolves, AnswersLike, DemandThree}
use Rattle.claims.specs.WholeRun.{every, run_saving, StackRoom}
use Rattle.claims.specs.Tangents.{TangentWriteExactly, TangentMeets, PlainMeets}
use Rattle.claims.specs.Balance.{Balances}

-- ---- demand 1

-- "Whatever words and numbers come in, every public call ends with an answer. It checks everything itself. Each refusal is given exactly when
-- document 01 says, and what each lent buffer then holds is fixed there."
pub record DemandOne (A : Arithmetic) : Type 0 where
  pub checks : (words : List ℕ) (answer : declared.Checked) → checked_said answer ≡ check words → CheckExactly words (checked_said answer)
  pub writes : (words before after : List ℕ) (answer : Reply) → written_of answer after ≡ write words before
      → WriteExactly words before (written_of answer after)
  pub runs : (words : List ℕ) (starts seeds : List A.Carrier) (before after : Lent A) (answer : Reply)
      → ran_of A answer after ≡ run A words starts seeds before
      → RunExactly A needs_by (adjoint_by A starts seeds before) words starts seeds before (ran_of A answer after)
  -- 02 §1
  pub writes_tangents : (words before after : List ℕ) (answer : Reply) → written_of answer after ≡ write_tangent words before
      → TangentWriteExactly words before (written_of answer after)
  pub runs_tangents : (words : List ℕ) (starts rates : List A.Carrier) (before after : Lent A) (answer : Reply)
      → ran_of A answer after ≡ run_tangent A words starts rates before → TangentMeets A words starts rates before (ran_of A answer after)
  pub carries : (words : List ℕ) (starts rates before after : List A.Carrier) (answer : Reply)
      → carry_of A answer after ≡ plain A words starts rates before → PlainMeets A words starts rates before (carry_of A answer after)

abbrev pub FirstDemand : Type 1
FirstDemand = (A : Arithmetic) → DemandOne A

-- ---- demand 2

module _ (A : Arithmetic) where
  -- Two runs that give the same values and the same adjoints, or stop: "A stop is compared by the sheet row and the operation it comes from",
  -- which are its origin.
  pub data SameOutcome (variables : ℕ) (one other : Step A) : Type 0 where
    both_end : (first second : Memory A) → one ≡ ended first → other ≡ ended second → first.copied ≡ second.copied
        → drop variables first.store ≡ drop variables second.store → SameOutcome variables one other
    both_stop : (row other_row : RowNumber) (stop : Stop A) → one ≡ stops row stop → other ≡ stops other_row stop → SameOutcome variables one other

  -- of the sheet's own table and the all-saved one, for stacks of at least the sizes that each of the two needs
  abbrev pub SameAsAllSaved : Sheet → Sets → (starts seeds : List A.Carrier) → Type 0
  SameAsAllSaved sheet sets starts seeds =
      (values turns all_values all_turns : ℕ) → (needs_by sets sheet).values ≤ values → (needs_by sets sheet).turns ≤ turns
      → StackRoom A every sheet sets all_values all_turns
      → SameOutcome (variables_of sheet) (run_of A (table_by sets sheet) (setting_of A sheet seeds values turns) (start_of A sheet starts))
      (run_saving A every sheet sets starts seeds all_values all_turns)

-- of a sheet that is read, with any sets that are least
pub record DemandTwo (A : Arithmetic) (words : List ℕ) (sheet : Sheet) : Type 0 where
  -- "The varied, useful and to-be-recorded sets are the least that satisfy 01's equations": there are such sets, and all else is of any such
  pub sets : (sets : Sets) × LeastSets sheet sets
  -- "the adjoint table is exactly the one 01's rules give"
  pub table : (sets : Sets) (before after : List ℕ) (answer : Reply) → written_of answer after ≡ write words before
      → Writable true needs_by words before sheet sets → StartsWith (table_words (table_by sets sheet)) before after
  pub audit : (sets : Sets) (starts seeds : List ℕ) (before after : Lent residues) (answer : Reply)
      → Runnable residues needs_by words starts seeds before sheet sets → ((x : ℕ) → x < variables_of sheet → get_or seeds x 0 < modulus)
      → ran_of residues answer after ≡ run residues words starts seeds before → AuditSolves sheet starts seeds (ran_of residues answer after)
  pub all_saved : (sets : Sets) (starts seeds : List A.Carrier) (before after : Lent A) (answer : Reply)
      → Runnable A needs_by words starts seeds before sheet sets → ran_of A answer after ≡ run A words starts seeds before
      → (value_room turn_room : ℕ) → StackRoom A every sheet sets value_room turn_room
      → AnswersLike A sheet (adjoint_by A starts seeds before sets sheet) (ran_of A answer after)
      (run_saving A every sheet sets starts seeds value_room turn_room)

abbrev pub SecondDemand : Type 1
SecondDemand = (A : Arithmetic) (words : List ℕ) (sheet : Sheet) → Read words sheet → DemandTwo A words sheet

-- ---- demand 3: "For every accepted sheet, any start values and seeds, stacks of the sizes 01 computes": one start value for each variable, and
-- stacks of at least S and T; in audit of a sheet without kind 18, which 13 refuses

abbrev pub ThirdDemand : Type 1
ThirdDemand =
    (A : Arithmetic) (words : List ℕ) (sheet : Sheet) (sets : Sets) → Accepted words sheet sets → Calculable words (divides A)
    → (starts seeds : List A.Carrier) → length starts ≡ variables_of sheet → (value_room turn_room : ℕ) → (needs_by sets sheet).values ≤ value_room
    → (needs_by sets sheet).turns ≤ turn_room → DemandThree A sheet sets starts seeds value_room turn_room

-- ---- 02 §5: "In audit, for one accepted sheet, one set of start values, any starting rates at independents and any seeds", residues as all numbers in
-- audit are: words that both calls accept, on whatever buffers suffice

abbrev pub AreResidues : List ℕ → Type 0
AreResidues numbers = (x : ℕ) → get_or numbers x 0 < modulus

abbrev pub DirectionsBalance : Type 0
DirectionsBalance =
    (words starts seeds rates : List ℕ) → AreResidues seeds → AreResidues rates → (before after before' after' : Lent residues) (answer answer' : Reply)
    → ran_of residues answer after ≡ run residues words starts seeds before
    → ran_of residues answer' after' ≡ run_tangent residues words starts rates before' → (sheet : Sheet) (sets : Sets)
    → Runnable residues needs_by words starts seeds before sheet sets → Runnable residues tangent_needs_by words starts rates before' sheet sets
    → Balances sheet seeds rates (ran_of residues answer after) (ran_of residues answer' after')
