-- What the tangent calls' code answers and leaves, held against what the run comes to.
use Rattle.std.specs.Prelude.{ℕ, List, [], length, take, drop}
use Rattle.number.specs.Arithmetic.{Arithmetic}
use Rattle.sheet.specs.Sheets.{Sheet}
use Rattle.table.specs.declared.Reply.{Reply}
use Rattle.run.specs.declared.Counted.TheVariants as counted
use Rattle.run.specs.Inner.CallSteps.{halves_of}
use Rattle.run.specs.Inner.CallAnswers.{RanTo}
use Rattle.tangent.specs.TangentRuns.{without_stacks}
use Rattle.tangent.specs.Calls.{tangent_job}

-- the result of a run that has finished, out of its store
abbrev pub rates_from : (A : Arithmetic) → (roles : List ℕ) → (store : List A.Carrier) → List A.Carrier
rates_from A roles store = halves_of A (take (length roles) store) counted.Dependents roles (drop (length roles) store)

-- what is answered and left of the result is what the run of the sheet's tangent table, written over a buffer, comes to
abbrev pub TangentRanTo : (A : Arithmetic) → Sheet → (buffer : List ℕ) → (starts rates result_before : List A.Carrier) → (answer : Reply)
    → (result_after : List A.Carrier) → Type 0
TangentRanTo A sheet buffer starts rates result_before answer result_after =
    RanTo A (tangent_job A starts rates sheet) (without_stacks A buffer result_before) answer [] [] result_after
