-- What an answer of the code stands for: an attempt, or the branch that a test picks.
use Rattle.std.specs.Prelude.{ℕ, Bool, true, false}
use Rattle.std.specs.Prelude.{Result, Ok, Err}
use Rattle.machine.specs.declared.Stuck.{Stuck}
use Rattle.std.proofs.Math.Option.{Option, none, some}
use Rattle.std.specs.Prelude as std
use Rattle.number.specs.Answers.{outcome_of}
use Rattle.machine.specs.Actions.{Attempt, through, halted, stuck, from_outcome}
use Rattle.machine.specs.declared.Branch.{Branch}
use Rattle.machine.specs.declared.Branch.TheVariants as branch

abbrev pub is_stuck : Stuck
is_stuck = record {}

-- what an assignment comes to, by the reason that each stop of the code is
abbrev pub whether_did : {Stop Why : Type 0} → (Stop → Why) → Result (Unit {0}) Stop → Attempt Why (Unit {0})
whether_did why (Ok u) = through tt
whether_did why (Err s) = halted (why s)

-- what a right side comes to, where there is such an operation
abbrev pub tried : {X Stop Why : Type 0} → (Stop → Why) → std.Option (Result X Stop) → Attempt Why X
tried why (std.Some answer) = from_outcome (outcome_of why answer)
tried why std.None = stuck

module _ {Why : Type 0} where
  abbrev pub whether_went : Result (Unit {0}) Stuck → Attempt Why (Unit {0})
  whether_went (Ok u) = through tt
  whether_went (Err s) = stuck

  abbrev pub whether_moved : Result ℕ Stuck → Attempt Why (Unit {0})
  whether_moved (Ok height) = through tt
  whether_moved (Err s) = stuck

-- the height after the row, which stays where the row is stuck
abbrev pub height_after : Result ℕ Stuck → ℕ → ℕ
height_after (Ok height) before = height
height_after (Err s) before = before

abbrev pub branch_of : Branch → Option Bool
branch_of branch.First = some true
branch_of branch.Second = some false

abbrev pub turn_of : Result (Branch × ℕ) Stuck → Option Bool
turn_of (Ok (branch.First, height)) = some true
turn_of (Ok (branch.Second, height)) = some false
turn_of (Err s) = none

abbrev pub height_branched : Result (Branch × ℕ) Stuck → ℕ → ℕ
height_branched (Ok (branch.First, height)) before = height
height_branched (Ok (branch.Second, height)) before = height
height_branched (Err s) before = before
