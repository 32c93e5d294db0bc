-- What refusal 5 rules out: every variable and every constant that an accepted body names is there. And what 13 rules out.
use Rattle.std.specs.Prelude.{ℕ, ◌<◌, ◌≡◌, Bool, true}
use Rattle.sheet.specs.Tree.{Loop, times, while, Tree, done, one, fork, again}
use Rattle.sheet.specs.Rows.{Assignment, ◌≔◌, Source, copy, fixed, sum, difference, product, negation, quotient, Test, less}

unfoldable pub SourcePresent : (variables constants : ℕ) → Source → Type 0
SourcePresent v k (copy a) = a < v
SourcePresent v k (fixed c) = c < k
SourcePresent v k (sum a b) = (a < v) × (b < v)
SourcePresent v k (difference a b) = (a < v) × (b < v)
SourcePresent v k (product a b) = (a < v) × (b < v)
SourcePresent v k (negation a) = a < v
SourcePresent v k (quotient a b) = (a < v) × (b < v)

unfoldable pub AssignmentPresent : (variables constants : ℕ) → Assignment → Type 0
unfolding SourcePresent
AssignmentPresent v k (d ≔ source) = (d < v) × SourcePresent v k source

unfoldable pub TestPresent : (variables : ℕ) → Test → Type 0
TestPresent v (less a b) = (a < v) × (b < v)

abbrev pub LoopPresent : (variables : ℕ) → Loop Test → Type 0
LoopPresent v (times m) = Unit {0}
LoopPresent v (while f m) = TestPresent v f

unfoldable pub Present : (variables constants : ℕ) → Tree Assignment Test → Type 0
unfolding AssignmentPresent TestPresent
Present v k done = Unit {0}
Present v k (one b rest) = AssignmentPresent v k b × Present v k rest
Present v k (fork f first second rest) = TestPresent v f × Present v k first × Present v k second × Present v k rest
Present v k (again l body rest) = Present v k body × Present v k rest × LoopPresent v l

-- a quotient only where the arithmetic has quotients
unfoldable pub SourceFeasible : (divides : Bool) → Source → Type 0
SourceFeasible divides (copy a) = Unit {0}
SourceFeasible divides (fixed c) = Unit {0}
SourceFeasible divides (sum a b) = Unit {0}
SourceFeasible divides (difference a b) = Unit {0}
SourceFeasible divides (product a b) = Unit {0}
SourceFeasible divides (negation a) = Unit {0}
SourceFeasible divides (quotient a b) = divides ≡ true

abbrev pub AssignmentFeasible : (divides : Bool) → Assignment → Type 0
AssignmentFeasible divides (d ≔ source) = SourceFeasible divides source

unfoldable pub Feasible : (divides : Bool) → Tree Assignment Test → Type 0
unfolding SourceFeasible
Feasible divides done = Unit {0}
Feasible divides (one b rest) = AssignmentFeasible divides b × Feasible divides rest
Feasible divides (fork f first second rest) = Feasible divides first × Feasible divides second × Feasible divides rest
Feasible divides (again l body rest) = Feasible divides body × Feasible divides rest
