-- A marked body whose every quotient can be done.
use Prim.Native.Nat.{ℕ, suc, ◌+◌}
use mathlib.Core.Path.{◌≡◌}
use mathlib.Core.Bool.{Bool}
use Rattle.sheet.specs.Tree.{Tree, done, one, fork, again, rows}
use Rattle.sheet.specs.Rows.{Assignment, Test}
use Rattle.sheet.specs.Names.{AssignmentFeasible, Feasible}
use Rattle.sets.specs.Marks.{Marked, numbered}
use Rattle.table.specs.Adjoint.{Body}

unfoldable pub BodyFeasible : (divides : Bool) → Body → Type 0
BodyFeasible divides done = Unit {0}
BodyFeasible divides (one m rest) = AssignmentFeasible divides m.assignment × BodyFeasible divides rest
BodyFeasible divides (fork f a b rest) = BodyFeasible divides a × BodyFeasible divides b × BodyFeasible divides rest
BodyFeasible divides (again m a rest) = BodyFeasible divides a × BodyFeasible divides rest

pub body_feasible : (divides : Bool) (mark : ℕ → Assignment → Marked) → ((p : ℕ) (b : Assignment) → (mark p b).assignment ≡ b)
    → (t : Tree Assignment Test) (p : ℕ) → Feasible divides t → BodyFeasible divides (numbered mark t p)
unfolding numbered Feasible BodyFeasible
body_feasible divides mark same done p feasible = tt
body_feasible divides mark same (one b rest) p (here, later) = (rw (same p b) here, body_feasible divides mark same rest (suc p) later)
body_feasible divides mark same (fork f a b rest) p (first, second, later) = (
  body_feasible divides mark same a (suc p) first,
  body_feasible divides mark same b (suc (suc p + rows a)) second,
  body_feasible divides mark same rest (suc (suc (suc p + rows a) + rows b)) later,
)
body_feasible divides mark same (again m a rest) p (body, later) =
    (body_feasible divides mark same a (suc p) body, body_feasible divides mark same rest (suc (suc p + rows a)) later)
