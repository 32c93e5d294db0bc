-- An execution of a body whose names are all there, and whose quotients can be done, is never stuck: it goes through, or the arithmetic stops it.
use Prim.Native.Nat.{ℕ, zero, suc, ◌+◌}
use mathlib.Core.Path.{◌≡◌, refl, ◌∙◌}
use mathlib.Core.Bool.{Bool, true, false, cond}
use mathlib.Core.List.{List, []}
use lib.ListN.{length}
use Rattle.number.specs.Arithmetic.{Arithmetic, divides}
use Rattle.sheet.specs.Tree.{times, while, Tree, done, one, fork, again, rows}
use Rattle.sheet.specs.Rows.{Assignment, ◌≔◌, Test}
use Rattle.sheet.specs.Names.{AssignmentPresent, Present, AssignmentFeasible, Feasible}
use Rattle.table.specs.TableRows.{turn_word}
use Rattle.machine.specs.Actions.{Attempt, through, Stop, evaluated, compared}
use Rattle.machine.proofs.AttemptLaws.{Ready, gives, ready_then, loop_ready, stops}
use Rattle.run.proofs.RowsReady.{evaluated_ready, compared_ready}
use Rattle.run.proofs.Originals.{replaced_alone}
use Rattle.claims.specs.IdealSweep.{Progress, performed, turned, executed}
use Rattle.claims.proofs.Runs.{runs}
use Rattle.claims.proofs.RunsKeepSizes.{performed_keeps, runs_keep}

module _ (A : Arithmetic) (constants : List ℕ) (v : ℕ) where
  performed_ready : (p : ℕ) (b : Assignment) (now : Progress A) → length now.store ≡ v → AssignmentPresent v (length constants) b
      → AssignmentFeasible (divides A) b
      → Ready (performed A constants p b now)
  unfolding performed AssignmentPresent
  performed_ready p (d ≔ source) now n named can = after (evaluated_ready A constants v source now.store n named.1 can)
    where
      after : Ready (evaluated A constants source now.store) → Ready (performed A constants p (d ≔ source) now)
      after (gives x e) = rw (e, replaced_alone A v 0 now.store [] n {W = Stop A} d x named.0) (gives _ refl)
      after (stops why e) = rw e (stops _ refl)

  pub executed_ready : (t : Tree Assignment Test) (p : ℕ) (now : Progress A) → length now.store ≡ v → Present v (length constants) t
      → Feasible (divides A) t → Ready (executed A constants t p now)
  unfolding executed Present Feasible
  executed_ready done p now n named can = gives now refl
  executed_ready (one b k) p now n named can =
      ready_then (performed A constants p b now) _ (performed_ready p b now n named.0 can.0)
      (λ m e. executed_ready k (suc p) m (performed_keeps A constants p b now m e ∙ n) named.1 can.1)
  executed_ready (fork f a b k) p now n named can =
      let way = compared_ready A constants v f now.store n named.0 in
      rw way.1
      (ready_then (cond way.0 (executed A constants a (suc p) now) (executed A constants b (suc (suc p + rows a)) now)) _
      (either way.0 (executed_ready a (suc p) now n named.1 can.0) (executed_ready b (suc (suc p + rows a)) now n named.2 can.1))
      (λ m e.
      executed_ready k (suc (suc (suc p + rows a) + rows b)) (turned A (turn_word way.0) m) (size way.0 m e) named.3 can.2))
    where
      either : (first : Bool) {x y : Attempt (Stop A) (Progress A)} → Ready x → Ready y → Ready (cond first x y)
      either true x y = x
      either false x y = y

      size : (first : Bool) (m : Progress A)
          → cond first (executed A constants a (suc p) now) (executed A constants b (suc (suc p + rows a)) now) ≡ through m
          → length m.store ≡ v
      size true m e = runs_keep A constants (runs A constants a (suc p) now m e) ∙ n
      size false m e = runs_keep A constants (runs A constants b (suc (suc p + rows a)) now m e) ∙ n
  executed_ready (again (times zero) a k) p now n named can =
      ready_then (executed A constants a (suc p) now) _ (executed_ready a (suc p) now n named.0 can.0)
      (λ m e. executed_ready k (suc (suc p + rows a)) m (runs_keep A constants (runs A constants a (suc p) now m e) ∙ n) named.1 can.1)
  executed_ready (again (times (suc c)) a k) p now n named can =
      ready_then (executed A constants a (suc p) now) _ (executed_ready a (suc p) now n named.0 can.0)
      (λ m e. executed_ready (again (times c) a k) p m (runs_keep A constants (runs A constants a (suc p) now m e) ∙ n) named can)
  executed_ready (again (while f c) a k) p now n named can =
      loop_ready (λ x. compared A f x.store) (executed A constants a (suc p)) (λ count x. through (turned A count x))
      (executed A constants k (suc (suc p + rows a))) (λ x. length x.store ≡ v) (λ x known. compared_ready A constants v f x.store known named.2)
      (λ x known. executed_ready a (suc p) x known named.0 can.0)
      (λ x m known e. runs_keep A constants (runs A constants a (suc p) x m e) ∙ known)
      (λ count x known. executed_ready k (suc (suc p + rows a)) (turned A count x) known named.1 can.1) 0 (suc c) now n
