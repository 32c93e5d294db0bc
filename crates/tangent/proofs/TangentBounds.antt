-- A tangent table's blocks nest no deeper than its sheet's, and its run takes at most six steps for each that W counts: so the runner has room and
-- steps enough for it.
use Prim.Native.Nat.{ℕ, ◌+◌, ◌*◌, ◌≤◌, ◌<◌}
use mathlib.Core.Path.{◌≡◌, refl}
use mathlib.Core.List.{List}
use native.Mathlib.Omega.{arith}
use Rattle.sheet.specs.Judging.{given}
use Rattle.sheet.specs.Tree.{done, one, fork, again, longest_run}
use Rattle.sheet.specs.Sheets.{Sheet, variables_of}
use Rattle.sheet.specs.Reading.{read}
use Rattle.sheet.specs.Inner.RowLines.{source_of}
use Rattle.sheet.proofs.Depth.{deep, sheet_deep}
use Rattle.sheet.proofs.ReadingParts.{accepted}
use Rattle.sets.specs.Rounds.{sets_of, marked}
use Rattle.sets.specs.Marks.{Sets, mark_by, marked_by}
use Rattle.table.specs.TableRows.{whether}
use Rattle.table.specs.Adjoint.{Body}
use Rattle.table.proofs.TableBounds.{row_flat, marked_run, marked_deep}
use Rattle.machine.specs.Machine.{steps_of}
use Rattle.run.specs.Runs.{enough_steps}
use Rattle.run.proofs.EnoughSteps.{row_stepped, loop_steps}
use Rattle.run.proofs.CallLaws.{Runnable}
use Rattle.tangent.specs.Tangent.{tangent_table, tangent_by}
use Rattle.tangent.specs.Calls.{tangent_of}
use Rattle.tangent.specs.Inner.TangentPlans.{most_line_count}
use Rattle.tangent.proofs.TangentLines.{assignment_counted}
use Rattle.tangent.proofs.TangentTree.{most_rates_lem}

pub tangent_deep : (v : ℕ) (body : Body) → deep (tangent_table v body) ≤ deep body
unfolding tangent_table deep
tangent_deep v done = omega arith
tangent_deep v (one m k) = omega (arith, assignment_counted v 0 deep row_flat m m.assignment refl (tangent_table v k), tangent_deep v k)
tangent_deep v (fork f a b k) = omega (arith, tangent_deep v a, tangent_deep v b, tangent_deep v k)
tangent_deep v (again l a k) = omega (arith, tangent_deep v a, tangent_deep v k)

pub tangent_steps : (v : ℕ) (body : Body) → steps_of (tangent_table v body) ≤ most_line_count * longest_run body
unfolding tangent_table steps_of longest_run
tangent_steps v done = omega arith
tangent_steps v (one m k) =
    omega (
      arith,
      assignment_counted v 1 steps_of row_stepped m m.assignment refl (tangent_table v k),
      most_rates_lem (source_of m.assignment) m.known,
      tangent_steps v k,
    )
tangent_steps v (fork f a b k) = omega (arith, tangent_steps v a, tangent_steps v b, tangent_steps v k)
tangent_steps v (again l a k) =
    omega (
      arith,
      tangent_steps v k,
      loop_steps (λ f. whether f.test) l (tangent_table v a) (tangent_table v k) most_line_count (1 + longest_run a) (omega (arith, tangent_steps v a)),
    )

-- so that a run's steps suffice, by whatever sets
pub tangent_short : (words : List ℕ) (sheet : Sheet) → read words ≡ given sheet → (sets : Sets) → steps_of (tangent_by sets sheet) < enough_steps
unfolding tangent_by marked_by
tangent_short words sheet e sets =
    omega (
      arith,
      tangent_steps (variables_of sheet) (marked_by sets sheet),
      marked_run (mark_by sets) sheet.body 0,
      (accepted words sheet e).short,
    )

pub tangent_runnable : (words : List ℕ) (sheet : Sheet) → read words ≡ given sheet → Runnable (tangent_of sheet)
unfolding tangent_of tangent_by marked marked_by
tangent_runnable words sheet e =
    record {
      shallow =
          omega (
            arith,
            tangent_deep (variables_of sheet) (marked sheet),
            marked_deep (mark_by (sets_of sheet)) sheet.body 0,
            sheet_deep words sheet e,
          );
      short = tangent_short words sheet e (sets_of sheet);
    }
