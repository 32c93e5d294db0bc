-- The machine at row 17: the sheet has been executed, and the stacks hold the recorded values and the turns, the latest on top.
use Prim.Native.Nat.{ℕ, suc, ◌+◌}
use mathlib.Core.Path.{◌≡◌, refl, ap}
use mathlib.Core.Bool.{Bool, true, false}
use mathlib.Core.List.{List, ◌∷◌}
use lib.ListN.{length}
use native.Mathlib.Nat.{suc-mul}
use native.Mathlib.Omega.{arith}
use Rattle.number.specs.Arithmetic.{Arithmetic}
use Rattle.sheet.specs.Tree.{Tree, done, one, fork, again, basic, flat, RowNumber}
use Rattle.sheet.specs.Rows.{Assignment, Test, target_of}
use Rattle.sets.specs.Transfers.{Activity}
use Rattle.sets.specs.Marks.{numbered}
use Rattle.table.specs.TableRows.{Table, TableLine, Action, assign, save, Operation, saving, itself, of_row}
use Rattle.table.specs.Adjoint.{Body, put_if, forward_row, forward_part}
use Rattle.table.specs.Sizes.{values_needed}
use Rattle.claims.specs.IdealSweep.{Progress}
use Rattle.claims.specs.Demands.{WithoutIf}
use Rattle.claims.specs.WholeRun.{saved_values}
use Rattle.claims.proofs.Runs.{Runs, stay, row, left, right, last, more, tested}
use Rattle.claims.proofs.Forward.{body, one_more_lem}

-- ---- the lines of the forward part, and then the rest

row_lines : (choice : Bool) (r : RowNumber) (operation : Operation) (action : Action) (k other : Table) (after beyond : List TableLine)
    → flat k after ≡ flat other beyond → flat (put_if choice r operation action k) after ≡ flat (put_if choice r operation action other) beyond
unfolding flat
row_lines true r operation action k other after beyond e = ap (λ ls. basic (record { origin = of_row r operation; action = action }) ∷ ls) e
row_lines false r operation action k other after beyond e = e

pub forward_lines : (t : Body) (rest : Table) (after : List TableLine) → flat (forward_part t rest) after ≡ flat (forward_part t done) (flat rest after)
unfolding forward_part forward_row flat
forward_lines done rest after = refl
forward_lines (one m k) rest after =
    row_lines m.saved m.row saving (save (target_of m.assignment)) _ _ after (flat rest after)
    (row_lines true m.row itself (assign m.assignment) (forward_part k rest) (forward_part k done) after (flat rest after)
    (forward_lines k rest after))
forward_lines (fork f a b k) rest after = rw (forward_lines k rest after) refl
forward_lines (again l a k) rest after = rw (forward_lines k rest after) refl

-- ---- without an "if" or a loop with a test every saved row is counted exactly

module _ (known : ℕ → Assignment → Activity) (saved : ℕ → Assignment → Bool) (A : Arithmetic) (constants : List ℕ) where
  pub saved_exactly : {t : Tree Assignment Test} {p : ℕ} {s e : Progress A} → Runs A constants t p s e → WithoutIf t
      → length (saved_values A saved e.trace) ≡ length (saved_values A saved s.trace) + values_needed (body known saved t p)
  unfolding numbered values_needed WithoutIf
  saved_exactly stay none = omega arith
  saved_exactly (row {b = b} {p = p} {s = s} {m = m} h r) none =
      omega (arith, (one_more_lem known saved A constants p b s m h).values, saved_exactly r none)
  saved_exactly (left h f r) none = absurd none
  saved_exactly (right h f r) none = absurd none
  saved_exactly (last f r) none = omega (arith, saved_exactly f none.0, saved_exactly r none.1)
  saved_exactly (more {n = n} {a = a} {p = p} f r) none =
      omega (arith, suc-mul (suc n) (values_needed (body known saved a (suc p))), saved_exactly f none.0, saved_exactly r none)
  saved_exactly (tested loop r) none = absurd none
