-- Every variable and every constant that a straight row or a comparison of an accepted sheet's adjoint table names is there.
use Prim.Native.Nat.{ℕ, ◌<◌}
use mathlib.Core.Path.{◌≡◌, refl}
use mathlib.Core.Bool.{Bool, true, false}
use mathlib.Core.List.{List}
use native.Mathlib.Omega.{arith}
use lib.ListN.{length}
use Rattle.sheet.specs.Tree.{Loop, times, while, loop_by, done, one, fork, again, RowNumber}
use Rattle.sheet.specs.Rows.{Assignment, ◌≔◌, Source, copy, fixed, sum, difference, product, negation, quotient}
use Rattle.sheet.specs.Names.{SourcePresent, AssignmentPresent}
use Rattle.sheet.specs.Judging.{given}
use Rattle.sheet.specs.Sheets.{Sheet}
use Rattle.sheet.specs.Reading.{read}
use Rattle.sets.specs.Transfers.{Activity}
use Rattle.sets.specs.Rounds.{marked}
use Rattle.sets.specs.Marks.{Marked, MarkedTest}
use Rattle.table.specs.TableRows.{Table, Action, save, take_back, save_turn, on_turn, Operation, turning}
use Rattle.table.specs.Computed.{table_of}
use Rattle.table.specs.Adjoint.{Body, put, put_if, forward_row, forward_part, parts_of, derivative_rows, backward_of, backward_part, adjoint_table}
use Rattle.run.proofs.KnownNames.{Known, LoopKnown, KnownIn, BodyKnown, widened, test_widened, loop_widened, sheet_known}

module _ (v k : ℕ) where
  put_if_lem : (b : Bool) (row : RowNumber) (operation : Operation) (action : Action) (rest : Table) → Known v k action → KnownIn v k rest
      → KnownIn v k (put_if b row operation action rest)
  unfolding KnownIn
  put_if_lem true row operation action rest here later = (here, later)
  put_if_lem false row operation action rest here later = later

  forward_row_known : (m : Marked) (rest : Table) → AssignmentPresent v k m.assignment → KnownIn v k rest → KnownIn v k (forward_row m rest)
  unfolding forward_row KnownIn AssignmentPresent
  forward_row_known m rest known later = by_assignment m.assignment refl known
    where
      by_assignment : (b : Assignment) → m.assignment ≡ b → AssignmentPresent v k b → KnownIn v k (forward_row m rest)
      by_assignment (d ≔ source) is (target, reads) =
          rw is
          (put_if_lem m.saved m.row _ (save d) _ (omega arith) (((omega arith, widened v k source reads), later)))

  forward_known : (t : Body) (rest : Table) → BodyKnown v k t → KnownIn v k rest → KnownIn v k (forward_part t rest)
  unfolding forward_part BodyKnown KnownIn
  forward_known done rest known later = later
  forward_known (one m t) rest (here, next) later = forward_row_known m (forward_part t rest) here (forward_known t rest next later)
  forward_known (fork f a b t) rest (test, first, second, next) later = (
    test_widened v k f.test test,
    forward_known a (put f.row turning (save_turn true) done) first (tt, tt),
    forward_known b (put f.row turning (save_turn false) done) second (tt, tt),
    forward_known t rest next later,
  )
  forward_known (again l a t) rest (body, next, asks) later = (forward_known a done body tt, forward_known t rest next later, loop_widened v k l asks)

  parts_known : (source : Source) (row : RowNumber) (known : Activity) (rest : Table) → SourcePresent v k source → KnownIn v k rest
      → KnownIn v k (parts_of v source row known rest)
  unfolding parts_of SourcePresent AssignmentPresent
  parts_known (copy a) row known rest p later = put_if_lem known.varied_a row _ _ rest (omega arith, (omega arith, omega arith)) later
  parts_known (fixed c) row known rest p later = later
  parts_known (sum a b) row known rest (p, q) later =
      put_if_lem known.varied_a row _ _ _ (omega arith, (omega arith, omega arith))
      (put_if_lem known.varied_b row _ _ rest (omega arith, (omega arith, omega arith)) later)
  parts_known (difference a b) row known rest (p, q) later =
      put_if_lem known.varied_a row _ _ _ (omega arith, (omega arith, omega arith))
      (put_if_lem known.varied_b row _ _ rest (omega arith, (omega arith, omega arith)) later)
  parts_known (product a b) row known rest (p, q) later =
      put_if_lem known.varied_a row _ _ _ (omega arith, (omega arith, omega arith))
      (put_if_lem known.varied_a row _ _ _ (omega arith, (omega arith, omega arith))
      (put_if_lem known.varied_b row _ _ _ (omega arith, (omega arith, omega arith))
      (put_if_lem known.varied_b row _ _ rest (omega arith, (omega arith, omega arith)) later)))
  parts_known (negation a) row known rest p later = put_if_lem known.varied_a row _ _ rest (omega arith, (omega arith, omega arith)) later
  parts_known (quotient a b) row known rest (p, q) later =
      put_if_lem true row _ _ _ (omega arith, (omega arith, omega arith))
      (put_if_lem known.varied_a row _ _ _ (omega arith, (omega arith, omega arith))
      (put_if_lem known.varied_b row _ _ _ (omega arith, (omega arith, omega arith))
      (put_if_lem known.varied_b row _ _ _ (omega arith, (omega arith, omega arith))
      (put_if_lem known.varied_b row _ _ rest (omega arith, (omega arith, omega arith)) later))))

  derivatives_known : (active : Bool) (d : ℕ) (source : Source) (row : RowNumber) (known : Activity) (rest : Table) → d < v → SourcePresent v k source
      → KnownIn v k rest
      → KnownIn v k (derivative_rows v active d source row known rest)
  unfolding derivative_rows KnownIn AssignmentPresent SourcePresent
  derivatives_known false d source row known rest target reads later = (omega arith, later)
  derivatives_known true d source row known rest target reads later =
      ((omega arith, omega arith), (omega arith, parts_known source row known rest reads later))

  backward_row_known : (b : Assignment) (row : RowNumber) (known : Activity) (saved : Bool) (rest : Table) → AssignmentPresent v k b → KnownIn v k rest
      → KnownIn v k (backward_of v b row known saved rest)
  unfolding backward_of AssignmentPresent
  backward_row_known (d ≔ source) row known saved rest (target, reads) later =
      put_if_lem saved row _ (take_back d) _ (omega arith) (derivatives_known known.active d source row known rest target reads later)

  -- a loop on a count names nothing
  on_its_count : (l : Loop MarkedTest) → LoopKnown v k (loop_by (λ f. on_turn) l)
  on_its_count (times m) = tt
  on_its_count (while f m) = tt

  backward_known : (t : Body) (rest : Table) → BodyKnown v k t → KnownIn v k rest → KnownIn v k (backward_part v t rest)
  unfolding backward_part BodyKnown KnownIn
  backward_known done rest known later = later
  backward_known (one m t) rest (here, next) later =
      backward_known t (backward_of v m.assignment m.row m.known m.saved rest) next
      (backward_row_known m.assignment m.row m.known m.saved rest here later)
  backward_known (fork f a b t) rest (test, first, second, next) later =
      backward_known t _ next (tt, backward_known a done first tt, backward_known b done second tt, later)
  backward_known (again l a t) rest (body, next, asks) later = backward_known t _ next (backward_known a done body tt, later, on_its_count l)

  table_known : (t : Body) → BodyKnown v k t → KnownIn v k (adjoint_table v t)
  unfolding adjoint_table KnownIn
  table_known t known = forward_known t _ known (tt, backward_known t done known tt)

pub adjoint_known : (words : List ℕ) (sheet : Sheet) → read words ≡ given sheet
    → KnownIn (length sheet.roles) (length sheet.constants) (table_of sheet)
unfolding table_of marked
adjoint_known words sheet e = table_known (length sheet.roles) (length sheet.constants) (marked sheet) (sheet_known words sheet e)
