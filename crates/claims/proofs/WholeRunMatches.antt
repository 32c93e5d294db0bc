-- Every run of an accepted sheet matches the ideal, for any choice of further saved rows; the sheet's own table is the choice of none.
use Prim.Native.Nat.{ℕ, suc, ◌+◌, ◌≤◌}
use mathlib.Core.Path.{◌≡◌, refl, sym, ap, ap₂, subst}
use mathlib.Core.Bool.{Bool, true, false, ◌||◌, or-false}
use mathlib.Core.List.{List}
use lib.ListN.{length}
use Rattle.number.specs.Arithmetic.{Arithmetic, divides}
use Rattle.sheet.specs.Tree.{Tree, done, one, fork, again, rows, RowNumber}
use Rattle.sheet.specs.Rows.{Assignment, Test}
use Rattle.sheet.specs.Sheets.{Sheet, variables_of}
use Rattle.sheet.proofs.Feasibility.{ReadFor}
use Rattle.sets.specs.Rounds.{sets_of}
use Rattle.sets.specs.Marks.{numbered, mark_by, marked_by}
use Rattle.table.specs.Adjoint.{Body, adjoint_table, table_by}
use Rattle.table.specs.Sizes.{values_needed, turns_needed}
use Rattle.machine.specs.Machine.{Step}
use Rattle.run.specs.Runs.{setting_of, start_of, run_of}
use Rattle.claims.specs.IdealSweep.{ideal}
use Rattle.claims.specs.WholeRun.{also_saving, recorded_in, run_saving, StackRoom, Matches}
use Rattle.claims.proofs.Forward.{body}
use Rattle.claims.proofs.RunInTheLarge.{known_in, marks_of, matches_ideal}

-- ---- the marks of a sheet with further rows saved

module _ (sheet : Sheet) (choice : RowNumber → Bool) where
  abbrev pub saved : ℕ → Assignment → Bool
  saved p b = recorded_in (sets_of sheet) p b || choice (record { index = p })

  also_marks : (t : Tree Assignment Test) (p : ℕ)
      → also_saving choice (numbered (mark_by (sets_of sheet)) t p) ≡ body (known_in sheet) saved t p
  unfolding also_saving numbered mark_by
  also_marks done p = refl
  also_marks (one b k) p = rw (also_marks k (suc p))
  also_marks (fork f a b k) p =
      rw (also_marks a (suc p), also_marks b (suc (suc p + rows a)), also_marks k (suc (suc (suc p + rows a) + rows b)))
  also_marks (again n a k) p = rw (also_marks a (suc p), also_marks k (suc (suc p + rows a)))

  also_body : also_saving choice (marked_by (sets_of sheet) sheet) ≡ marks_of sheet saved
  unfolding marked_by
  also_body = also_marks sheet.body 0

  -- what is recorded is saved
  recorded_saved : (p : ℕ) (b : Assignment) → recorded_in (sets_of sheet) p b ≡ true → saved p b ≡ true
  recorded_saved p b e = rw e refl

-- ---- no further row saved is the table as it is

abbrev pub no_further : RowNumber → Bool
no_further row = false

as_it_is : (t : Body) → also_saving no_further t ≡ t
unfolding also_saving
as_it_is done = refl
as_it_is (one m k) =
    ap₂ one (λ i. record { row = m.row; assignment = m.assignment; known = m.known; saved = or-false m.saved i }) (as_it_is k)
as_it_is (fork f a b k) = rw (as_it_is a, as_it_is b, as_it_is k)
as_it_is (again n a k) = rw (as_it_is a, as_it_is k)

module _ (A : Arithmetic) (sheet : Sheet) where
  pub own_room : (value_room turn_room : ℕ) → values_needed (marked_by (sets_of sheet) sheet) ≤ value_room → turns_needed (marked_by (sets_of sheet) sheet) ≤ turn_room
      → StackRoom A no_further sheet (sets_of sheet) value_room turn_room
  own_room value_room turn_room values turns = record { values = rw (as_it_is (marked_by (sets_of sheet) sheet)) values; turns = rw (as_it_is (marked_by (sets_of sheet) sheet)) turns }

  pub own_table_run : (starts seeds : List A.Carrier) (value_room turn_room : ℕ)
      → run_saving A no_further sheet (sets_of sheet) starts seeds value_room turn_room
      ≡ run_of A (table_by (sets_of sheet) sheet) (setting_of A sheet seeds value_room turn_room) (start_of A sheet starts)
  unfolding run_saving table_by
  own_table_run starts seeds value_room turn_room =
      ap (λ t. run_of A (adjoint_table (variables_of sheet) t) (setting_of A sheet seeds value_room turn_room) (start_of A sheet starts))
      (as_it_is (marked_by (sets_of sheet) sheet))

-- ---- the run

module _ (A : Arithmetic) (words : List ℕ) (sheet : Sheet) (reads : ReadFor (divides A) words sheet) (starts seeds : List A.Carrier)
    (n : length starts ≡ variables_of sheet) where
  abbrev Like : (value_room turn_room : ℕ) → Step A → Type 0
  Like value_room turn_room = Matches A (variables_of sheet) (ideal A sheet (sets_of sheet) (setting_of A sheet seeds value_room turn_room) starts)

  pub run_matches : (choice : RowNumber → Bool) (value_room turn_room : ℕ) → StackRoom A choice sheet (sets_of sheet) value_room turn_room
      → Like value_room turn_room (run_saving A choice sheet (sets_of sheet) starts seeds value_room turn_room)
  unfolding run_saving mark_by
  run_matches choice value_room turn_room room =
      subst
      (λ t. Like value_room turn_room (run_of A (adjoint_table (variables_of sheet) t) (setting_of A sheet seeds value_room turn_room) (start_of A sheet starts)))
      (sym (also_body sheet choice))
      (matches_ideal A {words = words} seeds
      (record {
        reads = reads;
        covers = recorded_saved sheet choice;
        started = n;
        values = subst (λ t. values_needed t ≤ value_room) (also_body sheet choice) room.values;
        turns = subst (λ t. turns_needed t ≤ turn_room) (also_body sheet choice) room.turns;
      }))

  pub own_run_matches : (value_room turn_room : ℕ) → values_needed (marked_by (sets_of sheet) sheet) ≤ value_room → turns_needed (marked_by (sets_of sheet) sheet) ≤ turn_room
      → Like value_room turn_room (run_of A (table_by (sets_of sheet) sheet) (setting_of A sheet seeds value_room turn_room) (start_of A sheet starts))
  own_run_matches value_room turn_room values turns =
      subst (Like value_room turn_room) (own_table_run A sheet starts seeds value_room turn_room)
      (run_matches no_further value_room turn_room (own_room A sheet value_room turn_room values turns))
