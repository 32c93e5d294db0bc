-- Every saving row of a sheet's table, whether or not a run comes to it, saves the target of a recorded assignment of the sheet.
use Prim.Native.Nat.{ℕ, zero, suc, ◌+◌}
use mathlib.Core.Path.{◌≡◌, refl, subst}
use mathlib.Core.Bool.{Bool, true, false}
use mathlib.Core.List.{List, [], ◌∷◌}
use lib.ListN.{drop}
use native.Mathlib.Omega.{arith}
use Rattle.sheet.specs.Tree.{Tree, done, one, fork, again, basic, if_line, else_line, end_if, repeat, end_repeat, flat, rows, RowNumber}
use Rattle.sheet.specs.Rows.{Assignment, ◌≔◌, Source, copy, fixed, sum, difference, product, negation, quotient, Test, SheetLine, target_of}
use Rattle.sheet.specs.Sheets.{Sheet, variables_of}
use Rattle.sets.specs.Transfers.{Activity}
use Rattle.sets.specs.Rounds.{sets_of}
use Rattle.sets.specs.Marks.{Marked, numbered, mark_by, marked_by}
use Rattle.table.specs.TableRows.{Action, assign, save, take_back, save_turn, clear, turn_round, Operation, saving, itself, Origin, of_row, TableLine, Table, lines_of}
use Rattle.table.specs.Adjoint.{Body, put, put_if, forward_row, forward_part, parts_of, derivative_rows, backward_of, backward_part, adjoint_table, table_by}
use Rattle.machine.proofs.LinesPassed.{past_line, past_tree}
use Rattle.claims.specs.WholeRun.{recorded_in}
use Rattle.claims.specs.Demands.{SavesRecorded}

module _ (sheet : Sheet) where
  -- what is claimed of an action, and of a line
  FineAction : Origin → Action → Type 0
  FineAction origin (assign b) = Unit {0}
  FineAction origin (save d) = SavesRecorded sheet (sets_of sheet) origin d
  FineAction origin (take_back d) = Unit {0}
  FineAction origin (save_turn first) = Unit {0}
  FineAction origin (clear d) = Unit {0}
  FineAction origin turn_round = Unit {0}

  Fine : TableLine → Type 0
  Fine (basic row) = FineAction row.origin row.action
  Fine (if_line f) = Unit {0}
  Fine else_line = Unit {0}
  Fine end_if = Unit {0}
  Fine (repeat l) = Unit {0}
  Fine end_repeat = Unit {0}

  record AllFine (lines : List TableLine) : Type 0 where
    at : (i : ℕ) (line : TableLine) (rest : List TableLine) → drop i lines ≡ line ∷ rest → Fine line

  no_line : AllFine []
  no_line = record { at = λ i line rest e. absurd (nothing i line rest e) }
    where
      nothing : (i : ℕ) (line : TableLine) (rest : List TableLine) → drop i [] ≡ line ∷ rest → ⊥
      nothing zero line rest e = let z : ◌≡◌ {A = ℕ} 0 1 = cc in absurd (omega arith)
      nothing (suc i) line rest e = let z : ◌≡◌ {A = ℕ} 0 1 = cc in absurd (omega arith)

  one_line : {first : TableLine} {others : List TableLine} → Fine first → AllFine others → AllFine (first ∷ others)
  one_line {first} {others} fine rest_fine = record { at = by_place }
    where
      by_place : (i : ℕ) (line : TableLine) (rest : List TableLine) → drop i (first ∷ others) ≡ line ∷ rest → Fine line
      by_place zero line rest e =
          let same : first ≡ line = cc in
          subst Fine same fine
      by_place (suc i) line rest e = rest_fine.at i line rest e

  only_if : (choice : Bool) (row : RowNumber) (operation : Operation) (action : Action) (rest : Table) (after : List TableLine)
      → FineAction (of_row row operation) action → AllFine (flat rest after) → AllFine (flat (put_if choice row operation action rest) after)
  unfolding flat Fine
  only_if true row operation action rest after fine others = one_line fine others
  only_if false row operation action rest after fine others = others

  -- ---- the backward part saves nothing

  module _ (v : ℕ) (row : RowNumber) (known : Activity) (rest : Table) (after : List TableLine) (others : AllFine (flat rest after)) where
    parts_fine : (source : Source) → AllFine (flat (parts_of v source row known rest) after)
    unfolding parts_of flat Fine FineAction
    parts_fine (copy a) = only_if known.varied_a row _ _ _ after tt others
    parts_fine (fixed c) = others
    parts_fine (sum a b) = only_if known.varied_a row _ _ _ after tt (only_if known.varied_b row _ _ _ after tt others)
    parts_fine (difference a b) = only_if known.varied_a row _ _ _ after tt (only_if known.varied_b row _ _ _ after tt others)
    parts_fine (product a b) =
        only_if known.varied_a row _ _ _ after tt
        (only_if known.varied_a row _ _ _ after tt
        (only_if known.varied_b row _ _ _ after tt (only_if known.varied_b row _ _ _ after tt others)))
    parts_fine (negation a) = only_if known.varied_a row _ _ _ after tt others
    parts_fine (quotient a b) =
        one_line tt
        (only_if known.varied_a row _ _ _ after tt
        (only_if known.varied_b row _ _ _ after tt
        (only_if known.varied_b row _ _ _ after tt (only_if known.varied_b row _ _ _ after tt others))))

    derivatives_fine : (active : Bool) (d : ℕ) (source : Source) → AllFine (flat (derivative_rows v active d source row known rest) after)
    unfolding derivative_rows flat Fine FineAction
    derivatives_fine false d source = one_line tt others
    derivatives_fine true d source = one_line tt (one_line tt (parts_fine source))

    assignment_fine : (b : Assignment) (saved : Bool) → AllFine (flat (backward_of v b row known saved rest) after)
    unfolding backward_of FineAction
    assignment_fine (d ≔ source) saved = only_if saved row _ _ _ after tt (derivatives_fine known.active d source)

  backward_fine : (v : ℕ) (t : Body) (rest : Table) (after : List TableLine) → AllFine (flat rest after)
      → AllFine (flat (backward_part v t rest) after)
  unfolding backward_part flat Fine
  backward_fine v done rest after others = others
  backward_fine v (one m k) rest after others =
      backward_fine v k _ after (assignment_fine v m.row m.known rest after others m.assignment m.saved)
  backward_fine v (fork f a b k) rest after others =
      backward_fine v k _ after
      (one_line tt (backward_fine v a done _ (one_line tt (backward_fine v b done _ (one_line tt others)))))
  backward_fine v (again l a k) rest after others =
      backward_fine v k _ after (one_line tt (backward_fine v a done _ (one_line tt others)))

  -- ---- the forward part saves before recorded assignments alone

  abbrev mark : ℕ → Assignment → Marked
  mark = mark_by (sets_of sheet)

  abbrev sheet_lines : List SheetLine
  sheet_lines = flat sheet.body []

  row_fine : (p : ℕ) (b : Assignment) (below : List SheetLine) → drop p sheet_lines ≡ basic b ∷ below → (rest : Table) (after : List TableLine)
      → AllFine (flat rest after) → AllFine (flat (forward_row (mark p b) rest) after)
  unfolding forward_row flat Fine FineAction mark_by
  row_fine p b below there rest after others = by_choice (recorded_in (sets_of sheet) p b) refl
    where
      by_choice : (choice : Bool) → recorded_in (sets_of sheet) p b ≡ choice
          → AllFine (flat (put_if choice (record { index = p }) saving (save (target_of b)) (put (record { index = p }) itself (assign b) rest)) after)
      by_choice true recorded =
          one_line
          (record {
            row = record { index = p };
            assignment = b;
            below = below;
            there = there;
            comes_from = refl;
            target = refl;
            recorded = recorded;
          })
          (one_line tt others)
      by_choice false recorded = one_line tt others

  -- a block of the sheet that stands at row p
  forward_fine : (t : Tree Assignment Test) (p : ℕ) (below : List SheetLine) → drop p sheet_lines ≡ flat t below
      → (rest : Table) (after : List TableLine) → AllFine (flat rest after) → AllFine (flat (forward_part (numbered mark t p) rest) after)
  unfolding numbered forward_part flat Fine FineAction
  forward_fine done p below there rest after others = others
  forward_fine (one b k) p below there rest after others =
      row_fine p b (flat k below) there _ after (forward_fine k (suc p) below (past_line sheet_lines p _ _ there) rest after others)
  forward_fine (fork f a b k) p below there rest after others =
      let at_a = past_line sheet_lines p _ _ there in
      let at_b = past_line sheet_lines (suc p + rows a) else_line _ (past_tree sheet_lines (suc p) a _ at_a) in
      let at_k = past_line sheet_lines (suc (suc p + rows a) + rows b) end_if _ (past_tree sheet_lines (suc (suc p + rows a)) b _ at_b) in
      one_line tt (forward_fine a (suc p) _ at_a _ _
      (one_line tt (one_line tt (forward_fine b _ _ at_b _ _
      (one_line tt (one_line tt (forward_fine k _ below at_k rest after others)))))))
  forward_fine (again l a k) p below there rest after others =
      let at_a = past_line sheet_lines p _ _ there in
      let at_k = past_line sheet_lines (suc p + rows a) end_repeat _ (past_tree sheet_lines (suc p) a _ at_a) in
      one_line tt (forward_fine a (suc p) _ at_a done _ (one_line tt (forward_fine k _ below at_k rest after others)))

  table_fine : AllFine (lines_of (table_by (sets_of sheet) sheet))
  unfolding lines_of table_by marked_by adjoint_table flat Fine FineAction
  table_fine = forward_fine sheet.body 0 [] refl _ [] (one_line tt (backward_fine (variables_of sheet) (marked_by (sets_of sheet) sheet) done [] no_line))

  pub saves_only_recorded : (i d : ℕ) (origin : Origin) (rest : List TableLine)
      → drop i (lines_of (table_by (sets_of sheet) sheet)) ≡ basic (record { origin = origin; action = save d }) ∷ rest → SavesRecorded sheet (sets_of sheet) origin d
  unfolding Fine FineAction
  saves_only_recorded i d origin rest there = table_fine.at i (basic (record { origin = origin; action = save d })) rest there
