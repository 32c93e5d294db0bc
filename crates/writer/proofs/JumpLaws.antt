-- What the writer notes of the table's jumps: by one row, over rows one after another, and over one sheet row's rows in either part.
use Prim.Native.Nat.{ℕ, zero, suc, ◌+◌, ◌-◌, ◌≤◌}
use mathlib.Core.Path.{◌≡◌, refl, sym, ap, ◌∙◌, subst}
use mathlib.Core.Bool.{Bool, true, false}
use mathlib.Core.List.{List, [], ◌∷◌, ◌++◌}
use lib.ListN.{length, get_or, set, length-append}
use native.Mathlib.Omega.{arith}
use Rattle.sheet.specs.Tree.{times, while, done, one, fork, again, flat, basic, if_line, else_line, end_if, repeat, end_repeat}
use Rattle.sheet.specs.Rows.{Row, SheetLine, Assignment, row_of, row_of_assignment, row_of_test, sheet_row_of, less, ◌≔◌, copy, fixed, sum, difference, product, negation, quotient}
use Rattle.sheet.specs.Inner.RowLines.{line_of_row}
use Rattle.sheet.specs.Inner.Kinds.{part_of}
use Rattle.sheet.specs.declared.kinds.Part.{Part}
use Rattle.sheet.proofs.Depth.{deep}
use Rattle.sets.specs.Transfers.{Activity}
use Rattle.sets.specs.Marks.{Marked}
use Rattle.table.specs.TableRows.{Action, assign, save, take_back, save_turn, clear, turn_round, Table, lines_of, table_row_of, row_of_action, row_of_table_test}
use Rattle.table.specs.Adjoint.{forward_row, derivative_rows, backward_of}
use Rattle.table.specs.Inner.MarkedRows.{row_with, rows_in, known_by, saved_by, any_row, SaysPart, forward_of_line, backward_of_line}
use Rattle.writer.specs.declared.jumps.Branching.{Branching}
use Rattle.writer.specs.declared.jumps.Branching.TheVariants as branching
use Rattle.writer.specs.declared.rows.TableOut.{TableOut}
use Rattle.writer.specs.Inner.RowsWritten.{Wrote, Put}
use Rattle.writer.specs.Inner.JumpsNoted.{Noting, noting, noted_by, branching_of, noted_over, forward_branching, backward_branching, rows_before, RowEnds, Numbered, PutNoted}
use Rattle.table.proofs.TableBounds.{row_flat, backward_row, forward_row_lem}
use Rattle.writer.proofs.WritingLaws.{put_then}
use Rattle.writer.proofs.TableTree.{rows_of_one}

-- ---- one row, by the cases that the code tells apart

rows_next : (place : ℕ) → RowEnds place → suc (rows_before place - 1) ≡ rows_before place
rows_next place ends = omega (arith, ends.some)

module _ (what : Branching) (place top : ℕ) (before : List ℕ) {behind : ℕ} (at : behind ≡ rows_before place) where
  pub branch_opens : what ≡ branching.Opens → {after : List ℕ} → after ≡ set before (behind - 1) top
      → noting (behind - 1) after ≡ noted_by what (rows_before place - 1) (noting top before)
  unfolding noted_by
  branch_opens told stored = rw (told, stored, at)

  module _ (ends : RowEnds place) {outer : ℕ} (is : outer ≡ get_or before top 0) where
    pub branch_splits : what ≡ branching.Splits → {closed after : List ℕ} → closed ≡ set before top behind → after ≡ set closed (behind - 1) outer
        → noting (behind - 1) after ≡ noted_by what (rows_before place - 1) (noting top before)
    unfolding noted_by
    branch_splits told first second = rw (told, rows_next place ends, second, first, is, at)

    pub branch_closes : what ≡ branching.Closes → {after : List ℕ} → after ≡ set before top behind
        → noting outer after ≡ noted_by what (rows_before place - 1) (noting top before)
    unfolding noted_by
    branch_closes told stored = rw (told, rows_next place ends, stored, is, at)

pub branch_passes : {what : Branching} → what ≡ branching.Passes → (p : ℕ) (s : Noting) → s ≡ noted_by what p s
unfolding noted_by
branch_passes told p s = rw told

-- ---- rows one after another

pub noted_both : (rs rs' : List Row) (p : ℕ) (s : Noting) → noted_over (rs ++ rs') p s ≡ noted_over rs' (p + length rs) (noted_over rs p s)
unfolding noted_over
noted_both [] rs' p s = let here : p + 0 ≡ p = omega arith in rw here
noted_both (r ∷ rs) rs' p s =
    let on : p + suc (length rs) ≡ suc p + length rs = omega arith in
    rw on (noted_both rs rs' (suc p) (noted_by (branching_of r.kind) p s))

-- an action neither opens a block nor ends one
pub action_passes : (a : Action) (p : ℕ) (s : Noting) → noted_by (branching_of (row_of_action a).kind) p s ≡ s
unfolding noted_by row_of_action row_of_assignment
action_passes (assign (d ≔ copy x)) p s = refl
action_passes (assign (d ≔ fixed x)) p s = refl
action_passes (assign (d ≔ sum x y)) p s = refl
action_passes (assign (d ≔ difference x y)) p s = refl
action_passes (assign (d ≔ product x y)) p s = refl
action_passes (assign (d ≔ negation x)) p s = refl
action_passes (assign (d ≔ quotient x y)) p s = refl
action_passes (save d) p s = refl
action_passes (take_back d) p s = refl
action_passes (save_turn first) p s = refl
action_passes (clear d) p s = refl
action_passes turn_round p s = refl

-- rows without blocks note nothing
flat_passes : (t : Table) → deep t ≤ 0 → (p : ℕ) (s : Noting) → noted_over (rows_in t) p s ≡ s
unfolding noted_over deep rows_in
flat_passes done h p s = refl
flat_passes (one b k) h p s =
    ap (λ rs. noted_over rs p s) (rows_of_one b k) ∙ flat_passes k h (suc p) (noted_by (branching_of (row_of_action b.action).kind) p s)
    ∙ action_passes b.action p s
flat_passes (fork f a b k) h p s = absurd (omega arith)
flat_passes (again m a k) h p s = absurd (omega arith)

-- ---- one sheet row's rows

-- some rows of which only the last is anything to the blocks
pub record Ending (what : Branching) (rs : List Row) : Type 0 where
  pub some : 1 ≤ length rs
  pub notes : (p : ℕ) (s : Noting) → noted_over rs p s ≡ noted_by what (p + length rs - 1) s

-- nothing, if none of them is
pub flat_ending : (t : Table) → deep t ≤ 0 → 1 ≤ length (rows_in t) → Ending branching.Passes (rows_in t)
unfolding noted_by
flat_ending t h some = record { some = some; notes = flat_passes t h }

pub last_ending : (r : Row) → Ending (branching_of r.kind) (r ∷ [])
unfolding noted_over
last_ending r = record { some = omega arith; notes = λ p s. let here : p + 1 - 1 ≡ p = omega arith in rw here }

turn_ending : (first : Bool) (r : Row) → Ending (branching_of r.kind) (row_of_action (save_turn first) ∷ r ∷ [])
unfolding noted_over row_of_action
turn_ending first r =
    record {
      some = omega arith;
      notes = λ p s. let here : p + 2 - 1 ≡ suc p = omega arith in rw here (ap (noted_by (branching_of r.kind) (suc p)) (action_passes (save_turn first) p s));
    }

module _ (mark : ℕ) where
  abbrev marked_by : Assignment → (saved : Bool) → Marked
  marked_by b saved = record { row = any_row; assignment = b; known = known_by mark; saved = saved }

  some_forward : (b : Assignment) (saved : Bool) → 1 ≤ length (rows_in (forward_row (marked_by b saved) done))
  unfolding forward_row rows_in lines_of flat
  some_forward b true = omega arith
  some_forward b false = omega arith

  forward_ending : (l : SheetLine) → Ending (forward_branching (part_of l)) (forward_of_line mark l)
  unfolding forward_of_line table_row_of sheet_row_of row_of row_of_test deep
  forward_ending (basic b) =
      let m = marked_by b (saved_by mark) in
      flat_ending (forward_row m done) (omega (arith, (forward_row_lem 0 deep row_flat m).few done)) (some_forward b (saved_by mark))
  forward_ending (if_line (less a b)) = last_ending _
  forward_ending else_line = turn_ending true _
  forward_ending end_if = turn_ending false _
  forward_ending (repeat (times m)) = last_ending _
  forward_ending (repeat (while (less a b) m)) = last_ending _
  forward_ending end_repeat = last_ending _

  some_backward : (v : ℕ) (b : Assignment) (saved active : Bool) (known : Activity) → known.active ≡ active
      → 1 ≤ length (rows_in (backward_of v b any_row known saved done))
  unfolding backward_of derivative_rows rows_in lines_of flat
  some_backward v (d ≔ source) true active known is = omega arith
  some_backward v (d ≔ source) false true known is = rw is (omega arith)
  some_backward v (d ≔ source) false false known is = rw is (omega arith)

  backward_ending : (v turns : ℕ) (l : SheetLine) → Ending (backward_branching (part_of l)) (backward_of_line v mark turns l)
  unfolding backward_of_line table_row_of row_of row_of_table_test deep
  backward_ending v turns (basic b) =
      flat_ending (backward_of v b any_row (known_by mark) (saved_by mark) done)
      (omega (arith, (backward_row 0 deep row_flat v b any_row (known_by mark) (saved_by mark)).few done))
      (some_backward v b (saved_by mark) _ (known_by mark) refl)
  backward_ending v turns (if_line f) = last_ending _
  backward_ending v turns else_line = last_ending _
  backward_ending v turns end_if = last_ending _
  backward_ending v turns (repeat m) = last_ending _
  backward_ending v zero end_repeat = last_ending _
  backward_ending v (suc m) end_repeat = last_ending _

-- by what the code has found of the row
pub ends_by : {r : Row} {p : Part} → SaysPart r p → {what : Branching} (branching_for : Part → Branching) (rows_for : SheetLine → List Row)
    → ((l : SheetLine) → Ending (branching_for (part_of l)) (rows_for l)) → what ≡ branching_for p → Ending what (rows_for (line_of_row r))
ends_by {r} said branching_for rows_for ending e = rw (e, said.is) (ending (line_of_row r))

module _ {r : Row} {p : Part} (said : SaysPart r p) {what : Branching} (mark : ℕ) where
  pub forward_ends : what ≡ forward_branching p → Ending what (forward_of_line mark (line_of_row r))
  forward_ends = ends_by said forward_branching (forward_of_line mark) (forward_ending mark)

  pub backward_ends : (v turns : ℕ) → what ≡ backward_branching p → Ending what (backward_of_line v mark turns (line_of_row r))
  backward_ends v turns = ends_by said backward_branching (backward_of_line v mark turns) (backward_ending mark v turns)

-- ---- a loop that writes rows: where the rest leads from here is where all of them lead from the start
pub record Jumping (all : List Row) (place : ℕ) (start : Noting) (rest : List Row) (reached : ℕ) (s : Noting) : Type 0 where
  pub numbered : Numbered reached rest
  pub leads : noted_over rest (rows_before reached) s ≡ noted_over all (rows_before place) start

pub jumping_start : {all rest : List Row} {place : ℕ} (start : Noting) → rest ≡ all → Numbered place all → Jumping all place start rest place start
jumping_start {all} {rest} {place} start e numbered =
    record { numbered = subst (Numbered place) (sym e) numbered; leads = ap (λ rs. noted_over rs (rows_before place) start) e }

-- how many rows stand before the place after some
rows_after : {l l' : List ℕ} {q r : ℕ} {rs : List Row} (rest : List Row) → Numbered q (rs ++ rest) → Wrote l q rs l' r
    → rows_before r ≡ rows_before q + length rs
rows_after {q = q} {rs = rs} rest numbered w = omega (arith, numbered.begins, w.place_after)

pub numbered_first : {place : ℕ} (rs rs' : List Row) → Numbered place (rs ++ rs') → Numbered place rs
numbered_first rs rs' n = record { begins = n.begins; few = omega (arith, n.few, length-append rs rs') }

pub numbered_after : {l l' : List ℕ} {q r : ℕ} {rs : List Row} (rest : List Row) → Wrote l q rs l' r → Numbered q (rs ++ rest) → Numbered r rest
numbered_after {rs = rs} rest w n =
    record {
      begins = omega (arith, n.begins, w.place_after);
      few = omega (arith, n.few, rows_after rest n w, length-append rs rest);
    }

module _ {all rest : List Row} {place q : ℕ} {start s : Noting} (j : Jumping all place start rest q s)
    {l l' : List ℕ} {r : ℕ} {rs : List Row} (rest' : List Row) (e : rest ≡ rs ++ rest') (w : Wrote l q rs l' r) {what : Branching} (ending : Ending what rs) where
  here : Numbered q (rs ++ rest')
  here = subst (Numbered q) e j.numbered

  pub row_ends : RowEnds r
  row_ends =
      record {
        some = omega (arith, w.place_after, here.begins, ending.some);
        few = omega (arith, here.begins, here.few, w.place_after, length-append rs rest');
      }

  pub jumping_next : {s' : Noting} → s' ≡ noted_by what (rows_before r - 1) s → Jumping all place start rest' r s'
  jumping_next {s'} noted =
      let after = rows_after rest' here w in
      let last : rows_before r - 1 ≡ rows_before q + length rs - 1 = omega arith in
      record {
        numbered = numbered_after rest' w here;
        leads =
            ap (noted_over rest' (rows_before r)) (noted ∙ ap (λ p. noted_by what p s) last ∙ sym (ending.notes (rows_before q) s))
            ∙ ap (λ p. noted_over rest' p (noted_over rs (rows_before q) s)) after ∙ sym (noted_both rs rest' (rows_before q) s)
            ∙ ap (λ rows. noted_over rows (rows_before q) s) (sym e) ∙ j.leads;
      }

pub jumping_end : {all rest : List Row} {place q : ℕ} {start s : Noting} → Jumping all place start rest q s → rest ≡ [] → s ≡ noted_over all (rows_before place) start
unfolding noted_over
jumping_end {q = q} {s = s} j e = ap (λ rs. noted_over rs (rows_before q) s) (sym e) ∙ j.leads

-- ---- the parts one after another

pub noted_then : {before between after : TableOut} {rs rs' : List Row} {s s' s'' : Noting} → Numbered before.place (rs ++ rs')
    → PutNoted before rs between s s' → PutNoted between rs' after s' s'' → PutNoted before (rs ++ rs') after s s''
noted_then {before} {between} {rs = rs} {rs' = rs'} {s = s} numbered p p' =
    record {
      put = put_then p.put p'.put;
      noted =
          p'.noted ∙ ap (noted_over rs' (rows_before between.place)) p.noted
          ∙ ap (λ n. noted_over rs' n (noted_over rs (rows_before before.place) s)) (rows_after rs' numbered p.put.wrote)
          ∙ sym (noted_both rs rs' (rows_before before.place) s);
    }

-- row 17 is nothing to the blocks
pub turn_noted : {before after : TableOut} (s : Noting) → Put before (row_with 17 0 0 0 ∷ []) after → PutNoted before (row_with 17 0 0 0 ∷ []) after s s
unfolding noted_over
turn_noted s p = record { put = p; noted = refl }
