-- What the code learns of a sheet row from what it is to the blocks: the line that it says, and that line's rows in both parts of the table.
use Prim.Native.Nat.{ℕ, suc}
use mathlib.Core.Path.{◌≡◌, refl, sym, ap, ◌∙◌, subst}
use mathlib.Core.Bool.{Bool}
use mathlib.Core.List.{List, [], ◌∷◌, ◌++◌}
use native.Mathlib.Omega.{arith}
use Rattle.sheet.specs.Tree.{Loop, times, while, loop_by, basic, if_line, else_line, end_if, repeat, end_repeat}
use Rattle.sheet.specs.Rows.{Assignment, Source, copy, fixed, sum, difference, product, negation, quotient, Test, Row, SheetLine, row_of, row_of_assignment, sheet_row_of, ◌≔◌}
use Rattle.sheet.specs.Inner.RowLines.{line_of_row, SaysLine}
use Rattle.sheet.specs.Inner.Kinds.{part_of, part_for}
use Rattle.sheet.specs.declared.kinds.Part.{Part}
use Rattle.sheet.specs.declared.kinds.Part.TheVariants as part
use Rattle.sheet.proofs.LinesByPart.{row_part}
use Rattle.sets.specs.Marks.{test_at}
use Rattle.table.specs.TableRows.{table_row_of, whether, on_turn, row_of_action, row_of_table_test}
use Rattle.table.specs.Adjoint.{forward_row}
use Rattle.table.specs.Inner.MarkedRows.{row_with, row_if, saved_by, Assigns, SaysPart, source_said, source_of, assignment_back, loop_back, forward_of_line, backward_of_line}
use Rattle.table.proofs.AssignmentRows.{rows_of_put, rows_of_put_if, rows_of_done}

-- ---- the line that a row says

-- what a row is to the blocks, from the table of kinds
pub says_part : (r : Row) (p : Part) → SaysLine r → p ≡ part_for r.kind → SaysPart r p
says_part r p says e = record { says = says; is = e ∙ sym (row_part says) }

target_of : (d : ℕ) (source : Source) → (sheet_row_of (basic (d ≔ source))).d ≡ d
unfolding sheet_row_of row_of row_of_assignment
target_of d (copy a) = refl
target_of d (fixed a) = refl
target_of d (sum a b) = refl
target_of d (difference a b) = refl
target_of d (product a b) = refl
target_of d (negation a) = refl
target_of d (quotient a b) = refl

assigned_kind : (b : Assignment) → Assigns (sheet_row_of (basic b)).kind
unfolding sheet_row_of row_of row_of_assignment
assigned_kind (d ≔ copy a) = record { some = omega arith; most = λ other. omega arith }
assigned_kind (d ≔ fixed a) = record { some = omega arith; most = λ other. omega arith }
assigned_kind (d ≔ sum a b) = record { some = omega arith; most = λ other. omega arith }
assigned_kind (d ≔ difference a b) = record { some = omega arith; most = λ other. omega arith }
assigned_kind (d ≔ product a b) = record { some = omega arith; most = λ other. omega arith }
assigned_kind (d ≔ negation a) = record { some = omega arith; most = λ other. omega arith }
assigned_kind (d ≔ quotient a b) = record { some = omega arith; most = λ other. absurd (other refl) }

module _ {r : Row} {p : Part} (s : SaysPart r p) where
  row_again : (l : SheetLine) → line_of_row r ≡ l → sheet_row_of l ≡ r
  row_again l e = ap sheet_row_of (sym e) ∙ s.says.back

  -- an assignment's d is its row's
  pub target_said : (d : ℕ) (source : Source) → line_of_row r ≡ basic (d ≔ source) → d ≡ r.d
  target_said d source e = sym (target_of d source) ∙ ap (λ x. x.d) (row_again (basic (d ≔ source)) e)

  pub says_assigns : p ≡ part.Assignment → Assigns r.kind
  says_assigns e = by (line_of_row r) refl (sym s.is ∙ e)
    where
      by : (l : SheetLine) → line_of_row r ≡ l → part_of l ≡ part.Assignment → Assigns r.kind
      by (basic b) e h = subst (λ x. Assigns x.kind) (row_again (basic b) e) (assigned_kind b)
      by (if_line f) e h = let z : ◌≡◌ {A = ℕ} 0 1 = cc in absurd (omega arith)
      by else_line e h = let z : ◌≡◌ {A = ℕ} 0 1 = cc in absurd (omega arith)
      by end_if e h = let z : ◌≡◌ {A = ℕ} 0 1 = cc in absurd (omega arith)
      by (repeat m) e h = let z : ◌≡◌ {A = ℕ} 0 1 = cc in absurd (omega arith)
      by end_repeat e h = let z : ◌≡◌ {A = ℕ} 0 1 = cc in absurd (omega arith)

-- ---- its rows forward

-- what is saved before a row: d, or the turn at a branch's end
abbrev saved_first : Bool → SheetLine → List Row
saved_first saved (basic (d ≔ source)) = row_if saved (row_with 12 d 0 0)
saved_first saved (if_line f) = []
saved_first saved else_line = row_with 14 0 1 0 ∷ []
saved_first saved end_if = row_with 14 0 0 0 ∷ []
saved_first saved (repeat m) = []
saved_first saved end_repeat = []

forward_split : (mark : ℕ) (l : SheetLine) → forward_of_line mark l ≡ saved_first (saved_by mark) l ++ (sheet_row_of l ∷ [])
unfolding forward_of_line forward_row row_of_action table_row_of sheet_row_of row_of
forward_split mark (basic (d ≔ source)) = rw (rows_of_put_if (saved_by mark), rows_of_put, rows_of_done)
forward_split mark (if_line f) = refl
forward_split mark else_line = refl
forward_split mark end_if = refl
forward_split mark (repeat m) = refl
forward_split mark end_repeat = refl

-- by what the row is to the blocks
abbrev pub forward_for : Part → Bool → Row → List Row
forward_for part.Assignment saved r = row_if saved (row_with 12 r.d 0 0) ++ (r ∷ [])
forward_for part.If saved r = r ∷ []
forward_for part.Else saved r = row_with 14 0 1 0 ∷ r ∷ []
forward_for part.EndIf saved r = row_with 14 0 0 0 ∷ r ∷ []
forward_for part.Repeat saved r = r ∷ []
forward_for part.EndRepeat saved r = r ∷ []

pub forward_by : {r : Row} {p q : Part} → SaysPart r p → p ≡ q → (mark : ℕ) {saved : Bool} → saved ≡ saved_by mark
    → forward_of_line mark (line_of_row r) ≡ forward_for q saved r
forward_by {r} {p} {q} s told mark {saved} e =
    forward_split mark (line_of_row r)
    ∙ ap (λ x. saved_first (saved_by mark) (line_of_row r) ++ (x ∷ [])) s.says.back
    ∙ by (line_of_row r) refl
    ∙ rw (sym e, sym s.is ∙ told)
  where
    by : (l : SheetLine) → line_of_row r ≡ l → saved_first (saved_by mark) l ++ (r ∷ []) ≡ forward_for (part_of l) (saved_by mark) r
    by (basic (d ≔ source)) e = rw (target_said s d source e)
    by (if_line f) e = refl
    by else_line e = refl
    by end_if e = refl
    by (repeat m) e = refl
    by end_repeat e = refl

-- ---- its rows backward

abbrev pub backward_for : (variables mark turns : ℕ) → Part → Row → List Row
backward_for v mark turns part.Assignment r = assignment_back v r mark
backward_for v mark turns part.If r = row_with 8 0 0 0 ∷ []
backward_for v mark turns part.Else r = row_with 9 0 0 0 ∷ []
backward_for v mark turns part.EndIf r = row_with 15 0 0 0 ∷ []
backward_for v mark turns part.Repeat r = row_with 11 0 0 0 ∷ []
backward_for v mark turns part.EndRepeat r = loop_back turns ∷ []

pub backward_by : {r : Row} {p q : Part} → SaysPart r p → p ≡ q → (v mark turns : ℕ)
    → backward_of_line v mark turns (line_of_row r) ≡ backward_for v mark turns q r
unfolding backward_of_line assignment_back source_of table_row_of row_of row_of_table_test
backward_by {r} {p} {q} s told v mark turns = by (line_of_row r) refl ∙ rw (sym s.is ∙ told)
  where
    by : (l : SheetLine) → line_of_row r ≡ l → backward_of_line v mark turns l ≡ backward_for v mark turns (part_of l) r
    by (basic (d ≔ source)) e = rw (target_said s d source e, sym (ap source_said e))
    by (if_line f) e = refl
    by else_line e = refl
    by end_if e = refl
    by (repeat m) e = refl
    by end_repeat e = refl

-- ---- a loop's first row, as the tree has it

pub loop_forward : (p : ℕ) (l : Loop Test) → table_row_of (repeat (loop_by (λ f. whether f.test) (loop_by (test_at p) l))) ≡ sheet_row_of (repeat l)
unfolding table_row_of sheet_row_of
loop_forward p (times m) = refl
loop_forward p (while f m) = refl

-- the turns that it says in the backward part
abbrev pub turns_said : {F : Type 0} → Loop F → ℕ
turns_said (times m) = suc m
turns_said (while f m) = 0

pub loop_backward : (p : ℕ) (l : Loop Test) → table_row_of (repeat (loop_by (λ f. on_turn) (loop_by (test_at p) l))) ≡ loop_back (turns_said l)
unfolding table_row_of
loop_backward p (times m) = refl
loop_backward p (while f m) = refl
