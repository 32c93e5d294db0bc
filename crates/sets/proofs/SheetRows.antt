-- The rows of an accepted sheet: each says its line, and names nothing beyond a mask's bits.
use Prim.Native.Nat.{ℕ, suc, ◌+◌, ◌*◌, ◌≤◌, ◌<◌}
use native.Mathlib.Omega.{arith}
use mathlib.Core.Path.{◌≡◌, refl, sym, ap, ◌∙◌}
use mathlib.Core.Bool.{true, false}
use mathlib.Core.List.{List, []}
use lib.ListN.{length}
use Rattle.sheet.specs.Inner.Words.{word_values}
use Rattle.sheet.specs.Bounds.{limit}
use Rattle.sheet.specs.Tree.{Loop, times, while, Tree, done, one, fork, again, repeat, rows, flat}
use Rattle.sheet.specs.Rows.{Assignment, ◌≔◌, copy, fixed, sum, difference, product, negation, quotient, less, Test, SheetLine}
use Rattle.sheet.specs.Rows.{row_of_assignment, sheet_row_of, tree_rows}
use Rattle.sheet.specs.Inner.RowLines.{numbered_row}
use Rattle.sheet.specs.Inner.Kinds.{assigns, form_for, all_forms}
use Rattle.sheet.specs.declared.kinds.Form.{Form}
use Rattle.sheet.specs.Names.{SourcePresent, AssignmentPresent, Present}
use Rattle.sheet.specs.Sheets.{rows_at}
use Rattle.sheet.proofs.PartsRead.{form_there, form_in}
use Rattle.sheet.proofs.RowsByNumber.{StandsAt, tree_stands, stands_after, line_said, Each, rows_of_tree, tree_says, tree_each}
use Rattle.sets.specs.Inner.Masks.{mask_bits}
use Rattle.sets.specs.Inner.Operations.{InMask}
use Rattle.sets.specs.Inner.RowEquations.{line_in, RowReadable, AllReadable, FitsMask, KindRead, Formed}
use Rattle.sets.proofs.RowByRow.{LinesAt}

-- ---- rows by number

lines_part : (words : List ℕ) (first : ℕ) (t : Tree Assignment Test) (p : ℕ) (rest : List SheetLine) → StandsAt words first (flat t rest) p
    → LinesAt (line_in words first) t p
unfolding StandsAt flat rows LinesAt
lines_part words first done p rest s = tt
lines_part words first (one b k) p rest s = (line_said s.0, lines_part words first k (suc p) rest s.1)
lines_part words first (fork f a b k) p rest s =
    let split = stands_after words first a _ (suc p) refl s.1 in
    let end = stands_after words first b _ (suc (suc p + rows a)) refl split.1 in (
      line_said s.0,
      lines_part words first a (suc p) _ s.1,
      line_said split.0,
      lines_part words first b (suc (suc p + rows a)) _ split.1,
      line_said end.0,
      lines_part words first k (suc (suc (suc p + rows a) + rows b)) rest end.1,
    )
lines_part words first (again m a k) p rest s =
    let end = stands_after words first a _ (suc p) refl s.1 in
    (line_said s.0, lines_part words first a (suc p) _ s.1, line_said end.0, lines_part words first k (suc (suc p + rows a)) rest end.1)

pub lines_at : (words : List ℕ) (first n : ℕ) (t : Tree Assignment Test) → tree_rows t ≡ rows_at words first n → LinesAt (line_in words first) t 0
lines_at words first n t e = lines_part words first t 0 [] (tree_stands words first n t e)

-- ---- every row

-- what the table has for a row's kind is the row's form
pub form_read : {words : List ℕ} {first p kind : ℕ} {forms : List Form} → forms ≡ all_forms → KindRead words first p kind
    → Formed words first p (form_in forms kind)
form_read table read = form_there _ _ _ table read.in_table ∙ ap form_for read.is

-- an assignment's words are bits of a mask
pub in_mask : {words : List ℕ} {first n p : ℕ} {form : Form} → AllReadable words first n → p < n → Formed words first p form → assigns form.3 ≡ true
    → InMask (numbered_row words first p)
in_mask readable h formed assigned = (readable _ h).small (ap assigns (ap (λ f. f.3) (sym formed)) ∙ assigned)

not_true : false ≡ true → ⊥
not_true e = let z : ◌≡◌ {A = ℕ} 0 1 = cc in omega arith

abbrev SmallLine : SheetLine → Type 0
SmallLine l = FitsMask (sheet_row_of l)

module _ (v k : ℕ) (vs : v ≤ mask_bits) (ks : k ≤ mask_bits) where
  -- v variables and k constants are few enough for a mask
  assignment_small : (b : Assignment) → AssignmentPresent v k b → InMask (row_of_assignment b)
  unfolding AssignmentPresent SourcePresent row_of_assignment
  assignment_small (d ≔ copy a) h = record { d = omega (arith, h); a = omega (arith, h); b = omega arith }
  assignment_small (d ≔ fixed a) h = record { d = omega (arith, h); a = omega (arith, h); b = omega arith }
  assignment_small (d ≔ sum a b) h = record { d = omega (arith, h); a = omega (arith, h); b = omega (arith, h) }
  assignment_small (d ≔ difference a b) h = record { d = omega (arith, h); a = omega (arith, h); b = omega (arith, h) }
  assignment_small (d ≔ product a b) h = record { d = omega (arith, h); a = omega (arith, h); b = omega (arith, h) }
  assignment_small (d ≔ negation a) h = record { d = omega (arith, h); a = omega (arith, h); b = omega arith }
  assignment_small (d ≔ quotient a b) h = record { d = omega (arith, h); a = omega (arith, h); b = omega (arith, h) }

  loop_small : (l : Loop Test) → SmallLine (repeat l)
  unfolding sheet_row_of form_for
  loop_small (times m) z = absurd (not_true z)
  loop_small (while (less x y) m) z = absurd (not_true z)

  tree_small : (t : Tree Assignment Test) (rest : List SheetLine) → Present v k t → Each SmallLine rest → Each SmallLine (flat t rest)
  unfolding flat Present sheet_row_of form_for
  tree_small done rest n h = h
  tree_small (one b t) rest n h = (λ z. assignment_small b n.0, tree_small t rest n.1 h)
  tree_small (fork (less x y) a b t) rest n h = (
    λ z. absurd (not_true z),
    tree_small a _ n.1
        (λ z. absurd (not_true z), tree_small b _ n.2 (λ z. absurd (not_true z), tree_small t rest n.3 h)),
  )
  tree_small (again l a t) rest n h =
      (loop_small l, tree_small a _ n.0 (λ z. absurd (not_true z), tree_small t rest n.1 h))

  pub rows_readable : (words : List ℕ) (first n : ℕ) (t : Tree Assignment Test) → tree_rows t ≡ rows_at words first n → Present v k t
      → (p : ℕ) → p < rows t → p < word_values → first + (p + 1) * limit.row_words ≤ length words → RowReadable words first p
  rows_readable words first n t e present p below numbered there =
      let says = tree_says words first n t e p (omega (arith, rows_of_tree words first n t e)) in
      let small = tree_each SmallLine words first n t e (tree_small t [] present tt) p below in
      record { says = says; small = rw says.back at small; numbered = numbered; there = there }
