-- A sheet row's rows in the tangent table: by what the row is to the blocks, before whatever follows, how many they are, and what they note.
use Prim.Native.Nat.{ℕ, ◌+◌, ◌*◌}
use mathlib.Core.Path.{◌≡◌, refl, sym, ap, ◌∙◌}
use mathlib.Core.Bool.{true, false, cond}
use mathlib.Core.List.{[], ◌∷◌, ◌++◌, append_assoc}
use lib.ListN.{length}
use native.Mathlib.Omega.{arith}
use Rattle.sheet.specs.Tree.{times, while, done, rows, basic, if_line, else_line, end_if, repeat, end_repeat}
use Rattle.sheet.specs.Rows.{◌≔◌, Assignment, less, Row, SheetLine, row_of, row_of_assignment, row_of_test, sheet_row_of}
use Rattle.sheet.specs.Inner.RowLines.{line_of_row, source_of}
use Rattle.sheet.specs.Inner.Kinds.{part_of, assigns}
use Rattle.sheet.specs.declared.kinds.Part.{Part}
use Rattle.sheet.specs.declared.kinds.Part.TheVariants as part
use Rattle.sheet.proofs.Depth.{deep}
use Rattle.sets.specs.Marks.{Marked}
use Rattle.sets.proofs.Truths.{never}
use Rattle.table.specs.TableRows.{Table, row_of_action, assign, itself}
use Rattle.table.specs.Adjoint.{put}
use Rattle.table.specs.Inner.MarkedRows.{rows_in, known_by, saved_by, any_row, source_said, SaysPart, MarkSays}
use Rattle.table.specs.Inner.MarkedRows as marked
use Rattle.table.proofs.AssignmentRows.{rows_of_put, rows_of_done}
use Rattle.table.proofs.LineRows.{target_said}
use Rattle.table.proofs.TableBounds.{EachRow, row_counted, row_flat}
use Rattle.table.proofs.TableLength.{table_rows_counted}
use Rattle.writer.specs.declared.jumps.Branching.{Branching}
use Rattle.writer.specs.Inner.JumpsNoted.{forward_branching}
use Rattle.writer.proofs.JumpLaws.{Ending, flat_ending, last_ending, ends_by}
use Rattle.tangent.specs.Tangent.{rate_rows, tangent_row, rate_count}
use Rattle.tangent.specs.Inner.TangentPlans.{line_count}
use Rattle.tangent.specs.Inner.TangentRowsWritten.{rates_of, tangent_of_line}
use Rattle.tangent.proofs.RateRows.{rates_before, rates_counted}

abbrev marked_as : (mark : ℕ) → Assignment → Marked
marked_as mark b = record { row = any_row; assignment = b; known = known_by mark; saved = saved_by mark }

-- ---- an assignment's rows

module _ (v : ℕ) where
  -- before the rest
  assignment_then : (m : Marked) (b : Assignment) → m.assignment ≡ b → (rest : Table)
      → rows_in (tangent_row v m rest) ≡ rows_in (rate_rows v b any_row m.known done) ++ (row_of_assignment b ∷ rows_in rest)
  unfolding tangent_row row_of_action
  assignment_then m (d ≔ source) is rest =
      ap (λ b. rows_in (rate_rows v b m.row m.known (put m.row itself (assign b) rest))) is
      ∙ rates_before v d source m.row m.known (put m.row itself (assign (d ≔ source)) rest)
      ∙ ap (λ rs. rows_in (rate_rows v (d ≔ source) any_row m.known done) ++ rs) (rows_of_put m.row itself (assign (d ≔ source)) rest)

  pub marked_tangent : {byte : ℕ} {b : Assignment} {m : Marked} → MarkSays byte b m → (rest : Table)
      → rows_in (tangent_row v m rest) ≡ tangent_of_line v byte (basic b) ++ rows_in rest
  unfolding tangent_of_line
  marked_tangent {byte} {b} {m} says rest =
      assignment_then m b says.assignment rest
      ∙ rw (says.known, assignment_then (marked_as byte b) b refl done, rows_of_done) (simp append_assoc)

  -- by whatever counts the same for each row: its rate rows, and the row itself
  pub assignment_counted : (weight : ℕ) (count : Table → ℕ) → EachRow weight count → (m : Marked) (b : Assignment) → m.assignment ≡ b → (rest : Table)
      → count (tangent_row v m rest) ≡ rate_count (source_of b) m.known * weight + (weight + count rest)
  unfolding tangent_row
  assignment_counted weight count each m (d ≔ source) is rest =
      ap (λ b. count (rate_rows v b m.row m.known (put m.row itself (assign b) rest))) is
      ∙ rates_counted v d weight count each source m.row m.known (put m.row itself (assign (d ≔ source)) rest)
      ∙ ap (λ n. rate_count source m.known * weight + n) (each _ rest)

-- ---- a line's rows

module _ (v mark : ℕ) where
  pub line_length : (l : SheetLine) → length (tangent_of_line v mark l) ≡ line_count (known_by mark) l
  unfolding tangent_of_line rows
  line_length (basic (d ≔ source)) =
      omega (
        arith,
        table_rows_counted (tangent_row v (marked_as mark (d ≔ source)) done),
        assignment_counted v 1 rows row_counted (marked_as mark (d ≔ source)) (d ≔ source) refl done,
      )
  line_length (if_line f) = refl
  line_length else_line = refl
  line_length end_if = refl
  line_length (repeat m) = refl
  line_length end_repeat = refl

  -- only the last is anything to the blocks
  line_ending : (l : SheetLine) → Ending (forward_branching (part_of l)) (tangent_of_line v mark l)
  unfolding tangent_of_line sheet_row_of row_of row_of_test deep
  line_ending (basic (d ≔ source)) =
      let t = tangent_row v (marked_as mark (d ≔ source)) done in
      flat_ending t (omega (arith, assignment_counted v 0 deep row_flat (marked_as mark (d ≔ source)) (d ≔ source) refl done))
      (omega (arith, line_length (basic (d ≔ source))))
  line_ending (if_line (less a b)) = last_ending _
  line_ending else_line = last_ending _
  line_ending end_if = last_ending _
  line_ending (repeat (times m)) = last_ending _
  line_ending (repeat (while (less a b) m)) = last_ending _
  line_ending end_repeat = last_ending _

-- ---- by what the code has found of the row

module _ {r : Row} {p : Part} (said : SaysPart r p) (v mark : ℕ) where
  line_by : tangent_of_line v mark (line_of_row r) ≡ cond (assigns p) (rates_of v r mark) [] ++ (r ∷ [])
  unfolding tangent_of_line rates_of marked.source_of
  line_by = by (line_of_row r) refl ∙ rw (sym said.is, said.says.back)
    where
      by : (l : SheetLine) → line_of_row r ≡ l → tangent_of_line v mark l ≡ cond (assigns (part_of l)) (rates_of v r mark) [] ++ (sheet_row_of l ∷ [])
      by (basic (d ≔ source)) e = assignment_then v (marked_as mark (d ≔ source)) (d ≔ source) refl done ∙ rw (rows_of_done, target_said said d source e, sym (ap source_said e))
      by (if_line f) e = refl
      by else_line e = refl
      by end_if e = refl
      by (repeat m) e = refl
      by end_repeat e = refl

  pub when_assigned : assigns p ≡ true → tangent_of_line v mark (line_of_row r) ≡ rates_of v r mark ++ (r ∷ [])
  when_assigned e = line_by ∙ rw e

  pub when_block : assigns p ≡ false → tangent_of_line v mark (line_of_row r) ≡ r ∷ []
  when_block e = line_by ∙ rw e

  pub line_ends : {what : Branching} → what ≡ forward_branching p → Ending what (tangent_of_line v mark (line_of_row r))
  line_ends = ends_by said forward_branching (tangent_of_line v mark) (line_ending v mark)

pub is_assignment : (p : Part) → assigns p ≡ true → p ≡ part.Assignment
is_assignment part.Assignment e = refl
is_assignment part.If e = never e
is_assignment part.Else e = never e
is_assignment part.EndIf e = never e
is_assignment part.Repeat e = never e
is_assignment part.EndRepeat e = never e
