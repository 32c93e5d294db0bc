-- What mark says, from the reader's answer and from what marking an accepted sheet finds and leaves; what the reader's answer then is; and that it
-- says one thing only.
use Prim.Native.Nat.{ℕ, suc, ◌+◌, ◌≤◌, ◌<◌}
use Rattle.std.specs.Prelude.{Err, Ok, Result}
use native.Mathlib.Omega.{arith}
use native.Mathlib.Numerals.{add-one}
use mathlib.Core.Path.{◌≡◌, sym, ap, subst, ◌∙◌}
use mathlib.Core.List.{List, ◌++◌}
use lib.ListN.{length, take, drop, replicate, length-take}
use lib.Seq.{take_all}
use Rattle.sheet.specs.Bounds.{limit}
use Rattle.sheet.specs.Judging.{Answer, refused, given, ◌>>=◌}
use Rattle.sheet.specs.Sheets.{Sheet}
use Rattle.sheet.specs.Reading.{read}
use Rattle.sheet.specs.Answers.{refusal_of, said, shape_of, shape_read}
use Rattle.sheet.specs.declared.No.{No}
use Rattle.sheet.specs.declared.Shape.{Shape}
use Rattle.sheet.proofs.ReadingParts.{bound, same_given}
use Rattle.sheet.proofs.ReaderLaws.{accepted_shape, same_said}
use Rattle.sets.specs.declared.Ends.{Ends}
use Rattle.sets.specs.VariableSets.{VariableSet, empty}
use Rattle.sets.specs.MarkBytes.{mark_bytes}
use Rattle.sets.specs.Calls.{Lent, lent, SheetMarks, MarksSaid, ends_of, ShapeAndEnds, marking_said, marking_read}
use Rattle.sets.specs.Inner.PartnerPass.{PartnersFound}
use Rattle.sets.specs.Inner.RowEquations.{line_in}
use Rattle.sets.specs.Inner.Laid.{Laid, AllMarked}
use Rattle.sets.proofs.MarkByteLaws.{written_first}
use Rattle.sets.proofs.MarksListed.{bytes_counted}
use Rattle.sets.proofs.Seeds.{clear_first}
use Rattle.sets.proofs.SheetMarked.{facts, partners_right}

-- an accepted shape says where its sheet is laid
pub accepted_laid : (words : List ℕ) (r : Result Shape No) (shape : Shape) → said r ≡ shape_read words → r ≡ Ok shape
    → Laid words shape.variables shape.first_row shape.rows
accepted_laid words r shape contract is =
    let shaped = accepted_shape words r shape contract is in
    record {
      sheet = shaped.sheet;
      accepted = shaped.is;
      variables_are = sym shaped.variables;
      first_is = omega (arith, shaped.first_row, shaped.variables, shaped.constants);
      rows_are = sym shaped.rows_of_tree;
    }

module _ {words : List ℕ} {variables first count : ℕ} (laid : Laid words variables first count) where
  -- the sets' room: a point before each row and one after the last
  pub few_points : count ≤ limit.rows
  few_points = (facts words variables first count laid).few_rows

  pub first_points : (sets : List VariableSet) → limit.rows < length sets → length (take (count + 1) sets) ≡ suc count
  first_points sets long = let few = few_points in simp length-take (omega arith)

  pub first_clear : take (count + 1) (replicate (limit.rows + 1) empty) ≡ replicate (suc count) empty
  first_clear = clear_first (count + 1) (limit.rows + 1) (omega (arith, few_points)) ∙ ap (λ m. replicate m empty) (add-one count)

  -- what marking leaves, whichever sheet the words are said to be
  pub sheet_marks : (v u r : List VariableSet) (marks came goes marks' came' goes' : List ℕ) → count ≤ length marks → count ≤ length came
      → count ≤ length goes → AllMarked words count v u r marks marks' → PartnersFound (line_in words first) count came goes came' goes'
      → (sheet : Sheet) → read words ≡ given sheet → SheetMarks sheet (lent marks came goes) (lent marks' came' goes')
  sheet_marks v u r marks came goes marks' came' goes' long_marks long_came long_goes all_marked found sheet e =
      let right = partners_right words variables first count laid came goes came' goes' found long_came long_goes in
      let bytes = mark_bytes laid.sheet in
      let counted : count ≡ length bytes = laid.rows_are ∙ sym (bytes_counted laid.sheet) in
      let wrote : marks' ≡ bytes ++ drop count marks =
      (all_marked laid.sheet laid.accepted).marks_left ∙ written_first bytes count marks (omega arith) long_marks
      ∙ ap (λ bs. bs ++ drop count marks) (take_all count bytes (omega arith)) in
      subst (λ s. SheetMarks s (lent marks came goes) (lent marks' came' goes')) (same_given (sym laid.accepted ∙ e))
      (record {
        marks = rw (sym laid.rows_are) wrote;
        came_from = right.came_from;
        goes_to = right.goes_to;
        came = right.came_is;
        goes = right.goes_is;
      })

-- ---- the answer

module _ (words : List ℕ) where
  pub refused_marking : (why : No) → read words ≡ refused (refusal_of why) → marking_said (Err why) ≡ marking_read words
  unfolding marking_read
  refused_marking why e = rw e

  pub accepted_marking : (shape : Shape) (ends : Ends) (sheet : Sheet) → read words ≡ given sheet → given shape ≡ shape_read words → ends ≡ ends_of sheet
      → marking_said (Ok (shape, ends)) ≡ marking_read words
  unfolding marking_read shape_read
  accepted_marking shape ends sheet e shaped found =
      let shapes : ◌≡◌ {A = Answer Shape} (given shape) (given (shape_of sheet)) = rw e at shaped in
      rw (e, same_given shapes, found)

  -- what the reader's answer then is
  pub marking_refuses : (r : Result (Shape × Ends) No) (why : No) → marking_said r ≡ marking_read words → r ≡ Err why → read words ≡ refused (refusal_of why)
  unfolding marking_read
  marking_refuses r why contract is = stopped (read words) (sym contract ∙ ap marking_said is)
    where
      stopped : (answer : Answer Sheet) → ◌>>=◌ {B = ShapeAndEnds} answer (λ sheet. given (record { shape = shape_of sheet; ends = ends_of sheet })) ≡ refused (refusal_of why)
          → answer ≡ refused (refusal_of why)
      stopped (refused r) e = cc
      stopped (given sheet) e = let z : ◌≡◌ {A = ℕ} 0 1 = cc in absurd (omega arith)

  pub marking_shape : (r : Result (Shape × Ends) No) (shape : Shape) (ends : Ends) → marking_said r ≡ marking_read words → r ≡ Ok (shape, ends)
      → shape_read words ≡ given shape
  unfolding marking_read shape_read
  marking_shape r shape ends contract is =
      let found = bound (read words) _ _ (sym contract ∙ ap marking_said is) in
      rw found.1 (ap (λ s. given s.shape) (same_given found.2))

-- by the case of the reader's answer
pub said_by : (answer answer' : Answer Sheet) (before after : Lent) → answer ≡ answer' → MarksSaid answer' before after
    → MarksSaid answer before after
said_by answer answer' before after is says = subst (λ a. MarksSaid a before after) (sym is) says

-- ---- any two results that the contract of `mark` permits coincide

same_lists : (marks came goes marks' came' goes' : List ℕ) → marks ≡ marks' → came ≡ came' → goes ≡ goes'
    → lent marks came goes ≡ lent marks' came' goes'
same_lists marks came goes marks' came' goes' e f g = rw (e, f, g)

pub same_lent : (answer : Answer Sheet) (before after after' : Lent) → MarksSaid answer before after → MarksSaid answer before after' → after ≡ after'
same_lent (refused r) before after after' s s' = s ∙ sym s'
same_lent (given sheet) before after after' s s' =
    same_lists _ _ _ _ _ _ (s.marks ∙ sym s'.marks) (s.came ∙ sym s'.came) (s.goes ∙ sym s'.goes)

same_marking : (r r' : Result (Shape × Ends) No) → marking_said r ≡ marking_said r' → r ≡ r'
same_marking (Err why) (Err why') e =
    let same : refusal_of why ≡ refusal_of why' = cc in
    let readings = same_said (Err why) (Err why') (ap refused same) in
    let whys : why ≡ why' = cc in
    ap Err whys
same_marking (Err why) (Ok (shape, ends)) e = let z : ◌≡◌ {A = ℕ} 0 1 = cc in absurd (omega arith)
same_marking (Ok (shape, ends)) (Err why) e = let z : ◌≡◌ {A = ℕ} 0 1 = cc in absurd (omega arith)
same_marking (Ok (shape, ends)) (Ok (shape', ends')) e = ap (λ s. Ok (s.shape, s.ends)) (same_given e)

pub record Left : Type 0 where
  pub answer : Result (Shape × Ends) No
  pub lists : Lent

pub one_marking : (words : List ℕ) (before : Lent) (left left' : Left)
    → marking_said left.answer ≡ marking_read words → MarksSaid (read words) before left.lists
    → marking_said left'.answer ≡ marking_read words → MarksSaid (read words) before left'.lists → left ≡ left'
one_marking words before left left' e says e' says' =
    let answers = same_marking left.answer left'.answer (e ∙ sym e') in
    let lists = same_lent (read words) before left.lists left'.lists says says' in
    ap (λ answer. record { answer = answer; lists = left.lists }) answers ∙ ap (λ lists. record { answer = left'.answer; lists = lists }) lists
