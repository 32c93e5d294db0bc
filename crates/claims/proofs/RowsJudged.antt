-- All rows judged, one after the other: what reading them comes to, from 01's conditions.
use Prim.Native.Nat.{ℕ, zero, suc, ◌+◌, ◌-◌, ◌<◌}
use mathlib.Core.Path.{◌≡◌, refl, sym, subst, ◌∙◌}
use mathlib.Core.List.{List, [], ◌∷◌}
use mathlib.Core.Logic.{◌⊎◌, inl, inr}
use native.Mathlib.Omega.{arith}
use Rattle.sheet.specs.Bounds.{limit}
use Rattle.sheet.specs.Judging.{Answer, refused, given}
use Rattle.sheet.specs.Refusals.{bad_row, bad_block}
use Rattle.sheet.specs.Tree.{Tree, done}
use Rattle.sheet.specs.Rows.{Assignment, Test, SheetLine}
use Rattle.sheet.specs.Sheets.{rows_at}
use Rattle.sheet.specs.Reading.{Item, Block, closed, RowsTaken, taken, body_of}
use Rattle.sheet.proofs.Judgements.{◌and_then◌}
use Rattle.claims.specs.ExactlyWhen.{rows, Opening, Takes, variable_count, constant_count, row_count, row_place, row_no, sheet_rows, first_item, after_rows, RowsReached, RowSays, OpenAfter, start, next, row_says_nothing, block_wrong, never_closed}
use Rattle.claims.proofs.SectionsJudged.{SomeRule}
use Rattle.claims.proofs.LinesJudged.{line_given, LineJudged, line_judged, line_refused, opening, shape, effect, same_effect, TakeJudged, take_judged, take_refused}

module _ (words : List ℕ) where
  -- reading rows from row i on
  abbrev rest : (i left : ℕ) → List Block → List Item → Answer (Tree Assignment Test)
  rest i left = body_of (variable_count words) (constant_count words) (rows_at words (row_place words i) left) (row_place words i)

  abbrev pub body_read : Answer (Tree Assignment Test)
  body_read = body_of (variable_count words) (constant_count words) (sheet_rows words) (first_item words rows) [] []

  next_place : (i : ℕ) → row_place words i + limit.row_words ≡ row_place words (suc i)
  next_place i = omega arith

  -- a row that says nothing, one that cannot be taken, and one that is taken
  row_refused : (i left : ℕ) (blocks : List Block) (items : List Item) → ((line : SheetLine) → ¬ RowSays words i line)
      → rest i (suc left) blocks items ≡ refused (bad_row (row_place words i))
  unfolding body_of rows_at
  row_refused i left blocks items nothing = rw (line_refused _ _ _ (row_place words i) nothing)

  block_refused : (i left : ℕ) (blocks : List Block) (items : List Item) (line : SheetLine) → RowSays words i line
      → taken line (row_place words i) blocks items ≡ refused (bad_block (row_place words i))
      → rest i (suc left) blocks items ≡ refused (bad_block (row_place words i))
  unfolding body_of rows_at
  block_refused i left blocks items line says e = rw (line_given _ _ _ (row_place words i) says, e)

  row_taken : (i left : ℕ) (blocks : List Block) (items : List Item) (line : SheetLine) (now : RowsTaken) → RowSays words i line
      → taken line (row_place words i) blocks items ≡ given now
      → rest i (suc left) blocks items ≡ rest (suc i) left now.blocks now.items
  unfolding body_of rows_at
  row_taken i left blocks items line now says e = rw (line_given _ _ _ (row_place words i) says, e, next_place i)

  -- ---- rows that could all be taken

  record Standing (i left : ℕ) (outer : List Opening) : Type 0 where
    blocks : List Block
    items : List Item
    shaped : shape blocks ≡ outer
    is : body_read ≡ rest i left blocks items

  one_more_lem : (i left : ℕ) (line : SheetLine) {before after : List Opening} → Standing i (suc left) before → RowSays words i line
      → Takes line before after → Standing (suc i) left after
  one_more_lem i left line {before} {after} so_far says takes = by (take_judged line (row_place words i) so_far.blocks so_far.items)
    where
      here : Takes line (shape so_far.blocks) after
      here = subst (λ b. Takes line b after) (sym so_far.shaped) takes

      by : TakeJudged line (row_place words i) so_far.blocks (taken line (row_place words i) so_far.blocks so_far.items)
          → Standing (suc i) left after
      by (inl took) =
          let now = took.progress in
          record {
            blocks = now.blocks;
            items = now.items;
            shaped = same_effect line (shape so_far.blocks) _ after (effect took.takes) (effect here);
            is = so_far.is ∙ row_taken i left so_far.blocks so_far.items line now says took.is;
          }
      by (inr wrong) = absurd (wrong.1 after here)

  standing : {i : ℕ} {outer : List Opening} → OpenAfter words i outer → (left : ℕ) → i + left ≡ row_count words → Standing i left outer
  standing start left all =
      let n : left ≡ row_count words = omega arith in
      let place : row_place words 0 ≡ first_item words rows = omega arith in
      record { blocks = []; items = []; shaped = refl; is = rw (n, place) }
  standing (next {i} {line} earlier says takes) left all = one_more_lem i left line (standing earlier (suc left) (omega arith)) says takes

  -- ---- what reading the rows comes to, from what is open

  -- how many rows are left from row i on
  abbrev left_from : ℕ → ℕ
  left_from i = row_count words - suc i

  pub says_nothing : {i : ℕ} {before : List Opening} → OpenAfter words i before → i < row_count words → ((line : SheetLine) → ¬ RowSays words i line)
      → body_read ≡ refused (bad_row (row_place words i))
  says_nothing {i} now more nothing =
      let here = standing now (suc (left_from i)) (omega arith) in
      here.is ∙ row_refused i (left_from i) here.blocks here.items nothing

  pub cannot_be_taken : {i : ℕ} {before : List Opening} {line : SheetLine} → OpenAfter words i before → i < row_count words → RowSays words i line
      → ((after : List Opening) → ¬ Takes line before after) → body_read ≡ refused (bad_block (row_place words i))
  cannot_be_taken {i} {before} {line} now more says wrong =
      let here = standing now (suc (left_from i)) (omega arith) in
      here.is
      ∙ block_refused i (left_from i) here.blocks here.items line says
      (take_refused line (row_place words i) here.blocks here.items
      (λ after t. wrong after (subst (λ b. Takes line b after) here.shaped t)))

  end_open : (i : ℕ) (blocks : List Block) (items : List Item) (opening : Opening) (outer : List Opening) → shape blocks ≡ opening ∷ outer
      → rest i 0 blocks items ≡ refused (bad_block (row_place words i))
  unfolding body_of rows_at
  end_open i [] items opening outer e = let z : ◌≡◌ {A = ℕ} 0 1 = cc in absurd (omega arith)
  end_open i (block ∷ blocks) items opening outer e = refl

  pub never_closed_lem : {opening : Opening} {outer : List Opening} → OpenAfter words (row_count words) (opening ∷ outer)
      → body_read ≡ refused (bad_block (after_rows words))
  never_closed_lem {opening} {outer} now =
      let here = standing now 0 (omega arith) in
      here.is ∙ end_open (row_count words) here.blocks here.items opening outer here.shaped

  end_closed : (i : ℕ) (blocks : List Block) (items : List Item) → shape blocks ≡ [] → rest i 0 blocks items ≡ given (closed items done)
  unfolding body_of rows_at
  end_closed i [] items e = refl
  end_closed i (block ∷ blocks) items e = let z : ◌≡◌ {A = ℕ} 0 1 = cc in absurd (omega arith)

  pub all_closed : OpenAfter words (row_count words) [] → (body : Tree Assignment Test) × (body_read ≡ given body)
  all_closed now =
      let here = standing now 0 (omega arith) in
      (closed here.items done, here.is ∙ end_closed (row_count words) here.blocks here.items here.shaped)

  -- ---- judging them

  module _ (reached : RowsReached words) where
    -- the rows after this one are left to judge
    abbrev Further : ℕ → Type 0
    Further i = (blocks : List Block) × OpenAfter words i (shape blocks)

    line_taken : (i : ℕ) (blocks : List Block) (line : SheetLine) {answer : Answer RowsTaken} → i < row_count words → OpenAfter words i (shape blocks)
        → RowSays words i line → TakeJudged line (row_place words i) blocks answer → Further (suc i) ⊎ SomeRule words
    line_taken i blocks line more now says (inl took) = inl (took.progress.blocks, next now says took.takes)
    line_taken i blocks line more now says (inr wrong) = inr (_, block_wrong i (shape blocks) line reached more now says wrong.1)

    row_judged : (i : ℕ) (blocks : List Block) {answer : Answer SheetLine} → i < row_count words → OpenAfter words i (shape blocks)
        → LineJudged (variable_count words) (constant_count words) (row_no words i) (row_place words i) answer → Further (suc i) ⊎ SomeRule words
    row_judged i blocks more now (inl said) =
        line_taken i blocks said.0 more now said.1 (take_judged said.0 (row_place words i) blocks [])
    row_judged i blocks more now (inr nothing) = inr (_, row_says_nothing i (shape blocks) reached more now nothing.1)

    ended : (blocks : List Block) → OpenAfter words (row_count words) (shape blocks) → OpenAfter words (row_count words) [] ⊎ SomeRule words
    ended [] now = inl now
    ended (block ∷ blocks) now = inr (_, never_closed (opening block) (shape blocks) reached now)

    judged_from : (left i : ℕ) (blocks : List Block) → i + left ≡ row_count words → OpenAfter words i (shape blocks)
        → OpenAfter words (row_count words) [] ⊎ SomeRule words
    judged_from zero i blocks all now =
        let here : i ≡ row_count words = omega arith in
        ended blocks (subst (λ n. OpenAfter words n (shape blocks)) here now)
    judged_from (suc left) i blocks all now =
        row_judged i blocks (omega arith) now
        (line_judged (variable_count words) (constant_count words) (row_no words i) (row_place words i)) and_then λ further.
        judged_from left (suc i) further.0 (omega arith) further.1

    pub rows_judged : OpenAfter words (row_count words) [] ⊎ SomeRule words
    rows_judged = judged_from (row_count words) 0 [] (omega arith) start
