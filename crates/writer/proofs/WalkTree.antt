-- What the backward pass asks of the rows holds of the rows of a tree: the walk stays on them.
use Prim.Native.Nat.{ℕ, suc, ◌+◌, ◌-◌, ◌≤◌, ◌<◌}
use mathlib.Core.Path.{◌≡◌, refl, sym, ap, ◌∙◌, subst}
use mathlib.Core.Bool.{true}
use mathlib.Core.List.{List, [], ◌∷◌}
use lib.ListN.{get_or}
use native.Mathlib.Omega.{arith}
use Rattle.sheet.specs.Tree.{Tree, done, one, fork, again, basic, if_line, else_line, end_if, repeat, end_repeat, flat, rows}
use Rattle.sheet.specs.Rows.{Assignment, Test, SheetLine, sheet_row_of, row_of, tree_rows}
use Rattle.sheet.specs.Inner.RowLines.{line_of_row}
use Rattle.sheet.specs.Inner.Kinds.{part_of}
use Rattle.sheet.specs.Sheets.{rows_at}
use Rattle.sheet.proofs.RowsBack.{line_back}
use Rattle.sheet.proofs.RowsByNumber.{StandsAt, tree_stands, stands_after, rows_of_tree}
use Rattle.sets.specs.Marks.{Marked}
use Rattle.sets.proofs.Truths.{never}
use Rattle.table.specs.Inner.MarkedRows.{Noted}
use Rattle.writer.specs.Inner.RowsWritten.{leads_on, step_back, Handed, row_of_number, way_back, Visited, Walks}

module _ (given : Handed) (mark : ℕ → Assignment → Marked) where
  walk_turn : (n e : ℕ) → Visited given e → Walks given n (way_back given (e - 1)) → Walks given (suc n) e
  unfolding Walks
  walk_turn n e v w = (v, w)

  -- where a row of a line leads there is a row
  abbrev Leads : SheetLine → ℕ → Type 0
  Leads l q = leads_on (part_of l) ≡ true → get_or given.goes q 0 < given.rows

  walk_step : (l : SheetLine) (q next n : ℕ) → row_of_number given q ≡ sheet_row_of l
      → step_back given.came given.goes q (part_of l) ≡ next → q < given.rows → Leads l q
      → Walks given n next → Walks given (suc n) (suc q)
  walk_step l q next n stands goes below leads w =
      let here : suc q - 1 ≡ q = omega arith in
      let same = ap part_of (ap line_of_row stands ∙ line_back l) in
      walk_turn n (suc q) (record { some = omega arith; within = omega arith; leads = rw (here, same) leads })
      (rw here (subst (Walks given n) (sym (ap (step_back given.came given.goes q) same ∙ goes)) w))

  walks_tree : (t : Tree Assignment Test) (ls : List SheetLine) (p n c e : ℕ)
      → c ≡ rows t + n → e ≡ p + rows t → e ≤ given.rows → StandsAt given.words given.first (flat t ls) p
      → Noted given.marks given.came given.goes mark t p
      → Walks given n p → Walks given c e
  unfolding StandsAt Noted flat rows step_back sheet_row_of row_of
  walks_tree done ls p n c e hc he below s w h =
      let same : c ≡ n = omega arith in
      let here : e ≡ p = omega arith in
      rw (same, here) h
  walks_tree (one b k) ls p n c e hc he below s w h =
      let row = walk_step (basic b) p p n s.0 refl (omega arith) never h in
      walks_tree k ls (suc p) (suc n) c e (omega arith) (omega arith) below s.1 w.1 row
  walks_tree (fork f a b k) ls p n c e hc he below s w h =
      let split = suc p + rows a in
      let end = suc split + rows b in
      let partners = w.0 in
      let at_split = stands_after given.words given.first a (else_line ∷ flat b (end_if ∷ flat k ls)) (suc p) refl s.1 in
      let at_end = stands_after given.words given.first b (end_if ∷ flat k ls) (suc split) refl at_split.1 in
      let else_row = walk_step else_line split p n at_split.0 partners.else_came (omega arith) never h in
      let second_branch =
      walks_tree b (end_if ∷ flat k ls) (suc split) (suc n) (rows b + suc n) end refl refl (omega arith) at_split.1 w.1.1.0 else_row in
      let if_row =
      walk_step (if_line f) p end (rows b + suc n) s.0
      (ap (λ x. get_or given.goes x 0) partners.if_goes ∙ partners.else_goes)
      (omega arith) (λ e. omega (arith, partners.if_goes)) second_branch in
      let first_branch =
      walks_tree a (else_line ∷ flat b (end_if ∷ flat k ls)) (suc p) (suc (rows b + suc n)) (rows a + suc (rows b + suc n)) split
      refl refl (omega arith) s.1 w.1.0 if_row in
      let end_row = walk_step end_if end split (rows a + suc (rows b + suc n)) at_end.0 partners.end_came (omega arith) never first_branch in
      walks_tree k ls (suc end) (suc (rows a + suc (rows b + suc n))) c e (omega arith) (omega arith) below at_end.1 w.1.1.1 end_row
  walks_tree (again m a k) ls p n c e hc he below s w h =
      let end = suc p + rows a in
      let at_end = stands_after given.words given.first a (end_repeat ∷ flat k ls) (suc p) refl s.1 in
      let repeat_row = walk_step (repeat m) p p n s.0 refl (omega arith) never h in
      let body = walks_tree a (end_repeat ∷ flat k ls) (suc p) (suc n) (rows a + suc n) end refl refl (omega arith) s.1 w.1.0 repeat_row in
      let end_row = walk_step end_repeat end end (rows a + suc n) at_end.0 refl (omega arith) (λ e. omega (arith, w.0.end_goes)) body in
      walks_tree k ls (suc end) (suc (rows a + suc n)) c e (omega arith) (omega arith) below at_end.1 w.1.1 end_row

  walks_none : (e : ℕ) → Walks given 0 e
  unfolding Walks
  walks_none e = tt

  pub tree_walks : (t : Tree Assignment Test) → tree_rows t ≡ rows_at given.words given.first given.rows
      → Noted given.marks given.came given.goes mark t 0 → Walks given given.rows given.rows
  tree_walks t says noted =
      let counted = rows_of_tree given.words given.first given.rows t says in
      walks_tree t [] 0 0 given.rows given.rows (omega arith) (omega arith) (omega arith)
      (tree_stands given.words given.first given.rows t says) noted (walks_none 0)
