-- A sheet's tree as the engine finds it, from a row on: each row's words, marks and partners, that what they name is there and that loops have
-- room; and how many rows the tangent table has before each.
use Prim.Native.Nat.{ℕ, suc, ◌+◌, ◌≤◌, ◌<◌}
use mathlib.Core.Path.{◌≡◌, refl, ap}
use mathlib.Core.List.{List, ◌∷◌}
use native.Mathlib.Omega.{arith}
use lib.ListN.{get_or}
use Rattle.sheet.specs.Bounds.{limit}
use Rattle.sheet.specs.Tree.{Loop, Tree, done, one, fork, again, basic, if_line, else_line, end_if, repeat, end_repeat, flat, rows}
use Rattle.sheet.specs.Rows.{Assignment, Test, SheetLine, sheet_row_of, ◌≔◌}
use Rattle.sheet.specs.Names.{AssignmentPresent, TestPresent, LoopPresent, Present}
use Rattle.sheet.specs.Inner.RowLines.{numbered_row}
use Rattle.sheet.proofs.Depth.{deep}
use Rattle.sheet.proofs.RowsByNumber.{StandsAt, stands_after, line_said}
use Rattle.sets.specs.Equations.{left_from}
use Rattle.sets.specs.Marks.{Marked, numbered}
use Rattle.sets.specs.Partners.{GoesTo}
use Rattle.table.specs.TableRows.{Table}
use Rattle.table.specs.Inner.MarkedRows.{known_by, MarkSays, Noted}
use Rattle.table.proofs.TableBounds.{row_counted}
use Rattle.tangent.specs.Tangent.{tangent_row, tangent_table, tangent_rows, rows_over}
use Rattle.tangent.specs.Inner.TangentPlans.{line_count, table_rows_before}
use Rattle.tangent.proofs.TangentLines.{assignment_counted}

-- ---- how many rows a marked assignment has

assignment_long : (v : ℕ) (m : Marked) (rest : Table) → rows (tangent_row v m rest) ≡ rows_over m.assignment m.known + rows rest
assignment_long v m rest = by m.assignment refl
  where
    by : (b : Assignment) → m.assignment ≡ b → rows (tangent_row v m rest) ≡ rows_over b m.known + rows rest
    by (d ≔ source) e = omega (arith, assignment_counted v 1 rows row_counted m (d ≔ source) e rest)

module _ (words : List ℕ) (first : ℕ) (marks goes : List ℕ) (mark : ℕ → Assignment → Marked) (v k : ℕ) where
  -- ---- what is found at a row

  pub record AssignmentAt (b : Assignment) (p : ℕ) : Type 0 where
    pub stands : numbered_row words first p ≡ sheet_row_of (basic b)
    pub says : MarkSays (get_or marks p 0) b (mark p b)
    pub present : AssignmentPresent v k b

  pub record BranchesAt (f : Test) (p split end : ℕ) : Type 0 where
    pub opens : numbered_row words first p ≡ sheet_row_of (if_line f)
    pub splits : numbered_row words first split ≡ sheet_row_of else_line
    pub ends : numbered_row words first end ≡ sheet_row_of end_if
    pub open_goes : get_or goes p 0 ≡ split
    pub split_goes : get_or goes split 0 ≡ end
    pub present : TestPresent v f

  pub record LoopAt (loop : Loop Test) (p end level : ℕ) : Type 0 where
    pub opens : numbered_row words first p ≡ sheet_row_of (repeat loop)
    pub ends : numbered_row words first end ≡ sheet_row_of end_repeat
    pub open_goes : get_or goes p 0 ≡ left_from loop end (suc p)
    pub end_goes : get_or goes end 0 ≡ p
    pub present : LoopPresent v loop
    pub shallow : level < limit.depth

  -- of a tree from row p on, inside so many blocks
  unfoldable pub Placed : Tree Assignment Test → (p level : ℕ) → Type 0
  unfolding rows
  Placed done p l = Unit
  Placed (one b rest) p l = AssignmentAt b p × Placed rest (suc p) l
  Placed (fork f a b rest) p l =
      let split = suc p + rows a in
      let end = suc split + rows b in
      BranchesAt f p split end × (Placed a (suc p) (suc l) × (Placed b (suc split) (suc l) × Placed rest (suc end) l))
  Placed (again loop a rest) p l =
      let end = suc p + rows a in
      LoopAt loop p end l × (Placed a (suc p) (suc l) × Placed rest (suc end) l)

  module _ (came : List ℕ) where
    pub tree_placed : (t : Tree Assignment Test) (rest : List SheetLine) (p l : ℕ) → StandsAt words first (flat t rest) p
        → Noted marks came goes mark t p → GoesTo goes t p → Present v k t → deep t + l ≤ limit.depth → Placed t p l
    unfolding StandsAt flat Noted GoesTo Present deep Placed
    tree_placed done rest p l s w g n h = tt
    tree_placed (one b t) rest p l s w g n h =
        (record { stands = s.0; says = w.0; present = n.0 }, tree_placed t rest (suc p) l s.1 w.1 g n.1 (omega arith))
    tree_placed (fork f a b t) rest p l s w g n h =
        let split = suc p + rows a in
        let end = suc split + rows b in
        let at_split = stands_after words first a (else_line ∷ flat b (end_if ∷ flat t rest)) (suc p) refl s.1 in
        let at_end = stands_after words first b (end_if ∷ flat t rest) (suc split) refl at_split.1 in (
          record {
            opens = s.0;
            splits = at_split.0;
            ends = at_end.0;
            open_goes = g.0;
            split_goes = g.2;
            present = n.0;
          },
          (
            tree_placed a (else_line ∷ flat b (end_if ∷ flat t rest)) (suc p) (suc l) s.1 w.1.0 g.1 n.1 (omega arith),
            (
              tree_placed b (end_if ∷ flat t rest) (suc split) (suc l) at_split.1 w.1.1.0 g.3 n.2 (omega arith),
              tree_placed t rest (suc end) l at_end.1 w.1.1.1 g.4 n.3 (omega arith),
            ),
          ),
        )
    tree_placed (again loop a t) rest p l s w g n h =
        let end = suc p + rows a in
        let at_end = stands_after words first a (end_repeat ∷ flat t rest) (suc p) refl s.1 in (
          record { opens = s.0; ends = at_end.0; open_goes = g.3; end_goes = g.1; present = n.2; shallow = omega arith },
          (
            tree_placed a (end_repeat ∷ flat t rest) (suc p) (suc l) s.1 w.1.0 g.0 n.0 (omega arith),
            tree_placed t rest (suc end) l at_end.1 w.1.1 g.2 n.1 (omega arith),
          ),
        )

  -- ---- the table's rows before a row

  abbrev pub before : ℕ → ℕ
  before p = table_rows_before words first marks p

  pub before_next : (l : SheetLine) (p : ℕ) → numbered_row words first p ≡ sheet_row_of l
      → before (suc p) ≡ before p + line_count (known_by (get_or marks p 0)) l
  unfolding table_rows_before
  before_next l p e = ap (λ line. before p + line_count (known_by (get_or marks p 0)) line) (line_said e)

  -- past a tree
  pub before_after : (t : Tree Assignment Test) (p l q : ℕ) → q ≡ p + rows t → Placed t p l → before q ≡ before p + tangent_rows v (numbered mark t p)
  unfolding Placed rows numbered tangent_rows tangent_table
  before_after done p l q e w = let here : q ≡ p = omega arith in rw here (omega arith)
  before_after (one b t) p l q e w =
      let at = w.0 in
      let next = before_next (basic b) p at.stands in
      let after = before_after t (suc p) l q (omega arith) w.1 in
      let own = assignment_long v (mark p b) (tangent_table v (numbered mark t (suc p))) in
      let same : rows_over (mark p b).assignment (mark p b).known ≡ rows_over b (known_by (get_or marks p 0)) = rw (at.says.assignment, at.says.known) in
      omega (arith, next, after, own, same)
  before_after (fork f a b t) p l q e w =
      let split = suc p + rows a in
      let end = suc split + rows b in
      let at = w.0 in
      omega (
        arith,
        before_next (if_line f) p at.opens,
        before_after a (suc p) (suc l) split refl w.1.0,
        before_next else_line split at.splits,
        before_after b (suc split) (suc l) end refl w.1.1.0,
        before_next end_if end at.ends,
        before_after t (suc end) l q (omega arith) w.1.1.1,
      )
  before_after (again loop a t) p l q e w =
      let end = suc p + rows a in
      let at = w.0 in
      omega (
        arith,
        before_next (repeat loop) p at.opens,
        before_after a (suc p) (suc l) end refl w.1.0,
        before_next end_repeat end at.ends,
        before_after t (suc end) l q (omega arith) w.1.1,
      )
