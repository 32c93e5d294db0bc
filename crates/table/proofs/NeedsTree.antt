-- S and T: what the pass over the rows comes to is what the tree of blocks needs.
use Prim.Native.Nat.{ℕ, suc, ◌+◌, ◌*◌, ◌≤◌, max}
use mathlib.Core.Path.{◌≡◌, refl, ap}
use mathlib.Core.Bool.{cond}
use mathlib.Core.List.{List, [], ◌∷◌}
use lib.ListN.{length, get_or}
use lib.Dec.{eqb}
use native.Mathlib.Nat.{suc-mul}
use native.Mathlib.Omega.{arith}
use Rattle.sheet.specs.Inner.RowLines.{numbered_row}
use Rattle.sheet.specs.Bounds.{limit}
use Rattle.sheet.specs.Tree.{Loop, times, while, most_turns, has_test, loop_by, Tree, done, one, fork, again, basic, if_line, else_line, end_if, repeat, end_repeat, flat, rows, longest_run}
use Rattle.sheet.specs.Rows.{Assignment, Test, less, SheetLine, while_kind, row_of, sheet_row_of, tree_rows}
use Rattle.sheet.specs.Inner.Kinds.{part_of, part_for, turns_in}
use Rattle.sheet.specs.Sheets.{rows_at}
use Rattle.sheet.proofs.Depth.{deep}
use Rattle.sheet.proofs.LinesByPart.{line_part}
use Rattle.sheet.proofs.RowsByNumber.{StandsAt, tree_stands, stands_after, rows_of_tree}
use Rattle.sets.specs.Marks.{Marked, test_at, numbered}
use Rattle.table.specs.Sizes.{values_needed, own_count, turns_needed}
use Rattle.table.specs.declared.needs.Need.{Need}
use Rattle.table.specs.declared.needs.Level.{Level}
use Rattle.table.specs.Inner.MarkedRows.{saved_by, Noted}
use Rattle.table.specs.Inner.Needs.{needing, nothing, opened, split, Takes, Comes}
use Rattle.table.proofs.TableBounds.{values_within_run, turns_within_run, marked_run}

module _ (words : List ℕ) (first : ℕ) (marks came goes : List ℕ) (mark : ℕ → Assignment → Marked) (total : Need) where
  abbrev ComesFrom : (p count : ℕ) → Need → List Level → Type 0
  ComesFrom p n need around = Comes words first marks total p n need around

  row_comes : (p n : ℕ) (need : Need) (around : List Level)
      → let r = numbered_row words first p in
      Takes (part_for r.kind) (turns_in r) (eqb r.kind while_kind) (saved_by (get_or marks p 0)) need around (ComesFrom (suc p) n)
      → ComesFrom p (suc n) need around
  unfolding Comes
  row_comes p n need around takes = takes

  -- a line that stands at row p
  line_comes : (l : SheetLine) (p n c : ℕ) (need : Need) (around : List Level) → c ≡ suc n → numbered_row words first p ≡ sheet_row_of l
      → Takes (part_of l) (turns_in (sheet_row_of l)) (eqb (sheet_row_of l).kind while_kind) (saved_by (get_or marks p 0)) need around (ComesFrom (suc p) n)
      → ComesFrom p c need around
  line_comes l p n c need around more stands takes = rw more (row_comes p n need around (rw (stands, line_part l) takes))

  -- a loop's row says how many turns it does at most and whether it has a test; marks change neither
  loop_said : (l : Loop Test) → (turns_in (sheet_row_of (repeat l)) ≡ most_turns l) × (eqb (sheet_row_of (repeat l)).kind while_kind ≡ has_test l)
  unfolding sheet_row_of
  loop_said (times m) = (refl, refl)
  loop_said (while (less a b) m) = (refl, refl)

  marked_loop : (p : ℕ) (l : Loop Test) → (most_turns (loop_by (test_at p) l) ≡ most_turns l) × (own_count (loop_by (test_at p) l) ≡ own_count l)
  marked_loop p (times m) = (refl, refl)
  marked_loop p (while f m) = (refl, refl)

  some_turn : (l : Loop Test) (x : ℕ) → x ≤ most_turns l * x
  some_turn (times m) x = omega (arith, suc-mul m x)
  some_turn (while f m) x = omega (arith, suc-mul m x)

  -- the rows of a tree add what it needs, whatever blocks stand around it
  tree_comes : (t : Tree Assignment Test) (ls : List SheetLine) (p n c e values turns : ℕ) {values' turns' : ℕ} (around : List Level)
      → c ≡ rows t + n → e ≡ p + rows t → StandsAt words first (flat t ls) p → Noted marks came goes mark t p
      → values' ≡ values + values_needed (numbered mark t p) → turns' ≡ turns + turns_needed (numbered mark t p)
      → values' ≤ limit.longest_run → turns' ≤ limit.longest_run → length around + deep t ≤ limit.depth
      → ComesFrom e n (needing values' turns') around → ComesFrom p c (needing values turns) around
  unfolding StandsAt Noted flat rows numbered values_needed turns_needed deep sheet_row_of row_of
  tree_comes done ls p n c e values turns {values'} {turns'} around hc he s w hv ht few fewer room h =
      let same : c ≡ n = omega arith in
      let here : e ≡ p = omega arith in
      let same_values : values' ≡ values = omega arith in
      let same_turns : turns' ≡ turns = omega arith in
      rw (same, ← here, ← same_values, ← same_turns) h
  tree_comes (one b k) ls p n c e values turns around hc he s w hv ht few fewer room h =
      let more : ℕ = cond (saved_by (get_or marks p 0)) 1 0 in
      let is : cond (mark p b).saved 1 0 ≡ more = ap (λ saved. cond saved 1 0) w.0.saved in
      line_comes (basic b) p (rows k + n) c _ around (omega arith) s.0 (
        record { values = omega arith; turns = omega arith },
        tree_comes k ls (suc p) n (rows k + n) e (values + more) turns around refl (omega arith) s.1 w.1 (omega arith) (omega arith)
            few fewer room h,
      )
  tree_comes (fork f a b k) ls p n c e values turns around hc he s w hv ht few fewer room h =
      let at = suc p + rows a in
      let end = suc at + rows b in
      let rest = rows k + n in
      let second = rows b + suc rest in
      let A = numbered mark a (suc p) in
      let B = numbered mark b (suc at) in
      let level = opened 1 (needing values turns) in
      let halfway = split level (needing (values_needed A) (turns_needed A)) in
      let at_else = stands_after words first a (else_line ∷ flat b (end_if ∷ flat k ls)) (suc p) refl s.1 in
      let at_end = stands_after words first b (end_if ∷ flat k ls) (suc at) refl at_else.1 in
      let after : ComesFrom (suc end) rest (needing (values + max (values_needed A) (values_needed B)) (turns + 1 + max (turns_needed A) (turns_needed B))) around =
      tree_comes k ls (suc end) n rest e _ _ around refl (omega arith) at_end.1 w.1.1.1 (omega arith) (omega arith) few fewer (omega arith) h in
      let closing : ComesFrom end (suc rest) (needing (values_needed B) (turns_needed B)) (halfway ∷ around) =
      line_comes end_if end rest (suc rest) _ (halfway ∷ around) refl at_end.0 (record { values = omega arith; turns = omega arith }, after) in
      let branch : ComesFrom (suc at) second nothing (halfway ∷ around) =
      tree_comes b (end_if ∷ flat k ls) (suc at) (suc rest) second end 0 0 (halfway ∷ around) refl refl at_else.1 w.1.1.0
      (omega arith) (omega arith) (omega arith) (omega arith) (omega arith) closing in
      let splitting : ComesFrom at (suc second) (needing (values_needed A) (turns_needed A)) (level ∷ around) =
      line_comes else_line at second (suc second) _ (level ∷ around) refl at_else.0 branch in
      line_comes (if_line f) p (rows a + suc second) c _ around (omega arith) s.0 (
        omega arith,
        tree_comes a (else_line ∷ flat b (end_if ∷ flat k ls)) (suc p) (suc second) (rows a + suc second) at 0 0 (level ∷ around) refl refl s.1 w.1.0
            (omega arith) (omega arith) (omega arith) (omega arith) (omega arith) splitting,
      )
  tree_comes (again l a k) ls p n c e values turns around hc he s w hv ht few fewer room h =
      let end = suc p + rows a in
      let rest = rows k + n in
      let A = numbered mark a (suc p) in
      let least = some_turn l in
      let count = own_count l in
      let level = opened (most_turns l) (needing values (turns + count)) in
      let same = marked_loop p l in
      let at_end = stands_after words first a (end_repeat ∷ flat k ls) (suc p) refl s.1 in
      let values_once : values_needed A ≤ most_turns l * values_needed A = omega (arith, least (values_needed A)) in
      let turns_once : turns_needed A ≤ most_turns l * turns_needed A = omega (arith, least (turns_needed A)) in
      let values_all : most_turns (loop_by (test_at p) l) * values_needed A ≡ most_turns l * values_needed A = ap (λ m. m * values_needed A) same.0 in
      let turns_all : most_turns (loop_by (test_at p) l) * turns_needed A ≡ most_turns l * turns_needed A = ap (λ m. m * turns_needed A) same.0 in
      let after : ComesFrom (suc end) rest (needing (values + most_turns l * values_needed A) (turns + count + most_turns l * turns_needed A)) around =
      tree_comes k ls (suc end) n rest e _ _ around refl (omega arith) at_end.1 w.1.1 (omega arith) (omega (arith, same.1)) few fewer (omega arith) h in
      let closing : ComesFrom end (suc rest) (needing (values_needed A) (turns_needed A)) (level ∷ around) =
      line_comes end_repeat end rest (suc rest) _ (level ∷ around) refl at_end.0
      (record { values = omega arith; turns = omega (arith, same.1) }, after) in
      let body : ComesFrom (suc p) (rows a + suc rest) nothing (level ∷ around) =
      tree_comes a (end_repeat ∷ flat k ls) (suc p) (suc rest) (rows a + suc rest) end 0 0 (level ∷ around) refl refl s.1 w.1.0
      (omega arith) (omega arith) (omega arith) (omega (arith, same.1)) (omega arith) closing in
      line_comes (repeat l) p (rows a + suc rest) c _ around (omega arith) s.0
      (rw ((loop_said l).0, (loop_said l).1) (omega arith, body, record { values = omega arith; turns = omega (arith, same.1) }))

-- of a whole body: its S and T
module _ (words : List ℕ) (first : ℕ) (marks came goes : List ℕ) (mark : ℕ → Assignment → Marked) (t : Tree Assignment Test) where
  abbrev pub body_need : Need
  body_need = let body = numbered mark t 0 in needing (values_needed body) (turns_needed body)

  all_come : (n : ℕ) → Comes words first marks body_need n 0 body_need []
  unfolding Comes
  all_come n = refl

  pub body_comes : (n : ℕ) → tree_rows t ≡ rows_at words first n → Noted marks came goes mark t 0
      → longest_run t ≤ limit.longest_run → deep t ≤ limit.depth → Comes words first marks body_need 0 n nothing []
  body_comes n says noted short shallow =
      let body = numbered mark t 0 in
      let counted = rows_of_tree words first n t says in
      let run = marked_run mark t 0 in
      let few_values : values_needed body ≤ limit.longest_run = omega (arith, values_within_run body) in
      let few_turns : turns_needed body ≤ limit.longest_run = omega (arith, turns_within_run body) in
      tree_comes words first marks came goes mark body_need t [] 0 0 n n 0 0 [] (omega arith) (omega arith) (tree_stands words first n t says) noted
      (omega arith) (omega arith) few_values few_turns (omega arith) (all_come n)
