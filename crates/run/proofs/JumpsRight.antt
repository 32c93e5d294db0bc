-- What the table's writer notes, row by row, is where each "if", each "else" and each "repeat" goes on to.
use Prim.Native.Nat.{ℕ, zero, suc, ◌+◌, ◌≤◌, ◌<◌}
use mathlib.Core.Path.{◌≡◌, refl, sym, ap, subst, ◌∙◌}
use mathlib.Core.List.{List, [], ◌∷◌, map}
use lib.ListN.{length, get_or, drop, length-set, set}
use lib.Seq.{drop-nil}
use native.Mathlib.Omega.{arith}
use Rattle.sheet.specs.Tree.{Loop, times, while, done, one, fork, again, rows, flat, basic, if_line, else_line, end_if, repeat, end_repeat}
use Rattle.sheet.specs.Rows.{less, row_of, row_of_test, row_of_while}
use Rattle.sets.proofs.KeptPlaces.{Keeps, keeps_all, wider, GoesBlock, goes_block, GoesFork, goes_fork}
use Rattle.table.specs.TableRows.{TableTest, whether, on_turn, Table, TableLine, table_row_of, row_of_table_test, row_of_table_while, lines_of}
use Rattle.table.specs.Inner.MarkedRows.{rows_in}
use Rattle.writer.specs.declared.jumps.Branching.TheVariants as branching
use Rattle.writer.specs.Inner.JumpsNoted.{Noting, noting, noted_by, branching_of, noted_over, JumpsNoted}
use Rattle.writer.proofs.JumpLaws.{action_passes}
use Rattle.machine.specs.Machine.{its_else, its_end, one_more, seek, seek_close}
use Rattle.machine.specs.Inner.RowsHanded.{Arrives, Jumps}
use Rattle.machine.proofs.LinesPassed.{seek_else, seek_end, seek_close_lem}

-- ---- where the "if"s, "else"s and "repeat"s of a tree go on to, whose first row is p

unfoldable GoesOn : List ℕ → Table → (p : ℕ) → Type 0
unfolding rows
GoesOn xs done p = Unit {0}
GoesOn xs (one b k) p = GoesOn xs k (suc p)
GoesOn xs (fork f a b k) p =
    let split = suc p + rows a in
    let end = suc split + rows b in
    (get_or xs p 0 ≡ suc split) × GoesOn xs a (suc p) × (get_or xs split 0 ≡ suc end) × GoesOn xs b (suc split) × GoesOn xs k (suc end)
GoesOn xs (again m a k) p =
    let end = suc p + rows a in
    (get_or xs p 0 ≡ suc end) × GoesOn xs a (suc p) × GoesOn xs k (suc end)

-- as before, if nothing changed there
goes_on_stays : (t : Table) (p : ℕ) (xs ys : List ℕ) → ((i : ℕ) → p ≤ i → i < p + rows t → get_or ys i 0 ≡ get_or xs i 0) → GoesOn xs t p → GoesOn ys t p
unfolding GoesOn rows
goes_on_stays done p xs ys s g = tt
goes_on_stays (one b k) p xs ys s g = goes_on_stays k (suc p) xs ys (λ i l h. s i (omega arith) (omega arith)) g
goes_on_stays (fork f a b k) p xs ys s g = (
  s p (omega arith) (omega arith) ∙ g.0,
  goes_on_stays a _ xs ys (λ i l h. s i (omega arith) (omega arith)) g.1,
  s _ (omega arith) (omega arith) ∙ g.2,
  goes_on_stays b _ xs ys (λ i l h. s i (omega arith) (omega arith)) g.3,
  goes_on_stays k _ xs ys (λ i l h. s i (omega arith) (omega arith)) g.4,
)
goes_on_stays (again m a k) p xs ys s g = (
  s p (omega arith) (omega arith) ∙ g.0,
  goes_on_stays a _ xs ys (λ i l h. s i (omega arith) (omega arith)) g.1,
  goes_on_stays k _ xs ys (λ i l h. s i (omega arith) (omega arith)) g.2,
)

-- ---- the writer's notes over a tree

abbrev over_lines : List TableLine → (p : ℕ) → Noting → Noting
over_lines lines p s = noted_over (map table_row_of lines) p s

-- what has been noted past the tree, whatever is behind it: the branch or loop at hand is the same, and only the tree's rows have changed
record Over (t : Table) (p : ℕ) (s : Noting) : Type 0 where
  after : Noting
  on : (rest : List TableLine) → over_lines (flat t rest) p s ≡ over_lines rest (p + rows t) after
  top : after.top ≡ s.top
  kept : Keeps p (p + rows t) s.beyond after.beyond
  right : GoesOn after.beyond t p

if_opens : (f : TableTest) (p : ℕ) (s : Noting) → noted_by (branching_of (table_row_of (if_line f)).kind) p s ≡ noted_by branching.Opens p s
unfolding table_row_of row_of row_of_table_test row_of_test
if_opens (whether (less a b)) p s = refl
if_opens on_turn p s = refl

loop_opens : (l : Loop TableTest) (p : ℕ) (s : Noting) → noted_by (branching_of (table_row_of (repeat l)).kind) p s ≡ noted_by branching.Opens p s
unfolding table_row_of row_of row_of_table_while row_of_while
loop_opens (times m) p s = refl
loop_opens (while (whether (less a b)) m) p s = refl
loop_opens (while on_turn m) p s = refl

split_long : (p : ℕ) (s : Noting) → length (noted_by branching.Splits p s).beyond ≡ length s.beyond
unfolding noted_by
split_long p s = length-set (set s.beyond s.top (suc p)) p (get_or s.beyond s.top 0) ∙ length-set s.beyond s.top (suc p)

module _ (f : TableTest) (a b k : Table) (p : ℕ) (s : Noting) where
  over_fork : let q = suc p + rows a in let r = suc q + rows b in suc r ≤ length s.beyond
      → (A : Over a (suc p) (noted_by branching.Opens p s)) (B : Over b (suc q) (noted_by branching.Splits q A.after))
      → Over k (suc r) (noted_by branching.Closes r B.after) → Over (fork f a b k) p s
  unfolding noted_over noted_by GoesOn rows flat table_row_of row_of
  over_fork room A B K =
      let q = suc p + rows a in
      let r = suc q + rows b in
      let e = suc r + rows k in
      let s₂ = A.after in
      let s₄ = B.after in
      let upto : e ≡ p + (3 + (rows a + rows b + rows k)) = omega arith in
      let k₃ = subst (λ j. Keeps (suc q) r (set (set s₂.beyond j (suc q)) q (get_or s₂.beyond j 0)) s₄.beyond) A.top B.kept in
      let k₅ = subst (λ j. Keeps (suc r) e (set s₄.beyond j (suc r)) K.after.beyond) B.top K.kept in
      let G : GoesFork p q r e s.top (suc q) (suc r) s.beyond s₂.beyond s₄.beyond K.after.beyond =
      goes_fork p (rows a) (rows b) (rows k) s.top (suc q) (suc r) s.beyond s₂.beyond s₄.beyond K.after.beyond room A.kept k₃ k₅ in
      record {
        after = K.after;
        on =
            λ rest.
            ap (over_lines (flat a (else_line ∷ flat b (end_if ∷ flat k rest))) (suc p)) (if_opens f p s)
            ∙ A.on (else_line ∷ flat b (end_if ∷ flat k rest)) ∙ B.on (end_if ∷ flat k rest) ∙ K.on rest
            ∙ ap (λ n. over_lines rest n K.after) upto;
        top = K.top ∙ ap (λ j. get_or s₄.beyond j 0) B.top ∙ G.outer;
        kept = wider G.whole (omega arith) (omega arith);
        right = (
          G.at_if,
          goes_on_stays a (suc p) s₂.beyond K.after.beyond G.first A.right,
          G.at_else,
          goes_on_stays b (suc q) s₄.beyond K.after.beyond G.second B.right,
          K.right,
        );
      }

module _ (l : Loop TableTest) (a k : Table) (p : ℕ) (s : Noting) where
  over_again : let q = suc p + rows a in suc q ≤ length s.beyond → (A : Over a (suc p) (noted_by branching.Opens p s))
      → Over k (suc q) (noted_by branching.Closes q A.after) → Over (again l a k) p s
  unfolding noted_over noted_by GoesOn rows flat table_row_of row_of
  over_again room A K =
      let q = suc p + rows a in
      let e = suc q + rows k in
      let s₂ = A.after in
      let upto : e ≡ p + (2 + (rows a + rows k)) = omega arith in
      let k₃ = subst (λ j. Keeps (suc q) e (set s₂.beyond j (suc q)) K.after.beyond) A.top K.kept in
      let G : GoesBlock p q e s.top (suc q) s.beyond s₂.beyond K.after.beyond =
      goes_block p q e s.top (suc q) s.beyond s₂.beyond K.after.beyond (omega arith) (omega arith) (omega arith) A.kept
      (wider k₃ (omega arith) (omega arith)) in
      record {
        after = K.after;
        on =
            λ rest.
            ap (over_lines (flat a (end_repeat ∷ flat k rest)) (suc p)) (loop_opens l p s)
            ∙ A.on (end_repeat ∷ flat k rest) ∙ K.on rest ∙ ap (λ n. over_lines rest n K.after) upto;
        top = K.top ∙ ap (λ j. get_or s₂.beyond j 0) A.top ∙ G.around;
        kept = wider G.whole (omega arith) (omega arith);
        right = (G.at, goes_on_stays a (suc p) s₂.beyond K.after.beyond G.inside A.right, K.right);
      }

over_tree : (t : Table) (p : ℕ) (s : Noting) → p + rows t ≤ length s.beyond → Over t p s
unfolding noted_over noted_by GoesOn rows flat table_row_of row_of
over_tree done p s h =
    let here : p ≡ p + 0 = omega arith in
    record { after = s; on = λ rest. ap (λ n. over_lines rest n s) here; top = refl; kept = keeps_all s.beyond; right = tt }
over_tree (one b k) p s h =
    let K = over_tree k (suc p) s (omega arith) in
    let upto : suc p + rows k ≡ p + (1 + rows k) = omega arith in
    record {
      after = K.after;
      on =
          λ rest.
          ap (over_lines (flat k rest) (suc p)) (action_passes b.action p s) ∙ K.on rest ∙ ap (λ n. over_lines rest n K.after) upto;
      top = K.top;
      kept = wider K.kept (omega arith) (omega arith);
      right = K.right;
    }
over_tree (fork f a b k) p s h =
    let q = suc p + rows a in
    let r = suc q + rows b in
    let A = over_tree a (suc p) (noted_by branching.Opens p s) (omega (arith, length-set s.beyond p s.top)) in
    let long : length A.after.beyond ≡ length s.beyond = A.kept.long ∙ length-set s.beyond p s.top in
    let B = over_tree b (suc q) (noted_by branching.Splits q A.after) (omega (arith, split_long q A.after)) in
    let long₄ : length B.after.beyond ≡ length s.beyond = B.kept.long ∙ split_long q A.after ∙ long in
    over_fork f a b k p s (omega arith) A B
    (over_tree k (suc r) (noted_by branching.Closes r B.after) (omega (arith, length-set B.after.beyond B.after.top (suc r))))
over_tree (again m a k) p s h =
    let q = suc p + rows a in
    let A = over_tree a (suc p) (noted_by branching.Opens p s) (omega (arith, length-set s.beyond p s.top)) in
    let long : length A.after.beyond ≡ length s.beyond = A.kept.long ∙ length-set s.beyond p s.top in
    over_again m a k p s (omega arith) A
    (over_tree k (suc q) (noted_by branching.Closes q A.after) (omega (arith, length-set A.after.beyond A.after.top (suc q))))

-- ---- and so line by line

module _ (xs : List ℕ) where
  -- the line at row p, before what is behind it
  abbrev JumpsAt : (p : ℕ) → List TableLine → Type 0
  JumpsAt p [] = Unit {0}
  JumpsAt p (basic b ∷ rest) = Unit {0}
  JumpsAt p (if_line f ∷ rest) = Arrives (one_more (seek its_else 0 rest)) p (get_or xs p 0)
  JumpsAt p (else_line ∷ rest) = Arrives (one_more (seek its_end 0 rest)) p (get_or xs p 0)
  JumpsAt p (end_if ∷ rest) = Unit {0}
  JumpsAt p (repeat m ∷ rest) = Arrives (one_more (seek_close 0 rest)) p (get_or xs p 0)
  JumpsAt p (end_repeat ∷ rest) = Unit {0}

  abbrev AllJump : (p : ℕ) → List TableLine → Type 0
  AllJump p lines = (i : ℕ) → JumpsAt (p + i) (drop i lines)

  all_jump : (p : ℕ) (line : TableLine) (rest : List TableLine) → JumpsAt p (line ∷ rest) → AllJump (suc p) rest → AllJump p (line ∷ rest)
  all_jump p line rest here later zero = let e : p + 0 ≡ p = omega arith in subst (λ q. JumpsAt q (line ∷ rest)) (sym e) here
  all_jump p line rest here later (suc i) = let e : p + suc i ≡ suc p + i = omega arith in rw e (later i)

  tree_jumps : (t : Table) (p : ℕ) (rest : List TableLine) → GoesOn xs t p → (q : ℕ) → q ≡ p + rows t → AllJump q rest → AllJump p (flat t rest)
  unfolding GoesOn rows flat
  tree_jumps done p rest g q is later = let e : q ≡ p = omega arith in rw e at later
  tree_jumps (one b k) p rest g q is later = all_jump p (basic b) _ tt (tree_jumps k (suc p) rest g q (omega arith) later)
  tree_jumps (fork f a b k) p rest g q is later =
      let split = suc p + rows a in
      let end = suc split + rows b in
      let lines_b = flat b (end_if ∷ flat k rest) in
      let behind = all_jump end end_if _ tt (tree_jumps k (suc end) rest g.4 q (omega arith) later) in
      let second = all_jump split else_line _
      (record { far = suc (rows b + 1); finds = ap one_more (seek_end b (flat k rest)); arrives = g.2 ∙ omega arith })
      (tree_jumps b (suc split) _ g.3 end (omega arith) behind) in
      all_jump p (if_line f) _ (record { far = suc (rows a + 1); finds = ap one_more (seek_else a lines_b); arrives = g.0 ∙ omega arith })
      (tree_jumps a (suc p) _ g.1 split (omega arith) second)
  tree_jumps (again m a k) p rest g q is later =
      let end = suc p + rows a in
      all_jump p (repeat m) _ (record { far = suc (rows a + 1); finds = ap one_more (seek_close_lem a (flat k rest)); arrives = g.0 ∙ omega arith })
      (tree_jumps a (suc p) _ g.1 end (omega arith) (all_jump end end_repeat _ tt (tree_jumps k (suc end) rest g.2 q (omega arith) later)))

  no_lines : (p : ℕ) → AllJump p []
  no_lines p i = rw (drop-nil i) tt

-- ---- a whole table

pub jumps_right : (t : Table) (before after : List ℕ) → rows t ≤ length before → JumpsNoted t before after → Jumps (lines_of t) after
unfolding rows_in lines_of noted_over
jumps_right t before after room noted =
    let O = over_tree t 0 (noting 0 before) (omega arith) in
    let is : after ≡ O.after.beyond = noted ∙ ap (λ s. s.beyond) (O.on []) in
    let all : AllJump after 0 (flat t []) =
    tree_jumps after t 0 [] (subst (λ xs. GoesOn xs t 0) (sym is) O.right) (rows t) (omega arith) (no_lines after (rows t)) in
    let at : (p : ℕ) → JumpsAt after p (drop p (flat t [])) = λ p. let e : 0 + p ≡ p = omega arith in rw e at (all p) in
    record {
      from_if = λ p test rest e. subst (JumpsAt after p) e (at p);
      from_else = λ p rest e. subst (JumpsAt after p) e (at p);
      from_repeat = λ p m rest e. subst (JumpsAt after p) e (at p);
    }
