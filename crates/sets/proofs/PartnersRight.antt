-- One pass over a tree's lines leaves each of its rows with its partner, and the lists that the definitions give.
use Prim.Native.Nat.{ℕ, zero, suc, ◌+◌, ◌≤◌, ◌<◌}
use native.Mathlib.Omega.{arith}
use mathlib.Core.Path.{◌≡◌, refl, sym, ap, subst, ◌∙◌}
use mathlib.Core.Bool.{Bool, cond}
use mathlib.Core.List.{List}
use mathlib.Core.Logic.{inl, inr}
use lib.ListN.{length, get_or, set, length-set}
use lib.Seq.{get_or-set_same, set_comm, set-set}
use Rattle.sheet.specs.Tree.{Loop, has_test, Tree, done, one, fork, again, rows, basic, if_line, else_line, end_if, repeat, end_repeat}
use Rattle.sheet.specs.Rows.{Assignment, Test, SheetLine}
use Rattle.sheet.specs.Inner.Kinds.{opens_test}
use Rattle.sets.specs.Equations.{left_from}
use Rattle.sets.specs.Partners.{CameFrom, GoesTo, came_by, goes_by}
use Rattle.sets.specs.Inner.PartnerPass.{PartnersSoFar, way_out, found_at, in_tested, found_over}
use Rattle.sets.proofs.RowByRow.{LinesAt}
use Rattle.sets.proofs.KeptPlaces.{Keeps, keeps_all, wider, keeps_then, store_keeps, GoesFork, goes_fork}

-- ---- partners where they were, if nothing changed there

came_stays : (t : Tree Assignment Test) (p : ℕ) (xs ys : List ℕ) → ((i : ℕ) → p ≤ i → i < p + rows t → get_or ys i 0 ≡ get_or xs i 0) → CameFrom xs t p
    → CameFrom ys t p
unfolding CameFrom rows
came_stays done p xs ys s c = tt
came_stays (one b k) p xs ys s c = came_stays k (suc p) xs ys (λ i l h. s i (omega arith) (omega arith)) c
came_stays (fork f a b k) p xs ys s c = (
  came_stays a _ xs ys (λ i l h. s i (omega arith) (omega arith)) c.0,
  s _ (omega arith) (omega arith) ∙ c.1,
  came_stays b _ xs ys (λ i l h. s i (omega arith) (omega arith)) c.2,
  s _ (omega arith) (omega arith) ∙ c.3,
  came_stays k _ xs ys (λ i l h. s i (omega arith) (omega arith)) c.4,
)
came_stays (again m a k) p xs ys s c = (
  s p (omega arith) (omega arith) ∙ c.0,
  came_stays a _ xs ys (λ i l h. s i (omega arith) (omega arith)) c.1,
  came_stays k _ xs ys (λ i l h. s i (omega arith) (omega arith)) c.2,
  s _ (omega arith) (omega arith) ∙ c.3,
)

goes_stays : (t : Tree Assignment Test) (p : ℕ) (xs ys : List ℕ) → ((i : ℕ) → p ≤ i → i < p + rows t → get_or ys i 0 ≡ get_or xs i 0) → GoesTo xs t p
    → GoesTo ys t p
unfolding GoesTo rows
goes_stays done p xs ys s c = tt
goes_stays (one b k) p xs ys s c = goes_stays k (suc p) xs ys (λ i l h. s i (omega arith) (omega arith)) c
goes_stays (fork f a b k) p xs ys s c = (
  s p (omega arith) (omega arith) ∙ c.0,
  goes_stays a _ xs ys (λ i l h. s i (omega arith) (omega arith)) c.1,
  s _ (omega arith) (omega arith) ∙ c.2,
  goes_stays b _ xs ys (λ i l h. s i (omega arith) (omega arith)) c.3,
  goes_stays k _ xs ys (λ i l h. s i (omega arith) (omega arith)) c.4,
)
goes_stays (again m a k) p xs ys s c = (
  goes_stays a _ xs ys (λ i l h. s i (omega arith) (omega arith)) c.0,
  s _ (omega arith) (omega arith) ∙ c.1,
  goes_stays k _ xs ys (λ i l h. s i (omega arith) (omega arith)) c.2,
  s p (omega arith) (omega arith) ∙ c.3,
)

-- ---- a place before a tree's rows may as well be stored after them

goes_past : (t : Tree Assignment Test) (p : ℕ) (xs : List ℕ) (i v : ℕ) → i < p → goes_by t p (set xs i v) ≡ set (goes_by t p xs) i v
unfolding goes_by rows
goes_past done p xs i v h = refl
goes_past (one b k) p xs i v h = goes_past k (suc p) xs i v (omega arith)
goes_past (fork f a b k) p xs i v h =
    let q = suc p + rows a in
    let r = suc q + rows b in
    let first = goes_by a (suc p) (set xs p q) in
    let second = goes_by b (suc q) (set first q r) in
    let at_if : goes_by a (suc p) (set (set xs i v) p q) ≡ set first i v =
    ap (goes_by a (suc p)) (set_comm xs i p v q (λ e. omega arith)) ∙ goes_past a (suc p) (set xs p q) i v (omega arith) in
    let at_else : goes_by b (suc q) (set (set first i v) q r) ≡ set second i v =
    ap (goes_by b (suc q)) (set_comm first i q v r (λ e. omega arith)) ∙ goes_past b (suc q) (set first q r) i v (omega arith) in
    ap (λ ys. goes_by k (suc r) (goes_by b (suc q) (set ys q r))) at_if ∙ ap (goes_by k (suc r)) at_else
    ∙ goes_past k (suc r) second i v (omega arith)
goes_past (again m a k) p xs i v h =
    let q = suc p + rows a in
    let out = left_from m q (suc p) in
    let first = goes_by a (suc p) (set xs p out) in
    let at_repeat : goes_by a (suc p) (set (set xs i v) p out) ≡ set first i v =
    ap (goes_by a (suc p)) (set_comm xs i p v out (λ e. omega arith)) ∙ goes_past a (suc p) (set xs p out) i v (omega arith) in
    ap (λ ys. goes_by k (suc q) (set ys q p)) at_repeat ∙ ap (goes_by k (suc q)) (set_comm first i q v p (λ e. omega arith))
    ∙ goes_past k (suc q) (set first q p) i v (omega arith)

-- so what stood there while its block was open is gone
goes_over : (t : Tree Assignment Test) (p : ℕ) (xs : List ℕ) (i v w : ℕ) → i < p → set (goes_by t p (set xs i v)) i w ≡ goes_by t p (set xs i w)
goes_over t p xs i v w h = sym (goes_past t p (set xs i v) i w h) ∙ ap (goes_by t p) (set-set xs i v w)

goes_closed : (a b : Tree Assignment Test) (p around : ℕ) (xs : List ℕ) → let q = suc p + rows a in let r = suc q + rows b in
    set (goes_by b (suc q) (set (set (goes_by a (suc p) (set xs p around)) p q) q around)) q r
    ≡ goes_by b (suc q) (set (goes_by a (suc p) (set xs p q)) q r)
goes_closed a b p around xs =
    let q = suc p + rows a in
    let r = suc q + rows b in
    goes_over b (suc q) (set (goes_by a (suc p) (set xs p around)) p q) q around r (omega arith)
    ∙ ap (λ ys. goes_by b (suc q) (set ys q r)) (goes_over a (suc p) xs p around q (omega arith))

goes_turned : (a : Tree Assignment Test) (p around out : ℕ) (xs : List ℕ) → let q = suc p + rows a in
    set (set (goes_by a (suc p) (set xs p around)) q p) p out ≡ set (goes_by a (suc p) (set xs p out)) q p
goes_turned a p around out xs =
    let q = suc p + rows a in
    set_comm (goes_by a (suc p) (set xs p around)) q p p out (λ e. omega arith) ∙ ap (λ ys. set ys q p) (goes_over a (suc p) xs p around out (omega arith))

-- ---- what a pass over a tree comes to

pub record Passed (t : Tree Assignment Test) (p : ℕ) (s s' : PartnersSoFar) : Type 0 where
  pub top : s'.top ≡ s.top
  pub came : CameFrom s'.came t p
  pub goes : GoesTo s'.goes t p
  pub came_kept : Keeps p (p + rows t) s.came s'.came
  pub goes_kept : Keeps p (p + rows t) s.goes s'.goes
  pub came_is : s'.came ≡ came_by t p s.came
  pub goes_is : s'.goes ≡ goes_by t p s.goes

-- Each part's store and pass changes only its own places; x to z are the sizes of the parts, q and r the rows of "else" and "end if",
-- e the place after all. Of the list of where rows came from.
record CameFork (p q r e top₂ top₄ : ℕ) (c c₂ c₄ c₆ : List ℕ) : Type 0 where
  whole : Keeps p e c c₆
  after_first : Keeps q e c₂ c₆
  after_second : Keeps r e c₄ c₆
  at_else : get_or c₆ q 0 ≡ top₂
  at_end : get_or c₆ r 0 ≡ top₄

came_fork : (p x y z : ℕ) (c c₂ c₄ c₆ : List ℕ) (top₂ top₄ : ℕ) → let q = suc p + x in let r = suc q + y in let e = suc r + z in
    suc r ≤ length c → Keeps (suc p) q c c₂ → Keeps (suc q) r (set c₂ q top₂) c₄ → Keeps (suc r) e (set c₄ r top₄) c₆
    → CameFork p q r e top₂ top₄ c c₂ c₄ c₆
came_fork p x y z c c₂ c₄ c₆ top₂ top₄ l k₁ k₃ k₅ =
    let q = suc p + x in
    let r = suc q + y in
    let e = suc r + z in
    let k₂ = store_keeps c₂ q top₂ in
    let k₄ = store_keeps c₄ r top₄ in
    let t₄ : Keeps r e c₄ c₆ = keeps_then (wider k₄ (omega arith) (omega arith)) (wider k₅ (omega arith) (omega arith)) in
    let t₃ : Keeps (suc q) e (set c₂ q top₂) c₆ = keeps_then (wider k₃ (omega arith) (omega arith)) (wider t₄ (omega arith) (omega arith)) in
    let t₂ : Keeps q e c₂ c₆ = keeps_then (wider k₂ (omega arith) (omega arith)) (wider t₃ (omega arith) (omega arith)) in
    record {
      whole = keeps_then (wider k₁ (omega arith) (omega arith)) (wider t₂ (omega arith) (omega arith));
      after_first = t₂;
      after_second = t₄;
      at_else = t₃.at q (inl (omega arith)) ∙ get_or-set_same c₂ q top₂ 0 (omega (arith, k₁.long));
      at_end = k₅.at r (inl (omega arith)) ∙ get_or-set_same c₄ r top₄ 0 (omega (arith, k₁.long, k₂.long, k₃.long));
    }

module _ (f : Test) (a b k : Tree Assignment Test) (p : ℕ) (s s₂ s₄ s₆ : PartnersSoFar) (t₁ t₃ t₅ : Bool) where
  after_fork : let q = suc p + rows a in let r = suc q + rows b in suc r ≤ length s.came → suc r ≤ length s.goes
      → Passed a (suc p) (found_at (if_line f) t₁ p s) s₂ → Passed b (suc q) (found_at else_line t₃ q s₂) s₄ → Passed k (suc r) (found_at end_if t₅ r s₄) s₆
      → Passed (fork f a b k) p s s₆
  unfolding found_at CameFrom GoesTo came_by goes_by rows
  after_fork lc lg A B K =
      let q = suc p + rows a in
      let r = suc q + rows b in
      let e = suc r + rows k in
      let upto : e ≤ p + (3 + (rows a + rows b + rows k)) = omega arith in
      let C = came_fork p (rows a) (rows b) (rows k) _ _ _ _ _ _ lc A.came_kept B.came_kept K.came_kept in
      let k₃ = subst (λ j. Keeps (suc q) r (set (set s₂.goes j q) q (get_or s₂.goes j 0)) s₄.goes) A.top B.goes_kept in
      let k₅ = subst (λ j. Keeps (suc r) e (set s₄.goes j r) s₆.goes) B.top K.goes_kept in
      let G : GoesFork p q r e s.top q r s.goes s₂.goes s₄.goes s₆.goes =
      goes_fork p (rows a) (rows b) (rows k) s.top q r s.goes s₂.goes s₄.goes s₆.goes lg A.goes_kept k₃ k₅ in
      let outer : get_or s₄.goes s₄.top 0 ≡ s.top = ap (λ j. get_or s₄.goes j 0) B.top ∙ G.outer in
      let around : get_or s₂.goes s₂.top 0 ≡ s.top = ap (λ j. get_or s₂.goes j 0) A.top ∙ G.inner in
      record {
        top = K.top ∙ outer;
        came = (
          came_stays a (suc p) s₂.came s₆.came (λ i l h. C.after_first.at i (inl h)) A.came,
          C.at_else ∙ A.top,
          came_stays b (suc q) s₄.came s₆.came (λ i l h. C.after_second.at i (inl h)) B.came,
          C.at_end ∙ B.top,
          K.came,
        );
        goes = (
          G.at_if,
          goes_stays a (suc p) s₂.goes s₆.goes G.first A.goes,
          G.at_else,
          goes_stays b (suc q) s₄.goes s₆.goes G.second B.goes,
          K.goes,
        );
        came_kept = wider C.whole (omega arith) upto;
        goes_kept = wider G.whole (omega arith) upto;
        came_is = K.came_is ∙ rw (B.top, B.came_is, A.top, A.came_is);
        goes_is = K.goes_is ∙ cc (around, A.top, A.goes_is, B.top, B.goes_is, goes_closed a b p s.top s.goes);
      }

module _ (m : Loop Test) (a k : Tree Assignment Test) (p : ℕ) (s s₂ s₄ : PartnersSoFar) (t₁ t₃ : Bool) where
  after_again : let q = suc p + rows a in suc q ≤ length s.came → suc q ≤ length s.goes → t₃ ≡ has_test m
      → Passed a (suc p) (found_at (repeat m) t₁ p s) s₂ → Passed k (suc q) (found_at end_repeat t₃ q s₂) s₄ → Passed (again m a k) p s s₄
  unfolding found_at CameFrom GoesTo came_by goes_by rows
  after_again lc lg tests A K =
      let q = suc p + rows a in
      let e = suc q + rows k in
      let out = left_from m (suc p) q in
      let back = left_from m q (suc p) in
      let c₁ = A.came_kept in
      let c₂ = store_keeps s₂.came p q in
      let c₂' = store_keeps (set s₂.came p q) q out in
      let c₃ : Keeps (suc q) e (set (set s₂.came p q) q out) s₄.came =
      subst (λ j. Keeps (suc q) e (set (set s₂.came j q) q (cond (has_test m) (suc j) q)) s₄.came) A.top
      (subst (λ t. Keeps (suc q) e (set (set s₂.came s₂.top q) q (cond t (suc s₂.top) q)) s₄.came) tests K.came_kept) in
      let g₀ = store_keeps s.goes p s.top in
      let g₁ = A.goes_kept in
      let g₂ = store_keeps s₂.goes q p in
      let g₂' = store_keeps (set s₂.goes q p) p back in
      let g₃ : Keeps (suc q) e (set (set s₂.goes q p) p back) s₄.goes =
      subst (λ j. Keeps (suc q) e (set (set s₂.goes q j) j (cond (has_test m) q (suc j))) s₄.goes) A.top
      (subst (λ t. Keeps (suc q) e (set (set s₂.goes q s₂.top) s₂.top (cond t q (suc s₂.top))) s₄.goes) tests K.goes_kept) in
      let long : length s₂.goes ≡ length s.goes = g₁.long ∙ g₀.long in
      let outer : get_or s₂.goes s₂.top 0 ≡ s.top =
      ap (λ j. get_or s₂.goes j 0) A.top ∙ g₁.at p (inl (omega arith)) ∙ get_or-set_same s.goes p s.top 0 (omega arith) in
      record {
        top = K.top ∙ outer;
        came = (
          c₃.at p (inl (omega arith)) ∙ c₂'.at p (inl (omega arith)) ∙ get_or-set_same s₂.came p q 0 (omega (arith, c₁.long)),
          came_stays a (suc p) s₂.came s₄.came (λ i l h. c₃.at i (inl (omega arith)) ∙ c₂'.at i (inl h) ∙ c₂.at i (inr l)) A.came,
          K.came,
          c₃.at q (inl (omega arith)) ∙ get_or-set_same (set s₂.came p q) q out 0 (omega (arith, c₁.long, c₂.long)),
        );
        goes = (
          goes_stays a (suc p) s₂.goes s₄.goes (λ i l h. g₃.at i (inl (omega arith)) ∙ g₂'.at i (inr l) ∙ g₂.at i (inl h)) A.goes,
          g₃.at q (inl (omega arith)) ∙ g₂'.at q (inr (omega arith)) ∙ get_or-set_same s₂.goes q p 0 (omega arith),
          K.goes,
          g₃.at p (inl (omega arith)) ∙ get_or-set_same (set s₂.goes q p) p back 0 (omega (arith, g₂.long)),
        );
        came_kept =
            keeps_then (wider c₁ (omega arith) (omega arith))
            (keeps_then (wider c₂ (omega arith) (omega arith))
            (keeps_then (wider c₂' (omega arith) (omega arith)) (wider c₃ (omega arith) (omega arith))));
        goes_kept =
            keeps_then (wider g₀ (omega arith) (omega arith))
            (keeps_then (wider g₁ (omega arith) (omega arith))
            (keeps_then (wider g₂ (omega arith) (omega arith))
            (keeps_then (wider g₂' (omega arith) (omega arith)) (wider g₃ (omega arith) (omega arith)))));
        came_is = K.came_is ∙ rw (tests, A.top, A.came_is);
        goes_is = K.goes_is ∙ rw (tests, A.top, A.goes_is, goes_turned a p s.top (left_from m q (suc p)) s.goes);
      }

-- ---- the pass, part by part

module _ (line : ℕ → SheetLine) where
  abbrev stepped : ℕ → PartnersSoFar → PartnersSoFar
  stepped p s = found_at (line p) (in_tested line s) p s

  found_both : (p m n : ℕ) (s : PartnersSoFar) → found_over line p (m + n) s ≡ found_over line (p + m) n (found_over line p m s)
  unfolding found_over
  found_both p zero n s = let here : p + 0 ≡ p = omega arith in let all : 0 + n ≡ n = omega arith in rw (here, all)
  found_both p (suc m) n s =
      let all : suc m + n ≡ suc (m + n) = omega arith in
      let here : p + suc m ≡ suc p + m = omega arith in
      rw (all, here) (found_both (suc p) m n (stepped p s))

  pub found_one : (p x : ℕ) (s : PartnersSoFar) (b : Assignment) → line p ≡ basic b → found_over line p (1 + x) s ≡ found_over line (suc p) x s
  unfolding found_over found_at
  found_one p x s b e =
      let count : 1 + x ≡ suc x = omega arith in
      rw count (ap (found_over line (suc p) x) (ap (λ l. found_at l (in_tested line s) p s) e))

  pub found_again : (p x z : ℕ) (s : PartnersSoFar) → let q = suc p + x in
      found_over line p (2 + (x + z)) s ≡ found_over line (suc q) z (stepped q (found_over line (suc p) x (stepped p s)))
  unfolding found_over
  found_again p x z s =
      let count : 2 + (x + z) ≡ suc (x + suc z) = omega arith in
      rw count (found_both (suc p) x (suc z) (stepped p s))

  pub found_fork : (p x y z : ℕ) (s : PartnersSoFar) → let q = suc p + x in let r = suc q + y in
      let first = found_over line (suc p) x (stepped p s) in
      let second = found_over line (suc q) y (stepped q first) in
      found_over line p (3 + (x + y + z)) s ≡ found_over line (suc r) z (stepped r second)
  unfolding found_over
  found_fork p x y z s =
      let count : 3 + (x + y + z) ≡ 2 + (x + (y + suc z)) = omega arith in
      rw count
      (found_again p x (y + suc z) s
      ∙ found_both (suc (suc p + x)) y (suc z) (stepped (suc p + x) (found_over line (suc p) x (stepped p s))))

  pub found_long : (l : SheetLine) (t : Bool) (p : ℕ) (s : PartnersSoFar)
      → (length (found_at l t p s).came ≡ length s.came) × (length (found_at l t p s).goes ≡ length s.goes)
  unfolding found_at
  found_long (basic b) t p s = (refl, refl)
  found_long (if_line f) t p s = (refl, length-set s.goes p s.top)
  found_long else_line t p s =
      (length-set s.came p s.top, length-set (set s.goes s.top p) p (get_or s.goes s.top 0) ∙ length-set s.goes s.top p)
  found_long end_if t p s = (length-set s.came p s.top, length-set s.goes s.top p)
  found_long (repeat m) t p s = (refl, length-set s.goes p s.top)
  found_long end_repeat t p s = (
    length-set (set s.came s.top p) p (way_out t (suc s.top) p) ∙ length-set s.came s.top p,
    length-set (set s.goes p s.top) s.top (way_out t p (suc s.top)) ∙ length-set s.goes p s.top,
  )

  pub passed_over : (t : Tree Assignment Test) (p : ℕ) (s : PartnersSoFar) → LinesAt line t p → p + rows t ≤ length s.came → p + rows t ≤ length s.goes
      → Passed t p s (found_over line p (rows t) s)
  unfolding LinesAt CameFrom GoesTo came_by goes_by rows found_over
  passed_over done p s l lc lg =
      record { top = refl; came = tt; goes = tt; came_kept = keeps_all s.came; goes_kept = keeps_all s.goes; came_is = refl; goes_is = refl }
  passed_over (one b k) p s l lc lg =
      let K = passed_over k (suc p) s l.1 (omega arith) (omega arith) in
      rw (found_one p (rows k) s b l.0) (record {
        top = K.top;
        came = K.came;
        goes = K.goes;
        came_kept = wider K.came_kept (omega arith) (omega arith);
        goes_kept = wider K.goes_kept (omega arith) (omega arith);
        came_is = K.came_is;
        goes_is = K.goes_is;
      })
  passed_over (fork f a b k) p s l lc lg =
      let q = suc p + rows a in
      let r = suc q + rows b in
      let s₁ = found_at (if_line f) (in_tested line s) p s in
      let s₂ = found_over line (suc p) (rows a) s₁ in
      let s₃ = found_at else_line (in_tested line s₂) q s₂ in
      let s₄ = found_over line (suc q) (rows b) s₃ in
      let s₅ = found_at end_if (in_tested line s₄) r s₄ in
      let l₁ = found_long (if_line f) (in_tested line s) p s in
      let A = passed_over a (suc p) s₁ l.1 (omega (arith, l₁)) (omega (arith, l₁)) in
      let l₃ = found_long else_line (in_tested line s₂) q s₂ in
      let lc₃ : length s₃.came ≡ length s.came = l₃.0 ∙ A.came_kept.long ∙ l₁.0 in
      let lg₃ : length s₃.goes ≡ length s.goes = l₃.1 ∙ A.goes_kept.long ∙ l₁.1 in
      let B = passed_over b (suc q) s₃ l.3 (omega arith) (omega arith) in
      let l₅ = found_long end_if (in_tested line s₄) r s₄ in
      let lc₅ : length s₅.came ≡ length s.came = l₅.0 ∙ B.came_kept.long ∙ lc₃ in
      let lg₅ : length s₅.goes ≡ length s.goes = l₅.1 ∙ B.goes_kept.long ∙ lg₃ in
      let K = passed_over k (suc r) s₅ l.5 (omega arith) (omega arith) in
      rw (found_fork p (rows a) (rows b) (rows k) s, l.0, l.2, l.4) (after_fork f a b k p s s₂ s₄ _ (in_tested line s) (in_tested line s₂) (in_tested line s₄) (omega arith) (omega arith) A B K)
  passed_over (again m a k) p s l lc lg =
      let q = suc p + rows a in
      let s₁ = found_at (repeat m) (in_tested line s) p s in
      let s₂ = found_over line (suc p) (rows a) s₁ in
      let s₃ = found_at end_repeat (in_tested line s₂) q s₂ in
      let l₁ = found_long (repeat m) (in_tested line s) p s in
      let A = passed_over a (suc p) s₁ l.1 (omega (arith, l₁)) (omega (arith, l₁)) in
      let l₃ = found_long end_repeat (in_tested line s₂) q s₂ in
      let lc₃ : length s₃.came ≡ length s.came = l₃.0 ∙ A.came_kept.long ∙ l₁.0 in
      let lg₃ : length s₃.goes ≡ length s.goes = l₃.1 ∙ A.goes_kept.long ∙ l₁.1 in
      let K = passed_over k (suc q) s₃ l.3 (omega arith) (omega arith) in
      rw (found_again p (rows a) (rows k) s, l.0, l.2) (after_again m a k p s s₂ _ (in_tested line s) (in_tested line s₂) (omega arith) (omega arith) (ap (λ j. opens_test (line j)) A.top ∙ ap opens_test l.0) A K)
