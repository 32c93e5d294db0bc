-- In a pass over a tree's lines the innermost open block's last row is always one of the rows.
use Prim.Native.Nat.{ℕ, zero, suc, ◌+◌, ◌≤◌, ◌<◌}
use native.Mathlib.Omega.{arith}
use mathlib.Core.Path.{◌≡◌, refl, sym, subst, ◌∙◌}
use mathlib.Core.List.{List}
use lib.ListN.{length}
use Rattle.sheet.specs.Tree.{Tree, done, one, fork, again, rows, basic, if_line, else_line, end_if, repeat, end_repeat}
use Rattle.sheet.specs.Inner.Words.{word_values}
use Rattle.sheet.specs.Rows.{Assignment, Test, SheetLine}
use Rattle.sets.specs.Inner.PartnerPass.{PartnersSoFar, found, found_at, in_tested, found_over, TopsWithin, Findable}
use Rattle.sets.proofs.RowByRow.{LinesAt}
use Rattle.sets.proofs.PartnersRight.{Passed, found_one, found_again, found_fork, found_long, passed_over}

module _ (line : ℕ → SheetLine) (n : ℕ) where
  -- the lists have a place for each row, and the innermost open one is a row
  record Ready (s : PartnersSoFar) : Type 0 where
    came_room : n ≤ length s.came
    goes_room : n ≤ length s.goes
    top_within : s.top < n

  tops_turn : (l : SheetLine) (p m : ℕ) (s : PartnersSoFar) → line p ≡ l → s.top < n → TopsWithin line n (suc p) m (found_at l (in_tested line s) p s)
      → TopsWithin line n p (suc m) s
  unfolding TopsWithin
  tops_turn l p m s is h w = (h, rw is w)

  ready_on : (l : SheetLine) (p : ℕ) (s : PartnersSoFar) → Ready s → (found_at l (in_tested line s) p s).top < n → Ready (found_at l (in_tested line s) p s)
  ready_on l p s r h =
      let long = found_long line l (in_tested line s) p s in
      record { came_room = omega (arith, long.0, r.came_room); goes_room = omega (arith, long.1, r.goes_room); top_within = h }

  ready_over : (t : Tree Assignment Test) (p : ℕ) (s s' : PartnersSoFar) → Ready s → Passed t p s s' → Ready s'
  ready_over t p s s' r passed =
      record {
        came_room = omega (arith, passed.came_kept.long, r.came_room);
        goes_room = omega (arith, passed.goes_kept.long, r.goes_room);
        top_within = rw passed.top r.top_within;
      }

  pass : (t : Tree Assignment Test) (p : ℕ) (s : PartnersSoFar) → LinesAt line t p → p + rows t ≤ n → Ready s → Passed t p s (found_over line p (rows t) s)
  pass t p s l h r = passed_over line t p s l (omega (arith, r.came_room)) (omega (arith, r.goes_room))

  -- m rows follow the tree's
  tops_tree : (t : Tree Assignment Test) (p m c e : ℕ) (s : PartnersSoFar) → c ≡ rows t + m → e ≡ p + rows t → e ≤ n → LinesAt line t p → Ready s
      → TopsWithin line n e m (found_over line p (rows t) s) → TopsWithin line n p c s
  unfolding LinesAt rows found_at found_over
  tops_tree done p m c e s hc he below l r w =
      let same : c ≡ m = omega arith in
      let here : e ≡ p = omega arith in
      rw (same, sym here) w
  tops_tree (one b k) p m c e s hc he below l r w =
      let count : c ≡ suc (rows k + m) = omega arith in
      let rest = subst (TopsWithin line n e m) (found_one line p (rows k) s b l.0) w in
      rw count
      (tops_turn (basic b) p (rows k + m) s l.0 r.top_within (tops_tree k (suc p) m (rows k + m) e s refl (omega arith) below l.1 r rest))
  tops_tree (fork f a b k) p m c e s hc he below l r w =
      let q = suc p + rows a in
      let end = suc q + rows b in
      let behind = rows k + m in
      let after = rows b + suc behind in
      let s₁ = found_at (if_line f) (in_tested line s) p s in
      let s₂ = found_over line (suc p) (rows a) s₁ in
      let s₃ = found_at else_line (in_tested line s₂) q s₂ in
      let s₄ = found_over line (suc q) (rows b) s₃ in
      let s₅ = found_at end_if (in_tested line s₄) end s₄ in
      let r₁ : Ready s₁ = ready_on (if_line f) p s r (omega arith) in
      let r₂ : Ready s₂ = ready_over a (suc p) s₁ s₂ r₁ (pass a (suc p) s₁ l.1 (omega arith) r₁) in
      let r₃ : Ready s₃ = ready_on else_line q s₂ r₂ (omega arith) in
      let r₄ : Ready s₄ = ready_over b (suc q) s₃ s₄ r₃ (pass b (suc q) s₃ l.3 (omega arith) r₃) in
      let closed : found_over line p (3 + (rows a + rows b + 0)) s ≡ s₅ =
      found_fork line p (rows a) (rows b) 0 s ∙ rw (l.0, l.2, l.4) in
      let r₅ : Ready s₅ =
      ready_over (fork f a b done) p s s₅ r
      (subst (Passed (fork f a b done) p s) closed (pass (fork f a b done) p s (l.0, l.1, l.2, l.3, l.4, tt) (omega arith) r)) in
      let rest : TopsWithin line n e m (found_over line (suc end) (rows k) s₅) =
      subst (TopsWithin line n e m) (found_fork line p (rows a) (rows b) (rows k) s ∙ rw (l.0, l.2, l.4)) w in
      let last = tops_tree k (suc end) m behind e s₅ refl (omega arith) below l.5 r₅ rest in
      let end_row = tops_turn end_if end behind s₄ l.4 r₄.top_within last in
      let second = tops_tree b (suc q) (suc behind) after end s₃ refl refl (omega arith) l.3 r₃ end_row in
      let else_row = tops_turn else_line q after s₂ l.2 r₂.top_within second in
      let first = tops_tree a (suc p) (suc after) (rows a + suc after) q s₁ refl refl (omega arith) l.1 r₁ else_row in
      let count : c ≡ suc (rows a + suc after) = omega arith in
      rw count (tops_turn (if_line f) p (rows a + suc after) s l.0 r.top_within first)
  tops_tree (again t a k) p m c e s hc he below l r w =
      let q = suc p + rows a in
      let behind = rows k + m in
      let s₁ = found_at (repeat t) (in_tested line s) p s in
      let s₂ = found_over line (suc p) (rows a) s₁ in
      let s₃ = found_at end_repeat (in_tested line s₂) q s₂ in
      let r₁ : Ready s₁ = ready_on (repeat t) p s r (omega arith) in
      let r₂ : Ready s₂ = ready_over a (suc p) s₁ s₂ r₁ (pass a (suc p) s₁ l.1 (omega arith) r₁) in
      let closed : found_over line p (2 + (rows a + 0)) s ≡ s₃ = found_again line p (rows a) 0 s ∙ rw (l.0, l.2) in
      let r₃ : Ready s₃ =
      ready_over (again t a done) p s s₃ r
      (subst (Passed (again t a done) p s) closed (pass (again t a done) p s (l.0, l.1, l.2, tt) (omega arith) r)) in
      let rest : TopsWithin line n e m (found_over line (suc q) (rows k) s₃) =
      subst (TopsWithin line n e m) (found_again line p (rows a) (rows k) s ∙ rw (l.0, l.2)) w in
      let last = tops_tree k (suc q) m behind e s₃ refl (omega arith) below l.3 r₃ rest in
      let end_row = tops_turn end_repeat q behind s₂ l.2 r₂.top_within last in
      let body = tops_tree a (suc p) (suc behind) (rows a + suc behind) q s₁ refl refl (omega arith) l.1 r₁ end_row in
      let count : c ≡ suc (rows a + suc behind) = omega arith in
      rw count (tops_turn (repeat t) p (rows a + suc behind) s l.0 r.top_within body)

  tops_none : (p : ℕ) (s : PartnersSoFar) → TopsWithin line n p 0 s
  unfolding TopsWithin
  tops_none p s = tt

-- all rows
pub findable : (line : ℕ → SheetLine) (n : ℕ) (t : Tree Assignment Test) (came goes : List ℕ) → LinesAt line t 0 → n ≡ rows t → n ≤ length came
    → n ≤ length goes → n < word_values → Findable line n came goes
findable line zero t came goes l is lc lg few = record { few = few; came_room = lc; goes_room = lg; within = tops_none line 0 0 (found 0 came goes) }
findable line (suc m) t came goes l is lc lg few =
    let n = suc m in
    let start = found 0 came goes in
    let ready : Ready line n start = record { came_room = lc; goes_room = lg; top_within = omega arith } in
    record {
      few = few;
      came_room = lc;
      goes_room = lg;
      within = tops_tree line n t 0 0 n n start (omega arith) (omega arith) (omega arith) l ready (tops_none line n n (found_over line 0 (rows t) start));
    }
