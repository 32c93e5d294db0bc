-- With right lines and partners, a sheet's equations hang together as a walk needs it.
use Prim.Native.Nat.{ℕ, suc, ◌+◌, ◌-◌, ◌≤◌, ◌<◌}
use native.Mathlib.Decide.{ℕ_discrete, dec_lt}
use native.Mathlib.Numerals.{add-one}
use native.Mathlib.Omega.{arith}
use mathlib.Core.Path.{◌≡◌, refl, sym, ap, subst, ◌∙◌}
use mathlib.Core.Bool.{Bool, true, false, ◌||◌, cond}
use mathlib.Core.List.{List}
use lib.ListN.{get_or}
use Rattle.sheet.specs.Tree.{Loop, has_test, Tree, done, one, fork, again, rows, basic, if_line, else_line, end_if, repeat, end_repeat}
use Rattle.sheet.specs.Rows.{Assignment, Test, SheetLine}
use Rattle.sheet.specs.Inner.Kinds.{part_of, part_for}
use Rattle.sheet.specs.declared.kinds.Part.{Part}
use Rattle.sheet.specs.Inner.RowLines.{numbered_row}
use Rattle.sheet.proofs.LinesByPart.{row_part}
use Rattle.sets.specs.Inner.Analyses.{Which, Varied, Useful, Required}
use Rattle.sets.specs.VariableSets.{VariableSet, ◌∪◌}
use Rattle.sets.specs.Equations.{Equation, passes, joins, unchanged, left_from, right_side}
use Rattle.sets.specs.Partners.{CameFrom, GoesTo}
use Rattle.sets.specs.Transfers.{Activity}
use Rattle.sets.specs.Inner.RowEquations.{Given, given_by, line_in, equation_of, equation_in, forward_of, backward_of, turn_of}
use Rattle.sets.specs.Inner.RowEquations.{row_in_turn, own_point, settled_point, joins_by, joins_on, joins_back, splits as is_else, AllReadable}
use Rattle.sets.specs.Inner.Walks.{place_in_turn, ends_on, ends_back, ends_repeat, asks_partner, in_turn, Behind, FarEnd, Asks, behind, around, Wired}
use Rattle.sets.proofs.Truths.{never}
use Rattle.sets.proofs.RowByRow.{LinesAt}

-- one of two numbers lies where both do
between : (first : Bool) (x y low high : ℕ) → low ≤ x → x ≤ high → low ≤ y → y ≤ high → (low ≤ cond first x y) × (cond first x y ≤ high)
between true x y low high a b c d = (a, b)
between false x y low high a b c d = (c, d)

-- ---- where each row stands in its block

module _ (line : ℕ → SheetLine) (came goes : List ℕ) (n : ℕ) where
  abbrev came_of : ℕ → ℕ
  came_of p = get_or came p 0

  abbrev goes_of : ℕ → ℕ
  goes_of p = get_or goes p 0

  pub data Placed (p : ℕ) : Type 0 where
    assigns : (b : Assignment) → line p ≡ basic b → Placed p
    opens : (f : Test) → line p ≡ if_line f → p < goes_of p → goes_of p < n → Placed p
    splits : line p ≡ else_line → came_of p < p → p < goes_of p → goes_of p < n → Placed p
    closes : line p ≡ end_if → came_of p < p → Placed p
    repeats : (m : Loop Test) → line p ≡ repeat m → p < came_of p → came_of p < n → line (came_of p) ≡ end_repeat → goes_of (came_of p) ≡ p
        → p < goes_of p → goes_of p ≤ came_of p → Placed p
    ends : (m : Loop Test) → line p ≡ end_repeat → goes_of p < p → line (goes_of p) ≡ repeat m → came_of (goes_of p) ≡ p → came_of p ≤ p → Placed p

  pub placed : (t : Tree Assignment Test) (p : ℕ) → p + rows t ≤ n → LinesAt line t p → CameFrom came t p → GoesTo goes t p
      → (i : ℕ) → p ≤ i → i < p + rows t → Placed i
  unfolding LinesAt CameFrom GoesTo rows
  placed done p w l c g i lo hi = absurd (omega arith)
  placed (one b k) p w l c g i lo hi = go (ℕ_discrete i p) (placed k (suc p) (omega arith) l.1 c g i)
    where
      go : Dec (i ≡ p) → (suc p ≤ i → i < suc p + rows k → Placed i) → Placed i
      go (yes e) more = assigns b (ap line e ∙ l.0)
      go (no e) more = more (omega arith) (omega arith)
  placed (fork f a b k) p w l c g i lo hi =
      let q = suc p + rows a in
      let r = suc q + rows b in
      go (ℕ_discrete i p) (dec_lt i q) (ℕ_discrete i q) (dec_lt i r) (ℕ_discrete i r)
      (placed a (suc p) (omega arith) l.1 c.0 g.1 i) (placed b (suc q) (omega arith) l.3 c.2 g.3 i)
      (placed k (suc r) (omega arith) l.5 c.4 g.4 i)
    where
      go : let q = suc p + rows a in let r = suc q + rows b in
          Dec (i ≡ p) → Dec (i < q) → Dec (i ≡ q) → Dec (i < r) → Dec (i ≡ r)
          → (suc p ≤ i → i < suc p + rows a → Placed i) → (suc q ≤ i → i < suc q + rows b → Placed i)
          → (suc r ≤ i → i < suc r + rows k → Placed i) → Placed i
      go (yes e) d₂ d₃ d₄ d₅ in_a in_b in_k =
          opens f (ap line e ∙ l.0) (omega (arith, ap goes_of e, g.0)) (omega (arith, ap goes_of e, g.0))
      go (no x) (yes e) d₃ d₄ d₅ in_a in_b in_k = in_a (omega arith) e
      go (no x) (no y) (yes e) d₄ d₅ in_a in_b in_k =
          splits (ap line e ∙ l.2) (omega (arith, ap came_of e, c.1)) (omega (arith, ap goes_of e, g.2)) (omega (arith, ap goes_of e, g.2))
      go (no x) (no y) (no z) (yes e) d₅ in_a in_b in_k = in_b (omega arith) e
      go (no x) (no y) (no z) (no u) (yes e) in_a in_b in_k = closes (ap line e ∙ l.4) (omega (arith, ap came_of e, c.3))
      go (no x) (no y) (no z) (no u) (no w) in_a in_b in_k = in_k (omega arith) (omega arith)
  placed (again m a k) p w l c g i lo hi =
      let q = suc p + rows a in
      go (ℕ_discrete i p) (dec_lt i q) (ℕ_discrete i q) (placed a (suc p) (omega arith) l.1 c.1 g.0 i)
      (placed k (suc q) (omega arith) l.3 c.2 g.2 i)
    where
      go : let q = suc p + rows a in
          Dec (i ≡ p) → Dec (i < q) → Dec (i ≡ q) → (suc p ≤ i → i < suc p + rows a → Placed i) → (suc q ≤ i → i < suc q + rows k → Placed i)
          → Placed i
      go (yes e) d₂ d₃ in_a in_k =
          let there : came_of i ≡ suc p + rows a = ap came_of e ∙ c.0 in
          let out : goes_of i ≡ left_from m (suc p + rows a) (suc p) = ap goes_of e ∙ g.3 in
          let within = between (has_test m) (suc p + rows a) (suc p) (suc p) (suc p + rows a) (omega arith) (omega arith) (omega arith) (omega arith) in
          repeats m (ap line e ∙ l.0) (omega arith) (omega arith) (ap line there ∙ l.2) (ap goes_of there ∙ g.1 ∙ sym e)
          (omega (arith, within.0)) (omega (arith, within.1))
      go (no x) (yes e) d₃ in_a in_k = in_a (omega arith) e
      go (no x) (no y) (yes e) in_a in_k =
          let there : goes_of i ≡ p = ap goes_of e ∙ g.1 in
          let out : came_of i ≡ left_from m (suc p) (suc p + rows a) = ap came_of e ∙ c.3 in
          let within = between (has_test m) (suc p) (suc p + rows a) 0 (suc p + rows a) (omega arith) (omega arith) (omega arith) (omega arith) in
          ends m (ap line e ∙ l.2) (omega arith) (ap line there ∙ l.0) (ap came_of there ∙ c.0 ∙ sym e) (omega (arith, within.1))
      go (no x) (no y) (no z) in_a in_k = in_k (omega arith) (omega arith)

-- ---- what a right side asks

module _ (which : Which) (n i : ℕ) (e : Equation) where
  behind_one : (p q : ℕ) (f : VariableSet → VariableSet) → e ≡ passes p q f → (j : ℕ) → j ≤ i → place_in_turn which n j ≡ p → Behind which n i e
  unfolding right_side
  behind_one p q f is j l at_j at at' same =
      ap (λ x. right_side x at) is ∙ ap f (subst (λ y. at y ≡ at' y) at_j (same j l)) ∙ sym (ap (λ x. right_side x at') is)

  behind_two : (p q r : ℕ) → e ≡ joins p q r → (j k : ℕ) → j ≤ i → k ≤ i → place_in_turn which n j ≡ p → place_in_turn which n k ≡ q → Behind which n i e
  unfolding right_side
  behind_two p q r is j k l m at_j at_k at at' same =
      let first : at p ≡ at' p = subst (λ y. at y ≡ at' y) at_j (same j l) in
      let second : at q ≡ at' q = subst (λ y. at y ≡ at' y) at_k (same k m) in
      let both : at p ∪ at q ≡ at' p ∪ at' q = rw (first, second) in
      ap (λ x. right_side x at) is ∙ both ∙ sym (ap (λ x. right_side x at') is)

module _ (words : List ℕ) (first : ℕ) (known : ℕ → Activity) (came goes : List ℕ) (n : ℕ) (readable : AllReadable words first n)
    (all : (p : ℕ) → p < n → Placed (line_in words first) came goes n p) where
  abbrev line : ℕ → SheetLine
  line p = line_in words first p

  abbrev part_at : ℕ → Part
  part_at p = part_for (numbered_row words first p).kind

  part_of_lem : (p : ℕ) (l : SheetLine) → p < n → line p ≡ l → part_at p ≡ part_of l
  part_of_lem p l h e = sym (row_part (readable p h).says) ∙ ap part_of e

  -- a test of what the row is to the blocks, by the line
  part_told : (test : Part → Bool) (p : ℕ) (l : SheetLine) → p < n → line p ≡ l → test (part_at p) ≡ true → test (part_of l) ≡ true
  part_told test p l h e f = sym (ap test (part_of_lem p l h e)) ∙ f

  -- ---- from before to after

  module _ (which : Which) (turns : (i : ℕ) → row_in_turn which n i ≡ i) (places_are : (i : ℕ) → place_in_turn which n i ≡ i)
      (own : (p : ℕ) → own_point which p ≡ p) (settled : (p : ℕ) → settled_point which p ≡ suc p)
      (far : (part : Part) → ends_repeat which part ≡ ends_on part)
      (asks_by : (part : Part) → asks_partner which part ≡ (ends_on part || (is_else part || joins_on part)))
      (equation_is : (acts : Activity) (l : SheetLine) (p c : ℕ) → equation_of which acts l p c ≡ forward_of (turn_of which acts) l p c) where
    abbrev given : Given
    given = given_by words first known came

    equation_at : (p c : ℕ) (l : SheetLine) → line p ≡ l → get_or came p 0 ≡ c
        → equation_in which given p ≡ forward_of (turn_of which (known p)) l p c
    unfolding equation_in
    equation_at p c l e f = equation_is _ _ _ _ ∙ rw (e, f)

    in_turn_lem : (i c : ℕ) (l : SheetLine) → line i ≡ l → get_or came i 0 ≡ c
        → in_turn which given n i ≡ forward_of (turn_of which (known i)) l i c
    in_turn_lem i c l e f = ap (equation_in which given) (turns i) ∙ equation_at i c l e f

    forward_taken : (p : ℕ) → p < n → asks_partner which (part_at p) ≡ true → get_or came p 0 < n
    forward_taken p h asked = go (all p h)
      where
        by_line : (l : SheetLine) → line p ≡ l → (ends_on (part_of l) || (is_else (part_of l) || joins_on (part_of l))) ≡ true
        by_line l e = part_told (λ part. ends_on part || (is_else part || joins_on part)) p l h e (sym (asks_by (part_at p)) ∙ asked)

        go : Placed line came goes n p → get_or came p 0 < n
        go (assigns b e) = never (by_line (basic b) e)
        go (opens f e u w) = never (by_line (if_line f) e)
        go (splits e u w z) = omega arith
        go (closes e u) = omega arith
        go (repeats m e u w x y o out) = w
        go (ends m e u w x out) = omega arith

    forward_far : (near c : ℕ) (m : Loop Test) → c < n → line c ≡ end_repeat → get_or goes c 0 ≡ near → line near ≡ repeat m → get_or came near 0 ≡ c
        → FarEnd which given goes near c
    unfolding forward_of
    forward_far near c m h e g f k =
        record {
          ends = far (part_at c) ∙ ap ends_on (part_of_lem c end_repeat h e);
          near_is = g;
          equation = equation_at near c (repeat m) f k ∙ rw (own near, own c, settled near);
        }

    forward_back : (i : ℕ) → i < n → ends_repeat which (part_at i) ≡ true → let near = get_or goes i 0 in
        (near < n) × (near < i) × FarEnd which given goes near i
    forward_back i h far_end = go (all i h)
      where
        by_line : (l : SheetLine) → line i ≡ l → ends_on (part_of l) ≡ true
        by_line l e = part_told ends_on i l h e (sym (far (part_at i)) ∙ far_end)

        go : Placed line came goes n i → let near = get_or goes i 0 in (near < n) × (near < i) × FarEnd which given goes near i
        go (assigns b e) = never (by_line (basic b) e)
        go (opens f e u w) = never (by_line (if_line f) e)
        go (splits e u w z) = never (by_line else_line e)
        go (closes e u) = never (by_line end_if e)
        go (repeats m e u w x y o out) = never (by_line (repeat m) e)
        go (ends m e u w x out) = (omega arith, u, forward_far (get_or goes i 0) i m h e refl w x)

    forward_asks : (i : ℕ) → i < n → Asks which given goes n i
    unfolding forward_of
    forward_asks i h = go (all i h)
      where
        go : Placed line came goes n i → Asks which given goes n i
        go (assigns b e) = behind (behind_one which n i _ i (suc i) _ (in_turn_lem i _ (basic b) e refl) i (omega arith) (places_are i))
        go (opens f e u w) = behind (behind_one which n i _ i (suc i) _ (in_turn_lem i _ (if_line f) e refl) i (omega arith) (places_are i))
        go (splits e u w z) =
            behind (behind_one which n i _ (get_or came i 0) (suc i) _ (in_turn_lem i _ else_line e refl) (get_or came i 0) (omega arith) (places_are _))
        go (closes e u) =
            behind (behind_two which n i _ (get_or came i 0) i (suc i) (in_turn_lem i _ end_if e refl) (get_or came i 0) i (omega arith) (omega arith)
            (places_are _) (places_are i))
        go (repeats m e u w x y o out) =
            around (get_or came i 0) u w
            (subst (λ r. FarEnd which given goes r (row_in_turn which n (get_or came i 0))) (sym (turns i))
            (subst (FarEnd which given goes i) (sym (turns (get_or came i 0))) (forward_far i (get_or came i 0) m w x y e refl)))
        go (ends m e u w x out) =
            behind (behind_one which n i _ (get_or came i 0) (suc i) _ (in_turn_lem i _ end_repeat e refl) (get_or came i 0) out (places_are _))

    forward_wired : Wired which given goes n
    forward_wired =
        record {
          taken = forward_taken;
          back = λ i h e.
              let b = forward_back i h (rw (turns i) at e) in
              rw (turns i) (b.0, rw (turns (get_or goes i 0)) b.1, b.2);
          asks = forward_asks;
        }

  pub varied_wired : Wired Varied (given_by words first known came) goes n
  unfolding row_in_turn place_in_turn own_point settled_point ends_repeat joins_by equation_of
  varied_wired =
      forward_wired Varied (λ i. refl) (λ i. refl) (λ p. refl) (λ p. omega arith) (λ k. refl) (λ k. refl) (λ acts l p c. refl)

  pub required_wired : Wired Required (given_by words first known came) goes n
  unfolding row_in_turn place_in_turn own_point settled_point ends_repeat joins_by equation_of
  required_wired =
      forward_wired Required (λ i. refl) (λ i. refl) (λ p. refl) (λ p. omega arith) (λ k. refl) (λ k. refl) (λ acts l p c. refl)

  -- ---- from after to before

  abbrev given_back : Given
  given_back = given_by words first known goes

  back_equation : (p c : ℕ) (l : SheetLine) → line p ≡ l → get_or goes p 0 ≡ c
      → equation_in Useful given_back p ≡ backward_of (turn_of Useful (known p)) l p c
  unfolding equation_in equation_of
  back_equation p c l e f = rw (e, f)

  backward_taken : (p : ℕ) → p < n → asks_partner Useful (part_at p) ≡ true → get_or goes p 0 < n
  unfolding joins_by ends_repeat
  backward_taken p h asked = go (all p h)
    where
      by_line : (l : SheetLine) → line p ≡ l → (ends_back (part_of l) || (is_else (part_of l) || joins_back (part_of l))) ≡ true
      by_line l e = part_told (λ part. ends_back part || (is_else part || joins_back part)) p l h e asked

      go : Placed line came goes n p → get_or goes p 0 < n
      go (assigns b e) = never (by_line (basic b) e)
      go (opens f e u w) = w
      go (splits e u w z) = z
      go (closes e u) = never (by_line end_if e)
      go (repeats m e u w x y o out) = omega arith
      go (ends m e u w x out) = omega arith

  backward_far : (near c : ℕ) (m : Loop Test) → c < n → line c ≡ repeat m → get_or came c 0 ≡ near → line near ≡ end_repeat → get_or goes near 0 ≡ c
      → FarEnd Useful given_back came near c
  unfolding backward_of ends_repeat own_point settled_point
  backward_far near c m h e g f k =
      record {
        ends = ap ends_back (part_of_lem c (repeat m) h e);
        near_is = g;
        equation = back_equation near c end_repeat f k ∙ rw (add-one near, add-one c);
      }

  backward_back : (p : ℕ) → p < n → ends_repeat Useful (part_at p) ≡ true → let near = get_or came p 0 in
      (near < n) × (p < near) × FarEnd Useful given_back came near p
  unfolding ends_repeat
  backward_back p h told = go (all p h)
    where
      by_line : (l : SheetLine) → line p ≡ l → ends_back (part_of l) ≡ true
      by_line l e = part_told ends_back p l h e told

      go : Placed line came goes n p → let near = get_or came p 0 in (near < n) × (p < near) × FarEnd Useful given_back came near p
      go (assigns b e) = never (by_line (basic b) e)
      go (opens f e u w) = never (by_line (if_line f) e)
      go (splits e u w z) = never (by_line else_line e)
      go (closes e u) = never (by_line end_if e)
      go (repeats m e u w x y o out) = (w, u, backward_far (get_or came p 0) p m h e refl x y)
      go (ends m e u w x out) = never (by_line end_repeat e)

  backward_asks : (i : ℕ) → i < n → Asks Useful given_back came n i
  unfolding backward_of row_in_turn place_in_turn
  backward_asks i h = go (all (n - suc i) (omega arith))
    where
      p : ℕ
      p = n - suc i

      at_own : n - i ≡ suc p
      at_own = omega arith

      one_behind : (f : VariableSet → VariableSet) → equation_in Useful given_back p ≡ passes (suc p) p f → Asks Useful given_back came n i
      one_behind f is = behind (behind_one Useful n i _ (suc p) p f is i (omega arith) at_own)

      go : Placed line came goes n p → Asks Useful given_back came n i
      go (assigns b e) = one_behind _ (back_equation p _ (basic b) e refl)
      go (opens f e u w) =
          let c = get_or goes p 0 in
          behind (behind_two Useful n i _ (suc p) (suc c) p (back_equation p _ (if_line f) e refl) i (n - suc c) (omega arith) (omega arith)
          at_own (omega arith))
      go (splits e u w z) =
          let c = get_or goes p 0 in
          behind (behind_one Useful n i _ (suc c) p unchanged (back_equation p _ else_line e refl) (n - suc c) (omega arith) (omega arith))
      go (closes e u) = one_behind _ (back_equation p _ end_if e refl)
      go (repeats m e u w x y o out) =
          let c = get_or goes p 0 in
          behind (behind_one Useful n i _ c p unchanged (back_equation p _ (repeat m) e refl) (n - c) (omega arith) (omega arith))
      go (ends m e u w x out) =
          let c = get_or goes p 0 in
          let same : n - suc (n - suc c) ≡ c = omega arith in
          around (n - suc c) (omega arith) (omega arith)
          (subst (FarEnd Useful given_back came p) (sym same) (backward_far p c m (omega arith) w x e refl))

  pub useful_wired : Wired Useful (given_by words first known goes) came n
  unfolding row_in_turn
  useful_wired =
      record {
        taken = backward_taken;
        back = λ i h e. let b = backward_back (n - suc i) (omega arith) e in (b.0, omega (arith, b.0, b.1), b.2);
        asks = backward_asks;
      }
