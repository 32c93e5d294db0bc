-- A walk over the rows ends with the least sets: what holds before each row of it, and the number that falls with each.
use Prim.Native.Nat.{ℕ, zero, suc, ◌+◌, ◌*◌, ◌-◌, ◌≤◌, ◌<◌}
use native.Mathlib.Nat.{suc-mul}
use native.Mathlib.Decide.{ℕ_discrete, dec_lt}
use native.Mathlib.Omega.{arith}
use mathlib.Core.Path.{◌≡◌, refl, sym, ap, subst, ◌∙◌}
use mathlib.Core.List.Memᴰ
use mathlib.Core.List.{List}
use mathlib.Core.Logic.{◌≢◌, ◌⊎◌, inl, inr}
use lib.ListN.{length, get_or, set, replicate}
use lib.Dec.{T}
use Rattle.sheet.specs.declared.kinds.Part.{Part}
use Rattle.sets.specs.Inner.Analyses.{Which, Varied, Useful, Required}
use Rattle.sets.specs.VariableSets.{VariableSet, empty, has, ◌∪◌, ◌⊆◌}
use Rattle.sets.specs.Equations.{Equation, starts, point_of, right_side}
use Rattle.sets.specs.Rounds.{set_at, least}
use Rattle.sets.specs.Inner.ProperEquations.{◌∈◌, Within, Proper}
use Rattle.sets.specs.Inner.RowEquations.{Given, equation_in, row_in_turn, own_point, settled_point}
use Rattle.sets.specs.Inner.RowEquations.{listed, start_of, row_equations, all_equations}
use Rattle.sets.specs.Inner.Walks.{place_in_turn, ends_repeat, part_in, in_turn, Behind, FarEnd, Asks, behind, around, Wired, Brought, Due, onward, backward, Grown}
use Rattle.sets.proofs.VariableSetLaws.{union_left, union_right, union_least, ⊆-antisym}
use Rattle.sets.proofs.RightSides.{settled_in}
use Rattle.sets.proofs.EquationsLeast.{stored, stored_is, stored_grows, stored_has, stored_other, total, total_most, total_grows}
use Rattle.sets.proofs.EquationsLeast.{Kept, in_range_lem, store_keeps, start_kept, Ahead, Inside, store_inside, none_inside, least_ahead, ahead_least}

-- ---- rows in turn and the points between them

pub turn_below : (which : Which) (n i : ℕ) → i < n → row_in_turn which n i < n
unfolding row_in_turn
turn_below Varied n i h = h
turn_below Useful n i h = omega arith
turn_below Required n i h = h

pub turn_back : (which : Which) (n i : ℕ) → i < n → row_in_turn which n (row_in_turn which n i) ≡ i
unfolding row_in_turn
turn_back Varied n i h = refl
turn_back Useful n i h = omega arith
turn_back Required n i h = refl

pub own_place : (which : Which) (n i : ℕ) → i < n → own_point which (row_in_turn which n i) ≡ place_in_turn which n i
unfolding row_in_turn own_point place_in_turn
own_place Varied n i h = refl
own_place Useful n i h = omega arith
own_place Required n i h = refl

settled_place : (which : Which) (n i : ℕ) → i < n → settled_point which (row_in_turn which n i) ≡ place_in_turn which n (suc i)
unfolding row_in_turn settled_point place_in_turn
settled_place Varied n i h = omega arith
settled_place Useful n i h = refl
settled_place Required n i h = omega arith

pub start_place : (which : Which) (n : ℕ) → start_of which n ≡ place_in_turn which n 0
unfolding start_of place_in_turn
start_place Varied n = refl
start_place Useful n = omega arith
start_place Required n = refl

settled_next : (which : Which) (n p : ℕ) → p < n → settled_point which p ≡ place_in_turn which n (suc (row_in_turn which n p))
settled_next which n p h =
    ap (settled_point which) (sym (turn_back which n p h)) ∙ settled_place which n (row_in_turn which n p) (turn_below which n p h)

place_apart : (which : Which) (n i j : ℕ) → i ≤ n → j ≤ n → place_in_turn which n i ≡ place_in_turn which n j → i ≡ j
unfolding place_in_turn
place_apart Varied n i j h k e = e
place_apart Useful n i j h k e = omega arith
place_apart Required n i j h k e = e

-- ---- an equation of those listed

listed_has : (e : ℕ → Equation) (i m j : ℕ) → j < m → e (i + j) ∈ listed e i m
unfolding listed
listed_has e i zero j h = absurd (omega arith)
listed_has e i (suc m) zero h = let here : i + 0 ≡ i = omega arith in rw here (Memᴰ.head refl)
listed_has e i (suc m) (suc j) h = let there : i + suc j ≡ suc i + j = omega arith in rw there (Memᴰ.tail (listed_has e (suc i) m j (omega arith)))

listed_each : (P : Equation → Type 0) (e : ℕ → Equation) (i m : ℕ) → ((j : ℕ) → i ≤ j → j < i + m → P (e j)) → (x : Equation) → x ∈ listed e i m → P x
unfolding listed
listed_each P e i zero h x k = elim k [ ]
listed_each P e i (suc m) h x k =
    go (Memᴰ.cases_cons k) (listed_each P e (suc i) m (λ j l l'. h j (omega arith) (omega arith)) x)
  where
    go : (x ≡ e i) ⊎ (x ∈ listed e (suc i) m) → (x ∈ listed e (suc i) m → P x) → P x
    go (inl q) more = subst P (sym q) (h i (omega arith) (omega arith))
    go (inr k') more = more k'

-- ---- how much is left: members that may come, each worth a whole walk, and the rows ahead

less_left : (a b n x : ℕ) → a < b → x ≤ n → a * suc n + x < b * suc n
less_left a zero n x h l = absurd (omega arith)
less_left a (suc b) n x h l = go (ℕ_discrete a b) (less_left a b n x)
  where
    go : Dec (a ≡ b) → (a < b → x ≤ n → a * suc n + x < b * suc n) → a * suc n + x < suc b * suc n
    go (yes e) more = omega (arith, suc-mul b (suc n), ap (λ y. y * suc n) e)
    go (no e) more = omega (arith, suc-mul b (suc n), more (omega arith) l)

abbrev pub left_of : (variables rows : ℕ) → List VariableSet → (turn : ℕ) → ℕ
left_of v n sets i = (suc n * v - total v sets) * suc n + (n - i)

module _ (which : Which) (given : Given) (others : List ℕ) (n : ℕ) where
  abbrev E : ℕ → Equation
  E i = in_turn which given n i

  abbrev place : ℕ → ℕ
  place i = place_in_turn which n i

  -- every equation passed holds in so far as what it asks is passed too
  pub record Passed (sets : List VariableSet) (i : ℕ) : Type 0 where
    straight : (k : ℕ) → k < i → Behind which n k (E k) → right_side (E k) (set_at sets) ⊆ set_at sets (place (suc k))
    entered : (k c : ℕ) → k < i → c < n → FarEnd which given others (row_in_turn which n k) (row_in_turn which n c)
        → set_at sets (place k) ⊆ set_at sets (place (suc k))
    turned : (k c : ℕ) → k < c → c < i → c < n → FarEnd which given others (row_in_turn which n k) (row_in_turn which n c)
        → set_at sets (place c) ⊆ set_at sets (place (suc k))

  pub nothing_passed : (sets : List VariableSet) → Passed sets 0
  nothing_passed sets =
      record { straight = λ k h. absurd (omega arith); entered = λ k c h. absurd (omega arith); turned = λ k c h l. absurd (omega arith) }

  point_is : (i : ℕ) → i < n → point_of (E i) ≡ place (suc i)
  point_is i h = sym (settled_in which given (row_in_turn which n i)) ∙ settled_place which n i h

  -- the i-th equation is stored, and the walk is or was at the j-th row
  module _ (sets : List VariableSet) (i j : ℕ) (i≤j : i ≤ j) (j<n : j < n) (long : length sets ≡ suc n) (there : point_of (E i) < length sets)
      (passed : Passed sets j)
      (brought : i ≡ j → (k : ℕ) → k < j → FarEnd which given others (row_in_turn which n k) (row_in_turn which n j)
      → set_at sets (place j) ⊆ set_at sets (place (suc k))) where
    abbrev next : List VariableSet
    next = stored (E i) sets

    same_at : (k : ℕ) → k ≤ i → set_at next (place k) ≡ set_at sets (place k)
    same_at k h = stored_other (E i) sets (place k)
        (λ e. absurd (omega (arith, place_apart which n k (suc i) (omega arith) (omega arith) (e ∙ point_is i (omega arith)))))

    grown : Within (set_at sets) (set_at next)
    grown = stored_grows (E i) sets there

    had : right_side (E i) (set_at sets) ⊆ set_at next (place (suc i))
    had = subst (λ p. right_side (E i) (set_at sets) ⊆ set_at next p) (point_is i (omega arith)) (stored_has (E i) sets there)

    asked_same : (k : ℕ) → k ≤ i → Behind which n k (E k) → right_side (E k) (set_at next) ≡ right_side (E k) (set_at sets)
    asked_same k h b = b (set_at next) (set_at sets) (λ l m. same_at l (omega arith))

    straight_on : (k : ℕ) → k < suc i → Behind which n k (E k) → right_side (E k) (set_at next) ⊆ set_at next (place (suc k))
    straight_on k h b = rw (asked_same k (omega arith) b) (go (ℕ_discrete k i))
      where
        go : Dec (k ≡ i) → right_side (E k) (set_at sets) ⊆ set_at next (place (suc k))
        go (yes e) = rw e had
        go (no e) = λ x m. grown (place (suc k)) x (passed.straight k (omega arith) b x m)

    entered_on : (k c : ℕ) → k < suc i → c < n → FarEnd which given others (row_in_turn which n k) (row_in_turn which n c)
        → set_at next (place k) ⊆ set_at next (place (suc k))
    unfolding right_side
    entered_on k c h l far = rw (same_at k (omega arith)) (go (ℕ_discrete k i))
      where
        side : right_side (E k) (set_at sets) ≡ set_at sets (place k) ∪ set_at sets (own_point which (row_in_turn which n c))
        side = ap (λ e. right_side e (set_at sets)) far.equation ∙ ap (λ p. set_at sets p ∪ set_at sets (own_point which (row_in_turn which n c)))
            (own_place which n k (omega arith))

        go : Dec (k ≡ i) → set_at sets (place k) ⊆ set_at next (place (suc k))
        go (yes e) x m =
            subst (λ y. right_side (E y) (set_at sets) ⊆ set_at next (place (suc y))) (sym e) had x (rw side (union_left (set_at sets (place k)) _ x m))
        go (no e) x m = grown (place (suc k)) x (passed.entered k c (omega arith) l far x m)

    turned_on : (k c : ℕ) → k < c → c < suc i → c < n → FarEnd which given others (row_in_turn which n k) (row_in_turn which n c)
        → set_at next (place c) ⊆ set_at next (place (suc k))
    turned_on k c h l m far = rw (same_at c (omega arith)) (go (ℕ_discrete c j))
      where
        go : Dec (c ≡ j) → set_at sets (place c) ⊆ set_at next (place (suc k))
        go (yes e) x y =
            grown (place (suc k)) x (brought (omega arith) k (omega arith) (subst (λ z. FarEnd which given others (row_in_turn which n k) (row_in_turn which n z)) e far) x
            (subst (λ z. set_at sets (place c) ⊆ set_at sets (place z)) e (λ u w. w) x y))
        go (no e) x y = grown (place (suc k)) x (passed.turned k c h (omega arith) m far x y)

    pub passed_on : Passed next (suc i)
    passed_on = record { straight = straight_on; entered = entered_on; turned = turned_on }

  -- ---- the walk

  -- what holds before the i-th row in turn
  pub record Walk (v : ℕ) (seed : VariableSet) (sets : List VariableSet) (i : ℕ) : Type 0 where
    pub upto : i ≤ n
    pub kept : Kept v (suc n) (all_equations which given n seed) sets
    pub inside : Inside (suc n) (set_at (least v (suc n) (all_equations which given n seed))) sets
    pub seeded : seed ⊆ set_at sets (start_of which n)
    pub passed : Passed sets i

  module _ (v : ℕ) (seed : VariableSet) (proper : Proper v (suc n) (all_equations which given n seed)) (wired : Wired which given others n) where
    abbrev es : List Equation
    es = all_equations which given n seed

    start_there : starts (start_of which n) seed ∈ es
    unfolding all_equations
    start_there = Memᴰ.head refl

    row_there : (i : ℕ) → i < n → E i ∈ es
    unfolding all_equations row_equations
    row_there i h = let all : 0 + i ≡ i = omega arith in Memᴰ.tail (rw all at (listed_has E 0 n i h))

    stored_kept : (e : Equation) → e ∈ es → (sets : List VariableSet) → Kept v (suc n) es sets → Kept v (suc n) es (stored e sets)
    stored_kept e m sets k = store_keeps v (suc n) es proper e m sets k

    stored_inside : (e : Equation) → e ∈ es → (sets : List VariableSet) → Inside (suc n) (set_at (least v (suc n) es)) sets
        → Inside (suc n) (set_at (least v (suc n) es)) (stored e sets)
    stored_inside e m sets k = store_inside v (suc n) es proper _ (least_ahead v (suc n) es proper) e m sets k

    around_side : (sets : List VariableSet) (j c : ℕ) → j < n → c < n → FarEnd which given others (row_in_turn which n j) (row_in_turn which n c)
        → right_side (E j) (set_at sets) ≡ set_at sets (place j) ∪ set_at sets (place c)
    unfolding right_side
    around_side sets j c h m f =
        ap (λ e. right_side e (set_at sets)) f.equation ∙ rw (own_place which n j h, own_place which n c m)

    start_ahead : (sets : List VariableSet) → seed ⊆ set_at sets (start_of which n)
        → right_side (starts (start_of which n) seed) (set_at sets) ⊆ set_at sets (point_of (starts (start_of which n) seed))
    unfolding right_side point_of
    start_ahead sets h = h

    pub walk_starts : (sets next : List VariableSet) → sets ≡ replicate (suc n) empty
        → next ≡ set sets (start_of which n) (set_at sets (start_of which n) ∪ seed) → Walk v seed next 0
    unfolding point_of right_side
    walk_starts sets next none is =
        let e : Equation = starts (start_of which n) seed in
        let from : List VariableSet = replicate (suc n) empty in
        let k = start_kept v (suc n) es proper in
        rw (is ∙ sym (stored_is e sets), none) (record {
          upto = omega arith;
          kept = stored_kept e start_there from k;
          inside = stored_inside e start_there from (none_inside v (suc n) es proper _);
          seeded = stored_has e from (in_range_lem v (suc n) es proper e start_there from k.long);
          passed = nothing_passed (stored e from);
        })

    module _ (sets : List VariableSet) (j : ℕ) (h : j < n) (walk : Walk v seed sets j) where
      abbrev far : ℕ
      far = row_in_turn which n j

      abbrev near : ℕ
      near = get_or others far 0

      pub record Moved (i : ℕ) : Type 0 where
        pub on : Walk v seed (stored (E i) sets) (suc i)
        pub less : left_of v n (stored (E i) sets) (suc i) < left_of v n sets j

      moved : (i : ℕ) → i ≤ j
          → (i ≡ j → (k : ℕ) → k < j → FarEnd which given others (row_in_turn which n k) far → set_at sets (place j) ⊆ set_at sets (place (suc k)))
          → (i < j → sets ≢ stored (E i) sets) → Moved i
      moved i le brought more =
          record {
            on = record {
              upto = omega arith;
              kept = next_kept;
              inside = stored_inside (E i) m sets walk.inside;
              seeded = λ x y. stored_grows (E i) sets there (start_of which n) x (walk.seeded x y);
              passed = passed_on sets i j le h walk.kept.long there walk.passed brought;
            };
            less = go (total_grows v sets next (walk.kept.long ∙ sym next_kept.long) (stored_grows (E i) sets there) walk.kept.below next_kept.below);
          }
        where
          next : List VariableSet
          next = stored (E i) sets

          m : E i ∈ es
          m = row_there i (omega arith)

          there : point_of (E i) < length sets
          there = in_range_lem v (suc n) es proper (E i) m sets walk.kept.long

          next_kept : Kept v (suc n) es next
          next_kept = stored_kept (E i) m sets walk.kept

          go : (sets ≡ next) ⊎ (total v sets < total v next) → left_of v n next (suc i) < left_of v n sets j
          go (inl same) = subst (λ s. left_of v n s (suc i) < left_of v n sets j) same (still (dec_lt i j))
            where
              still : Dec (i < j) → left_of v n sets (suc i) < left_of v n sets j
              still (yes l) = absurd (more l same)
              still (no l) = omega arith
          go (inr larger) =
              let most = rw next_kept.long at (total_most v next) in
              let less = less_left (suc n * v - total v next) (suc n * v - total v sets) n (n - suc i) (omega arith) (omega arith) in
              omega (arith, less)

      brought_within : (near : ℕ) → Brought which sets near far → (k : ℕ) → k < n → near ≡ row_in_turn which n k
          → set_at sets (place j) ⊆ set_at sets (place (suc k))
      brought_within near b k l e x y =
          let own : set_at sets (own_point which far) ≡ set_at sets (place j) = ap (set_at sets) (own_place which n j h) in
          let point : settled_point which near ≡ place (suc k) = ap (settled_point which) e ∙ settled_place which n k l in
          rw point at (rw b at (union_right (set_at sets (settled_point which near)) (set_at sets (own_point which far)) x (rw own y)))

      near_side : FarEnd which given others near far
          → set_at sets (own_point which near) ∪ set_at sets (own_point which far) ≡ right_side (equation_in which given near) (set_at sets)
      unfolding right_side
      near_side f = sym (ap (λ x. right_side x (set_at sets)) f.equation)

      -- a store that changes nothing brings nothing
      brings : FarEnd which given others near far → near < n → sets ≡ stored (equation_in which given near) sets → Brought which sets near far
      brings f l same =
          let e : Equation = equation_in which given near in
          let kept : VariableSet = set_at sets (settled_point which near) in
          let brought : VariableSet = set_at sets (own_point which far) in
          let there : point_of e < length sets =
          in_range_lem v (suc n) es proper e (rw (turn_back which n near l) at (row_there (row_in_turn which n near) (turn_below which n near l))) sets walk.kept.long in
          let within : brought ⊆ kept = λ x y.
          subst (λ p. T (has (set_at sets p) x)) (sym (settled_in which given near))
          (subst (λ s. T (has (set_at s (point_of e)) x)) (sym same)
          (stored_has e sets there x (rw (sym (near_side f)) (union_right (set_at sets (own_point which near)) brought x y)))) in
          ⊆-antisym _ _ (union_least kept brought kept (λ x y. y) within) (union_left kept brought)

      -- what was due is stored: the equation of the row that was due
      stored_due : (due : ℕ) {more stands : VariableSet} {next : List VariableSet} → more ≡ right_side (equation_in which given due) (set_at sets)
          → Grown sets (settled_point which due) more next stands → next ≡ stored (equation_in which given due) sets
      stored_due due is grown =
          rw (is, settled_in which given due) at grown.stored ∙ sym (stored_is (equation_in which given due) sets)

      -- the row was passed, and what holds before the next
      pub record Onward (next : List VariableSet) (due : ℕ) : Type 0 where
        pub on : Walk v seed next (suc (row_in_turn which n due))
        pub less : left_of v n next (suc (row_in_turn which n due)) < left_of v n sets j
        pub place : settled_point which due ≡ place_in_turn which n (suc (row_in_turn which n due))

      abbrev right_of : ℕ → VariableSet
      right_of p = right_side (equation_in which given p) (set_at sets)

      pub walked : {part : Part} {side more stands : VariableSet} {due : ℕ} {next : List VariableSet} → part ≡ part_in given far → side ≡ right_of far
          → Due which part side far others sets due more → Grown sets (settled_point which due) more next stands → Onward next due
      walked {part} {side} {more} {stands} {due} is side_is (onward e f brought) grown =
          let m = moved j (omega arith) (λ z k l f. brought_within near (brought (ap (ends_repeat which) is ∙ f.ends)) k (omega arith) f.near_is)
          (λ l. absurd (omega arith)) in
          let stores = stored_due due (f ∙ side_is ∙ ap right_of (sym e)) grown in
          record {
            on = rw (stores, e, turn_back which n j h) m.on;
            less = rw (stores, e, turn_back which n j h) m.less;
            place = settled_next which n due (rw e (turn_below which n j h));
          }
      walked {part} {side} {more} {stands} {due} is side_is (backward e f ends new) grown =
          let w = wired.back j h (sym (ap (ends_repeat which) is) ∙ ends) in
          let i = row_in_turn which n near in
          let back : row_in_turn which n i ≡ near = turn_back which n near w.0 in
          let m = moved i (omega (arith, w.1)) (λ z. absurd (omega (arith, w.1))) (λ l same. new (brings w.2 w.0 (rw back at same))) in
          let stores = stored_due due (f ∙ near_side w.2 ∙ ap right_of (sym e)) grown in
          record { on = rw (stores, e) (rw back at m.on); less = rw (stores, e) (rw back at m.less); place = settled_next which n due (rw e w.0) }

    -- at the end every right side is there
    pub walk_ends : (sets : List VariableSet) (i : ℕ) → Walk v seed sets i → n ≤ i → sets ≡ least v (suc n) es
    unfolding all_equations row_equations
    walk_ends sets i walk end = ahead_least v (suc n) es proper sets walk.inside ahead
      where
        row_ahead : (j : ℕ) → j < n → Asks which given others n j → right_side (E j) (set_at sets) ⊆ set_at sets (place (suc j))
        row_ahead j h (behind b) = walk.passed.straight j (omega arith) b
        row_ahead j h (around c l m f) =
            let side : right_side (E j) (set_at sets) ≡ set_at sets (place j) ∪ set_at sets (place c) =
            around_side sets j c h m f in
            rw side (union_least _ _ _ (walk.passed.entered j c (omega arith) m f) (walk.passed.turned j c l (omega arith) m f))

        ahead : Ahead es (set_at sets)
        ahead e k = go (Memᴰ.cases_cons k)
          where
            go : (e ≡ starts (start_of which n) seed) ⊎ (e ∈ listed E 0 n) → right_side e (set_at sets) ⊆ set_at sets (point_of e)
            go (inl q) = subst (λ x. right_side x (set_at sets) ⊆ set_at sets (point_of x)) (sym q) (start_ahead sets walk.seeded)
            go (inr k') =
                listed_each (λ x. right_side x (set_at sets) ⊆ set_at sets (point_of x)) E 0 n
                (λ j l m. subst (λ p. right_side (E j) (set_at sets) ⊆ set_at sets p) (sym (point_is j (omega arith))) (row_ahead j (omega arith) (wired.asks j (omega arith)))) e k'
