-- Rounds reach the least solution: where right sides are monotone and no two equations settle the same point, `least` gives the least
-- sets that satisfy the equations. Every round but the last adds a member, so the fuel suffices.
use Prim.Native.Nat.{ℕ, zero, suc, ◌+◌, ◌*◌, ◌^◌, ◌≤◌, ◌<◌, zero-le}
use native.Mathlib.Nat.{suc-mul}
use native.Mathlib.Decide.{ℕ_discrete, dec_lt}
use native.Mathlib.Omega.{arith}
use mathlib.Core.Path.{◌≡◌, refl, sym, ap, subst, ◌∙◌}
use mathlib.Core.Bool.{Bool, true, false}
use mathlib.Core.List.Memᴰ
use mathlib.Core.List.{List, [], ◌∷◌}
use mathlib.Core.Logic.{◌≢◌, ◌⊎◌, inl, inr}
use lib.ListN.{length, set, replicate, length-set, length-replicate, get_or-replicate, get_or-eq_default}
use lib.Seq.{get_or-set_same, get_or-set_other}
use lib.Dec.{eqb, eqb→eq, eqb_refl}
use lib.Pow.{pow_pos}
use Rattle.sheet.proofs.RowsBack.{both}
use Rattle.sets.specs.VariableSets.{VariableSet, empty, ◌∪◌, ◌⊆◌}
use Rattle.sets.specs.Equations.{Equation, point_of, right_side, Satisfy, Least}
use Rattle.sets.specs.Rounds.{set_at, round, same, settled, least}
use Rattle.sets.specs.Inner.ProperEquations.{◌∈◌, Within, Proper}
use Rattle.sets.proofs.Truths.{T_of, of_T}
use Rattle.sets.proofs.VariableSetLaws.{empty_within, union_left, union_right, union_least, ⊆-antisym}
use Rattle.sets.proofs.VariableSetSizes.{union_below, count, count_most, count_grows}

-- ---- one store

pub stored : Equation → List VariableSet → List VariableSet
stored e sets = set sets (point_of e) (set_at sets (point_of e) ∪ right_side e (set_at sets))

pub stored_is : (e : Equation) (sets : List VariableSet) → stored e sets ≡ set sets (point_of e) (set_at sets (point_of e) ∪ right_side e (set_at sets))
unfolding stored
stored_is e sets = refl

pub stored_length : (e : Equation) (sets : List VariableSet) → length (stored e sets) ≡ length sets
unfolding stored
stored_length e sets = length-set sets (point_of e) _

-- what holds of the old sets and of the stored one holds of all
stored_each : (Q : ℕ → VariableSet → Type 0) (e : Equation) (sets : List VariableSet) → point_of e < length sets
    → Q (point_of e) (set_at sets (point_of e) ∪ right_side e (set_at sets)) → ((p : ℕ) → Q p (set_at sets p)) → (p : ℕ) → Q p (set_at (stored e sets) p)
unfolding stored
stored_each Q e sets l new old p = go (ℕ_discrete p (point_of e))
  where
    go : Dec (p ≡ point_of e) → Q p (set_at (stored e sets) p)
    go (yes q) = subst (λ i. Q i (set_at (stored e sets) i)) (sym q) (subst (Q (point_of e)) (sym (get_or-set_same sets (point_of e) _ empty l)) new)
    go (no q) = subst (Q p) (sym (get_or-set_other sets (point_of e) p _ empty q)) (old p)

pub stored_grows : (e : Equation) (sets : List VariableSet) → point_of e < length sets → Within (set_at sets) (set_at (stored e sets))
stored_grows e sets l =
    stored_each (λ p s. set_at sets p ⊆ s) e sets l (union_left (set_at sets (point_of e)) (right_side e (set_at sets))) (λ p i h. h)

pub stored_has : (e : Equation) (sets : List VariableSet) → point_of e < length sets → right_side e (set_at sets) ⊆ set_at (stored e sets) (point_of e)
unfolding stored
stored_has e sets l = rw (get_or-set_same sets (point_of e) _ empty l) (union_right (set_at sets (point_of e)) (right_side e (set_at sets)))

-- it keeps every other set
pub stored_other : (e : Equation) (sets : List VariableSet) (p : ℕ) → p ≢ point_of e → set_at (stored e sets) p ≡ set_at sets p
unfolding stored
stored_other e sets p other = get_or-set_other sets (point_of e) p _ empty other

-- ---- a round and all rounds keep what each store keeps

round_keeps : (P : List VariableSet → Type 0) (es : List Equation)
    → ((e : Equation) → e ∈ es → (sets : List VariableSet) → P sets → P (stored e sets)) → (sets : List VariableSet) → P sets → P (round es sets)
unfolding round stored
round_keeps P [] keeps sets h = h
round_keeps P (e ∷ es) keeps sets h =
    round_keeps P es (λ e' m. keeps e' (Memᴰ.tail m)) (stored e sets) (keeps e (Memᴰ.head refl) sets h)

pub settled_on : (n : ℕ) (es : List Equation) (sets : List VariableSet) → same sets (round es sets) ≡ false
    → settled (suc n) es sets ≡ settled n es (round es sets)
unfolding settled
settled_on n es sets e = rw (e, settled)

pub settled_rests : (n : ℕ) (es : List Equation) (sets : List VariableSet) → same sets (round es sets) ≡ true
    → settled (suc n) es sets ≡ sets
unfolding settled
settled_rests n es sets e = rw (e, settled)

settled_keeps : (P : List VariableSet → Type 0) (es : List Equation) → ((sets : List VariableSet) → P sets → P (round es sets))
    → (n : ℕ) (sets : List VariableSet) → P sets → P (settled n es sets)
unfolding settled
settled_keeps P es keeps zero sets h = h
settled_keeps P es keeps (suc n) sets h = go (same sets (round es sets)) refl (settled_keeps P es keeps n (round es sets) (keeps sets h))
  where
    go : (b : Bool) → same sets (round es sets) ≡ b → P (settled n es (round es sets)) → P (settled (suc n) es sets)
    go true e more = subst P (sym (settled_rests n es sets e)) h
    go false e more = subst P (sym (settled_on n es sets e)) more

-- ---- how many members there are at all points

pub same_equal : (xs ys : List VariableSet) → same xs ys ≡ true → xs ≡ ys
unfolding same
same_equal [] [] e = refl
same_equal [] (y ∷ ys) e = let z : ◌≡◌ {A = ℕ} 0 1 = cc in absurd (omega arith)
same_equal (x ∷ xs) [] e = let z : ◌≡◌ {A = ℕ} 0 1 = cc in absurd (omega arith)
same_equal (x ∷ xs) (y ∷ ys) e = let h = both (eqb x y) (same xs ys) e in cc (eqb→eq x y (T_of h.0), same_equal xs ys h.1)

pub same_refl : (xs : List VariableSet) → same xs xs ≡ true
unfolding same
same_refl [] = refl
same_refl (x ∷ xs) = rw (of_T (eqb x x) (eqb_refl x)) (same_refl xs)

pub total : ℕ → List VariableSet → ℕ
total v [] = 0
total v (s ∷ sets) = count v s + total v sets

pub total_most : (v : ℕ) (sets : List VariableSet) → total v sets ≤ length sets * v
unfolding total
total_most v [] = zero-le
total_most v (s ∷ sets) = omega (arith, suc-mul (length sets) v, count_most v s, total_most v sets)

-- sets that only grow are the same or have more members
pub total_grows : (v : ℕ) (xs ys : List VariableSet) → length xs ≡ length ys → Within (set_at xs) (set_at ys) → ((p : ℕ) → set_at xs p < 2 ^ v)
    → ((p : ℕ) → set_at ys p < 2 ^ v) → (xs ≡ ys) ⊎ (total v xs < total v ys)
unfolding total
total_grows v [] [] l w h k = inl refl
total_grows v [] (y ∷ ys) l w h k = absurd (omega arith)
total_grows v (x ∷ xs) [] l w h k = absurd (omega arith)
total_grows v (x ∷ xs) (y ∷ ys) l w h k =
    go (count_grows v x y (w 0) (h 0) (k 0)) (total_grows v xs ys (omega arith) (λ p. w (suc p)) (λ p. h (suc p)) (λ p. k (suc p)))
  where
    go : (x ≡ y) ⊎ (count v x < count v y) → (xs ≡ ys) ⊎ (total v xs < total v ys)
        → (x ∷ xs ≡ y ∷ ys) ⊎ (count v x + total v xs < count v y + total v ys)
    go (inl p) (inl q) = inl cc
    go (inl p) (inr q) = inr (omega (arith, ap (count v) p))
    go (inr p) (inl q) = inr (omega (arith, ap (total v) q))
    go (inr p) (inr q) = inr (omega arith)

same_sets : (xs ys : List VariableSet) → length xs ≡ length ys → ((p : ℕ) → set_at xs p ≡ set_at ys p) → xs ≡ ys
same_sets [] [] l h = refl
same_sets [] (y ∷ ys) l h = absurd (omega arith)
same_sets (x ∷ xs) [] l h = absurd (omega arith)
same_sets (x ∷ xs) (y ∷ ys) l h = cc (h 0, same_sets xs ys (omega arith) (λ p. h (suc p)))

-- ---- solutions, by membership

satisfied_at : (es : List Equation) (at : ℕ → VariableSet) → Satisfy es at → (e : Equation) → e ∈ es → at (point_of e) ≡ right_side e at
unfolding Satisfy
satisfied_at [] at h e m = elim m [ ]
satisfied_at (e' ∷ es) at h e m = go (Memᴰ.cases_cons m) (satisfied_at es at h.1 e)
  where
    go : (e ≡ e') ⊎ (e ∈ es) → (e ∈ es → at (point_of e) ≡ right_side e at) → at (point_of e) ≡ right_side e at
    go (inl p) more = subst (λ x. at (point_of x) ≡ right_side x at) (sym p) h.0
    go (inr m') more = more m'

satisfied : (es : List Equation) (at : ℕ → VariableSet) → ((e : Equation) → e ∈ es → at (point_of e) ≡ right_side e at) → Satisfy es at
unfolding Satisfy
satisfied [] at h = tt
satisfied (e ∷ es) at h = (h e (Memᴰ.head refl), satisfied es at (λ e' m. h e' (Memᴰ.tail m)))

-- ---- proper equations

-- What every store keeps. `behind`: no set has more than its right side makes of the present sets.
pub record Kept (v points : ℕ) (es : List Equation) (sets : List VariableSet) : Type 0 where
  pub long : length sets ≡ points
  pub below : (p : ℕ) → set_at sets p < 2 ^ v
  behind : (e : Equation) → e ∈ es → set_at sets (point_of e) ⊆ right_side e (set_at sets)

-- every right side is there
abbrev pub Ahead : List Equation → (ℕ → VariableSet) → Type 0
Ahead es at = (e : Equation) → e ∈ es → right_side e at ⊆ at (point_of e)

pub record Inside (points : ℕ) (at : ℕ → VariableSet) (sets : List VariableSet) : Type 0 where
  pub long : length sets ≡ points
  pub inside : Within (set_at sets) at

module _ (v points : ℕ) (es : List Equation) (proper : Proper v points es) where
  pub in_range_lem : (e : Equation) → e ∈ es → (sets : List VariableSet) → length sets ≡ points → point_of e < length sets
  in_range_lem e m sets long = rw long (proper.there e m)

  -- a store leaves every set behind its right side: its own, since no other equation settles its point, and the others, which only grew
  store_behind : (e : Equation) → e ∈ es → (sets : List VariableSet) → Kept v points es sets → (e' : Equation) → e' ∈ es
      → set_at (stored e sets) (point_of e') ⊆ right_side e' (set_at (stored e sets))
  store_behind e m sets kept e' m' =
      stored_each (λ p s. point_of e' ≡ p → s ⊆ right_side e' (set_at (stored e sets))) e sets l
      (λ q i h. grown i (rw (sym (proper.only e' e m' m q)) at (union_least _ _ right (kept.behind e m) (λ j k. k) i h)))
      (λ p q i h. grown i (kept.behind e' m' i (rw q h)))
      (point_of e') refl
    where
      l : point_of e < length sets
      l = in_range_lem e m sets kept.long

      right : VariableSet
      right = right_side e (set_at sets)

      grown : right_side e' (set_at sets) ⊆ right_side e' (set_at (stored e sets))
      grown = proper.monotone e' m' (set_at sets) (set_at (stored e sets)) (stored_grows e sets l)

  pub store_keeps : (e : Equation) → e ∈ es → (sets : List VariableSet) → Kept v points es sets → Kept v points es (stored e sets)
  store_keeps e m sets kept =
      record {
        long = stored_length e sets ∙ kept.long;
        below =
            stored_each (λ p s. s < 2 ^ v) e sets (in_range_lem e m sets kept.long)
            (union_below v _ _ (kept.below (point_of e)) (proper.below e m (set_at sets) kept.below))
            kept.below;
        behind = store_behind e m sets kept;
      }

  pub round_kept : (sets : List VariableSet) → Kept v points es sets → Kept v points es (round es sets)
  round_kept = round_keeps (Kept v points es) es store_keeps

  -- ---- a round only adds members; one that adds none has found a solution

  -- sets of the right length that have grown from these
  pub record Grown (from : List VariableSet) (sets : List VariableSet) : Type 0 where
    pub long : length sets ≡ points
    pub grows : Within (set_at from) (set_at sets)

  round_grows : (rest : List Equation) → ((e : Equation) → e ∈ rest → e ∈ es) → (sets : List VariableSet) → length sets ≡ points
      → Grown sets (round rest sets)
  round_grows rest part sets long =
      round_keeps (Grown sets) rest
      (λ e m now grown. record {
        long = stored_length e now ∙ grown.long;
        grows = λ p i h. stored_grows e now (in_range_lem e (part e m) now grown.long) p i (grown.grows p i h);
      })
      sets (record { long = long; grows = λ p i h. h })

  -- it changes nothing or adds members
  pub round_adds : (sets : List VariableSet) → Kept v points es sets → (sets ≡ round es sets) ⊎ (total v sets < total v (round es sets))
  round_adds sets kept =
      let next = round_kept sets kept in
      total_grows v sets (round es sets) (kept.long ∙ sym next.long) (round_grows es (λ x k. k) sets kept.long).grows kept.below
      next.below

  -- if a round adds nothing, every right side was there already
  round_ahead : (rest : List Equation) → ((e : Equation) → e ∈ rest → e ∈ es) → (sets : List VariableSet) → length sets ≡ points
      → Within (set_at (round rest sets)) (set_at sets) → (e : Equation) → e ∈ rest → right_side e (set_at sets) ⊆ set_at sets (point_of e)
  unfolding round stored
  round_ahead [] part sets long same e m = elim m [ ]
  round_ahead (e' ∷ rest) part sets long same e m =
      go (Memᴰ.cases_cons m) (round_ahead rest later next long' (λ p i h. stored_grows e' sets l p i (same p i h)) e)
    where
      next : List VariableSet
      next = stored e' sets

      later : (x : Equation) → x ∈ rest → x ∈ es
      later x k = part x (Memᴰ.tail k)

      l : point_of e' < length sets
      l = in_range_lem e' (part e' (Memᴰ.head refl)) sets long

      long' : length next ≡ points
      long' = stored_length e' sets ∙ long

      back : Within (set_at next) (set_at sets)
      back p i h = same p i ((round_grows rest later next long').grows p i h)

      go : (e ≡ e') ⊎ (e ∈ rest) → (e ∈ rest → right_side e (set_at next) ⊆ set_at next (point_of e)) → right_side e (set_at sets) ⊆ set_at sets (point_of e)
      go (inl q) more =
          subst (λ x. right_side x (set_at sets) ⊆ set_at sets (point_of x)) (sym q) (λ i h. back (point_of e') i (stored_has e' sets l i h))
      go (inr k) more = λ i h. back (point_of e) i (more k i (proper.monotone e (later e k) (set_at sets) (set_at next) (stored_grows e' sets l) i h))

  -- ---- the fuel suffices

  abbrev AddsNothing : List VariableSet → Type 0
  AddsNothing sets = Within (set_at (round es sets)) (set_at sets)

  settled_stops : (n : ℕ) (sets : List VariableSet) → Kept v points es sets → points * v < n + total v sets → AddsNothing (settled n es sets)
  settled_stops zero sets kept fuel = absurd (omega (arith, rw kept.long at (total_most v sets)))
  settled_stops (suc n) sets kept fuel = go (same sets (round es sets)) refl (settled_stops n (round es sets) (round_kept sets kept))
    where
      more : (sets ≡ round es sets) ⊎ (total v sets < total v (round es sets)) → same sets (round es sets) ≡ false
          → points * v < n + total v (round es sets)
      more (inl p) e = let z : ◌≡◌ {A = ℕ} 0 1 = cc (same_refl sets, ap (same sets) p) in absurd (omega arith)
      more (inr l) e = omega arith

      go : (b : Bool) → same sets (round es sets) ≡ b → (points * v < n + total v (round es sets) → AddsNothing (settled n es (round es sets)))
          → AddsNothing (settled (suc n) es sets)
      go true e on = rw (settled_rests n es sets e) (λ p i h. rw (sym (same_equal sets (round es sets) e)) at h)
      go false e on = rw (settled_on n es sets e) (on (more (round_adds sets kept) e))

  -- ---- within all sets that have every right side

  pub store_inside : (at : ℕ → VariableSet) → Ahead es at → (e : Equation) → e ∈ es → (sets : List VariableSet) → Inside points at sets
      → Inside points at (stored e sets)
  store_inside at ahead e m sets h =
      record {
        long = stored_length e sets ∙ h.long;
        inside = stored_each (λ p s. s ⊆ at p) e sets (in_range_lem e m sets h.long) stored_inside h.inside;
      }
    where
      right_inside : right_side e (set_at sets) ⊆ at (point_of e)
      right_inside i k = ahead e m i (proper.monotone e m (set_at sets) at h.inside i k)

      stored_inside : set_at sets (point_of e) ∪ right_side e (set_at sets) ⊆ at (point_of e)
      stored_inside = union_least _ _ _ (h.inside (point_of e)) right_inside

  -- ---- from nothing on

  none_at : (p : ℕ) → set_at (replicate points empty) p ≡ empty
  none_at p = go (dec_lt p points)
    where
      go : Dec (p < points) → set_at (replicate points empty) p ≡ empty
      go (yes l) = get_or-replicate points p empty empty l
      go (no l) = get_or-eq_default (replicate points empty) empty (omega (arith, length-replicate points empty))

  pub start_kept : Kept v points es (replicate points empty)
  start_kept =
      record {
        long = length-replicate points empty;
        below = λ p. rw (none_at p) (pow_pos v);
        behind = λ e m. rw (none_at (point_of e)) (empty_within _);
      }

  pub least_kept : Kept v points es (least v points es)
  unfolding least
  least_kept = settled_keeps (Kept v points es) es round_kept (suc (points * v)) (replicate points empty) start_kept

  pub least_ahead : Ahead es (set_at (least v points es))
  unfolding least
  least_ahead =
      round_ahead es (λ e m. m) (least v points es) least_kept.long
      (settled_stops (suc (points * v)) (replicate points empty) start_kept (omega arith))

  pub none_inside : (at : ℕ → VariableSet) → Inside points at (replicate points empty)
  none_inside at = record { long = length-replicate points empty; inside = λ p. rw (none_at p) (empty_within (at p)) }

  least_inside : (at : ℕ → VariableSet) → Ahead es at → Within (set_at (least v points es)) at
  unfolding least
  least_inside at ahead =
      (settled_keeps (Inside points at) es (round_keeps (Inside points at) es (store_inside at ahead)) (suc (points * v)) (replicate points empty)
      (none_inside at)).inside

  pub equations_least : Least es (set_at (least v points es))
  equations_least =
      record {
        satisfies = satisfied es (set_at (least v points es)) (λ e m. ⊆-antisym _ _ (least_kept.behind e m) (least_ahead e m));
        within = λ at solves. least_inside at (λ e m. rw (satisfied_at es at solves e m) (λ i k. k));
      }

  -- sets that have every right side and lie within the least ones are these
  pub ahead_least : (sets : List VariableSet) → Inside points (set_at (least v points es)) sets → Ahead es (set_at sets) → sets ≡ least v points es
  ahead_least sets within ahead =
      same_sets sets (least v points es) (within.long ∙ sym least_kept.long)
      (λ p. ⊆-antisym _ _ (within.inside p) (least_inside (set_at sets) ahead p))
