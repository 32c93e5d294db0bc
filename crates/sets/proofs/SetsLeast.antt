-- The three sets of an accepted sheet, as they are computed, are the least solutions of 01's equations, and no other sets are.
use Prim.Native.Nat.{ℕ, suc, ◌+◌, ◌^◌, ◌≤◌, ◌<◌}
use native.Mathlib.Omega.{arith}
use mathlib.Core.Path.{◌≡◌, refl, sym, ap, subst, ◌∙◌}
use mathlib.Core.List.Memᴰ
use mathlib.Core.List.{List, [], ◌∷◌}
use mathlib.Core.Logic.{◌≢◌, ◌⊎◌, inl, inr}
use lib.Pow.{pow_pos}
use Rattle.sheet.specs.Tree.{Tree, done, one, fork, again, rows}
use Rattle.sheet.specs.Rows.{Assignment, Test, is_independent, is_dependent}
use Rattle.sheet.specs.Names.{AssignmentPresent, Present}
use Rattle.sheet.specs.Judging.{given}
use Rattle.sheet.specs.Sheets.{Sheet, variables_of}
use Rattle.sheet.specs.Reading.{read}
use Rattle.sheet.proofs.NamesPresent.{names_present}
use Rattle.sets.specs.VariableSets.{VariableSet, empty, places, ◌⊆◌}
use Rattle.sets.specs.Equations.{Equation, starts, passes, joins, point_of, right_side, unchanged, forward, backward, Least}
use Rattle.sets.specs.Transfers.{varied_after, useful_before, required_after}
use Rattle.sets.specs.Rounds.{points, set_at, varied, useful, required, sets_of}
use Rattle.sets.specs.Marks.{varied_equations, useful_equations, required_equations, activity_at, Sets, LeastSets}
use Rattle.sets.specs.Inner.ProperEquations.{◌∈◌, Within, Proper}
use Rattle.sets.proofs.VariableSetLaws.{⊆-refl, ⊆-antisym, union_mono}
use Rattle.sets.proofs.VariableSetSizes.{union_below, places_below}
use Rattle.sets.proofs.TransferLaws.{Transfer, varied_transfer, useful_transfer, required_transfer}
use Rattle.sets.proofs.EquationsLeast.{equations_least}

-- ---- each equation settles its own point

-- in turn p, p + 1, .. up to q
abbrev Rising : ℕ → ℕ → List Equation → Type 0
Rising p q [] = p ≡ q
Rising p q (e ∷ es) = (point_of e ≡ p) × Rising (suc p) q es

-- in turn p - 1, p - 2, ..
abbrev Falling : ℕ → List Equation → Type 0
Falling p [] = Unit {0}
Falling p (e ∷ es) = (suc (point_of e) ≡ p) × Falling (point_of e) es

-- no two settle the same point
abbrev Apart : List Equation → Type 0
Apart [] = Unit {0}
Apart (e ∷ es) = ((e' : Equation) → e' ∈ es → point_of e' ≢ point_of e) × Apart es

apart_only : (es : List Equation) → Apart es → (e e' : Equation) → e ∈ es → e' ∈ es → point_of e ≡ point_of e' → e ≡ e'
apart_only [] h e e' m m' same = elim m [ ]
apart_only (x ∷ es) h e e' m m' same = go (Memᴰ.cases_cons m) (Memᴰ.cases_cons m') (apart_only es h.1 e e')
  where
    go : (e ≡ x) ⊎ (e ∈ es) → (e' ≡ x) ⊎ (e' ∈ es) → (e ∈ es → e' ∈ es → point_of e ≡ point_of e' → e ≡ e') → e ≡ e'
    go (inl p) (inl q) more = p ∙ sym q
    go (inl p) (inr n) more = absurd (h.0 e' n (sym same ∙ ap point_of p))
    go (inr n) (inl q) more = absurd (h.0 e n (same ∙ ap point_of q))
    go (inr n) (inr n') more = more n n' same

rising_upto : (p q : ℕ) (es : List Equation) → Rising p q es → p ≤ q
rising_upto p q [] h = omega arith
rising_upto p q (e ∷ es) h = omega (arith, rising_upto (suc p) q es h.1)

rising_between : (p q : ℕ) (es : List Equation) → Rising p q es → (e : Equation) → e ∈ es → (p ≤ point_of e) × (point_of e < q)
rising_between p q [] h e m = elim m [ ]
rising_between p q (x ∷ es) h e m = go (Memᴰ.cases_cons m) (rising_between (suc p) q es h.1 e)
  where
    go : (e ≡ x) ⊎ (e ∈ es) → (e ∈ es → (suc p ≤ point_of e) × (point_of e < q)) → (p ≤ point_of e) × (point_of e < q)
    go (inl s) more = omega (arith, ap point_of s, rising_upto (suc p) q es h.1, h.0)
    go (inr n) more = omega (arith, more n)

rising_apart : (p q : ℕ) (es : List Equation) → Rising p q es → Apart es
rising_apart p q [] h = tt
rising_apart p q (x ∷ es) h = (λ e m. omega (arith, rising_between (suc p) q es h.1 e m, h.0), rising_apart (suc p) q es h.1)

falling_under : (p : ℕ) (es : List Equation) → Falling p es → (e : Equation) → e ∈ es → point_of e < p
falling_under p [] h e m = elim m [ ]
falling_under p (x ∷ es) h e m = go (Memᴰ.cases_cons m) (falling_under (point_of x) es h.1 e)
  where
    go : (e ≡ x) ⊎ (e ∈ es) → (e ∈ es → point_of e < point_of x) → point_of e < p
    go (inl s) more = omega (arith, ap point_of s, h.0)
    go (inr n) more = omega (arith, more n, h.0)

falling_apart : (p : ℕ) (es : List Equation) → Falling p es → Apart es
falling_apart p [] h = tt
falling_apart p (x ∷ es) h = (λ e m. omega (arith, falling_under (point_of x) es h.1 e m), falling_apart (point_of x) es h.1)

module _ {B F : Type 0} (pass : ℕ → B → VariableSet → VariableSet) where
  forward_rises : (t : Tree B F) (p q r : ℕ) (rest : List Equation) → p + rows t ≡ q → Rising (suc q) r rest
      → Rising (suc p) r (forward pass t p rest)
  unfolding forward rows point_of
  forward_rises done p q r rest e h = subst (λ n. Rising n r rest) (omega arith) h
  forward_rises (one b k) p q r rest e h = (refl, forward_rises k (suc p) q r rest (omega arith) h)
  forward_rises (fork f a b k) p q r rest e h =
      (refl, forward_rises a (suc p) _ r _ refl (refl, forward_rises b _ _ r _ refl (refl, forward_rises k _ q r rest (omega arith) h)))
  forward_rises (again m a k) p q r rest e h = (refl, forward_rises a (suc p) _ r _ refl (refl, forward_rises k _ q r rest (omega arith) h))

  backward_falls : (t : Tree B F) (p q : ℕ) (rest : List Equation) → p + rows t ≡ q → Falling p rest → Falling q (backward pass t p rest)
  unfolding backward rows point_of
  backward_falls done p q rest e h = subst (λ n. Falling n rest) (omega arith) h
  backward_falls (one b k) p q rest e h = backward_falls k (suc p) q _ (omega arith) (refl, h)
  backward_falls (fork f a b k) p q rest e h =
      backward_falls k _ q _ (omega arith) (refl, backward_falls b _ _ _ refl (refl, backward_falls a (suc p) _ _ refl (refl, h)))
  backward_falls (again m a k) p q rest e h = backward_falls k _ q _ (omega arith) (refl, backward_falls a (suc p) _ _ refl (refl, h))

-- ---- each right side is monotone and keeps to v variables

abbrev Sound : ℕ → Equation → Type 0
Sound v (starts p s) = s < 2 ^ v
Sound v (passes p q f) = Transfer v f
Sound v (joins p q r) = Unit {0}

sound_monotone : (v : ℕ) (e : Equation) → Sound v e → (at at' : ℕ → VariableSet) → Within at at' → right_side e at ⊆ right_side e at'
unfolding right_side
sound_monotone v (starts p s) h at at' w = ⊆-refl s
sound_monotone v (passes p q f) h at at' w = h.monotone (at p) (at' p) (w p)
sound_monotone v (joins p q r) h at at' w = union_mono (at p) (at' p) (at q) (at' q) (w p) (w q)

sound_below : (v : ℕ) (e : Equation) → Sound v e → (at : ℕ → VariableSet) → ((p : ℕ) → at p < 2 ^ v) → right_side e at < 2 ^ v
unfolding right_side
sound_below v (starts p s) h at l = h
sound_below v (passes p q f) h at l = h.below (at p) (l p)
sound_below v (joins p q r) h at l = union_below v (at p) (at q) (l p) (l q)

abbrev AllSound : ℕ → List Equation → Type 0
AllSound v [] = Unit {0}
AllSound v (e ∷ es) = Sound v e × AllSound v es

sound_at : (v : ℕ) (es : List Equation) → AllSound v es → (e : Equation) → e ∈ es → Sound v e
sound_at v [] h e m = elim m [ ]
sound_at v (x ∷ es) h e m = go (Memᴰ.cases_cons m) (sound_at v es h.1 e)
  where
    go : (e ≡ x) ⊎ (e ∈ es) → (e ∈ es → Sound v e) → Sound v e
    go (inl p) more = subst (Sound v) (sym p) h.0
    go (inr n) more = more n

-- so equations that are sound and settle points of their own are what `equations_least` asks for
proper : (v points : ℕ) (es : List Equation) → AllSound v es → Apart es → ((e : Equation) → e ∈ es → point_of e < points) → Proper v points es
proper v points es sound apart there =
    record {
      there = there;
      only = apart_only es apart;
      monotone = λ e m. sound_monotone v e (sound_at v es sound e m);
      below = λ e m. sound_below v e (sound_at v es sound e m);
    }

stays : (v : ℕ) → Transfer v unchanged
stays v = record { monotone = λ s t f. f; below = λ s l. l }

-- ---- from before to after and back, for any transfer

module _ (v k : ℕ) (pass : ℕ → Assignment → VariableSet → VariableSet)
    (transfer : (p : ℕ) (b : Assignment) → AssignmentPresent v k b → Transfer v (pass p b)) where
  forward_sound : (t : Tree Assignment Test) (p : ℕ) (rest : List Equation) → Present v k t → AllSound v rest → AllSound v (forward pass t p rest)
  unfolding forward Present
  forward_sound done p rest n h = h
  forward_sound (one b t) p rest n h = (transfer p b n.0, forward_sound t _ rest n.1 h)
  forward_sound (fork f a b t) p rest n h =
      (stays v, forward_sound a _ _ n.1 (stays v, forward_sound b _ _ n.2 (tt, forward_sound t _ rest n.3 h)))
  forward_sound (again m a t) p rest n h = (tt, forward_sound a _ _ n.0 (stays v, forward_sound t _ rest n.1 h))

  backward_sound : (t : Tree Assignment Test) (p : ℕ) (rest : List Equation) → Present v k t → AllSound v rest → AllSound v (backward pass t p rest)
  unfolding backward Present
  backward_sound done p rest n h = h
  backward_sound (one b t) p rest n h = backward_sound t _ _ n.1 (transfer p b n.0, h)
  backward_sound (fork f a b t) p rest n h =
      backward_sound t _ _ n.3 (stays v, backward_sound b _ _ n.2 (stays v, backward_sound a _ _ n.1 (tt, h)))
  backward_sound (again m a t) p rest n h = backward_sound t _ _ n.1 (tt, backward_sound a _ _ n.0 (stays v, h))

  module _ (t : Tree Assignment Test) (s : VariableSet) (present : Present v k t) (small : s < 2 ^ v) where
    forward_proper : Proper v (suc (rows t)) (starts 0 s ∷ forward pass t 0 [])
    unfolding point_of
    forward_proper =
        let es = starts 0 s ∷ forward pass t 0 [] in
        let rising : Rising 0 (suc (rows t)) es = (refl, forward_rises pass t 0 (rows t) (suc (rows t)) [] (omega arith) refl) in
        proper v (suc (rows t)) es (small, forward_sound t 0 [] present tt) (rising_apart 0 (suc (rows t)) es rising)
        (λ e m. (rising_between 0 (suc (rows t)) es rising e m).1)

    backward_proper : Proper v (suc (rows t)) (starts (rows t) s ∷ backward pass t 0 [])
    unfolding point_of
    backward_proper =
        let es = starts (rows t) s ∷ backward pass t 0 [] in
        let falling : Falling (suc (rows t)) es = (refl, backward_falls pass t 0 (rows t) [] (omega arith) tt) in
        proper v (suc (rows t)) es (small, backward_sound t 0 [] present tt) (falling_apart (suc (rows t)) es falling)
        (falling_under (suc (rows t)) es falling)

-- ---- least solutions are one

-- they have the same members at every point
least_only : (es : List Equation) (at at' : ℕ → VariableSet) → Least es at → Least es at' → at ≡ at'
least_only es at at' least least' =
    let same : (p : ℕ) → at p ≡ at' p = λ p. ⊆-antisym (at p) (at' p) (least.within at' least'.satisfies p) (least'.within at least.satisfies p) in
    λ i p. same p i

-- ---- the three sets

module _ (words : List ℕ) (sheet : Sheet) (accepted : read words ≡ given sheet) where
  pub varied_proper : Proper (variables_of sheet) (points sheet) (varied_equations sheet)
  unfolding varied_equations points
  varied_proper =
      forward_proper (variables_of sheet) _ (λ p. varied_after) (λ p. varied_transfer (variables_of sheet) _) sheet.body
      (places is_independent sheet.roles) (names_present words sheet accepted) (places_below is_independent sheet.roles)

  pub useful_proper : Proper (variables_of sheet) (points sheet) (useful_equations sheet)
  unfolding useful_equations points
  useful_proper =
      backward_proper (variables_of sheet) _ (λ p. useful_before) (λ p. useful_transfer (variables_of sheet) _) sheet.body
      (places is_dependent sheet.roles) (names_present words sheet accepted) (places_below is_dependent sheet.roles)

  -- whatever the first two sets are
  pub required_proper : (varied useful : ℕ → VariableSet) → Proper (variables_of sheet) (points sheet) (required_equations sheet varied useful)
  unfolding required_equations points
  required_proper varied useful =
      forward_proper (variables_of sheet) _ (λ p b. required_after b (activity_at varied useful p b))
      (λ p b. required_transfer (variables_of sheet) _ b (activity_at varied useful p b)) sheet.body
      empty (names_present words sheet accepted) (pow_pos (variables_of sheet))

  pub varied_least : Least (varied_equations sheet) (set_at (varied sheet))
  unfolding varied
  varied_least = equations_least _ _ _ varied_proper

  pub useful_least : Least (useful_equations sheet) (set_at (useful sheet))
  unfolding useful
  useful_least = equations_least _ _ _ useful_proper

  pub required_least : Least (required_equations sheet (set_at (varied sheet)) (set_at (useful sheet))) (set_at (required sheet))
  unfolding required
  required_least = equations_least _ _ _ (required_proper (set_at (varied sheet)) (set_at (useful sheet)))

  pub sets_least : LeastSets sheet (sets_of sheet)
  sets_least = record { varies = varied_least; is_useful = useful_least; is_required = required_least }

  -- whatever sets are least are those that are computed
  pub least_sets_only : (sets : Sets) → LeastSets sheet sets → sets ≡ sets_of sheet
  least_sets_only sets least =
      let vs : sets.varied ≡ set_at (varied sheet) = least_only _ _ _ least.varies varied_least in
      let us : sets.useful ≡ set_at (useful sheet) = least_only _ _ _ least.is_useful useful_least in
      let ours : Least (required_equations sheet (set_at (varied sheet)) (set_at (useful sheet))) sets.required =
      subst (λ u. Least (required_equations sheet (set_at (varied sheet)) u) sets.required) us
      (subst (λ v. Least (required_equations sheet v sets.useful) sets.required) vs least.is_required) in
      let rs : sets.required ≡ set_at (required sheet) = least_only _ _ _ ours required_least in
      λ i. record { varied = vs i; useful = us i; required = rs i }
