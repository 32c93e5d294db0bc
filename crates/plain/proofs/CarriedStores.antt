-- A tangent table's store is the values, then the rates, t and u: what is looked up and put in each part.
use Prim.Native.Nat.{ℕ, ◌+◌, ◌*◌, ◌<◌}
use mathlib.Core.Path.{◌≡◌, refl, ap, ◌∙◌}
use mathlib.Core.List.{List, [], ◌∷◌, ◌++◌}
use mathlib.Core.Option.{some}
use lib.ListN.{length, set, get_elem?, length-append}
use lib.Seq.{set-append_left}
use native.Mathlib.Omega.{arith}
use borrow.Author.Tests.{lt-ltb}
use Rattle.number.specs.Arithmetic.{Arithmetic}
use Rattle.sheet.specs.Rows.{Source, copy, fixed, sum, difference, product, negation, quotient}
use Rattle.sheet.specs.Names.{SourcePresent}
use Rattle.table.specs.TableRows.{t, u}
use Rattle.machine.specs.Actions.{through, replaced, evaluated, from_outcome}
use Rattle.tangent.specs.Tangent.{rate_of}
use Rattle.run.proofs.Stores.{at_first_part, at_second_part, set_second_part}
use Rattle.plain.specs.Plain.{Carried, term, over_value, first_over}

-- the same source on the rates of what it names
abbrev pub on_rates : (variables : ℕ) → Source → Source
on_rates v (copy a) = copy (rate_of v a)
on_rates v (fixed c) = fixed c
on_rates v (sum a b) = sum (rate_of v a) (rate_of v b)
on_rates v (difference a b) = difference (rate_of v a) (rate_of v b)
on_rates v (product a b) = product (rate_of v a) (rate_of v b)
on_rates v (negation a) = negation (rate_of v a)
on_rates v (quotient a b) = quotient (rate_of v a) (rate_of v b)

module _ (A : Arithmetic) (v : ℕ) where
  -- a number and a rate for each variable
  pub record Sized (now : Carried A) : Type 0 where
    pub values : length now.values ≡ v
    pub rates : length now.rates ≡ v

  abbrev pub store_of : Carried A → (held held' : A.Carrier) → List A.Carrier
  store_of now x y = now.values ++ (now.rates ++ (x ∷ y ∷ []))

  abbrev pub with_rate : Carried A → (d : ℕ) → (rate : A.Carrier) → Carried A
  with_rate now d rate = record { values = now.values; rates = set now.rates d rate }

  module _ (now : Carried A) (sized : Sized now) (x y : A.Carrier) where
    abbrev store : List A.Carrier
    store = store_of now x y

    -- what stands behind the values
    abbrev behind : List A.Carrier
    behind = now.rates ++ (x ∷ y ∷ [])

    store_length : length store ≡ 2 * v + 2
    store_length =
        omega
        (arith, length-append now.values behind, length-append now.rates (x ∷ y ∷ []), sized.values, sized.rates)

    -- ---- looking

    value_at : (i : ℕ) → i < v → get_elem? store i ≡ get_elem? now.values i
    value_at i h = at_first_part now.values behind i (omega (arith, sized.values))

    behind_at : (i j : ℕ) → j ≡ v + i → get_elem? store j ≡ get_elem? behind i
    behind_at i j e =
        let place : j ≡ length now.values + i = omega (arith, sized.values) in
        rw place (at_second_part now.values behind i)

    rate_at : (i : ℕ) → i < v → get_elem? store (rate_of v i) ≡ get_elem? now.rates i
    rate_at i h = behind_at i (v + i) refl ∙ at_first_part now.rates (x ∷ y ∷ []) i (omega (arith, sized.rates))

    last_at : (i j : ℕ) → j ≡ 2 * v + i → get_elem? store j ≡ get_elem? (x ∷ y ∷ []) i
    last_at i j e =
        let place : v + i ≡ length now.rates + i = omega (arith, sized.rates) in
        behind_at (v + i) j (omega arith) ∙ rw place (at_second_part now.rates (x ∷ y ∷ []) i)

    t_at : get_elem? store (t v) ≡ some x
    t_at = last_at 0 (t v) (omega arith)

    u_at : get_elem? store (u v) ≡ some y
    u_at = last_at 1 (u v) (omega arith)

    -- ---- a right side on the rates, and a term

    pub evaluated_on_rates : (constants : List ℕ) (source : Source) → SourcePresent v 0 source
        → evaluated A constants (on_rates v source) store ≡ evaluated A [] source now.rates
    unfolding evaluated SourcePresent
    evaluated_on_rates constants (copy a) p = rw (rate_at a p)
    evaluated_on_rates constants (fixed c) p = absurd (omega arith)
    evaluated_on_rates constants (sum a b) p = rw (rate_at a p.0, rate_at b p.1)
    evaluated_on_rates constants (difference a b) p = rw (rate_at a p.0, rate_at b p.1)
    evaluated_on_rates constants (product a b) p = rw (rate_at a p.0, rate_at b p.1)
    evaluated_on_rates constants (negation a) p = rw (rate_at a p)
    evaluated_on_rates constants (quotient a b) p = rw (rate_at a p.0, rate_at b p.1)

    pub term_evaluated : (constants : List ℕ) (i j : ℕ) → i < v → j < v → evaluated A constants (product i (rate_of v j)) store ≡ term A i j now
    unfolding evaluated
    term_evaluated constants i j p q = rw (value_at i p, rate_at j q)

    -- u + t
    pub terms_added : (constants : List ℕ) → evaluated A constants (sum (u v) (t v)) store ≡ from_outcome (A.sum y x)
    unfolding evaluated
    terms_added constants = rw (u_at, t_at)

    -- ȧ / b, and t / b
    pub first_over_evaluated : (constants : List ℕ) (a b : ℕ) → a < v → b < v → evaluated A constants (quotient (rate_of v a) b) store ≡ first_over A a b now
    unfolding evaluated
    first_over_evaluated constants a b p q = rw (rate_at a p, value_at b q)

    pub over_value_evaluated : (constants : List ℕ) (b : ℕ) → b < v → evaluated A constants (quotient (t v) b) store ≡ over_value A x b now
    unfolding evaluated
    over_value_evaluated constants b q = rw (t_at, value_at b q)

    -- u − t, and −t
    pub terms_subtracted : (constants : List ℕ) → evaluated A constants (difference (u v) (t v)) store ≡ from_outcome (A.difference y x)
    unfolding evaluated
    terms_subtracted constants = rw (u_at, t_at)

    pub term_negated : (constants : List ℕ) → evaluated A constants (negation (t v)) store ≡ from_outcome (A.negation x)
    unfolding evaluated
    term_negated constants = rw t_at

    -- ---- putting

    replaced_by : {W : Type 0} (i : ℕ) (z : A.Carrier) (after : List A.Carrier) → i < 2 * v + 2 → set store i z ≡ after
        → replaced {Why = W} store i z ≡ through after
    replaced_by i z after h e =
        let there : i < length store = omega (arith, store_length) in
        rw (lt-ltb i (length store) there, e)

    set_behind : (i j : ℕ) (z : A.Carrier) → j ≡ v + i → set store j z ≡ now.values ++ set behind i z
    set_behind i j z e =
        let place : j ≡ length now.values + i = omega (arith, sized.values) in
        rw place (set_second_part now.values behind i z)

    pub rate_replaced : {W : Type 0} (d : ℕ) (rate : A.Carrier) → d < v
        → replaced {Why = W} store (rate_of v d) rate ≡ through (store_of (with_rate now d rate) x y)
    rate_replaced d rate h =
        replaced_by (v + d) rate _ (omega arith)
        (set_behind d (v + d) rate refl
        ∙ ap (λ l. now.values ++ l) (set-append_left now.rates (x ∷ y ∷ []) d rate (omega (arith, sized.rates))))

    set_last : (i j : ℕ) (z : A.Carrier) → j ≡ 2 * v + i → set store j z ≡ now.values ++ (now.rates ++ set (x ∷ y ∷ []) i z)
    set_last i j z e =
        let place : v + i ≡ length now.rates + i = omega (arith, sized.rates) in
        set_behind (v + i) j z (omega arith) ∙ ap (λ l. now.values ++ l) (rw place (set_second_part now.rates (x ∷ y ∷ []) i z))

    pub t_replaced : {W : Type 0} (z : A.Carrier) → replaced {Why = W} store (t v) z ≡ through (store_of now z y)
    t_replaced z = replaced_by (t v) z _ (omega arith) (set_last 0 (t v) z (omega arith))

    pub u_replaced : {W : Type 0} (z : A.Carrier) → replaced {Why = W} store (u v) z ≡ through (store_of now x z)
    u_replaced z = replaced_by (u v) z _ (omega arith) (set_last 1 (u v) z (omega arith))
