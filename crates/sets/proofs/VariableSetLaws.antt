-- Which variables a set has: those of unions, single sets, sets without one, the places of a list; and inclusion.
use Prim.Native.Nat.{ℕ, zero, suc, ◌+◌, ◌*◌, ◌/◌, ◌%◌, ◌^◌, ◌≤◌, ◌<◌, max, zero-le}
use native.Mathlib.Nat.{mod-lt, zero-div, zero-lt-suc, div-one}
use native.Mathlib.Omega.{arith}
use mathlib.Core.Path.{◌≡◌, refl, sym, ap, subst, ◌∙◌}
use mathlib.Core.Bool.{Bool, true, false, not, ◌&&◌, ◌||◌, xor, cond}
use mathlib.Core.List.{List, [], ◌∷◌}
use mathlib.Core.Option.{Option, none, some}
use lib.ListN.{get_or}
use lib.Bits.{bit_and, bit_or, bit_xor, differ, and_step, or_step, xor_step, and_zero_r, or_shr, xor_shr}
use lib.Dec.{T, eqb, eqb_refl, eqb→eq, eqb-zero-suc, eqb-suc-zero, eqb-suc-suc}
use lib.Arith.{bin_ind}
use lib.Pow.{shr-shr}
use Rattle.sets.specs.VariableSets.{VariableSet, empty, has, ◌∪◌, single, single_if, without, places, has_some, ◌⊆◌}
use Rattle.sets.specs.Inner.Masks.{meets}
use Rattle.sets.proofs.Truths.{each_truth, or_left, or_right, or_least, and_left}

-- ---- a member is a digit

pub has_zero : (s : VariableSet) → has s 0 ≡ eqb (s % 2) 1
unfolding has
has_zero s = ap (λ x. eqb (x % 2) 1) (div-one s)

pub has_suc : (s : VariableSet) (i : ℕ) → has s (suc i) ≡ has (s / 2) i
unfolding has
has_suc s i = ap (λ x. eqb (x % 2) 1) (ap (λ n. s / 2 ^ n) (omega arith) ∙ sym (shr-shr s 1 i))

-- a member of what an operation on digits makes
digit_has : (op f : ℕ → ℕ → ℕ) (g : Bool → Bool → Bool) → ((a b : ℕ) → op a b % 2 ≡ f (a % 2) (b % 2))
    → ((a b k : ℕ) → op a b / 2 ^ k ≡ op (a / 2 ^ k) (b / 2 ^ k)) → ((x y : ℕ) → x < 2 → y < 2 → eqb (f x y) 1 ≡ g (eqb x 1) (eqb y 1))
    → (s t : VariableSet) (i : ℕ) → has (op s t) i ≡ g (has s i) (has t i)
unfolding has
digit_has op f g step shift agrees s t i =
    ap (λ x. eqb (x % 2) 1) (shift s t i) ∙ ap (λ x. eqb x 1) (step (s / 2 ^ i) (t / 2 ^ i))
    ∙ agrees (s / 2 ^ i % 2) (t / 2 ^ i % 2) (mod-lt _ (zero-lt-suc 1)) (mod-lt _ (zero-lt-suc 1))

-- a law of two digits, by its four cases
each_digit : (P : ℕ → ℕ → Type 0) → P 0 0 → P 0 1 → P 1 0 → P 1 1 → (x y : ℕ) → x < 2 → y < 2 → P x y
each_digit P a b c d zero zero h k = a
each_digit P a b c d zero (suc zero) h k = b
each_digit P a b c d zero (suc (suc y)) h k = absurd (omega arith)
each_digit P a b c d (suc zero) zero h k = c
each_digit P a b c d (suc zero) (suc zero) h k = d
each_digit P a b c d (suc zero) (suc (suc y)) h k = absurd (omega arith)
each_digit P a b c d (suc (suc x)) y h k = absurd (omega arith)

or_low : (a b : ℕ) → bit_or a b % 2 ≡ max (a % 2) (b % 2)
or_low a b = omega (arith, or_step a b)

xor_low : (a b : ℕ) → bit_xor a b % 2 ≡ differ (a % 2) (b % 2)
xor_low a b =
    let digit : differ (a % 2) (b % 2) < 2 =
    each_digit (λ x y. differ x y < 2) (omega arith) (omega arith) (omega arith) (omega arith) (a % 2) (b % 2) (omega arith) (omega arith) in
    omega (arith, xor_step a b)

pub union_has : (s t : VariableSet) (i : ℕ) → has (s ∪ t) i ≡ (has s i || has t i)
union_has = digit_has bit_or max ◌||◌ or_low or_shr (each_digit (λ x y. eqb (max x y) 1 ≡ (eqb x 1 || eqb y 1)) refl refl refl refl)

xor_has : (s t : VariableSet) (i : ℕ) → has (bit_xor s t) i ≡ xor (has s i) (has t i)
unfolding xor
xor_has = digit_has bit_xor differ xor xor_low xor_shr (each_digit (λ x y. eqb (differ x y) 1 ≡ xor (eqb x 1) (eqb y 1)) refl refl refl refl)

pub empty_has : (i : ℕ) → has empty i ≡ false
unfolding has
empty_has i = ap (λ x. eqb (x % 2) 1) (zero-div (2 ^ i))

pub single_has : (j i : ℕ) → has (single j) i ≡ eqb i j
single_has zero zero = has_zero 1
single_has zero (suc i) = has_suc 1 i ∙ empty_has i ∙ sym (eqb-suc-zero i)
single_has (suc j) zero = let even : 2 ^ suc j % 2 ≡ 0 = omega arith in rw (has_zero (2 ^ suc j), even, eqb-zero-suc j)
single_has (suc j) (suc i) =
    let half : 2 ^ suc j / 2 ≡ 2 ^ j = omega arith in
    rw (has_suc (2 ^ suc j) i, half, eqb-suc-suc i j) (single_has j i)

pub has_single_if : (there : Bool) (i : ℕ) → T there → T (has (single_if there i) i)
has_single_if true i h = rw (single_has i i) (eqb_refl i)
has_single_if false i h = absurd h

-- a double is 0 where its half is
double_some : (x y : ℕ) → y ≡ x * 2 → not (eqb y 0) ≡ not (eqb x 0)
double_some zero zero e = refl
double_some zero (suc y) e = absurd (omega arith)
double_some (suc x) zero e = absurd (omega arith)
double_some (suc x) (suc y) e = rw (eqb-suc-zero x, eqb-suc-zero y)

digit_some : (x y : ℕ) → y ≡ x → x < 2 → not (eqb y 0) ≡ eqb x 1
digit_some zero y e h = rw e
digit_some (suc zero) y e h = rw e
digit_some (suc (suc x)) y e h = absurd (omega arith)

pub meets_none : (s : VariableSet) → meets s empty ≡ false
meets_none s = rw (and_zero_r s)

pub meets_single : (s : VariableSet) (i : ℕ) → meets s (single i) ≡ has s i
meets_single s zero =
    digit_some (s % 2) (bit_and s 1) (omega (arith, and_step s 1, and_zero_r (s / 2))) (omega arith) ∙ sym (has_zero s)
meets_single s (suc i) =
    let half : 2 ^ suc i / 2 ≡ 2 ^ i = omega arith in
    double_some (bit_and (s / 2) (2 ^ i)) (bit_and s (2 ^ suc i)) (omega (arith, rw half at (and_step s (2 ^ suc i)))) ∙ meets_single (s / 2) i
    ∙ sym (has_suc s i)

pub without_has : (j : ℕ) (s : VariableSet) (i : ℕ) → has (without j s) i ≡ (has s i && not (eqb i j))
unfolding without xor
without_has j s i =
    rw (xor_has (s ∪ single j) (single j) i, union_has s (single j) i, single_has j i)
    (each_truth (λ a b. xor (a || b) b ≡ (a && not b)) refl refl refl refl (has s i) (eqb i j))

place_digit : (b : Bool) (n : ℕ) → eqb ((cond b 1 0 + 2 * n) % 2) 1 ≡ b
place_digit true n = let odd : (1 + 2 * n) % 2 ≡ 1 = omega arith in rw odd
place_digit false n = let even : (0 + 2 * n) % 2 ≡ 0 = omega arith in rw even

place_rest : (b : Bool) (n : ℕ) → (cond b 1 0 + 2 * n) / 2 ≡ n
place_rest true n = omega arith
place_rest false n = omega arith

-- `d`: what to read beyond the end, which must not pass
pub places_has : {A : Type 0} (test : A → Bool) (d : A) → test d ≡ false → (xs : List A) (i : ℕ) → has (places test xs) i ≡ test (get_or xs i d)
unfolding places
places_has test d fails [] i = empty_has i ∙ sym fails
places_has test d fails (x ∷ xs) zero = has_zero _ ∙ place_digit (test x) (places test xs)
places_has test d fails (x ∷ xs) (suc i) = has_suc _ i ∙ ap (λ n. has n i) (place_rest (test x) (places test xs)) ∙ places_has test d fails xs i

-- ---- inclusion

pub ⊆-refl : (s : VariableSet) → s ⊆ s
⊆-refl s i h = h

pub some_within : (s t : VariableSet) (o : Option ℕ) → s ⊆ t → T (has_some s o) → T (has_some t o)
some_within s t none f h = h
some_within s t (some i) f h = f i h

pub empty_within : (s : VariableSet) → empty ⊆ s
empty_within s i h = absurd (subst T (empty_has i) h)

pub union_left : (s t : VariableSet) → s ⊆ s ∪ t
union_left s t i h = rw (union_has s t i) (or_left (has s i) (has t i) h)

pub union_right : (s t : VariableSet) → t ⊆ s ∪ t
union_right s t i h = rw (union_has s t i) (or_right (has s i) (has t i) h)

pub union_least : (s t u : VariableSet) → s ⊆ u → t ⊆ u → s ∪ t ⊆ u
union_least s t u f g i h = or_least (has s i) (has t i) (has u i) (f i) (g i) (rw (union_has s t i) at h)

pub union_mono : (s s' t t' : VariableSet) → s ⊆ s' → t ⊆ t' → s ∪ t ⊆ s' ∪ t'
union_mono s s' t t' f g = union_least s t (s' ∪ t') (λ i h. union_left s' t' i (f i h)) (λ i h. union_right s' t' i (g i h))

pub without_within : (j : ℕ) (s : VariableSet) → without j s ⊆ s
without_within j s i h = and_left (has s i) (not (eqb i j)) (rw (without_has j s i) at h)

-- a digit is settled by whether it is 1
digit_le : (x y : ℕ) → x < 2 → (T (eqb x 1) → T (eqb y 1)) → x ≤ y
digit_le zero y h f = zero-le
digit_le (suc zero) y h f = let is = eqb→eq y 1 (f tt) in omega arith
digit_le (suc (suc x)) y h f = absurd (omega arith)

pub lowest_within : (s t : VariableSet) → s ⊆ t → s % 2 ≤ t % 2
lowest_within s t f = digit_le (s % 2) (t % 2) (omega arith) (λ h. rw (has_zero t) at (f 0 (rw (has_zero s) h)))

pub rest_within : (s t : VariableSet) → s ⊆ t → s / 2 ⊆ t / 2
rest_within s t f i h = rw (has_suc t i) at (f (suc i) (rw (has_suc s i) h))

pub nothing_within_empty : (s : VariableSet) → s ⊆ empty → s ≡ 0
nothing_within_empty =
    bin_ind (λ s. s ⊆ 0 → s ≡ 0) (λ f. refl) (λ s ih f. omega (arith, lowest_within s 0 f, ih (rest_within s 0 f)))

-- two sets with the same members are one
pub ⊆-antisym : (s t : VariableSet) → s ⊆ t → t ⊆ s → s ≡ t
⊆-antisym =
    bin_ind (λ s. (t : ℕ) → s ⊆ t → t ⊆ s → s ≡ t) (λ t f g. sym (nothing_within_empty t g))
    (λ s ih t f g. omega (arith, lowest_within s t f, lowest_within t s g, ih (t / 2) (rest_within s t f) (rest_within t s g)))
