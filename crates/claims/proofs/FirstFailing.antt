-- Judging the items of a list from left to right: all pass, or the first that fails is refused. Roles are judged so, and the numbers given to a run.
use Prim.Native.Nat.{ℕ, zero, suc, ◌+◌, ◌<◌}
use mathlib.Core.Path.{◌≡◌, refl}
use mathlib.Core.Bool.{Bool, true, false}
use mathlib.Core.List.{List, [], ◌∷◌}
use mathlib.Core.Logic.{◌⊎◌, inl, inr}
use lib.ListN.{length, get_or}
use native.Mathlib.Omega.{arith}
use Rattle.sheet.specs.Judging.{Answer, refused, given, ◌>>=◌, unless}
use Rattle.sheet.specs.Refusals.{Refusal}
use Rattle.claims.specs.ExactlyWhen.{First}

unfoldable pub each_judged : {A : Type 0} (test : A → Bool) (refusal : ℕ → Refusal) → List A → (place : ℕ) → Answer (Unit {0})
each_judged test refusal [] place = given tt
each_judged test refusal (x ∷ xs) place = do
  _ ← unless (test x) (refusal place)
  each_judged test refusal xs (suc place)

module _ {A : Type 0} (test : A → Bool) (d : A) where
  abbrev pub Fails : List A → ℕ → Type 0
  Fails xs i = (i < length xs) × (test (get_or xs i d) ≡ false)

  later : (x : A) (xs : List A) (i : ℕ) → Fails xs i → Fails (x ∷ xs) (suc i)
  later x xs i f = (omega arith, f.1)

  earlier : (x : A) (xs : List A) (i : ℕ) → Fails (x ∷ xs) (suc i) → Fails xs i
  earlier x xs i f = (omega arith, f.1)

  first_passes : (x : A) (xs : List A) → ¬ Fails (x ∷ xs) 0 → test x ≡ true
  first_passes x xs none = by (test x) refl
    where
      by : (b : Bool) → test x ≡ b → b ≡ true
      by true e = refl
      by false e = absurd (none (omega arith, e))

  pub all_or_first : (xs : List A) → ((i : ℕ) → ¬ Fails xs i) ⊎ ((i : ℕ) × First (Fails xs) i)
  all_or_first [] = inl (λ i f. omega (arith, f.0))
  all_or_first (x ∷ xs) = by (test x) refl (all_or_first xs)
    where
      by : (b : Bool) → test x ≡ b → ((i : ℕ) → ¬ Fails xs i) ⊎ ((i : ℕ) × First (Fails xs) i)
          → ((i : ℕ) → ¬ Fails (x ∷ xs) i) ⊎ ((i : ℕ) × First (Fails (x ∷ xs)) i)
      by false e rest = inr (0, record { here = (omega arith, e); before = λ j l. absurd (omega arith) })
      by true e (inl none) = inl (over none)
        where
          over : ((i : ℕ) → ¬ Fails xs i) → (i : ℕ) → ¬ Fails (x ∷ xs) i
          over none zero f = let t = f.1 in let z : ◌≡◌ {A = ℕ} 0 1 = cc in omega arith
          over none (suc i) f = none i (earlier x xs i f)
      by true e (inr first) = inr (suc first.0, record { here = later x xs first.0 first.1.here; before = over })
        where
          over : (j : ℕ) → j < suc first.0 → ¬ Fails (x ∷ xs) j
          over zero l f = let t = f.1 in let z : ◌≡◌ {A = ℕ} 0 1 = cc in omega arith
          over (suc j) l f = first.1.before j (omega arith) (earlier x xs j f)

  pub all_pass : (refusal : ℕ → Refusal) (xs : List A) (place : ℕ) → ((i : ℕ) → ¬ Fails xs i) → each_judged test refusal xs place ≡ given tt
  unfolding each_judged
  all_pass refusal [] place none = refl
  all_pass refusal (x ∷ xs) place none = rw (first_passes x xs (none 0)) (all_pass refusal xs (suc place) (λ i f. none (suc i) (later x xs i f)))

  pub first_refused : (refusal : ℕ → Refusal) (xs : List A) (place i : ℕ) → First (Fails xs) i
      → each_judged test refusal xs place ≡ refused (refusal (place + i))
  unfolding each_judged
  first_refused refusal [] place i first = absurd (omega (arith, first.here.0))
  first_refused refusal (x ∷ xs) place zero first =
      let at : place + 0 ≡ place = omega arith in
      rw (first.here.1, at)
  first_refused refusal (x ∷ xs) place (suc i) first =
      let at : place + suc i ≡ suc place + i = omega arith in
      rw (first_passes x xs (first.before 0 (omega arith)), at)
      (first_refused refusal xs (suc place) i
      (record { here = earlier x xs i first.here; before = λ j l f. first.before (suc j) (omega arith) (later x xs j f) }))
