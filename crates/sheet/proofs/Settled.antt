-- An answer that rules settle: each rule gives its refusal, what holds of a result gives that result, and one of the two always holds.
-- Then each is given exactly when its rule says so.
use Prim.Native.Nat.{ℕ, ◌≤◌}
use mathlib.Core.Path.{◌≡◌, subst}
use mathlib.Core.Logic.{◌↔◌, ◌⊎◌, inl, inr}
use native.Mathlib.Omega.{arith}
use Rattle.sheet.specs.Judging.{Answer, refused, given, number_in, place_in}
use Rattle.sheet.specs.Refusals.{Refusal, number_of, place_of}
use Rattle.sheet.proofs.RefusalsApart.{refused_named, done_given}

pub record Settled {A : Type 0} (answer : Answer A) (Rule : Refusal → Type 0) (Is : A → Type 0) : Type 0 where
  pub by_rule : (r : Refusal) → Rule r → answer ≡ refused r
  pub by_result : (a : A) → Is a → answer ≡ given a
  pub either : ((a : A) × Is a) ⊎ ((r : Refusal) × Rule r)

module _ {A : Type 0} {answer : Answer A} {Rule : Refusal → Type 0} {Is : A → Type 0} (settled : Settled answer Rule Is) where
  pub refused_exactly : (r : Refusal) → (answer ≡ refused r) ↔ Rule r
  refused_exactly r = (λ e. by e settled.either, settled.by_rule r)
    where
      by : answer ≡ refused r → ((a : A) × Is a) ⊎ ((r : Refusal) × Rule r) → Rule r
      by e (inl (a, is)) = let e' = settled.by_result a is in let z : ◌≡◌ {A = ℕ} 0 1 = cc in absurd (omega arith)
      by e (inr (r', rule)) = let e' = settled.by_rule r' rule in let same : r' ≡ r = cc in subst Rule same rule

  pub given_exactly : (a : A) → (answer ≡ given a) ↔ Is a
  given_exactly a = (λ e. by e settled.either, settled.by_result a)
    where
      by : answer ≡ given a → ((a : A) × Is a) ⊎ ((r : Refusal) × Rule r) → Is a
      by e (inl (a', is)) = let e' = settled.by_result a' is in let same : a' ≡ a = cc in subst Is same is
      by e (inr (r', rule)) = let e' = settled.by_rule r' rule in let z : ◌≡◌ {A = ℕ} 0 1 = cc in absurd (omega arith)

  pub named_exactly : (r : Refusal) → ((number_in answer ≡ number_of r) × (place_in answer ≡ place_of r)) ↔ Rule r
  unfolding number_in place_in
  named_exactly r = (
    λ names. (refused_exactly r).0 (refused_named answer r names.0 names.1),
    λ rule. (rw (settled.by_rule r rule), rw (settled.by_rule r rule)),
  )

  pub done_exactly : (number_in answer ≡ 0) ↔ ((a : A) × Is a)
  unfolding number_in
  done_exactly = (
    λ e. let found = done_given answer e in (found.0, (given_exactly found.0).0 found.1),
    λ found. rw (settled.by_result found.0 found.1),
  )

  pub numbers_within : (n : ℕ) → ((r : Refusal) → Rule r → number_of r ≤ n) → number_in answer ≤ n
  unfolding number_in
  numbers_within n within = by settled.either
    where
      by : ((a : A) × Is a) ⊎ ((r : Refusal) × Rule r) → number_in answer ≤ n
      by (inl (a, is)) = rw (settled.by_result a is) (omega arith)
      by (inr (r, rule)) = rw (settled.by_rule r rule) (within r rule)
