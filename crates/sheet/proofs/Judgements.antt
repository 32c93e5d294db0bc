-- One judgement after another: what a met or an unmet test comes to, and what then follows.
use Prim.Native.Nat.{ℕ, ◌≤◌, ◌<◌}
use mathlib.Core.Path.{◌≡◌, refl}
use mathlib.Core.Bool.{Bool, true, false, ◌&&◌}
use mathlib.Core.Logic.{◌↔◌, ◌⊎◌, inl, inr}
use lib.Dec.{leb, ltb, eqb}
use borrow.Author.Tests.{leb-true, le-leb, ltb-true, lt-ltb, eqb-true, eq-eqb}
use native.Mathlib.Omega.{arith}
use Rattle.sheet.specs.Judging.{Answer, refused, given, ◌>>=◌, unless}
use Rattle.sheet.specs.Refusals.{Refusal}

-- ---- tests

-- a test tells whether something holds
abbrev pub Tells : Bool → Type 0 → Type 0
Tells test Holds = (test ≡ true) ↔ Holds

pub leb_tells : (a b : ℕ) → Tells (leb a b) (a ≤ b)
leb_tells a b = (leb-true a b, le-leb a b)

pub ltb_tells : (a b : ℕ) → Tells (ltb a b) (a < b)
ltb_tells a b = (ltb-true a b, lt-ltb a b)

pub eqb_tells : (a b : ℕ) → Tells (eqb a b) (a ≡ b)
eqb_tells a b = (eqb-true a b, eq-eqb a b)

pub both_tell : (p q : Bool) {P Q : Type 0} → Tells p P → Tells q Q → Tells (p && q) (P × Q)
both_tell true q tp tq = (λ e. (tp.0 refl, tq.0 e), λ h. tq.1 h.1)
both_tell false q tp tq = (λ e. absurd (false_is_not_true e), λ h. absurd (false_is_not_true (tp.1 h.0)))
  where
    false_is_not_true : false ≡ true → ⊥
    false_is_not_true e = let z : ◌≡◌ {A = ℕ} 0 1 = cc in omega arith

pub unmet : (test : Bool) {Holds : Type 0} → Tells test Holds → ¬ Holds → test ≡ false
unmet true tells fails = absurd (fails (tells.0 refl))
unmet false tells fails = refl

pub fails : (test : Bool) {Holds : Type 0} → Tells test Holds → test ≡ false → ¬ Holds
fails test tells e h = let t = tells.1 h in let z : ◌≡◌ {A = ℕ} 0 1 = cc in omega arith

-- what a test tells holds, or there is a reason why not
pub judged : (test : Bool) {Holds Not : Type 0} → Tells test Holds → (¬ Holds → Not) → Holds ⊎ Not
judged true tells not = inl (tells.0 refl)
judged false tells not = inr (not (fails false tells refl))

infixr 10 ◌and_then◌
pub ◌and_then◌ : {Holds Further Not : Type 0} → Holds ⊎ Not → (Holds → Further ⊎ Not) → Further ⊎ Not
inl h and_then further = further h
inr n and_then further = inr n

-- ---- judgements in turn

-- however they are put together
pub bind_assoc : {A B C : Type 0} (m : Answer A) (f : A → Answer B) (g : B → Answer C) → ((m >>= f) >>= g) ≡ (m >>= λ a. (f a >>= g))
bind_assoc (refused r) f g = refl
bind_assoc (given a) f g = refl

pub after_given {ℓ κ} : {A : Type ℓ} {B : Type κ} {m : Answer A} {a : A} (next : A → Answer B) → m ≡ given a → (m >>= next) ≡ next a
after_given next e = rw e

pub after_refused {ℓ κ} : {A : Type ℓ} {B : Type κ} {m : Answer A} {r : Refusal} (next : A → Answer B) → m ≡ refused r → (m >>= next) ≡ refused r
after_refused next e = rw e

pub passes : (test : Bool) (r : Refusal) {Holds : Type 0} → Tells test Holds → Holds → unless test r ≡ given tt
passes test r tells h = rw (tells.1 h)

pub refuses : (test : Bool) (r : Refusal) {Holds : Type 0} → Tells test Holds → ¬ Holds → unless test r ≡ refused r
refuses test r tells h = rw (unmet test tells h)
