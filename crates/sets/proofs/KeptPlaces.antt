-- Lists of which a pass over some rows changes only those rows' places, and what a block leaves there.
use Prim.Native.Nat.{ℕ, suc, ◌+◌, ◌≤◌, ◌<◌}
use native.Mathlib.Omega.{arith}
use mathlib.Core.Path.{◌≡◌, refl, ◌∙◌}
use mathlib.Core.List.{List}
use mathlib.Core.Logic.{◌⊎◌, inl, inr}
use lib.ListN.{length, get_or, set, length-set}
use lib.Seq.{get_or-set_same, get_or-set_other}

-- ---- lists that differ from place lo up to hi at most

pub record Keeps (lo hi : ℕ) (xs ys : List ℕ) : Type 0 where
  pub long : length ys ≡ length xs
  pub at : (i : ℕ) → (i < lo) ⊎ (hi ≤ i) → get_or ys i 0 ≡ get_or xs i 0

pub keeps_all : {lo hi : ℕ} (xs : List ℕ) → Keeps lo hi xs xs
keeps_all xs = record { long = refl; at = λ i h. refl }

pub wider : {lo hi lo' hi' : ℕ} {xs ys : List ℕ} → Keeps lo hi xs ys → lo' ≤ lo → hi ≤ hi' → Keeps lo' hi' xs ys
wider {lo} {hi} {lo'} {hi'} k l h = record { long = k.long; at = λ i o. k.at i (go i o) }
  where
    go : (i : ℕ) → (i < lo') ⊎ (hi' ≤ i) → (i < lo) ⊎ (hi ≤ i)
    go i (inl x) = inl (omega arith)
    go i (inr x) = inr (omega arith)

pub keeps_then : {lo hi : ℕ} {xs ys zs : List ℕ} → Keeps lo hi xs ys → Keeps lo hi ys zs → Keeps lo hi xs zs
keeps_then k l = record { long = l.long ∙ k.long; at = λ i o. l.at i o ∙ k.at i o }

pub store_keeps : (xs : List ℕ) (j v : ℕ) → Keeps j (suc j) xs (set xs j v)
store_keeps xs j v = record { long = length-set xs j v; at = λ i o. get_or-set_other xs j i v 0 (λ e. go i o e) }
  where
    go : (i : ℕ) → (i < j) ⊎ (suc j ≤ i) → i ≡ j → ⊥
    go i (inl x) e = omega arith
    go i (inr x) e = omega arith

-- ---- what a block leaves that notes as it is passed where its rows go to

-- While a branch or a loop is open its row p has the row that was innermost around the block; then what it goes to. q is the row that ends it,
-- e the place after all.
pub record GoesBlock (p q e top to : ℕ) (g g₂ g₄ : List ℕ) : Type 0 where
  pub around : get_or g₂ p 0 ≡ top
  pub whole : Keeps p e g g₄
  pub inside : (i : ℕ) → suc p ≤ i → i < q → get_or g₄ i 0 ≡ get_or g₂ i 0
  pub at : get_or g₄ p 0 ≡ to

pub goes_block : (p q e top to : ℕ) (g g₂ g₄ : List ℕ) → p < q → q ≤ e → p < length g
    → Keeps (suc p) q (set g p top) g₂ → Keeps q e (set g₂ p to) g₄ → GoesBlock p q e top to g g₂ g₄
goes_block p q e top to g g₂ g₄ before until l k₁ k₃ =
    let k₀ = store_keeps g p top in
    let k₂ = store_keeps g₂ p to in
    record {
      around = k₁.at p (inl (omega arith)) ∙ get_or-set_same g p top 0 l;
      whole =
          keeps_then (wider k₀ (omega arith) (omega arith))
          (keeps_then (wider k₁ (omega arith) (omega arith))
          (keeps_then (wider k₂ (omega arith) (omega arith)) (wider k₃ (omega arith) (omega arith))));
      inside = λ i lo hi. k₃.at i (inl hi) ∙ k₂.at i (inr lo);
      at = k₃.at p (inl before) ∙ get_or-set_same g₂ p to 0 (omega (arith, k₁.long, k₀.long));
    }

-- An "if" block is two of them, from "if" p to "else" q and from there to "end if" r. x to z are the sizes of the block's branches and of what is
-- behind it.
pub record GoesFork (p q r e top to_else to_end : ℕ) (g g₂ g₄ g₆ : List ℕ) : Type 0 where
  pub inner : get_or g₂ p 0 ≡ top
  pub outer : get_or g₄ q 0 ≡ top
  pub whole : Keeps p e g g₆
  pub first : (i : ℕ) → suc p ≤ i → i < q → get_or g₆ i 0 ≡ get_or g₂ i 0
  pub second : (i : ℕ) → suc q ≤ i → i < r → get_or g₆ i 0 ≡ get_or g₄ i 0
  pub at_if : get_or g₆ p 0 ≡ to_else
  pub at_else : get_or g₆ q 0 ≡ to_end

pub goes_fork : (p x y z top to_else to_end : ℕ) (g g₂ g₄ g₆ : List ℕ) → let q = suc p + x in let r = suc q + y in let e = suc r + z in suc r ≤ length g
    → Keeps (suc p) q (set g p top) g₂ → Keeps (suc q) r (set (set g₂ p to_else) q (get_or g₂ p 0)) g₄ → Keeps (suc r) e (set g₄ q to_end) g₆
    → GoesFork p q r e top to_else to_end g g₂ g₄ g₆
goes_fork p x y z top to_else to_end g g₂ g₄ g₆ l k₁ k₃ k₅ =
    let q = suc p + x in
    let r = suc q + y in
    let e = suc r + z in
    let long : length (set g₂ p to_else) ≡ length g = length-set g₂ p to_else ∙ k₁.long ∙ length-set g p top in
    let k₄ : Keeps r e (set g₄ q to_end) g₆ = wider k₅ (omega arith) (omega arith) in
    let second = goes_block q r e (get_or g₂ p 0) to_end (set g₂ p to_else) g₄ g₆ (omega arith) (omega arith) (omega arith) k₃ k₄ in
    let first = goes_block p q e top to_else g g₂ g₆ (omega arith) (omega arith) (omega arith) k₁ second.whole in
    record {
      inner = first.around;
      outer = second.around ∙ first.around;
      whole = first.whole;
      first = first.inside;
      second = second.inside;
      at_if = first.at;
      at_else = second.at;
    }
