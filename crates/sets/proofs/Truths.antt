-- Tests that pass: what `||`, `&&` and `cond` keep of them.
use Prim.Native.Nat.{ℕ}
use native.Mathlib.Omega.{arith}
use mathlib.Core.Path.{◌≡◌, refl, sym, subst}
use mathlib.Core.Bool.{Bool, true, false, ◌&&◌, ◌||◌, cond}
use lib.Dec.{T}

pub never : {A : Type 0} → false ≡ true → A
never e = let z : ◌≡◌ {A = ℕ} 0 1 = cc in absurd (omega arith)

pub T_of : {b : Bool} → b ≡ true → T b
T_of e = subst T (sym e) tt

pub of_T : (b : Bool) → T b → b ≡ true
of_T true h = refl
of_T false h = absurd h

-- a law of two truths, by its four cases
pub each_truth : (P : Bool → Bool → Type 0) → P true true → P true false → P false true → P false false → (a b : Bool) → P a b
each_truth P tt' tf ft ff true true = tt'
each_truth P tt' tf ft ff true false = tf
each_truth P tt' tf ft ff false true = ft
each_truth P tt' tf ft ff false false = ff

pub or_left : (a b : Bool) → T a → T (a || b)
or_left true b h = tt
or_left false b h = absurd h

pub or_right : (a b : Bool) → T b → T (a || b)
or_right true b h = tt
or_right false b h = h

pub or_least : (a b c : Bool) → (T a → T c) → (T b → T c) → T (a || b) → T c
or_least true b c f g h = f tt
or_least false b c f g h = g h

pub or_mono : (a a' b b' : Bool) → (T a → T a') → (T b → T b') → T (a || b) → T (a' || b')
or_mono a a' b b' f g = or_least a b (a' || b') (λ h. or_left a' b' (f h)) (λ h. or_right a' b' (g h))

pub and_left : (a b : Bool) → T (a && b) → T a
and_left true b h = tt
and_left false b h = h

pub and_mono : (a a' b : Bool) → (T a → T a') → T (a && b) → T (a' && b)
and_mono true true b f h = h
and_mono true false b f h = f tt
and_mono false a' b f h = absurd h

pub cond_mono : (b a a' c c' : Bool) → (T a → T a') → (T c → T c') → T (cond b a c) → T (cond b a' c')
cond_mono true a a' c c' f g = f
cond_mono false a a' c c' f g = g
