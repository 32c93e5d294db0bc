-- Going back over one assignment, the lean adjoints (only active rows, only varied operands) and the full ones keep agreeing: where a
-- variable isn't useful the full adjoint is 0, and where it is varied the lean adjoint is the full one.
use Prim.Native.Nat.{ℕ, ◌+◌, ◌*◌, ◌<◌}
use mathlib.Core.Path.{◌≡◌, refl, sym, ap, ap₂, ◌∙◌}
use mathlib.Core.Logic.{◌≢◌}
use mathlib.Core.Bool.{Bool, true, false, ◌&&◌, ◌||◌, cond, and-true}
use mathlib.Core.List.{List}
use mathlib.Core.Option.{Option, none, some}
use lib.ListN.{length, get_or}
use lib.Dec.{T, eqb}
use native.Mathlib.Decide.{ℕ_discrete}
use native.Mathlib.Nat.{mul-zero}
use native.Mathlib.Omega.{arith}
use borrow.Author.Tests.{eq-eqb, ne_eqb}
use Rattle.number.specs.Residues.{modulus, residue}
use Rattle.number.proofs.ResidueLaws.{residue_zero}
use Rattle.sheet.specs.Rows.{◌≔◌, Source}
use Rattle.sets.specs.VariableSets.{VariableSet, has, ◌∪◌, single, without, has_some, single_some, ◌⊆◌}
use Rattle.sets.specs.Transfers.{first_read, second_read, any_read, reads, varied_after, useful_before, Activity, activity_of}
use Rattle.sets.proofs.Truths.{of_T}
use Rattle.sets.proofs.VariableSetLaws.{single_has, without_has, union_left, union_right}
use Rattle.claims.proofs.EquationTwoSolved.{first_factor, second_factor, share, gain, full_step}
use Rattle.claims.proofs.LeanGain.{varied_gain, lean_gain, cleared, Grown}

-- the full and the lean adjoints at a point of the sheet, of so many variables; lean ones with t and u
pub record Agrees (varied useful : VariableSet) (variables : ℕ) (full : ℕ → ℕ) (lean : List ℕ) : Type 0 where
  pub size : length lean ≡ variables + 2
  pub below : (x : ℕ) → get_or lean x 0 < modulus
  pub useless : (x : ℕ) → x < variables → (T (has useful x) → ⊥) → full x ≡ 0
  pub varies : (x : ℕ) → x < variables → T (has varied x) → get_or lean x 0 ≡ full x

-- from one point to another that has no more varied and no fewer useful
pub agrees_within : (varied varied' useful useful' : VariableSet) (variables : ℕ) (full : ℕ → ℕ) (lean : List ℕ) → varied' ⊆ varied → useful ⊆ useful'
    → Agrees varied useful variables full lean → Agrees varied' useful' variables full lean
agrees_within varied varied' useful useful' variables full lean f g A =
    record {
      size = A.size;
      below = A.below;
      useless = λ x h no_use. A.useless x h (λ m. no_use (g x m));
      varies = λ x h m. A.varies x h (f x m);
    }

-- ---- shares

cond_zero : (b : Bool) → ◌≡◌ {A = ℕ} (cond b 0 0) 0
cond_zero true = refl
cond_zero false = refl

no_share : (o : Option ℕ) (x : ℕ) → share o 0 x ≡ 0
no_share none x = refl
no_share (some a) x = cond_zero (eqb a x)

-- an adjoint of 0 brings nothing
gain_of_zero : (source : Source) (before : List ℕ) (x : ℕ) → gain source before 0 x ≡ 0
unfolding gain
gain_of_zero source before x =
    rw (mul-zero (first_factor source before), mul-zero (second_factor source before), no_share (first_read source) x, no_share (second_read source) x)

unread_share : (o : Option ℕ) (amount x : ℕ) → (T (has (single_some o) x) → ⊥) → share o amount x ≡ 0
unread_share none amount x unread = refl
unread_share (some a) amount x unread = by_case (ℕ_discrete a x)
  where
    by_case : Dec (a ≡ x) → cond (eqb a x) amount 0 ≡ 0
    by_case (yes e) = absurd (unread (rw (e, single_has x x, eq-eqb x x refl) tt))
    by_case (no d) = rw (ne_eqb a x d)

-- what isn't read gains nothing
gain_unread : (source : Source) (before : List ℕ) (bar x : ℕ) → (T (has (reads source) x) → ⊥) → gain source before bar x ≡ 0
unfolding gain reads
gain_unread source before bar x unread =
    let first = single_some (first_read source) in
    let second = single_some (second_read source) in
    rw (
      unread_share (first_read source) (first_factor source before * bar) x (λ m. unread (union_left first second x m)),
      unread_share (second_read source) (second_factor source before * bar) x (λ m. unread (union_right first second x m)),
    )

-- of a variable that is varied, no share is left out
varied_share : (s : VariableSet) (o : Option ℕ) (amount x : ℕ) → T (has s x) → cond (has_some s o) (share o amount x) 0 ≡ share o amount x
varied_share s none amount x m = refl
varied_share s (some a) amount x m = by_case (ℕ_discrete a x)
  where
    by_case : Dec (a ≡ x) → cond (has s a) (cond (eqb a x) amount 0) 0 ≡ cond (eqb a x) amount 0
    by_case (yes e) = rw (e, of_T (has s x) m)
    by_case (no d) = rw (ne_eqb a x d) (cond_zero (has s a))

-- where no operand is varied, a variable that is varied is none of them
still_share : (s : VariableSet) (o : Option ℕ) (amount x : ℕ) → T (has s x) → has_some s o ≡ false → share o amount x ≡ 0
still_share s o amount x m e = sym (rw e at (varied_share s o amount x m))

pub neither : (a b : Bool) → (a || b) ≡ false → (a ≡ false) × (b ≡ false)
neither true b e = let z : ◌≡◌ {A = ℕ} 0 1 = cc in absurd (omega arith)
neither false b e = (refl, e)

gain_still : (s : VariableSet) (source : Source) (before : List ℕ) (bar x : ℕ) → T (has s x) → any_read s source ≡ false → gain source before bar x ≡ 0
unfolding gain any_read
gain_still s source before bar x m e =
    let each = neither (has_some s (first_read source)) (has_some s (second_read source)) e in
    rw (
      still_share s (first_read source) (first_factor source before * bar) x m each.0,
      still_share s (second_read source) (second_factor source before * bar) x m each.1,
    )

-- ---- one assignment

module _ (d : ℕ) (source : Source) (before : List ℕ) (varied useful : VariableSet) where
  abbrev known : Activity
  known = activity_of (d ≔ source) varied useful

  gain_varied : (bar x : ℕ) → T (has varied x) → varied_gain known source before bar x ≡ gain source before bar x
  unfolding activity_of varied_gain gain
  gain_varied bar x m =
      rw (
        varied_share varied (first_read source) (first_factor source before * bar) x m,
        varied_share varied (second_read source) (second_factor source before * bar) x m,
      )

  -- a variable but d stays varied
  pub stays_varied : (x : ℕ) → d ≢ x → T (has varied x) → T (has (varied_after (d ≔ source) varied) x)
  unfolding varied_after
  stays_varied x h m = by_test (any_read varied source)
    where
      by_test : (b : Bool) → T (has (cond b (varied ∪ single d) (without d varied)) x)
      by_test true = union_left varied (single d) x m
      by_test false = rw (without_has d varied x, ne_eqb x d (λ e. h (sym e)), and-true (has varied x)) m

  -- d is varied where a read is
  pub becomes_varied : any_read varied source ≡ true → T (has (varied_after (d ≔ source) varied) d)
  unfolding varied_after
  becomes_varied e = rw e (union_right varied (single d) d (rw (single_has d d, eq-eqb d d refl) tt))

  -- a variable but d that was useful is
  pub stays_useful : (x : ℕ) → d ≢ x → T (has useful x) → T (has (useful_before (d ≔ source) useful) x)
  unfolding useful_before
  stays_useful x h m = by_test (has useful d)
    where
      by_test : (b : Bool) → T (has (cond b (without d useful ∪ reads source) useful) x)
      by_test true =
          union_left (without d useful) (reads source) x (rw (without_has d useful x, ne_eqb x d (λ e. h (sym e)), and-true (has useful x)) m)
      by_test false = m

  -- what is read for a useful d is useful
  pub becomes_useful : (x : ℕ) → has useful d ≡ true → T (has (reads source) x) → T (has (useful_before (d ≔ source) useful) x)
  unfolding useful_before
  becomes_useful x e m = rw e (union_right (without d useful) (reads source) x m)

  module _ (variables : ℕ) (full : ℕ → ℕ) (lean after : List ℕ) (h : d < variables)
      (A : Agrees (varied_after (d ≔ source) varied) useful variables full lean) where
    useless_before : (x : ℕ) → x < variables → (T (has (useful_before (d ≔ source) useful) x) → ⊥) → full_step (d ≔ source) before full x ≡ 0
    unfolding full_step
    useless_before x k unused = rw (kept (ℕ_discrete d x), gains (has useful d) refl) residue_zero
      where
        kept : Dec (d ≡ x) → cond (eqb d x) 0 (full x) ≡ 0
        kept (yes e) = rw (e, eq-eqb x x refl)
        kept (no q) = rw (A.useless x k (λ m. unused (stays_useful x q m))) (cond_zero (eqb d x))

        gains : (b : Bool) → has useful d ≡ b → gain source before (full d) x ≡ 0
        gains true e = gain_unread source before (full d) x (λ m. unused (becomes_useful x e m))
        gains false e = rw (A.useless d h (λ m. rw e at m)) (gain_of_zero source before x)

    varies_before : (x : ℕ) → x < variables → T (has varied x)
        → cleared d lean x + lean_gain known source before (get_or lean d 0) x ≡ cond (eqb d x) 0 (full x) + gain source before (full d) x
    unfolding lean_gain activity_of
    varies_before x k m = ap₂ (λ y z. y + z) (kept (ℕ_discrete d x)) (gains (has useful d) (any_read varied source) refl refl)
      where
        kept : Dec (d ≡ x) → cleared d lean x ≡ cond (eqb d x) 0 (full x)
        kept (yes e) = rw (e, eq-eqb x x refl)
        kept (no q) = rw (A.varies x k (stays_varied x q m))

        gains : (a b : Bool) → has useful d ≡ a → any_read varied source ≡ b
            → cond (a && b) (varied_gain known source before (get_or lean d 0) x) 0 ≡ gain source before (full d) x
        gains true true e f = ap (λ bar. varied_gain known source before bar x) (A.varies d h (becomes_varied f)) ∙ gain_varied (full d) x m
        gains true false e f = sym (gain_still varied source before (full d) x m f)
        gains false b e f = rw (A.useless d h (λ u. rw e at u)) (sym (gain_of_zero source before x))

    pub agrees_before : Grown variables (λ x. cleared d lean x + lean_gain known source before (get_or lean d 0) x) after
        → Agrees varied (useful_before (d ≔ source) useful) variables (full_step (d ≔ source) before full) after
    unfolding full_step
    agrees_before G =
        record {
          size = G.size;
          below = G.below;
          useless = useless_before;
          varies = λ x k m. G.each x k ∙ ap residue (varies_before x k m);
        }
