-- What an assignment does to the members of each of the three sets; each transfer is monotone and keeps to the sheet's variables.
use Prim.Native.Nat.{ℕ, ◌^◌, ◌<◌}
use mathlib.Core.Path.{◌≡◌, refl, ap, ◌∙◌}
use mathlib.Core.Bool.{Bool, true, false, not, ◌&&◌, ◌||◌, cond}
use lib.Dec.{T, eqb, eqb→eq}
use lib.Pow.{pow_pos}
use Rattle.sheet.specs.Rows.{Assignment, ◌≔◌, Source, copy, fixed, sum, difference, product, negation, quotient}
use Rattle.sheet.specs.Names.{SourcePresent, AssignmentPresent}
use Rattle.sets.specs.VariableSets.{VariableSet, empty, has, ◌∪◌, single, single_if, without, has_some, ◌⊆◌}
use Rattle.sets.specs.Transfers.{first_read, second_read, any_read, reads, varied_after, useful_before, Activity, adjoint_use, required_after}
use Rattle.sets.proofs.Truths.{each_truth, or_mono, and_mono, cond_mono}
use Rattle.sets.proofs.VariableSetLaws.{union_has, single_has, without_has, some_within}
use Rattle.sets.proofs.VariableSetSizes.{union_below, single_below, without_below}

-- ---- members

-- nothing to take out
lacking : (a b : Bool) → (T b → a ≡ false) → a ≡ (a && not b || false)
lacking true true f = f tt
lacking true false f = refl
lacking false b f = refl

pub varied_after_has : (d : ℕ) (source : Source) (s : VariableSet) (i : ℕ)
    → has (varied_after (d ≔ source) s) i ≡ cond (eqb i d) (any_read s source) (has s i)
unfolding varied_after
varied_after_has d source s i = go (any_read s source)
  where
    go : (b : Bool) → has (cond b (s ∪ single d) (without d s)) i ≡ cond (eqb i d) b (has s i)
    go true = rw (union_has s (single d) i, single_has d i) (each_truth (λ a b. (a || b) ≡ cond b true a) refl refl refl refl (has s i) (eqb i d))
    go false = rw (without_has d s i) (each_truth (λ a b. (a && not b) ≡ cond b false a) refl refl refl refl (has s i) (eqb i d))

pub useful_before_has : (d : ℕ) (source : Source) (s : VariableSet) (i : ℕ)
    → has (useful_before (d ≔ source) s) i ≡ (has s i && not (eqb i d) || has s d && has (reads source) i)
unfolding useful_before
useful_before_has d source s i = go (has s d) refl
  where
    go : (b : Bool) → has s d ≡ b → has (cond b (without d s ∪ reads source) s) i ≡ (has s i && not (eqb i d) || b && has (reads source) i)
    go true e = rw (union_has (without d s) (reads source) i, without_has d s i)
    go false e = lacking (has s i) (eqb i d) (λ h. ap (has s) (eqb→eq i d h) ∙ e)

pub required_after_has : (d : ℕ) (source : Source) (known : Activity) (s : VariableSet) (i : ℕ)
    → has (required_after (d ≔ source) known s) i ≡ ((has s i || has (adjoint_use source known) i) && not (eqb i d))
unfolding required_after
required_after_has d source known s i = rw (without_has d (s ∪ adjoint_use source known) i, union_has s (adjoint_use source known) i)

-- ---- no variables beyond the sheet's

cond_below : (v : ℕ) (b : Bool) (s t : VariableSet) → s < 2 ^ v → t < 2 ^ v → cond b s t < 2 ^ v
cond_below v true s t h k = h
cond_below v false s t h k = k

pair_below : (v a b : ℕ) → (a < v) × (b < v) → (single a ∪ single b) < 2 ^ v
pair_below v a b h = union_below v (single a) (single b) (single_below v a h.0) (single_below v b h.1)

pub reads_below : (v k : ℕ) (source : Source) → SourcePresent v k source → reads source < 2 ^ v
unfolding reads SourcePresent
reads_below v k (copy a) h = union_below v (single a) empty (single_below v a h) (pow_pos v)
reads_below v k (fixed c) h = pow_pos v
reads_below v k (sum a b) h = pair_below v a b h
reads_below v k (difference a b) h = pair_below v a b h
reads_below v k (product a b) h = pair_below v a b h
reads_below v k (negation a) h = union_below v (single a) empty (single_below v a h) (pow_pos v)
reads_below v k (quotient a b) h = pair_below v a b h

if_below : (v : ℕ) (there : Bool) (i : ℕ) → i < v → single_if there i < 2 ^ v
if_below v there i h = cond_below v there (single i) empty (single_below v i h) (pow_pos v)

pub use_below : (v k : ℕ) (source : Source) (known : Activity) → SourcePresent v k source → adjoint_use source known < 2 ^ v
unfolding adjoint_use SourcePresent
use_below v k (copy a) known h = pow_pos v
use_below v k (fixed c) known h = pow_pos v
use_below v k (sum a b) known h = pow_pos v
use_below v k (difference a b) known h = pow_pos v
use_below v k (product a b) known h =
    cond_below v known.active _ empty (union_below v _ _ (if_below v known.varied_b a h.0) (if_below v known.varied_a b h.1)) (pow_pos v)
use_below v k (negation a) known h = pow_pos v
use_below v k (quotient a b) known h =
    cond_below v known.active _ empty (union_below v _ _ (if_below v known.varied_b a h.0) (single_below v b h.1)) (pow_pos v)

-- ---- the three transfers

-- what a row makes of a set: more of more, and nothing beyond v variables
pub record Transfer (v : ℕ) (f : VariableSet → VariableSet) : Type 0 where
  pub monotone : (s t : VariableSet) → s ⊆ t → f s ⊆ f t
  pub below : (s : VariableSet) → s < 2 ^ v → f s < 2 ^ v

pub any_read_within : (s t : VariableSet) (source : Source) → s ⊆ t → T (any_read s source) → T (any_read t source)
unfolding any_read
any_read_within s t source f =
    or_mono (has_some s (first_read source)) (has_some t (first_read source)) (has_some s (second_read source)) (has_some t (second_read source))
    (some_within s t (first_read source) f) (some_within s t (second_read source) f)

varied_within : (d : ℕ) (source : Source) (s t : VariableSet) → s ⊆ t → varied_after (d ≔ source) s ⊆ varied_after (d ≔ source) t
varied_within d source s t f i m =
    rw (varied_after_has d source t i)
    (cond_mono (eqb i d) (any_read s source) (any_read t source) (has s i) (has t i) (any_read_within s t source f) (f i)
    (rw (varied_after_has d source s i) at m))

useful_within : (d : ℕ) (source : Source) (s t : VariableSet) → s ⊆ t → useful_before (d ≔ source) s ⊆ useful_before (d ≔ source) t
useful_within d source s t f i m =
    rw (useful_before_has d source t i)
    (or_mono (has s i && not (eqb i d)) (has t i && not (eqb i d)) (has s d && has (reads source) i) (has t d && has (reads source) i)
    (and_mono (has s i) (has t i) (not (eqb i d)) (f i)) (and_mono (has s d) (has t d) (has (reads source) i) (f d))
    (rw (useful_before_has d source s i) at m))

required_within : (d : ℕ) (source : Source) (known : Activity) (s t : VariableSet) → s ⊆ t
    → required_after (d ≔ source) known s ⊆ required_after (d ≔ source) known t
required_within d source known s t f i m =
    let needed = has (adjoint_use source known) i in
    rw (required_after_has d source known t i)
    (and_mono (has s i || needed) (has t i || needed) (not (eqb i d)) (or_mono (has s i) (has t i) needed needed (f i) (λ h. h))
    (rw (required_after_has d source known s i) at m))

module _ (v k : ℕ) where
  pub varied_transfer : (b : Assignment) → AssignmentPresent v k b → Transfer v (varied_after b)
  unfolding AssignmentPresent varied_after
  varied_transfer (d ≔ source) h = record { monotone = varied_within d source; below = below }
    where
      below : (s : VariableSet) → s < 2 ^ v → varied_after (d ≔ source) s < 2 ^ v
      below s l =
          cond_below v (any_read s source) (s ∪ single d) (without d s) (union_below v s (single d) l (single_below v d h.0))
          (without_below v d s l)

  pub useful_transfer : (b : Assignment) → AssignmentPresent v k b → Transfer v (useful_before b)
  unfolding AssignmentPresent useful_before
  useful_transfer (d ≔ source) h = record { monotone = useful_within d source; below = below }
    where
      below : (s : VariableSet) → s < 2 ^ v → useful_before (d ≔ source) s < 2 ^ v
      below s l =
          cond_below v (has s d) (without d s ∪ reads source) s
          (union_below v (without d s) (reads source) (without_below v d s l) (reads_below v k source h.1)) l

  pub required_transfer : (b : Assignment) (known : Activity) → AssignmentPresent v k b → Transfer v (required_after b known)
  unfolding AssignmentPresent required_after
  required_transfer (d ≔ source) known h = record { monotone = required_within d source known; below = below }
    where
      below : (s : VariableSet) → s < 2 ^ v → required_after (d ≔ source) known s < 2 ^ v
      below s l =
          without_below v d (s ∪ adjoint_use source known) (union_below v s (adjoint_use source known) l (use_below v k source known h.1))
