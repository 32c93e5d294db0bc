-- Over one assignment, in residues, the rates as the plain engine has them (only active rows, only varied operands) and the full ones keep agreeing:
-- where a variable isn't varied the full rate is 0, and where it is useful the lean rate is the full one.
use Prim.Native.Nat.{ℕ, ◌+◌, ◌*◌, ◌<◌}
use mathlib.Core.Path.{◌≡◌, refl, sym, ap, ◌∙◌}
use mathlib.Core.Bool.{Bool, true, false, cond}
use mathlib.Core.List.{List, []}
use mathlib.Core.Option.{Option, none, some}
use lib.ListN.{length, get_or, set, length-set}
use lib.Seq.{get_or-set_same, get_or-set_other}
use lib.Dec.{T, eqb}
use native.Mathlib.Decide.{ℕ_discrete}
use native.Mathlib.Nat.{mul-zero, add-zero, zero-add}
use native.Mathlib.Omega.{arith}
use borrow.Author.Tests.{lt-ltb, eq-eqb, ne_eqb}
use Rattle.number.specs.Residues.{modulus, residue, opposite, residues}
use Rattle.number.proofs.ResidueLaws.{residue_below, residue_same, residue_zero, residue_sum_left, residue_sum_right, opposite_of_one}
use Rattle.sheet.specs.Rows.{◌≔◌, Source, copy, fixed, sum, difference, product, negation, quotient}
use Rattle.sheet.specs.Names.{SourcePresent, SourceFeasible}
use Rattle.sets.specs.VariableSets.{VariableSet, has, has_some, single_some, ◌⊆◌}
use Rattle.sets.specs.Transfers.{first_read, second_read, any_read, reads, varied_after, useful_before, Activity, activity_of}
use Rattle.sets.proofs.VariableSetLaws.{single_has, union_left, union_right}
use Rattle.machine.specs.Actions.{through, look, evaluated}
use Rattle.machine.proofs.PlaceLaws.{look_there}
use Rattle.plain.specs.Plain.{Carried, stopping_in, active_rate, rate_for, carried_over}
use Rattle.claims.proofs.EquationTwoSolved.{first_factor, second_factor}
use Rattle.claims.proofs.FullRates.{OperandPresent, operands_present, rate_read, rate_given, rate_step}
use Rattle.claims.proofs.LeanStep.{neither, stays_varied, becomes_varied, stays_useful, becomes_useful}

-- the full and the lean rates at a point of the sheet, of so many variables
pub record RatesAgree (varied useful : VariableSet) (variables : ℕ) (full : ℕ → ℕ) (lean : List ℕ) : Type 0 where
  pub size : length lean ≡ variables
  pub below : (x : ℕ) → full x < modulus
  pub still : (x : ℕ) → x < variables → (T (has varied x) → ⊥) → full x ≡ 0
  pub serves : (x : ℕ) → x < variables → T (has useful x) → get_or lean x 0 ≡ full x

-- from one point to another that has no fewer varied and no more useful
pub rates_within : (varied varied' useful useful' : VariableSet) (variables : ℕ) (full : ℕ → ℕ) (lean : List ℕ) → varied ⊆ varied' → useful' ⊆ useful
    → RatesAgree varied useful variables full lean → RatesAgree varied' useful' variables full lean
rates_within varied varied' useful useful' variables full lean f g A =
    record {
      size = A.size;
      below = A.below;
      still = λ x h unvaried. A.still x h (λ m. unvaried (f x m));
      serves = λ x h m. A.serves x h (g x m);
    }

-- ---- residues

reduced : (x y : ℕ) → x ≡ y → y < modulus → residue x ≡ y
reduced x y e h = ap residue e ∙ residue_same y h

-- −1 times x is −x
opposite_given : (x : ℕ) → residue (opposite 1 * x) ≡ opposite x
unfolding opposite
opposite_given x =
    ap residue (sym (zero-add (opposite 1 * x))) ∙ opposite_of_one 0 x ∙ ap residue (zero-add (opposite x)) ∙ residue_same (opposite x) (residue_below _)

-- ---- an active row's rate, from operands whose lean rates are the full ones and which have no rate where they aren't varied

module _ (now : Carried residues) (full : ℕ → ℕ) (v : ℕ) (values_sized : length now.values ≡ v) (rates_sized : length now.rates ≡ v)
    (below : (x : ℕ) → full x < modulus) where
  -- of what is read, where something is
  abbrev HasFullRate : Option ℕ → Type 0
  HasFullRate none = Unit {0}
  HasFullRate (some a) = get_or now.rates a 0 ≡ full a

  look_rate : (a : ℕ) → a < v → get_or now.rates a 0 ≡ full a → look {Why = ⊥} now.rates a ≡ through (full a)
  look_rate a h right = look_there now.rates a 0 (rw rates_sized h) ∙ ap through right

  look_value : (a : ℕ) → a < v → look {Why = ⊥} now.values a ≡ through (get_or now.values a 0)
  look_value a h = look_there now.values a 0 (rw values_sized h)

  active_given : (source : Source) (known : Activity) (row constants : ℕ) → SourcePresent v constants source → SourceFeasible false source
      → HasFullRate (first_read source) → HasFullRate (second_read source) → (known.varied_a ≡ false → rate_read (first_read source) full ≡ 0)
      → (known.varied_b ≡ false → rate_read (second_read source) full ≡ 0)
      → active_rate residues source known row now ≡ through (residue (rate_given source now.values full))
  unfolding SourcePresent SourceFeasible first_read second_read active_rate rate_given evaluated
  active_given (copy a) known row k present feasible full_a full_b still_a still_b =
      rw (look_rate a present full_a) (ap through (sym (reduced _ (full a) (omega arith) (below a))))
  active_given (fixed c) known row k present feasible full_a full_b still_a still_b = ap through (sym residue_zero)
  active_given (sum a b) known row k present feasible full_a full_b still_a still_b = by known.varied_a known.varied_b still_a still_b
    where
      by : (var_a var_b : Bool) → (var_a ≡ false → full a ≡ 0) → (var_b ≡ false → full b ≡ 0)
          → stopping_in residues row (evaluated residues [] (cond var_a (cond var_b (sum a b) (copy a)) (copy b)) now.rates)
          ≡ through (residue (1 * full a + 1 * full b))
      by true true zero_a zero_b = rw (look_rate a present.0 full_a, look_rate b present.1 full_b) (ap (λ y. through (residue y)) (omega arith))
      by true false zero_a zero_b =
          rw (look_rate a present.0 full_a, zero_b refl) (ap through (sym (reduced _ (full a) (omega arith) (below a))))
      by false var_b zero_a zero_b =
          rw (look_rate b present.1 full_b, zero_a refl) (ap through (sym (reduced _ (full b) (omega arith) (below b))))
  active_given (difference a b) known row k present feasible full_a full_b still_a still_b = by known.varied_a known.varied_b still_a still_b
    where
      by : (var_a var_b : Bool) → (var_a ≡ false → full a ≡ 0) → (var_b ≡ false → full b ≡ 0)
          → stopping_in residues row (evaluated residues [] (cond var_a (cond var_b (difference a b) (copy a)) (negation b)) now.rates)
          ≡ through (residue (1 * full a + opposite 1 * full b))
      by true true zero_a zero_b =
          rw (look_rate a present.0 full_a, look_rate b present.1 full_b)
          (ap through (sym (opposite_of_one (1 * full a) (full b) ∙ ap (λ y. residue (y + opposite (full b))) (omega arith))))
      by true false zero_a zero_b =
          rw (look_rate a present.0 full_a, zero_b refl) (ap through (sym (reduced _ (full a) (omega arith) (below a))))
      by false var_b zero_a zero_b =
          rw (look_rate b present.1 full_b, zero_a refl, zero-add (opposite 1 * full b)) (ap through (sym (opposite_given (full b))))
  active_given (product a b) known row k present feasible full_a full_b still_a still_b = by known.varied_a known.varied_b still_a still_b
    where
      x : ℕ
      x = get_or now.values a 0

      y : ℕ
      y = get_or now.values b 0

      by : (var_a var_b : Bool) → (var_a ≡ false → full a ≡ 0) → (var_b ≡ false → full b ≡ 0)
          → active_rate residues (product a b) (record { varied_a = var_a; varied_b = var_b; active = known.active }) row now
          ≡ through (residue (y * full a + x * full b))
      by true true zero_a zero_b =
          rw (look_value a present.0, look_value b present.1, look_rate a present.0 full_a, look_rate b present.1 full_b)
          (ap through (residue_sum_left _ _ ∙ residue_sum_right _ _))
      by true false zero_a zero_b =
          rw (look_value b present.1, look_rate a present.0 full_a, zero_b refl, mul-zero x, add-zero (y * full a))
      by false var_b zero_a zero_b =
          rw (look_value a present.0, look_rate b present.1 full_b, zero_a refl, mul-zero y, zero-add (x * full b))
  active_given (negation a) known row k present feasible full_a full_b still_a still_b =
      rw (look_rate a present full_a) (ap through (sym (ap residue (add-zero (opposite 1 * full a)) ∙ opposite_given (full a))))
  active_given (quotient a b) known row k present feasible full_a full_b still_a still_b = let z : ◌≡◌ {A = ℕ} 0 1 = cc in absurd (omega arith)

-- ---- one assignment

module _ (d : ℕ) (source : Source) (varied useful : VariableSet) (v constants : ℕ) (now : Carried residues) (full : ℕ → ℕ)
    (values_sized : length now.values ≡ v) (there : d < v) (present : SourcePresent v constants source) (feasible : SourceFeasible false source)
    (A : RatesAgree varied (useful_before (d ≔ source) useful) v full now.rates) where
  abbrev known : Activity
  known = activity_of (d ≔ source) varied useful

  abbrev given : ℕ
  given = residue (rate_given source now.values full)

  -- an operand that isn't varied has no rate
  read_still : (o : Option ℕ) → OperandPresent v o → has_some varied o ≡ false → rate_read o full ≡ 0
  read_still none h e = refl
  read_still (some a) h e = A.still a h (λ m. rw e at m)

  given_still : any_read varied source ≡ false → given ≡ 0
  unfolding any_read rate_given
  given_still e =
      let each = neither (has_some varied (first_read source)) (has_some varied (second_read source)) e in
      let operands = operands_present v constants source present in
      rw (
        read_still (first_read source) operands.0 each.0,
        read_still (second_read source) operands.1 each.1,
        mul-zero (first_factor source now.values),
        mul-zero (second_factor source now.values),
      )
      residue_zero

  -- what is read for a useful d has the full rate
  read_full : has useful d ≡ true → (o : Option ℕ) → OperandPresent v o → single_some o ⊆ reads source → HasFullRate now full v values_sized A.size A.below o
  read_full e none h within = tt
  read_full e (some a) h within =
      A.serves a h (becomes_useful d source now.values varied useful a e (within a (rw (single_has a a, eq-eqb a a refl) tt)))

  -- the rate that the row works out, which counts where d is useful
  record RateFor (row : ℕ) : Type 0 where
    rate : ℕ
    goes : rate_for residues source known row now ≡ through rate
    serves : T (has useful d) → rate ≡ given

  rate_for_lem : (row : ℕ) → RateFor row
  unfolding rate_for activity_of reads
  rate_for_lem row = by (has useful d) (any_read varied source) refl refl
    where
      by : (a b : Bool) → has useful d ≡ a → any_read varied source ≡ b → RateFor row
      by true true e f =
          let operands = operands_present v constants source present in
          let first = single_some (first_read source) in
          let second = single_some (second_read source) in
          record {
            rate = given;
            goes = rw (e, f)
                (active_given now full v values_sized A.size A.below source (record { varied_a = known.varied_a; varied_b = known.varied_b; active = true }) row constants
                present feasible
                (read_full e (first_read source) operands.0 (union_left first second)) (read_full e (second_read source) operands.1 (union_right first second))
                (read_still (first_read source) operands.0) (read_still (second_read source) operands.1));
            serves = λ m. refl;
          }
      by true false e f = record { rate = 0; goes = rw (e, f); serves = λ m. sym (given_still f) }
      by false b e f = record { rate = 0; goes = rw e; serves = λ m. absurd (rw e at m) }

  abbrev next : (rate value : ℕ) → Carried residues
  next rate value = record { values = set now.values d value; rates = set now.rates d rate }

  pub record Stepped (row value : ℕ) (words : List ℕ) : Type 0 where
    pub rate : ℕ
    pub goes : carried_over residues words (d ≔ source) known row now ≡ through (next rate value)
    pub agrees : RatesAgree (varied_after (d ≔ source) varied) useful v (rate_step (d ≔ source) now.values full) (set now.rates d rate)

  step_below : (x : ℕ) → rate_step (d ≔ source) now.values full x < modulus
  unfolding rate_step
  step_below x = by (eqb d x)
    where
      by : (b : Bool) → cond b given (full x) < modulus
      by true = residue_below _
      by false = A.below x

  step_still : (x : ℕ) → x < v → (T (has (varied_after (d ≔ source) varied) x) → ⊥) → rate_step (d ≔ source) now.values full x ≡ 0
  unfolding rate_step
  step_still x h unvaried = by (ℕ_discrete d x)
    where
      unread : (b : Bool) → d ≡ x → any_read varied source ≡ b → given ≡ 0
      unread true e f = absurd (unvaried (rw (← e) (becomes_varied d source now.values varied useful f)))
      unread false e f = given_still f

      by : Dec (d ≡ x) → cond (eqb d x) given (full x) ≡ 0
      by (yes e) = rw (eq-eqb d x e) (unread (any_read varied source) e refl)
      by (no q) = rw (ne_eqb d x q) (A.still x h (λ m. unvaried (stays_varied d source now.values varied useful x q m)))

  pub stepped : (row value : ℕ) (words : List ℕ) → evaluated residues words source now.values ≡ through value → Stepped row value words
  unfolding carried_over rate_step
  stepped row value words gives =
      let own = rate_for_lem row in
      let in_values : d < length now.values = rw values_sized there in
      let in_rates : d < length now.rates = rw A.size there in
      record {
        rate = own.rate;
        goes = rw (own.goes, gives, lt-ltb d (length now.values) in_values, lt-ltb d (length now.rates) in_rates);
        agrees =
            record {
              size = length-set now.rates d own.rate ∙ A.size;
              below = step_below;
              still = step_still;
              serves = λ x h m. serves own in_rates x h m (ℕ_discrete d x);
            };
      }
    where
      serves : (own : RateFor row) → d < length now.rates → (x : ℕ) → x < v → T (has useful x) → Dec (d ≡ x)
          → get_or (set now.rates d own.rate) x 0 ≡ cond (eqb d x) given (full x)
      serves own inside x h m (yes e) =
          rw (← e, eq-eqb d d refl, get_or-set_same now.rates d own.rate 0 inside) (own.serves (rw e m))
      serves own inside x h m (no q) =
          rw (ne_eqb d x q, get_or-set_other now.rates d x own.rate 0 (λ e. q (sym e)))
          (A.serves x h (stays_useful d source now.values varied useful x q m))
