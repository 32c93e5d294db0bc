-- What `dot`, `summed`, `summed_if_done` and `balance` of src/lib.rt rest on: a sum grows by one product at each place, and where both runs answer 0, each list that
-- is summed over has a number for each variable.
use Prim.Native.Nat.{ℕ, suc, ◌+◌, ◌-◌, ◌*◌, ◌≤◌}
use mathlib.Core.Path.{◌≡◌, refl, sym, ap, ap₂, subst, ◌∙◌}
use mathlib.Core.Bool.{Bool, true, false, cond, and-false}
use mathlib.Core.List.{List}
use mathlib.Core.Logic.{◌≢◌, ◌⊎◌, inl, inr}
use lib.ListN.{length, take, drop, get_or}
use lib.Dec.{eqb}
use borrow.Author.Rules.{part_to_end}
use borrow.Author.Tests.{eq-eqb, ne_eqb}
use native.Mathlib.Omega.{arith}
use Rattle.number.specs.Arithmetic.{value}
use Rattle.number.specs.Residues.{residue, residues}
use Rattle.number.proofs.ResidueLaws.{residue_sum_left, residue_sum_right}
use Rattle.sheet.specs.Sheets.{Sheet}
use Rattle.sets.specs.Marks.{Sets}
use Rattle.table.specs.Sizes.{Needs}
use Rattle.table.specs.declared.Reply.{Reply}
use Rattle.run.specs.Runs.{Lent, ran_of}
use Rattle.run.specs.Calls.{run}
use Rattle.tangent.specs.Calls.{run_tangent}
use Rattle.claims.specs.declared.Sums.{Sums}
use Rattle.claims.specs.ExactlyWhen.{LengthsRight}
use Rattle.claims.specs.Balance.{sum_below}
use Rattle.claims.specs.Inner.Summing.{dot_of, HalvesLong, sums_of, no_sums, both_done, sums_if_done}
use Rattle.claims.proofs.DemandOneHolds.{run_call}
use Rattle.claims.proofs.TangentsHold.{tangent_call}

-- ---- the sum so far

module _ (ones others : List ℕ) where
  abbrev product_at : ℕ → ℕ
  product_at x = get_or ones x 0 * get_or others x 0

  pub record Summing (i sum : ℕ) : Type 0 where
    pub within : i ≤ length ones
    pub is : sum ≡ residue (sum_below i product_at)

  pub summing_starts : Summing 0 0
  unfolding residue sum_below
  summing_starts = record { within = omega arith; is = refl }

  pub summing_goes_on : {i sum product next : ℕ} → i + 1 ≤ length ones
      → value product ≡ residues.product (get_or ones i 0) (get_or others i 0) → value next ≡ residues.sum sum product
      → Summing i sum → Summing (i + 1) next
  unfolding sum_below
  summing_goes_on {i} {sum} {product} {next} within multiplied added before =
      let product_is : product ≡ residue (product_at i) = cc in
      let next_is : next ≡ residue (sum + product) = cc in
      let so_far = sum_below i product_at in
      let one_more_lem : suc i ≡ i + 1 = omega arith in
      record {
        within = within;
        is =
            subst (λ n. next ≡ residue (sum_below n product_at)) one_more_lem
            (next_is ∙ ap (λ s. residue (s + product)) before.is ∙ ap (λ p. residue (residue so_far + p)) product_is
            ∙ residue_sum_left so_far (residue (product_at i)) ∙ residue_sum_right so_far (product_at i));
      }

  pub summing_ends : {i sum : ℕ} → length ones ≤ i → Summing i sum → sum ≡ dot_of ones others
  unfolding dot_of
  summing_ends {i} {sum} end before =
      let all : i ≡ length ones = omega (arith, before.within) in
      before.is ∙ ap (λ n. residue (sum_below n product_at)) all

-- ---- the sums over the results' second halves, which are handed on as parts up to the results' ends

pub sums_are : (adjoint tangent : Reply) (variables : ℕ) (seeds rates adjoints tangents : List ℕ) {of_rates of_adjoints : ℕ}
    → of_rates ≡ dot_of seeds (take (length tangents - variables) (drop variables tangents))
    → of_adjoints ≡ dot_of (take (length adjoints - variables) (drop variables adjoints)) rates
    → record { adjoint = adjoint; tangent = tangent; of_rates = of_rates; of_adjoints = of_adjoints }
    ≡ sums_of adjoint tangent variables seeds rates adjoints tangents
unfolding sums_of
sums_are adjoint tangent variables seeds rates adjoints tangents of_rates of_adjoints =
    ap₂ (λ (x y : ℕ). record { adjoint = adjoint; tangent = tangent; of_rates = x; of_adjoints = y })
    (of_rates ∙ ap (dot_of seeds) (part_to_end tangents variables)) (of_adjoints ∙ ap (λ half. dot_of half rates) (part_to_end adjoints variables))

module _ (adjoint tangent : Reply) where
  pub done_both : adjoint.number ≡ 0 → tangent.number ≡ 0 → both_done adjoint tangent ≡ true
  unfolding both_done
  done_both zero zero' = rw (eq-eqb _ 0 zero, eq-eqb _ 0 zero')

  pub not_both : (adjoint.number ≢ 0) ⊎ (tangent.number ≢ 0) → both_done adjoint tangent ≡ false
  unfolding both_done
  not_both (inl some) = rw (ne_eqb _ 0 some)
  not_both (inr some) = rw (ne_eqb _ 0 some, and-false (eqb adjoint.number 0))

  module _ (variables : ℕ) (seeds rates adjoints tangents : List ℕ) where
    pub summed_where : {r : Sums} → adjoint.number ≡ 0 → tangent.number ≡ 0 → r ≡ sums_of adjoint tangent variables seeds rates adjoints tangents
        → r ≡ sums_if_done adjoint tangent variables seeds rates adjoints tangents
    unfolding sums_if_done
    summed_where zero zero' e = rw (done_both zero zero') e

    pub unsummed_where : (adjoint.number ≢ 0) ⊎ (tangent.number ≢ 0)
        → no_sums adjoint tangent ≡ sums_if_done adjoint tangent variables seeds rates adjoints tangents
    unfolding sums_if_done
    unsummed_where some = rw (not_both some)

-- ---- what a run that answered 0 was given, by its exactness: as many numbers as start values, and twice as many for its result

pub record RunLengths (starts given result : List ℕ) : Type 0 where
  pub given_values : length given ≡ length starts
  pub results : length result ≡ 2 * length starts

by_starts : {needs : Sets → Sheet → Needs} {words starts given : List ℕ} {before : Lent residues} {sheet : Sheet} {sets : Sets}
    → LengthsRight residues needs words starts given before sheet sets → RunLengths starts given before.result
by_starts lengths =
    record {
      given_values = lengths.seed_values ∙ sym lengths.start_values;
      results = lengths.results ∙ ap (λ v. 2 * v) (sym lengths.start_values);
    }

pub adjoint_lengths : (words starts seeds : List ℕ) (before after : Lent residues) (answer : Reply)
    → ran_of residues answer after ≡ run residues words starts seeds before → answer.number ≡ 0 → RunLengths starts seeds before.result
adjoint_lengths words starts seeds before after answer contract zero =
    by_starts ((run_call residues words starts seeds before after answer contract).done.0 zero).3.runnable.lengths

pub tangent_lengths : (words starts rates : List ℕ) (before after : Lent residues) (answer : Reply)
    → ran_of residues answer after ≡ run_tangent residues words starts rates before → answer.number ≡ 0 → RunLengths starts rates before.result
tangent_lengths words starts rates before after answer contract zero =
    by_starts ((tangent_call residues words starts rates before after answer contract).exactly.done.0 zero).3.runnable.lengths

-- ---- both runs

module _ (words starts seeds rates : List ℕ) (before after before' after' : Lent residues) (adjoint tangent : Reply)
    (adjoint_did : ran_of residues adjoint after ≡ run residues words starts seeds before)
    (tangent_did : ran_of residues tangent after' ≡ run_tangent residues words starts rates before')
    (kept : length after.result ≡ length before.result) (kept' : length after'.result ≡ length before'.result) where
  pub both_long : adjoint.number ≡ 0 → tangent.number ≡ 0 → HalvesLong (length starts) seeds rates after.result after'.result
  both_long zero zero' =
      let one = adjoint_lengths words starts seeds before after adjoint adjoint_did zero in
      let other = tangent_lengths words starts rates before' after' tangent tangent_did zero' in
      record {
        seed_values = one.given_values;
        rate_values = other.given_values;
        adjoint_results = kept ∙ one.results;
        tangent_results = kept' ∙ other.results;
      }

  -- the answer's own replies are those that were handed to it
  pub record RunsBoth (answer : Sums) : Type 0 where
    pub long : answer.adjoint.number ≡ 0 → answer.tangent.number ≡ 0 → HalvesLong (length starts) seeds rates after.result after'.result
    pub adjoint_ran : ran_of residues answer.adjoint after ≡ run residues words starts seeds before
    pub tangent_ran : ran_of residues answer.tangent after' ≡ run_tangent residues words starts rates before'
    pub sums : answer.adjoint.number ≡ 0 → answer.tangent.number ≡ 0
        → (answer.of_rates ≡ dot_of seeds (drop (length starts) after'.result))
        × (answer.of_adjoints ≡ dot_of (drop (length starts) after.result) rates)
    pub none : (answer.adjoint.number ≢ 0) ⊎ (answer.tangent.number ≢ 0) → (answer.of_rates ≡ 0) × (answer.of_adjoints ≡ 0)

  pub runs_both : (answer : Sums) → answer ≡ sums_if_done adjoint tangent (length starts) seeds rates after.result after'.result → RunsBoth answer
  unfolding sums_if_done
  runs_both answer is =
      let same = ap (λ sums. sums.adjoint) is ∙ same_adjoint (both_done adjoint tangent) in
      let same' = ap (λ sums. sums.tangent) is ∙ same_tangent (both_done adjoint tangent) in
      let number = ap (λ reply. reply.number) same in
      let number' = ap (λ reply. reply.number) same' in
      record {
        long = λ zero zero'. both_long (sym number ∙ zero) (sym number' ∙ zero');
        adjoint_ran = ap (λ reply. ran_of residues reply after) same ∙ adjoint_did;
        tangent_ran = ap (λ reply. ran_of residues reply after') same' ∙ tangent_did;
        sums = λ zero zero'. let told = is ∙ ap chosen (done_both adjoint tangent (sym number ∙ zero) (sym number' ∙ zero')) in
            (ap (λ sums. sums.of_rates) told, ap (λ sums. sums.of_adjoints) told);
        none = λ refused. let told = is ∙ ap chosen (not_both adjoint tangent (as_handed number number' refused)) in
            (ap (λ sums. sums.of_rates) told, ap (λ sums. sums.of_adjoints) told);
      }
    where
      chosen : Bool → Sums
      chosen done = cond done (sums_of adjoint tangent (length starts) seeds rates after.result after'.result) (no_sums adjoint tangent)

      same_adjoint : (done : Bool) → (chosen done).adjoint ≡ adjoint
      same_adjoint true = refl
      same_adjoint false = refl

      same_tangent : (done : Bool) → (chosen done).tangent ≡ tangent
      same_tangent true = refl
      same_tangent false = refl

      as_handed : {m m' n n' : ℕ} → m ≡ n → m' ≡ n' → (m ≢ 0) ⊎ (m' ≢ 0) → (n ≢ 0) ⊎ (n' ≢ 0)
      as_handed is is' (inl some) = inl (λ zero. some (is ∙ zero))
      as_handed is is' (inr some) = inr (λ zero. some (is' ∙ zero))
