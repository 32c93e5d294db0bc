-- The forward equation has one solution; at every variable's current value it is the full rate, carried along the executed assignments.
use Prim.Native.Nat.{ℕ, suc, ◌+◌, ◌*◌, ◌≤◌, ◌<◌}
use mathlib.Core.Path.{◌≡◌, refl, sym, ap, ap₂, ◌∙◌}
use mathlib.Core.Bool.{Bool, true, false, ◌&&◌, cond, and-true, and-false}
use mathlib.Core.List.{List, [], ◌∷◌}
use lib.ListN.{get_or}
use lib.Dec.{eqb}
use native.Mathlib.Decide.{ℕ_discrete}
use native.Mathlib.Nat.{add-zero, zero-add}
use native.Mathlib.Omega.{arith}
use borrow.Author.Tests.{eq-eqb, ne_eqb, eqb-true}
use Rattle.number.specs.Residues.{modulus, residue, opposite}
use Rattle.number.proofs.ResidueLaws.{residue_same}
use Rattle.sheet.specs.Rows.{Assignment, ◌≔◌, Source, copy, fixed, sum, difference, product, negation, quotient, is_independent}
use Rattle.sheet.proofs.RowsBack.{both}
use Rattle.claims.specs.EquationTwo.{Instance, value_no, same_instance, Trace, assigns, times_assigned, current, partials_of, node_of, nodes_of}
use Rattle.claims.specs.ForwardEquation.{rates_read, rate_made, rates_at, ForwardEquation, ForwardSolvable}
use Rattle.claims.proofs.FullRates.{rate_given, rate_step, rates_along}

-- ---- which values a trace knows of, and which it makes

-- the value that an assignment makes is none of those before it
new_value : (times : ℕ → ℕ) (d x n : ℕ) → n ≤ times x → same_instance (value_no d (suc (times d))) (value_no x n) ≡ false
unfolding same_instance
new_value times d x n h = by_case (ℕ_discrete d x)
  where
    by_case : Dec (d ≡ x) → (eqb d x && eqb (suc (times d)) n) ≡ false
    by_case (yes e) = rw (e, eq-eqb x x refl, ne_eqb (suc (times x)) n (λ q. absurd (omega arith)))
    by_case (no q) = rw (ne_eqb d x q)

-- nor one of those after it
not_yet : (times : ℕ → ℕ) (d x n : ℕ) → cond (eqb d x) 1 0 + times x < n → same_instance (value_no d (suc (times d))) (value_no x n) ≡ false
unfolding same_instance
not_yet times d x n h = by_case (ℕ_discrete d x)
  where
    by_case : Dec (d ≡ x) → (eqb d x && eqb (suc (times d)) n) ≡ false
    by_case (yes e) =
        let more : 1 + times x < n = rw (e, eq-eqb x x refl) at h in
        rw (e, eq-eqb x x refl, ne_eqb (suc (times x)) n (λ q. absurd (omega arith)))
    by_case (no q) = rw (ne_eqb d x q)

-- a value that is still to come is made by no node
unmade : (trace : Trace) (x n : ℕ) (rate : Instance → ℕ) → times_assigned trace x < n → rate_made (value_no x n) rate (nodes_of trace) ≡ 0
unfolding times_assigned rate_made nodes_of
unmade [] x n rate h = refl
unmade (e ∷ earlier) x n rate h = rw (unmade earlier x n rate (omega arith)) (latest e.assignment h)
  where
    latest : (b : Assignment) → cond (assigns b x) 1 0 + times_assigned earlier x < n
        → cond (same_instance (node_of b e.before earlier).makes (value_no x n)) (rates_read rate (node_of b e.before earlier).partials) 0 + 0 ≡ 0
    latest (d ≔ source) k = rw (not_yet (times_assigned earlier) d x n k)

-- no earlier node makes the value that an assignment makes
made_once : (earlier : Trace) (d x n : ℕ) (rate : Instance → ℕ) → same_instance (value_no d (suc (times_assigned earlier d))) (value_no x n) ≡ true
    → rate_made (value_no x n) rate (nodes_of earlier) ≡ 0
unfolding same_instance
made_once earlier d x n rate e =
    let equal = both (eqb d x) (eqb (suc (times_assigned earlier d)) n) e in
    let one_variable : d ≡ x = eqb-true d x equal.0 in
    let one_number : suc (times_assigned earlier x) ≡ n = rw (← one_variable) (eqb-true (suc (times_assigned earlier d)) n equal.1) in
    unmade earlier x n rate (omega arith)

-- ---- a node's rate hangs on current values alone

reads_alike : (source : Source) (before : List ℕ) (earlier : Trace) (rate other : Instance → ℕ)
    → ((x : ℕ) → rate (current earlier x) ≡ other (current earlier x))
    → rates_read rate (partials_of source before earlier) ≡ rates_read other (partials_of source before earlier)
unfolding rates_read partials_of
reads_alike (copy a) before earlier rate other h = rw (h a)
reads_alike (fixed c) before earlier rate other h = refl
reads_alike (sum a b) before earlier rate other h = rw (h a, h b)
reads_alike (difference a b) before earlier rate other h = rw (h a, h b)
reads_alike (product a b) before earlier rate other h = rw (h a, h b)
reads_alike (negation a) before earlier rate other h = rw (h a)
reads_alike (quotient a b) before earlier rate other h = refl

node_alike : (b : Assignment) (before : List ℕ) (earlier : Trace) (rate other : Instance → ℕ)
    → ((x : ℕ) → rate (current earlier x) ≡ other (current earlier x))
    → rates_read rate (node_of b before earlier).partials ≡ rates_read other (node_of b before earlier).partials
unfolding node_of
node_alike (d ≔ source) before earlier rate other h = reads_alike source before earlier rate other h

-- two rates that agree on the values that a trace knows of
abbrev Alike : Trace → (rate other : Instance → ℕ) → Type 0
Alike trace rate other = (x n : ℕ) → n ≤ times_assigned trace x → rate (value_no x n) ≡ other (value_no x n)

made_alike : (trace : Trace) (i : Instance) (rate other : Instance → ℕ) → Alike trace rate other
    → rate_made i rate (nodes_of trace) ≡ rate_made i other (nodes_of trace)
unfolding times_assigned rate_made nodes_of
made_alike [] i rate other h = refl
made_alike (e ∷ earlier) i rate other h =
    ap₂ (λ y z. cond (same_instance (node_of e.assignment e.before earlier).makes i) y 0 + z)
    (node_alike e.assignment e.before earlier rate other (λ x. h x (times_assigned earlier x) (omega arith)))
    (made_alike earlier i rate other (λ x n k. h x n (omega arith)))

-- ---- the solution, one assignment after another, the earliest first

-- the forward equation with any starts
abbrev Solves : (start : Instance → ℕ) → Trace → (rate : Instance → ℕ) → Type 0
Solves start trace rate = (i : Instance) → rate i ≡ residue (start i + rate_made i rate (nodes_of trace))

-- what an assignment makes has its node's rate, all else the rate it had
unfoldable onto : Assignment → (before : List ℕ) → Trace → (start earlier_rate : Instance → ℕ) → Instance → ℕ
onto b before earlier start earlier_rate i =
    let j = node_of b before earlier in cond (same_instance j.makes i) (residue (start i + rates_read earlier_rate j.partials)) (earlier_rate i)

unfoldable pub rate_solution : Trace → (start : Instance → ℕ) → Instance → ℕ
unfolding onto
rate_solution [] start i = residue (start i)
rate_solution (e ∷ earlier) start i = onto e.assignment e.before earlier start (rate_solution earlier start) i

module _ (d : ℕ) (source : Source) (before : List ℕ) (earlier : Trace) (start : Instance → ℕ) where
  abbrev made : Instance
  made = value_no d (suc (times_assigned earlier d))

  onto_earlier : (rate : Instance → ℕ) → Alike earlier (onto (d ≔ source) before earlier start rate) rate
  unfolding onto node_of
  onto_earlier rate x n h = rw (new_value (times_assigned earlier) d x n h)

  onto_solves : (rate : Instance → ℕ) → Solves start earlier rate → (i : Instance) → let next = onto (d ≔ source) before earlier start rate in
      next i ≡ residue (start i + (cond (same_instance made i) (rates_read next (partials_of source before earlier)) 0 + rate_made i next (nodes_of earlier)))
  unfolding onto node_of
  onto_solves rate solves (value_no x n) =
      rw (
        made_alike earlier (value_no x n) (onto (d ≔ source) before earlier start rate) rate (onto_earlier rate),
        reads_alike source before earlier (onto (d ≔ source) before earlier start rate) rate (λ y. onto_earlier rate y (times_assigned earlier y) (omega arith)),
      )
      (by_made (same_instance made (value_no x n)) refl)
    where
      own : ℕ
      own = rates_read rate (partials_of source before earlier)

      by_made : (b : Bool) → same_instance made (value_no x n) ≡ b
          → cond b (residue (start (value_no x n) + own)) (rate (value_no x n))
          ≡ residue (start (value_no x n) + (cond b own 0 + rate_made (value_no x n) rate (nodes_of earlier)))
      by_made true e = rw (made_once earlier d x n rate e, add-zero own)
      by_made false e = rw (zero-add (rate_made (value_no x n) rate (nodes_of earlier))) (solves (value_no x n))

  -- Only this one: taking the made value's rate back to its start leaves a solution of the earlier nodes.
  module _ (rate earlier_rate : Instance → ℕ)
      (solves : (i : Instance) → rate i
      ≡ residue (start i + (cond (same_instance made i) (rates_read rate (partials_of source before earlier)) 0 + rate_made i rate (nodes_of earlier))))
      (only : (other : Instance → ℕ) → Solves start earlier other → (i : Instance) → other i ≡ earlier_rate i) where
    taken_back : Instance → ℕ
    taken_back i = cond (same_instance made i) (residue (start i)) (rate i)

    taken_back_earlier : Alike earlier taken_back rate
    unfolding taken_back
    taken_back_earlier x n h = rw (new_value (times_assigned earlier) d x n h)

    taken_back_solves : Solves start earlier taken_back
    unfolding taken_back
    taken_back_solves (value_no x n) =
        rw (made_alike earlier (value_no x n) taken_back rate taken_back_earlier) (by_made (same_instance made (value_no x n)) refl)
      where
        by_made : (b : Bool) → same_instance made (value_no x n) ≡ b
            → cond b (residue (start (value_no x n))) (rate (value_no x n)) ≡ residue (start (value_no x n) + rate_made (value_no x n) rate (nodes_of earlier))
        by_made true e = rw (made_once earlier d x n rate e, add-zero (start (value_no x n)))
        by_made false e = (rw e at (solves (value_no x n))) ∙ ap (λ y. residue (start (value_no x n) + y)) (zero-add _)

    known : Alike earlier rate earlier_rate
    known x n h = sym (taken_back_earlier x n h) ∙ only taken_back taken_back_solves (value_no x n)

    onto_only : (i : Instance) → rate i ≡ onto (d ≔ source) before earlier start earlier_rate i
    unfolding onto node_of taken_back
    onto_only (value_no x n) = by_made (same_instance made (value_no x n)) refl
      where
        own : ℕ
        own = rates_read earlier_rate (partials_of source before earlier)

        by_made : (b : Bool) → same_instance made (value_no x n) ≡ b
            → rate (value_no x n) ≡ cond b (residue (start (value_no x n) + own)) (earlier_rate (value_no x n))
        by_made true e =
            (rw (
              e,
              made_once earlier d x n rate e,
              reads_alike source before earlier rate earlier_rate (λ y. known y (times_assigned earlier y) (omega arith)),
            ) at (solves (value_no x n)))
            ∙ ap (λ y. residue (start (value_no x n) + y)) (add-zero own)
        by_made false e =
            sym (ap (λ b. cond b (residue (start (value_no x n))) (rate (value_no x n))) e) ∙ only taken_back taken_back_solves (value_no x n)

solution_solves : (trace : Trace) (start : Instance → ℕ) → Solves start trace (rate_solution trace start)
unfolding rate_solution rate_made nodes_of node_of
solution_solves [] start i = ap residue (sym (add-zero (start i)))
solution_solves (e ∷ earlier) start i = latest e.assignment (solution_solves earlier start) i
  where
    latest : (b : Assignment) → Solves start earlier (rate_solution earlier start) → (i : Instance)
        → let next = onto b e.before earlier start (rate_solution earlier start) in
        let j = node_of b e.before earlier in
        next i ≡ residue (start i + (cond (same_instance j.makes i) (rates_read next j.partials) 0 + rate_made i next (nodes_of earlier)))
    latest (d ≔ source) = onto_solves d source e.before earlier start (rate_solution earlier start)

solution_only : (trace : Trace) (start rate : Instance → ℕ) → Solves start trace rate → (i : Instance) → rate i ≡ rate_solution trace start i
unfolding rate_solution rate_made nodes_of node_of
solution_only [] start rate solves i = solves i ∙ ap residue (add-zero (start i))
solution_only (e ∷ earlier) start rate solves i = latest e.assignment solves (solution_only earlier start) i
  where
    latest : (b : Assignment)
        → ((i : Instance) → let j = node_of b e.before earlier in
        rate i ≡ residue (start i + (cond (same_instance j.makes i) (rates_read rate j.partials) 0 + rate_made i rate (nodes_of earlier))))
        → ((other : Instance → ℕ) → Solves start earlier other → (i : Instance) → other i ≡ rate_solution earlier start i)
        → (i : Instance) → rate i ≡ onto b e.before earlier start (rate_solution earlier start) i
    latest (d ≔ source) = onto_only d source e.before earlier start rate (rate_solution earlier start)

-- ---- the forward equation itself

pub forward_solvable : (roles rates : List ℕ) (trace : Trace) → ForwardSolvable roles rates trace
unfolding ForwardEquation
forward_solvable roles rates trace =
    let start = rates_at roles rates in
    record { rate = rate_solution trace start; solves = solution_solves trace start; only = solution_only trace start }

-- ---- the full rates

reads_are_given : (source : Source) (before : List ℕ) (earlier : Trace) (rate : Instance → ℕ) (full : ℕ → ℕ) → ((x : ℕ) → full x ≡ rate (current earlier x))
    → rate_given source before full ≡ rates_read rate (partials_of source before earlier)
unfolding rate_given rates_read partials_of
reads_are_given (copy a) before earlier rate full h = rw (h a)
reads_are_given (fixed c) before earlier rate full h = refl
reads_are_given (sum a b) before earlier rate full h = rw (h a, h b, add-zero (1 * rate (current earlier b)))
reads_are_given (difference a b) before earlier rate full h = rw (h a, h b, add-zero (opposite 1 * rate (current earlier b)))
reads_are_given (product a b) before earlier rate full h = rw (h a, h b, add-zero (get_or before a 0 * rate (current earlier b)))
reads_are_given (negation a) before earlier rate full h = rw (h a)
reads_are_given (quotient a b) before earlier rate full h = omega arith

-- over one assignment; a value that is made starts at 0
step_solves : (b : Assignment) (before : List ℕ) (earlier : Trace) (start rate : Instance → ℕ) (full : ℕ → ℕ)
    → ((x n : ℕ) → start (value_no x (suc n)) ≡ 0) → ((y : ℕ) → full y ≡ rate (current earlier y)) → (x : ℕ)
    → rate_step b before full x ≡ onto b before earlier start rate (value_no x (cond (assigns b x) 1 0 + times_assigned earlier x))
unfolding rate_step onto node_of same_instance
step_solves (d ≔ source) before earlier start rate full later same x = by_case (ℕ_discrete d x)
  where
    times : ℕ → ℕ
    times = times_assigned earlier

    by_case : Dec (d ≡ x) → cond (eqb d x) (residue (rate_given source before full)) (full x)
        ≡ onto (d ≔ source) before earlier start rate (value_no x (cond (eqb d x) 1 0 + times x))
    by_case (yes is) =
        let next : 1 + times x ≡ suc (times x) = omega arith in
        rw (
          is,
          eq-eqb x x refl,
          next,
          eq-eqb (suc (times x)) (suc (times x)) refl,
          later x (times x),
          zero-add (rates_read rate (partials_of source before earlier)),
        )
        (ap residue (reads_are_given source before earlier rate full same))
    by_case (no q) =
        rw (ne_eqb d x q, zero-add (times x)) (same x)

along_solves : (trace : Trace) (start : Instance → ℕ) (rates : ℕ → ℕ) → ((x : ℕ) → rates x ≡ residue (start (value_no x 0)))
    → ((x n : ℕ) → start (value_no x (suc n)) ≡ 0) → (x : ℕ) → rates_along trace rates x ≡ rate_solution trace start (current trace x)
unfolding times_assigned rates_along rate_solution
along_solves [] start rates first later x = first x
along_solves (e ∷ earlier) start rates first later x =
    step_solves e.assignment e.before earlier start (rate_solution earlier start) (rates_along earlier rates) later
    (along_solves earlier start rates first later) x

-- "Starting rates are read at independents only and are 0 elsewhere"
unfoldable pub starting_rate : (roles rates : List ℕ) → ℕ → ℕ
starting_rate roles rates x = cond (is_independent (get_or roles x 0)) (get_or rates x 0) 0

-- over all executed assignments, from the starting rates, each variable comes to the rate that the forward equation gives its current value
pub full_rates_solve : (roles rates : List ℕ) (trace : Trace) → ((x : ℕ) → starting_rate roles rates x < modulus) → (rate : Instance → ℕ)
    → ForwardEquation roles rates trace rate → (x : ℕ) → rates_along trace (starting_rate roles rates) x ≡ rate (current trace x)
unfolding ForwardEquation starting_rate rates_at
full_rates_solve roles rates trace below rate solves x =
    along_solves trace (rates_at roles rates) (starting_rate roles rates)
    (λ y. sym (residue_same _ (below y)) ∙ ap (λ b. residue (cond b (get_or rates y 0) 0)) (sym (and-true (is_independent (get_or roles y 0)))))
    (λ y n. rw (ne_eqb (suc n) 0 (λ q. absurd (omega arith)), and-false (is_independent (get_or roles y 0)))) x
    ∙ sym (solution_only trace (rates_at roles rates) rate solves (current trace x))
