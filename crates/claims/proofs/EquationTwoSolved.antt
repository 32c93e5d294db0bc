-- Equation (2) has one solution and no other, and the full reverse sweep, over all executed assignments and without any set, finds it.
use Prim.Native.Nat.{ℕ, suc, ◌+◌, ◌*◌, ◌<◌}
use mathlib.Core.Path.{◌≡◌, refl, sym, ap, ◌∙◌}
use mathlib.Core.Logic.{◌≢◌}
use mathlib.Core.Bool.{Bool, true, false, ◌&&◌, cond, and-true, and-false}
use mathlib.Core.List.{List, [], ◌∷◌}
use mathlib.Core.Option.{Option, none, some}
use lib.ListN.{get_or}
use lib.Dec.{eqb}
use native.Mathlib.Decide.{ℕ_discrete}
use native.Mathlib.Nat.{add_assoc, add-zero, zero-add}
use native.Mathlib.Omega.{arith}
use borrow.Author.Tests.{eq-eqb, ne_eqb}
use Rattle.number.specs.Residues.{modulus, residue, opposite}
use Rattle.number.proofs.ResidueLaws.{residue_sum_left, residue_same}
use Rattle.sheet.specs.Rows.{Assignment, ◌≔◌, Source, copy, fixed, sum, difference, product, negation, quotient, is_dependent}
use Rattle.sets.specs.Transfers.{first_read, second_read}
use Rattle.claims.specs.EquationTwo.{Instance, value_no, same_instance, Trace, assigns, times_assigned, current, Node, partials_of, node_of, nodes_of, terms_of, all_terms, starts_at, EquationTwo, Solvable}

-- ---- what an assignment reads no more, and not yet

-- no value of x but its current one is read
read_is_current : (earlier : Trace) (a x n : ℕ) → times_assigned earlier x ≢ n → same_instance (current earlier a) (value_no x n) ≡ false
unfolding same_instance
read_is_current earlier a x n h = by_case (ℕ_discrete a x)
  where
    by_case : Dec (a ≡ x) → (eqb a x && eqb (times_assigned earlier a) n) ≡ false
    by_case (yes e) = rw (e, eq-eqb x x refl, ne_eqb (times_assigned earlier x) n h)
    by_case (no d) = rw (ne_eqb a x d)

others_unread : (source : Source) (before : List ℕ) (earlier : Trace) (x n bar : ℕ) → times_assigned earlier x ≢ n
    → terms_of (value_no x n) bar (partials_of source before earlier) ≡ 0
unfolding terms_of partials_of
others_unread (copy a) before earlier x n bar h = rw (read_is_current earlier a x n h)
others_unread (fixed c) before earlier x n bar h = refl
others_unread (sum a b) before earlier x n bar h = rw (read_is_current earlier a x n h, read_is_current earlier b x n h)
others_unread (difference a b) before earlier x n bar h = rw (read_is_current earlier a x n h, read_is_current earlier b x n h)
others_unread (product a b) before earlier x n bar h = rw (read_is_current earlier a x n h, read_is_current earlier b x n h)
others_unread (negation a) before earlier x n bar h = rw (read_is_current earlier a x n h)
others_unread (quotient a b) before earlier x n bar h = refl

node_unread : (b : Assignment) (before : List ℕ) (earlier : Trace) (x n bar : ℕ) → times_assigned earlier x ≢ n
    → terms_of (value_no x n) bar (node_of b before earlier).partials ≡ 0
unfolding node_of
node_unread (d ≔ source) before earlier x n bar h = others_unread source before earlier x n bar h

-- what a trace never made it didn't read
unmade_unread : (trace : Trace) (x n : ℕ) (bar : Instance → ℕ) → times_assigned trace x < n → all_terms (value_no x n) bar (nodes_of trace) ≡ 0
unfolding times_assigned all_terms nodes_of
unmade_unread [] x n bar h = refl
unmade_unread (e ∷ earlier) x n bar h =
    rw (
      node_unread e.assignment e.before earlier x n (bar (node_of e.assignment e.before earlier).makes) (λ q. absurd (omega arith)),
      unmade_unread earlier x n bar (omega arith),
    )

made_unread : (b : Assignment) (before : List ℕ) (earlier : Trace) (bar : Instance → ℕ)
    → all_terms (node_of b before earlier).makes bar (node_of b before earlier ∷ nodes_of earlier) ≡ 0
unfolding all_terms node_of
made_unread (d ≔ source) before earlier bar =
    let n = times_assigned earlier d in
    rw (
      others_unread source before earlier d (suc n) (bar (value_no d (suc n))) (λ q. absurd (omega arith)),
      unmade_unread earlier d (suc n) bar (omega arith),
    )

-- ---- the solution, one assignment after another, the latest first

-- equation (2) with any starts
abbrev pub Solves : (start : Instance → ℕ) → Trace → (bar : Instance → ℕ) → Type 0
Solves start trace bar = (i : Instance) → bar i ≡ residue (start i + all_terms i bar (nodes_of trace))

-- the starts with the terms of one node, whose own adjoint is known: they stand for it in the equation of the earlier ones
abbrev pub with_terms : Node → (bar : ℕ) → (start : Instance → ℕ) → Instance → ℕ
with_terms j bar start i = start i + terms_of i bar j.partials

-- the latest node's value is read by no node, so its adjoint is its start
unfoldable pub solution : Trace → (start : Instance → ℕ) → Instance → ℕ
solution [] start i = residue (start i)
solution (e ∷ earlier) start i =
    let j = node_of e.assignment e.before earlier in
    solution earlier (with_terms j (residue (start j.makes)) start) i

solution_unmade : (trace : Trace) (start : Instance → ℕ) (x n : ℕ) → times_assigned trace x < n
    → solution trace start (value_no x n) ≡ residue (start (value_no x n))
unfolding times_assigned solution
solution_unmade [] start x n h = refl
solution_unmade (e ∷ earlier) start x n h =
    let j = node_of e.assignment e.before earlier in
    let bar = residue (start j.makes) in
    let unread = node_unread e.assignment e.before earlier x n bar (λ q. absurd (omega arith)) in
    solution_unmade earlier (with_terms j bar start) x n (omega arith) ∙ ap residue (ap (λ y. start (value_no x n) + y) unread ∙ add-zero _)

solution_made : (b : Assignment) (before : List ℕ) (earlier : Trace) (start : Instance → ℕ)
    → let j = node_of b before earlier in solution earlier (with_terms j (residue (start j.makes)) start) j.makes ≡ residue (start j.makes)
unfolding node_of
solution_made (d ≔ source) before earlier start =
    let n = times_assigned earlier d in
    let bar = residue (start (value_no d (suc n))) in
    let unread = others_unread source before earlier d (suc n) bar (λ q. absurd (omega arith)) in
    solution_unmade earlier _ d (suc n) (omega arith) ∙ ap residue (ap (λ y. start (value_no d (suc n)) + y) unread ∙ add-zero _)

solution_solves : (trace : Trace) (start : Instance → ℕ) → Solves start trace (solution trace start)
unfolding solution all_terms nodes_of
solution_solves [] start i = ap residue (sym (add-zero (start i)))
solution_solves (e ∷ earlier) start i =
    let j = node_of e.assignment e.before earlier in
    let rest = all_terms i (solution (e ∷ earlier) start) (nodes_of earlier) in
    solution_solves earlier (with_terms j (residue (start j.makes)) start) i
    ∙ ap residue (add_assoc (start i) _ rest)
    ∙ ap (λ bar. residue (start i + (terms_of i bar j.partials + rest))) (sym (solution_made e.assignment e.before earlier start))

solution_only : (trace : Trace) (start bar : Instance → ℕ) → Solves start trace bar → (i : Instance) → bar i ≡ solution trace start i
unfolding solution all_terms nodes_of
solution_only [] start bar solves i = solves i ∙ ap residue (add-zero (start i))
solution_only (e ∷ earlier) start bar solves i =
    let j = node_of e.assignment e.before earlier in
    let latest : bar j.makes ≡ residue (start j.makes) =
    solves j.makes ∙ ap residue (ap (λ y. start j.makes + y) (made_unread e.assignment e.before earlier bar) ∙ add-zero _) in
    solution_only earlier (with_terms j (residue (start j.makes)) start) bar
    (λ k. solves k ∙ ap (λ b. residue (start k + (terms_of k b j.partials + all_terms k bar (nodes_of earlier)))) latest
    ∙ ap residue (sym (add_assoc (start k) _ _)))
    i

-- ---- equation (2) itself

pub equation_two_solvable : (roles seeds : List ℕ) (trace : Trace) → Solvable roles seeds trace
unfolding EquationTwo
equation_two_solvable roles seeds trace =
    let start = starts_at roles seeds trace in
    record { bar = solution trace start; solves = solution_solves trace start; only = solution_only trace start }

-- ---- the full sweep: the adjoint of every variable's current value, at each point of the execution

-- c_ja and c_jb of an assignment, 0 for what isn't read and for a quotient, which no sheet in audit holds
unfoldable pub first_factor : Source → (before : List ℕ) → ℕ
unfolding opposite
first_factor (copy a) before = 1
first_factor (fixed c) before = 0
first_factor (sum a b) before = 1
first_factor (difference a b) before = 1
first_factor (product a b) before = get_or before b 0
first_factor (negation a) before = opposite 1
first_factor (quotient a b) before = 0

unfoldable pub second_factor : Source → (before : List ℕ) → ℕ
unfolding opposite
second_factor (copy a) before = 0
second_factor (fixed c) before = 0
second_factor (sum a b) before = 1
second_factor (difference a b) before = opposite 1
second_factor (product a b) before = get_or before a 0
second_factor (negation a) before = 0
second_factor (quotient a b) before = 0

-- what an operand brings to x
abbrev pub share : Option ℕ → (amount x : ℕ) → ℕ
share none amount x = 0
share (some a) amount x = cond (eqb a x) amount 0

unfoldable pub gain : Source → (before : List ℕ) → (bar x : ℕ) → ℕ
unfolding first_read second_read first_factor second_factor
gain source before bar x =
    share (first_read source) (first_factor source before * bar) x + share (second_read source) (second_factor source before * bar) x

unfoldable pub full_step : Assignment → (before : List ℕ) → (full : ℕ → ℕ) → ℕ → ℕ
unfolding gain
full_step (d ≔ source) before full x = residue (cond (eqb d x) 0 (full x) + gain source before (full d) x)

unfoldable pub full_swept : Trace → (full : ℕ → ℕ) → ℕ → ℕ
unfolding full_step
full_swept [] full = full
full_swept (e ∷ earlier) full = full_swept earlier (full_step e.assignment e.before full)

-- the current value of x is read where x is
read_now : (earlier : Trace) (a x : ℕ) → same_instance (current earlier a) (current earlier x) ≡ eqb a x
unfolding same_instance
read_now earlier a x = by_case (ℕ_discrete a x)
  where
    by_case : Dec (a ≡ x) → (eqb a x && eqb (times_assigned earlier a) (times_assigned earlier x)) ≡ eqb a x
    by_case (yes e) = rw (e, eq-eqb x x refl, eq-eqb (times_assigned earlier x) (times_assigned earlier x) refl)
    by_case (no d) = rw (ne_eqb a x d)

two_terms : (m n : ℕ) → m + (n + 0) ≡ m + n
two_terms m n = omega arith

no_shares : (first second : Bool) (bar : ℕ) → cond first (0 * bar) 0 + cond second (0 * bar) 0 ≡ 0
no_shares true true bar = omega arith
no_shares true false bar = omega arith
no_shares false true bar = omega arith
no_shares false false bar = refl

terms_are_gain : (source : Source) (before : List ℕ) (earlier : Trace) (bar x : ℕ)
    → terms_of (current earlier x) bar (partials_of source before earlier) ≡ gain source before bar x
unfolding terms_of partials_of gain
terms_are_gain (copy a) before earlier bar x = rw (read_now earlier a x)
terms_are_gain (fixed c) before earlier bar x = refl
terms_are_gain (sum a b) before earlier bar x = rw (read_now earlier a x, read_now earlier b x) (two_terms _ _)
terms_are_gain (difference a b) before earlier bar x = rw (read_now earlier a x, read_now earlier b x) (two_terms _ _)
terms_are_gain (product a b) before earlier bar x = rw (read_now earlier a x, read_now earlier b x) (two_terms _ _)
terms_are_gain (negation a) before earlier bar x = rw (read_now earlier a x)
terms_are_gain (quotient a b) before earlier bar x = sym (no_shares (eqb a x) (eqb b x) bar)

-- Going back through a trace, `full` keeps what the starts, with the terms of the later nodes, give each variable's current value;
-- what a past value starts at is still 0, for it is read only before it is past.
pub record Keeps (times : ℕ → ℕ) (start : Instance → ℕ) (full : ℕ → ℕ) : Type 0 where
  pub now : (x : ℕ) → full x ≡ residue (start (value_no x (times x)))
  pub past : (x n : ℕ) → n < times x → start (value_no x n) ≡ 0

keeps_back : (b : Assignment) (before : List ℕ) (earlier : Trace) (start : Instance → ℕ) (full : ℕ → ℕ)
    → Keeps (λ x. cond (assigns b x) 1 0 + times_assigned earlier x) start full
    → let j = node_of b before earlier in Keeps (times_assigned earlier) (with_terms j (residue (start j.makes)) start) (full_step b before full)
unfolding node_of full_step
keeps_back (d ≔ source) before earlier start full keeps = record { now = λ x. by_case x (ℕ_discrete d x); past = before_now }
  where
    times : ℕ → ℕ
    times = times_assigned earlier

    bar : ℕ
    bar = residue (start (value_no d (suc (times d))))

    latest : full d ≡ bar
    latest = keeps.now d ∙ ap (λ n. residue (start (value_no d n))) (ap (λ b. cond b 1 0 + times d) (eq-eqb d d refl) ∙ omega arith)

    by_case : (x : ℕ) → Dec (d ≡ x) → residue (cond (eqb d x) 0 (full x) + gain source before (full d) x)
        ≡ residue (start (value_no x (times x)) + terms_of (value_no x (times x)) bar (partials_of source before earlier))
    by_case x (yes e) =
        let same : eqb d x ≡ true = rw e (eq-eqb x x refl) in
        let starts_at_0 = keeps.past x (times x) (rw same (omega arith)) in
        rw (latest, terms_are_gain source before earlier bar x, same, starts_at_0)
    by_case x (no h) =
        let other = ne_eqb d x h in
        let kept : full x ≡ residue (start (value_no x (times x))) =
        keeps.now x ∙ ap (λ n. residue (start (value_no x n))) (ap (λ b. cond b 1 0 + times x) other ∙ zero-add (times x)) in
        rw (latest, terms_are_gain source before earlier bar x, other, kept) (residue_sum_left _ _)

    before_now : (x n : ℕ) → n < times x → start (value_no x n) + terms_of (value_no x n) bar (partials_of source before earlier) ≡ 0
    before_now x n h =
        rw (keeps.past x n (omega arith), others_unread source before earlier x n bar (λ q. absurd (omega arith)))

-- what a full sweep comes to at each variable is the adjoint of its start value
swept_is_solution : (trace : Trace) (start : Instance → ℕ) (full : ℕ → ℕ) → Keeps (times_assigned trace) start full → (x : ℕ)
    → full_swept trace full x ≡ solution trace start (value_no x 0)
unfolding times_assigned full_swept solution
swept_is_solution [] start full keeps x = keeps.now x
swept_is_solution (e ∷ earlier) start full keeps x =
    swept_is_solution earlier _ (full_step e.assignment e.before full) (keeps_back e.assignment e.before earlier start full keeps) x

-- ---- from the seeds

-- "A dependent's last value starts at its seed, all else at 0."
unfoldable pub seed_at : (roles seeds : List ℕ) → ℕ → ℕ
seed_at roles seeds x = cond (is_dependent (get_or roles x 0)) (get_or seeds x 0) 0

seeds_keep : (roles seeds : List ℕ) (trace : Trace) → ((x : ℕ) → seed_at roles seeds x < modulus)
    → Keeps (times_assigned trace) (starts_at roles seeds trace) (seed_at roles seeds)
unfolding seed_at starts_at
seeds_keep roles seeds trace below =
    record {
      now = λ x.
          rw (eq-eqb (times_assigned trace x) (times_assigned trace x) refl, and-true (is_dependent (get_or roles x 0)))
          (sym (residue_same _ (below x)));
      past = λ x n h. rw (ne_eqb n (times_assigned trace x) (λ q. absurd (omega arith)), and-false (is_dependent (get_or roles x 0)));
    }

-- over all executed assignments, from the seeds, the sweep gives the adjoints that equation (2) defines
pub full_sweep_solves : (roles seeds : List ℕ) (trace : Trace) → ((x : ℕ) → seed_at roles seeds x < modulus) → (bar : Instance → ℕ)
    → EquationTwo roles seeds trace bar → (x : ℕ) → full_swept trace (seed_at roles seeds) x ≡ bar (value_no x 0)
unfolding EquationTwo
full_sweep_solves roles seeds trace below bar solves x =
    swept_is_solution trace (starts_at roles seeds trace) (seed_at roles seeds) (seeds_keep roles seeds trace below) x
    ∙ sym (solution_only trace (starts_at roles seeds trace) bar solves (value_no x 0))
