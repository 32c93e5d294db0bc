-- The run of a tangent table in the large, its rows numbered, and the plain engine agree: both go through and hold the same, or both stop at the same
-- row for the same reason. Neither is ever stuck where all that the body names is there.
use Prim.Native.Nat.{ℕ, zero, suc, ◌+◌, ◌<◌}
use mathlib.Core.Path.{◌≡◌, refl, sym, ap, subst, ◌∙◌}
use mathlib.Core.Bool.{Bool, true, false, cond}
use mathlib.Core.List.{List, []}
use mathlib.Core.Option.{Option, some}
use lib.ListN.{length, set, length-set}
use native.Mathlib.Omega.{arith}
use Rattle.number.specs.Arithmetic.{Arithmetic, divides}
use Rattle.sheet.specs.Tree.{times, while, done, one, fork, again, rows, RowNumber}
use Rattle.sheet.specs.Rows.{Assignment, ◌≔◌, Source, copy, fixed, sum, difference, product, negation, quotient}
use Rattle.sheet.specs.Names.{SourcePresent, AssignmentPresent, SourceFeasible, AssignmentFeasible}
use Rattle.sets.specs.Transfers.{Activity}
use Rattle.table.specs.TableRows.{t, u, Action, assign, clear, Operation, itself, rating_a, rating_b, rating, rating_over_b, rating_over_b_again, Origin, of_row, Table}
use Rattle.table.specs.Adjoint.{Body, put}
use Rattle.machine.specs.Actions.{Attempt, through, halted, stuck, ◌>>=◌, from_outcome, turns_then, while_then, replaced, Memory, Setting, Try, evaluated, with_store, count_kept, acted, Stop, compared, tested}
use Rattle.machine.proofs.AttemptLaws.{bind_assoc, bind_same, Ready, gives, stops, from_outcome_ready}
use Rattle.machine.proofs.PlaceLaws.{look_there}
use Rattle.run.proofs.Originals.{evaluated_originals, compared_originals, replaced_original, replaced_alone}
use Rattle.run.proofs.RowsReady.{evaluated_ready, quotient_ready, compared_ready}
use Rattle.run.proofs.RowsInTheLarge.{ResultAt, table_run_at}
use Rattle.run.proofs.KnownNames.{BodyKnown}
use Rattle.tangent.specs.Tangent.{from_varied, set_rate, no_rate, both_terms, second_term, both_quotients, active_rates, rate_rows, tangent_row, tangent_table, tangent_rows, rate_count, rows_over}
use Rattle.plain.specs.Plain.{Carried, StopAt, stopping_in, term, over_value, first_over, second_over, active_rate, rate_for, carried_over, plain_run}
use Rattle.plain.proofs.FeasibleBodies.{BodyFeasible}
use Rattle.plain.proofs.CarriedStores.{on_rates, Sized, store_of, with_rate, evaluated_on_rates, term_evaluated, terms_added, first_over_evaluated, over_value_evaluated, terms_subtracted, term_negated, rate_replaced, t_replaced, u_replaced}

-- ---- one of three, by which operands are varied

picked_on_rates : (v : ℕ) (known : Activity) (both of_a of_b : Source)
    → from_varied known (on_rates v both) (on_rates v of_a) (on_rates v of_b) ≡ on_rates v (from_varied known both of_a of_b)
picked_on_rates v known both of_a of_b = by_varied known.varied_a known.varied_b
  where
    by_varied : (a b : Bool)
        → cond a (cond b (on_rates v both) (on_rates v of_a)) (on_rates v of_b) ≡ on_rates v (cond a (cond b both of_a) of_b)
    by_varied true true = refl
    by_varied true false = refl
    by_varied false b = refl

picked_holds : (Holds : Source → Type 0) (known : Activity) (both of_a of_b : Source) → Holds both → Holds of_a → Holds of_b
    → Holds (from_varied known both of_a of_b)
picked_holds Holds known both of_a of_b p q r = by_varied known.varied_a known.varied_b
  where
    by_varied : (a b : Bool) → Holds (cond a (cond b both of_a) of_b)
    by_varied true true = p
    by_varied true false = q
    by_varied false b = r

-- how many rate rows an active assignment has
abbrev active_count : Source → Activity → ℕ
active_count (copy a) known = 1
active_count (fixed c) known = 1
active_count (sum a b) known = 1
active_count (difference a b) known = 1
active_count (product a b) known = from_varied known 3 1 1
active_count (negation a) known = 1
active_count (quotient a b) known = from_varied known 5 1 4

count_active : (source : Source) (known : Activity) → known.active ≡ true → rate_count source known ≡ active_count source known
unfolding rate_count
count_active (copy a) known e = refl
count_active (fixed c) known e = refl
count_active (sum a b) known e = refl
count_active (difference a b) known e = refl
count_active (product a b) known e = rw e
count_active (negation a) known e = refl
count_active (quotient a b) known e = rw e

count_inactive : (source : Source) (known : Activity) → known.active ≡ false → rate_count source known ≡ 1
unfolding rate_count
count_inactive (copy a) known e = refl
count_inactive (fixed c) known e = refl
count_inactive (sum a b) known e = refl
count_inactive (difference a b) known e = refl
count_inactive (product a b) known e = rw e
count_inactive (negation a) known e = refl
count_inactive (quotient a b) known e = rw e

module _ (A : Arithmetic) where
  abbrev pub CarriedResult : Type 0
  CarriedResult = Attempt (StopAt A) (Carried A)

  -- what a run of so many variables comes to, which began with these stacks and copies, and what the plain engine comes to
  module _ (v : ℕ) (left : Memory A) where
    -- the machine's memory: the stacks and the copies as they were, and in the store what is carried
    abbrev pub memory_of : Carried A → (held held' : A.Carrier) → Memory A
    memory_of now x y = with_store A left (store_of A v now x y)

    pub data Agree (ran : ResultAt A) (carried : CarriedResult) : Type 0 where
      both_go : (now : Carried A) (x y : A.Carrier) → Sized A v now → ran ≡ through (memory_of now x y) → carried ≡ through now → Agree ran carried
      both_stop : (row : RowNumber) (stop : Stop A) → ran ≡ halted (record { row = row; stop = stop })
          → carried ≡ halted (record { row = row; why = stop.why }) → Agree ran carried

    -- one after another
    agree_then : {ran : ResultAt A} {carried : CarriedResult} (next : Memory A → ResultAt A) (then : Carried A → CarriedResult) → Agree ran carried
        → ((now : Carried A) (x y : A.Carrier) → Sized A v now → Agree (next (memory_of now x y)) (then now))
        → Agree (ran >>= next) (carried >>= then)
    agree_then next then (both_go now x y sized e f) h = rw (e, f) (h now x y sized)
    agree_then next then (both_stop row stop e f) h = rw (e, f) (both_stop row stop refl refl)

    agree_unstuck : {ran : ResultAt A} {carried : CarriedResult} → Agree ran carried → carried ≡ stuck → ⊥
    agree_unstuck (both_go now x y sized e f) is = let z : ◌≡◌ {A = ℕ} 0 1 = cc in absurd (omega arith)
    agree_unstuck (both_stop row stop e f) is = let z : ◌≡◌ {A = ℕ} 0 1 = cc in absurd (omega arith)

    either_agrees : (first : Bool) {a b : ResultAt A} {a' b' : CarriedResult} → Agree a a' → Agree b b' → Agree (cond first a b) (cond first a' b')
    either_agrees true x y = x
    either_agrees false x y = y

    -- loops, of which each turn and what follows agree
    module _ (turn next : Memory A → ResultAt A) (its_turn then : Carried A → CarriedResult)
        (turns : (now : Carried A) (x y : A.Carrier) → Sized A v now → Agree (turn (memory_of now x y)) (its_turn now))
        (follows : (now : Carried A) (x y : A.Carrier) → Sized A v now → Agree (next (memory_of now x y)) (then now)) where
      turns_agree : (m : ℕ) (now : Carried A) (x y : A.Carrier) → Sized A v now
          → Agree (turns_then m turn next (memory_of now x y)) (turns_then m its_turn then now)
      unfolding turns_then
      turns_agree zero now x y sized = agree_then next then (turns now x y sized) follows
      turns_agree (suc m) now x y sized = agree_then _ _ (turns now x y sized) (turns_agree m)

      -- where nothing is put away at the end
      while_agrees : (holds : Memory A → Option Bool) (its_holds : Carried A → Option Bool) (ends : ℕ → Memory A → ResultAt A)
          → ((now : Carried A) (x y : A.Carrier) → Sized A v now → (more : Bool) × (holds (memory_of now x y) ≡ some more) × (its_holds now ≡ some more))
          → ((n : ℕ) (memory : Memory A) → ends n memory ≡ through memory)
          → (n m : ℕ) (now : Carried A) (x y : A.Carrier) → Sized A v now
          → Agree (while_then holds turn ends next n m (memory_of now x y)) (while_then its_holds its_turn (λ n now. through now) then n m now)
      unfolding while_then
      while_agrees holds its_holds ends asks at_end n zero now x y sized = rw (at_end n (memory_of now x y)) (follows now x y sized)
      while_agrees holds its_holds ends asks at_end n (suc m) now x y sized =
          let answer = asks now x y sized in
          rw (answer.1, answer.2)
          (either_agrees answer.0 (agree_then _ _ (turns now x y sized) (while_agrees holds its_holds ends asks at_end (suc n) m))
          (rw (at_end n (memory_of now x y)) (follows now x y sized)))

  module _ (setting : Setting A) (left : Memory A) where
    abbrev v : ℕ
    v = setting.variables

    abbrev k : ℕ
    k = length setting.constants

    abbrev memory : Carried A → (held held' : A.Carrier) → Memory A
    memory = memory_of v left

    -- ---- one row

    -- a row that works out m and then puts it into the store
    row_agrees : (origin : Origin) (action : Action) (rest : Table) (p q : ℕ) (before : Memory A) (m : Try A A.Carrier)
        (after : A.Carrier → Memory A) (then : A.Carrier → CarriedResult) → q ≡ suc p
        → acted A setting action before ≡ (m >>= λ z. through (after z)) → Ready m
        → ((z : A.Carrier) → Agree v left (table_run_at A setting rest q (after z)) (then z))
        → Agree v left (table_run_at A setting (one (record { origin = origin; action = action }) rest) p before) (stopping_in A p m >>= then)
    unfolding table_run_at
    row_agrees origin action rest p q before m after then next e (gives z is) h = rw (e, is, sym next) (h z)
    row_agrees origin action rest p q before m after then next e (stops why is) h =
        rw (e, is) (both_stop (record { index = p }) (record { origin = origin; why = why }) refl refl)

    assignment_row : (row : RowNumber) (operation : Operation) (target : ℕ) (source : Source) (rest : Table) (p q : ℕ) (before : List A.Carrier)
        (m : Try A A.Carrier) (after : A.Carrier → List A.Carrier) (then : A.Carrier → CarriedResult) → q ≡ suc p
        → evaluated A setting.constants source before ≡ m → Ready m
        → ((z : A.Carrier) → replaced {Why = A.Why} before target z ≡ through (after z))
        → ((z : A.Carrier) → Agree v left (table_run_at A setting rest q (with_store A left (after z))) (then z))
        → Agree v left (table_run_at A setting (put row operation (assign (target ≔ source)) rest) p (with_store A left before)) (stopping_in A p m >>= then)
    unfolding acted
    assignment_row row operation target source rest p q before m after then next e ready puts h =
        row_agrees (of_row row operation) (assign (target ≔ source)) rest p q (with_store A left before) m (λ z. with_store A left (after z)) then next
        (rw e (bind_same m _ _ (λ z is. rw (puts z)))) ready h

    -- ---- an assignment's rate rows

    module _ (now : Carried A) (sized : Sized A v now) (d : ℕ) (target : d < v) (row : RowNumber) (rest : Table) where
      -- what is still to come once the rate stands in its place, from row q on
      abbrev Follows : (q : ℕ) → (A.Carrier → CarriedResult) → Type 0
      Follows q then = (rate x y : A.Carrier) → Agree v left (table_run_at A setting rest q (memory (with_rate A v now d rate) x y)) (then rate)

      term_ready : (i j : ℕ) → i < v → j < v → Ready (term A i j now)
      term_ready i j p q =
          let value = look_there {Why = A.Why} now.values i A.zero (omega (arith, sized.values)) in
          let rate = look_there {Why = A.Why} now.rates j A.zero (omega (arith, sized.rates)) in
          rw (value, rate) (from_outcome_ready (A.product _ _))

      over_ready : divides A ≡ true → (z : A.Carrier) (b : ℕ) → b < v → Ready (over_value A z b now)
      over_ready has z b q = rw (look_there {Why = A.Why} now.values b A.zero (omega (arith, sized.values))) (quotient_ready A has z _)

      first_over_ready : divides A ≡ true → (a b : ℕ) → a < v → b < v → Ready (first_over A a b now)
      first_over_ready has a b p q = rw (look_there {Why = A.Why} now.rates a A.zero (omega (arith, sized.rates))) (over_ready has _ b q)

      -- "t := a × ḃ, t := t / b, t := t / b", and what follows them from row p + 3 on
      second_term_lem : (p : ℕ) (x y : A.Carrier) (a b : ℕ) → a < v → b < v → divides A ≡ true → (after : Table) (then : A.Carrier → CarriedResult)
          → ((z : A.Carrier) → Agree v left (table_run_at A setting after (suc (suc (suc p))) (memory now z y)) (then z))
          → Agree v left (table_run_at A setting (second_term v a b row after) p (memory now x y)) (second_over A a b p now >>= then)
      second_term_lem p x y a b first second has after then h =
          subst (Agree v left _)
          (sym (bind_assoc (stopping_in A p (term A a b now)) _ then
          ∙ bind_same (stopping_in A p (term A a b now)) _ _ (λ z is. bind_assoc (stopping_in A (suc p) (over_value A z b now)) _ then)))
          (assignment_row row rating_b (t v) (product a (v + b)) _ p (suc p) (store_of A v now x y) (term A a b now) (λ z. store_of A v now z y) _ refl
          (term_evaluated A v now sized x y setting.constants a b first second) (term_ready a b first second)
          (λ z. t_replaced A v now sized x y z)
          (λ z.
          assignment_row row rating_over_b (t v) (quotient (t v) b) _ (suc p) (suc (suc p)) (store_of A v now z y) (over_value A z b now)
          (λ once. store_of A v now once y) _ refl
          (over_value_evaluated A v now sized z y setting.constants b second) (over_ready has z b second)
          (λ once. t_replaced A v now sized z y once)
          (λ once.
          assignment_row row rating_over_b_again (t v) (quotient (t v) b) after (suc (suc p)) (suc (suc (suc p))) (store_of A v now once y) (over_value A once b now)
          (λ twice. store_of A v now twice y) then refl
          (over_value_evaluated A v now sized once y setting.constants b second) (over_ready has once b second)
          (λ twice. t_replaced A v now sized once y twice) h)))

      module _ (q : ℕ) (then : A.Carrier → CarriedResult) (h : Follows q then) where
        -- the rate rows from row p on, with x and y in t and u, and what the plain engine does for them
        abbrev RatesAgree : (p : ℕ) → (x y : A.Carrier) → Table → CarriedResult → Type 0
        RatesAgree p x y rates carried = Agree v left (table_run_at A setting rates p (memory now x y)) carried

        no_rate_lem : (p : ℕ) (x y : A.Carrier) → q ≡ suc p → RatesAgree p x y (no_rate v d row rest) (then A.zero)
        unfolding acted
        no_rate_lem p x y next =
            row_agrees (of_row row rating) (clear (v + d)) rest p q (memory now x y) (through A.zero) (λ z. memory (with_rate A v now d z) x y) then
            next cleared (gives _ refl) (λ z. h z x y)
          where
            cleared : acted A setting (clear (v + d)) (memory now x y) ≡ through (memory (with_rate A v now d A.zero) x y)
            cleared = rw (rate_replaced A v now sized x y {W = A.Why} d A.zero target)

        -- one row, whose right side comes to m
        rate_row : (p : ℕ) (x y : A.Carrier) (source : Source) (m : Try A A.Carrier) → q ≡ suc p
            → evaluated A setting.constants source (store_of A v now x y) ≡ m → Ready m
            → RatesAgree p x y (set_rate v d source row rest) (stopping_in A p m >>= then)
        rate_row p x y source m next e ready =
            assignment_row row rating (v + d) source rest p q (store_of A v now x y) m (λ z. store_of A v (with_rate A v now d z) x y) then next e ready
            (λ z. rate_replaced A v now sized x y d z target) (λ z. h z x y)

        rate_from_rates : (p : ℕ) (x y : A.Carrier) (source : Source) → SourcePresent v 0 source → SourceFeasible (divides A) source → q ≡ suc p
            → RatesAgree p x y (set_rate v d (on_rates v source) row rest) (stopping_in A p (evaluated A [] source now.rates) >>= then)
        rate_from_rates p x y source named feasible next =
            rate_row p x y (on_rates v source) (evaluated A [] source now.rates) next
            (evaluated_on_rates A v now sized x y setting.constants source named)
            (evaluated_ready A [] v source now.rates sized.rates named feasible)

        -- "or copy or negation of the one varied"
        rate_from_varied : (p : ℕ) (x y : A.Carrier) (known : Activity) (both of_a of_b : Source) → SourcePresent v 0 both → SourcePresent v 0 of_a
            → SourcePresent v 0 of_b → SourceFeasible (divides A) both → SourceFeasible (divides A) of_a → SourceFeasible (divides A) of_b → q ≡ suc p
            → RatesAgree p x y (set_rate v d (from_varied known (on_rates v both) (on_rates v of_a) (on_rates v of_b)) row rest)
            (stopping_in A p (evaluated A [] (from_varied known both of_a of_b) now.rates) >>= then)
        rate_from_varied p x y known both of_a of_b in_both in_a in_b done_both done_a done_b next =
            rw (picked_on_rates v known both of_a of_b)
            (rate_from_rates p x y (from_varied known both of_a of_b) (picked_holds (SourcePresent v 0) known both of_a of_b in_both in_a in_b)
            (picked_holds (SourceFeasible (divides A)) known both of_a of_b done_both done_a done_b) next)

        -- "the one term alone straight into ḋ"
        one_term : (p : ℕ) (x y : A.Carrier) (i j : ℕ) → i < v → j < v → q ≡ suc p
            → RatesAgree p x y (set_rate v d (product i (v + j)) row rest) (stopping_in A p (term A i j now) >>= then)
        one_term p x y i j first second next =
            rate_row p x y (product i (v + j)) (term A i j now) next (term_evaluated A v now sized x y setting.constants i j first second)
            (term_ready i j first second)

        -- "u := b × ȧ, t := a × ḃ, ḋ := u + t"
        both_terms_lem : (p : ℕ) (x y : A.Carrier) (a b : ℕ) → a < v → b < v → q ≡ suc (suc (suc p))
            → RatesAgree p x y (both_terms v d a b row rest)
            (stopping_in A p (term A b a now)
            >>= λ of_a. stopping_in A (suc p) (term A a b now) >>= λ of_b. stopping_in A (suc (suc p)) (from_outcome (A.sum of_a of_b)) >>= then)
        both_terms_lem p x y a b first second next =
            assignment_row row rating_a (u v) (product b (v + a)) _ p (suc p) (store_of A v now x y) (term A b a now) (λ z. store_of A v now x z) _ refl
            (term_evaluated A v now sized x y setting.constants b a second first) (term_ready b a second first)
            (λ z. u_replaced A v now sized x y z)
            (λ of_a.
            assignment_row row rating_b (t v) (product a (v + b)) _ (suc p) (suc (suc p)) (store_of A v now x of_a) (term A a b now)
            (λ z. store_of A v now z of_a) _ refl
            (term_evaluated A v now sized x of_a setting.constants a b first second) (term_ready a b first second)
            (λ z. t_replaced A v now sized x of_a z)
            (λ of_b.
            rate_row (suc (suc p)) of_b of_a (sum (u v) (t v)) (from_outcome (A.sum of_a of_b)) next
            (terms_added A v now sized of_b of_a setting.constants) (from_outcome_ready (A.sum of_a of_b))))

        product_rates : (p : ℕ) (x y : A.Carrier) (a b : ℕ) → a < v → b < v → (varied_a varied_b : Bool)
            → q ≡ p + cond varied_a (cond varied_b 3 1) 1
            → RatesAgree p x y
            (cond varied_a (cond varied_b (both_terms v d a b row rest) (set_rate v d (product b (v + a)) row rest))
            (set_rate v d (product a (v + b)) row rest))
            (cond varied_a
            (cond varied_b
            (stopping_in A p (term A b a now)
            >>= λ of_a. stopping_in A (suc p) (term A a b now) >>= λ of_b. stopping_in A (suc (suc p)) (from_outcome (A.sum of_a of_b)))
            (stopping_in A p (term A b a now)))
            (stopping_in A p (term A a b now))
            >>= then)
        product_rates p x y a b first second true true next =
            let of_b = stopping_in A (suc p) (term A a b now) in
            subst (Agree v left _)
            (sym (bind_assoc (stopping_in A p (term A b a now)) _ then
            ∙ bind_same (stopping_in A p (term A b a now)) _ _ (λ of_a is. bind_assoc of_b _ then)))
            (both_terms_lem p x y a b first second (omega arith))
        product_rates p x y a b first second true false next = one_term p x y b a second first (omega arith)
        product_rates p x y a b first second false varied_b next = one_term p x y a b first second (omega arith)

        -- ḋ := u − t, once both terms stand, and ḋ := −t
        quotients_subtracted : (p : ℕ) (x y : A.Carrier) (a b : ℕ) → a < v → b < v → divides A ≡ true → q ≡ p + 5
            → RatesAgree p x y (both_quotients v d a b row rest)
            (stopping_in A p (first_over A a b now) >>= λ of_a. second_over A a b (suc p) now
            >>= λ of_b. stopping_in A (suc (suc (suc (suc p)))) (from_outcome (A.difference of_a of_b)) >>= then)
        quotients_subtracted p x y a b first second has next =
            assignment_row row rating_a (u v) (quotient (v + a) b) _ p (suc p) (store_of A v now x y) (first_over A a b now) (λ z. store_of A v now x z) _ refl
            (first_over_evaluated A v now sized x y setting.constants a b first second) (first_over_ready has a b first second)
            (λ z. u_replaced A v now sized x y z)
            (λ of_a.
            second_term_lem (suc p) x of_a a b first second has (set_rate v d (difference (u v) (t v)) row rest) _
            (λ of_b.
            rate_row (suc (suc (suc (suc p)))) of_b of_a (difference (u v) (t v)) (from_outcome (A.difference of_a of_b)) (omega arith)
            (terms_subtracted A v now sized of_b of_a setting.constants) (from_outcome_ready (A.difference of_a of_b))))

        second_negated : (p : ℕ) (x y : A.Carrier) (a b : ℕ) → a < v → b < v → divides A ≡ true → q ≡ p + 4
            → RatesAgree p x y (second_term v a b row (set_rate v d (negation (t v)) row rest))
            (second_over A a b p now >>= λ of_b. stopping_in A (suc (suc (suc p))) (from_outcome (A.negation of_b)) >>= then)
        second_negated p x y a b first second has next =
            second_term_lem p x y a b first second has (set_rate v d (negation (t v)) row rest) _
            (λ of_b.
            rate_row (suc (suc (suc p))) of_b y (negation (t v)) (from_outcome (A.negation of_b)) (omega arith)
            (term_negated A v now sized of_b y setting.constants) (from_outcome_ready (A.negation of_b)))

        quotient_rates_lem : (p : ℕ) (x y : A.Carrier) (a b : ℕ) → a < v → b < v → divides A ≡ true → (varied_a varied_b : Bool)
            → q ≡ p + cond varied_a (cond varied_b 5 1) 4
            → RatesAgree p x y
            (cond varied_a (cond varied_b (both_quotients v d a b row rest) (set_rate v d (quotient (v + a) b) row rest))
            (second_term v a b row (set_rate v d (negation (t v)) row rest)))
            (cond varied_a
            (cond varied_b
            (stopping_in A p (first_over A a b now) >>= λ of_a. second_over A a b (suc p) now
            >>= λ of_b. stopping_in A (suc (suc (suc (suc p)))) (from_outcome (A.difference of_a of_b)))
            (stopping_in A p (first_over A a b now)))
            (second_over A a b p now >>= λ of_b. stopping_in A (suc (suc (suc p))) (from_outcome (A.negation of_b)))
            >>= then)
        quotient_rates_lem p x y a b first second has true true next =
            subst (Agree v left _)
            (sym (bind_assoc (stopping_in A p (first_over A a b now)) _ then
            ∙ bind_same (stopping_in A p (first_over A a b now)) _ _ (λ of_a is. bind_assoc (second_over A a b (suc p) now) _ then)))
            (quotients_subtracted p x y a b first second has next)
        quotient_rates_lem p x y a b first second has true false next =
            rate_row p x y (quotient (v + a) b) (first_over A a b now) (omega arith)
            (first_over_evaluated A v now sized x y setting.constants a b first second) (first_over_ready has a b first second)
        quotient_rates_lem p x y a b first second has false varied_b next =
            subst (Agree v left _) (sym (bind_assoc (second_over A a b p now) _ then)) (second_negated p x y a b first second has next)

        active_agrees : (p : ℕ) (x y : A.Carrier) (source : Source) (known : Activity) → SourcePresent v k source → SourceFeasible (divides A) source
            → q ≡ p + active_count source known → RatesAgree p x y (active_rates v d source row known rest) (active_rate A source known p now >>= then)
        unfolding active_rates active_rate SourcePresent SourceFeasible
        active_agrees p x y (copy a) known named feasible next = rate_from_rates p x y (copy a) named tt (omega arith)
        active_agrees p x y (fixed c) known named feasible next = no_rate_lem p x y (omega arith)
        active_agrees p x y (sum a b) known named feasible next =
            rate_from_varied p x y known (sum a b) (copy a) (copy b) named named.0 named.1 tt tt tt (omega arith)
        active_agrees p x y (difference a b) known named feasible next =
            rate_from_varied p x y known (difference a b) (copy a) (negation b) named named.0 named.1 tt tt tt (omega arith)
        active_agrees p x y (product a b) known named feasible next =
            product_rates p x y a b named.0 named.1 known.varied_a known.varied_b next
        active_agrees p x y (negation a) known named feasible next = rate_from_rates p x y (negation a) named tt (omega arith)
        active_agrees p x y (quotient a b) known named feasible next =
            quotient_rates_lem p x y a b named.0 named.1 feasible known.varied_a known.varied_b next

        rates_agree : (p : ℕ) (x y : A.Carrier) (source : Source) (known : Activity) → SourcePresent v k source
            → SourceFeasible (divides A) source → q ≡ p + rate_count source known
            → RatesAgree p x y (rate_rows v (d ≔ source) row known rest) (rate_for A source known p now >>= then)
        unfolding rate_rows rate_for
        rates_agree p x y source known named feasible next = by_activity known.active refl
          where
            by_activity : (active : Bool) → known.active ≡ active
                → RatesAgree p x y (cond active (active_rates v d source row known rest) (no_rate v d row rest))
                (cond active (active_rate A source known p now) (through A.zero) >>= then)
            by_activity true e = active_agrees p x y source known named feasible (next ∙ ap (λ n. p + n) (count_active source known e))
            by_activity false e = no_rate_lem p x y (omega (arith, count_inactive source known e))

    -- ---- an assignment

    -- the value, once the rate is known
    abbrev valued : (d : ℕ) → Source → (p : ℕ) → Carried A → (rate : A.Carrier) → CarriedResult
    valued d source p now rate =
        stopping_in A p (evaluated A setting.constants source now.values)
        >>= λ x. replaced now.values d x >>= λ values. replaced now.rates d rate >>= λ rates. through (record { values = values; rates = rates })

    value_agrees : (row : RowNumber) (rest : Table) (p q d : ℕ) (source : Source) (now : Carried A) (rate x y : A.Carrier)
        (then : Carried A → CarriedResult) → Sized A v now → d < v → SourcePresent v k source → SourceFeasible (divides A) source → q ≡ suc p
        → ((next : Carried A) (x y : A.Carrier) → Sized A v next → Agree v left (table_run_at A setting rest q (memory next x y)) (then next))
        → Agree v left (table_run_at A setting (put row itself (assign (d ≔ source)) rest) p (memory (with_rate A v now d rate) x y))
        (valued d source p now rate >>= then)
    value_agrees row rest p q d source now rate x y then sized target named feasible next h =
        subst (Agree v left _) (sym (bind_assoc (stopping_in A p (evaluated A setting.constants source now.values)) _ then))
        (assignment_row row itself d source rest p q (store_of A v (with_rate A v now d rate) x y) (evaluated A setting.constants source now.values)
        (λ z. store_of A v (after z) x y) _ next (evaluated_originals A v k now.values _ sized.values setting.constants source named)
        (evaluated_ready A setting.constants v source now.values sized.values named feasible)
        (λ z. replaced_original A v k now.values _ sized.values d z target) (λ z. rw (put_value z, put_rate) (h (after z) x y (still z))))
      where
        after : A.Carrier → Carried A
        after z = record { values = set now.values d z; rates = set now.rates d rate }

        still : (z : A.Carrier) → Sized A v (after z)
        still z = record { values = length-set now.values d z ∙ sized.values; rates = length-set now.rates d rate ∙ sized.rates }

        put_value : (z : A.Carrier) → replaced {Why = StopAt A} now.values d z ≡ through (set now.values d z)
        put_value z = replaced_alone A v k now.values [] sized.values d z target

        put_rate : replaced {Why = StopAt A} now.rates d rate ≡ through (set now.rates d rate)
        put_rate = replaced_alone A v k now.rates [] sized.rates d rate target

    assignment_agrees : (b : Assignment) (row : RowNumber) (known : Activity) (rest : Table) (p : ℕ) (now : Carried A) (x y : A.Carrier)
        (then : Carried A → CarriedResult) → Sized A v now → AssignmentPresent v k b → AssignmentFeasible (divides A) b
        → ((next : Carried A) (x y : A.Carrier) → Sized A v next
        → Agree v left (table_run_at A setting rest (p + rows_over b known) (memory next x y)) (then next))
        → Agree v left (table_run_at A setting (rate_rows v b row known (put row itself (assign b) rest)) p (memory now x y))
        (carried_over A setting.constants b known p now >>= then)
    unfolding carried_over AssignmentPresent
    assignment_agrees (d ≔ source) row known rest p now x y then sized named feasible h =
        let own = p + rate_count source known in
        subst (Agree v left _) (sym (bind_assoc (rate_for A source known p now) (valued d source own now) then))
        (rates_agree now sized d named.0 row (put row itself (assign (d ≔ source)) rest) own (λ rate. valued d source own now rate >>= then)
        (λ rate x y. value_agrees row rest own (p + rows_over (d ≔ source) known) d source now rate x y then sized named.0 named.1 feasible (omega arith) h)
        p x y source known named.1 feasible refl)

    -- ---- a body, where a loop with a test puts nothing away

    module _ (keeps_none : setting.keeps_counts ≡ false) where
      pub agrees : (body : Body) (p : ℕ) (now : Carried A) (x y : A.Carrier) → BodyKnown v k body → BodyFeasible (divides A) body → Sized A v now
          → Agree v left (table_run_at A setting (tangent_table v body) p (memory now x y)) (plain_run A v setting.constants body p now)
      unfolding table_run_at tangent_table tangent_row plain_run BodyKnown BodyFeasible tangent_rows rows tested
      agrees done p now x y named feasible sized = both_go now x y sized refl refl
      agrees (one m kk) p now x y named feasible sized =
          assignment_agrees m.assignment m.row m.known (tangent_table v kk) p now x y _ sized named.0 feasible.0
          (λ next x y still. agrees kk (p + rows_over m.assignment m.known) next x y named.1 feasible.1 still)
      agrees (fork f a b kk) p now x y named feasible sized =
          let way = compared_ready A setting.constants v f.test now.values sized.values named.0 in
          let split = suc p + rows (tangent_table v a) in
          rw (compared_originals A v k now.values _ sized.values f.test named.0, way.1)
          (agree_then v left _ _
          (either_agrees v left way.0 (agrees a (suc p) now x y named.1 feasible.0 sized) (agrees b (suc split) now x y named.2 feasible.1 sized))
          (λ next x y still. agrees kk (suc (suc split + rows (tangent_table v b))) next x y named.3 feasible.2 still))
      agrees (again (times m) a kk) p now x y named feasible sized =
          let end = suc p + rows (tangent_table v a) in
          turns_agree v left (table_run_at A setting (tangent_table v a) (suc p)) (table_run_at A setting (tangent_table v kk) (suc end)) _ _
          (λ now x y. agrees a (suc p) now x y named.0 feasible.0) (λ now x y. agrees kk (suc end) now x y named.1 feasible.1) m now x y sized
      agrees (again (while f m) a kk) p now x y named feasible sized =
          let end = suc p + rows (tangent_table v a) in
          while_agrees v left (table_run_at A setting (tangent_table v a) (suc p)) (table_run_at A setting (tangent_table v kk) (suc end)) _ _
          (λ now x y. agrees a (suc p) now x y named.0 feasible.0) (λ now x y. agrees kk (suc end) now x y named.1 feasible.1)
          (λ now. compared A f.test now.store) (λ now. compared A f.test now.values) (count_kept A setting)
          (λ now x y still.
          let way = compared_ready A setting.constants v f.test now.values still.values named.2 in
          (way.0, compared_originals A v k now.values _ still.values f.test named.2 ∙ way.1, way.1))
          (λ n memory. rw keeps_none) 0 (suc m) now x y sized

      pub body_unstuck : (body : Body) (p : ℕ) (now : Carried A) → BodyKnown v k body → BodyFeasible (divides A) body → Sized A v now
          → plain_run A v setting.constants body p now ≡ stuck → ⊥
      body_unstuck body p now named feasible sized = agree_unstuck v left (agrees body p now A.zero A.zero named feasible sized)
