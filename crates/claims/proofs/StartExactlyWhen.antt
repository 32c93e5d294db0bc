-- Writing and starting a run are refused exactly when a rule of 01 says so, with that rule's number and place.
use Prim.Native.Nat.{ℕ, suc, ◌+◌, ◌*◌, ◌≤◌, ◌<◌}
use mathlib.Core.Path.{◌≡◌, refl, sym, ap, subst, ◌∙◌}
use mathlib.Core.List.{List, [], ◌∷◌, ◌++◌}
use mathlib.Core.Bool.{Bool, true, false}
use mathlib.Core.Logic.{◌⊎◌, inl, inr, ◌≢◌}
use lib.ListN.{length}
use lib.Dec.{leb, eqb}
use native.Mathlib.Omega.{arith}
use Rattle.number.specs.Arithmetic.{Arithmetic, divides}
use Rattle.sheet.specs.Judging.{Answer, refused, given, ◌>>=◌, unless}
use Rattle.sheet.specs.Refusals.{Refusal, number_of, small_value_stack, small_turn_stack, wrong_starts, wrong_seeds, wrong_result, not_finite_given}
use Rattle.sheet.specs.Sheets.{Sheet, variables_of}
use Rattle.sheet.specs.Reading.{read, read_in}
use Rattle.sheet.proofs.Judgements.{Tells, leb_tells, eqb_tells, unmet, judged, ◌and_then◌, after_given, after_refused, passes, refuses}
use Rattle.sheet.proofs.Settled.{Settled}
use Rattle.sheet.proofs.Feasibility.{ReadFor, read_for_lem}
use Rattle.sets.specs.Marks.{Sets}
use Rattle.sets.specs.Rounds.{sets_of}
use Rattle.sets.proofs.SetsLeast.{sets_least, least_sets_only}
use Rattle.table.specs.Sizes.{Needs, table_room}
use Rattle.table.specs.Calls.{read_for}
use Rattle.machine.specs.Machine.{Step}
use Rattle.run.specs.Runs.{Lent, Job, run_of}
use Rattle.run.specs.Calls.{all_admitted, read_to_run, ran_to, ran_on, run_by}
use Rattle.claims.specs.ExactlyWhen.{First, ReadingRefuses, Read, QuotientAt, Calculable, Accepted, WritingRefuses, while_reading, quotient_held, table_too_small, Writable, StacksSuffice, LengthsRight, NotFinite, Runnable, StartRefused, while_writing, value_stack_too_small, turn_stack_too_small, starts_not_v, seeds_not_v, result_not2_v, given_not_finite}
use Rattle.claims.proofs.FirstFailing.{each_judged, all_pass, first_refused, all_or_first}
use Rattle.claims.proofs.QuotientsJudged.{refused_in, held_in, calculable_in, calculable_or_held}
use Rattle.claims.proofs.ReadingExactlyWhen.{reading_settled, reading_numbers}

-- ---- an accepted sheet has its own sets, and no others

module _ (words : List ℕ) (sheet : Sheet) where
  pub accepted_reads : Read words sheet → read words ≡ given sheet
  accepted_reads is = (reading_settled words).by_result sheet is

  -- for an arithmetic that can do each row of it
  reads_in : (divides : Bool) → Read words sheet → Calculable words divides → read_in divides words ≡ given sheet
  reads_in divides is free = calculable_in words sheet is (accepted_reads is) divides free

  pub reads_for : (divides : Bool) → Read words sheet → Calculable words divides → ReadFor divides words sheet
  reads_for divides is free = read_for_lem divides words sheet (reads_in divides is free)

  pub own_sets : Read words sheet → Accepted words sheet (sets_of sheet)
  own_sets is = record { is_read = is; least = sets_least words sheet (accepted_reads is) }

  pub only_sets : (sets : Sets) → Accepted words sheet sets → sets ≡ sets_of sheet
  only_sets sets is = least_sets_only words sheet (accepted_reads is.is_read) sets is.least

  -- what holds with the own sets holds with any that are least
  pub by_own_sets : (P : Sets → Type 0) → P (sets_of sheet) → (sets : Sets) → Accepted words sheet sets → P sets
  by_own_sets P own sets is = subst P (sym (only_sets sets is)) own

-- ---- writing

module _ (needs : Sets → Sheet → Needs) where
  -- with its own sets a sheet needs so much
  abbrev pub needed : Sheet → Needs
  needed sheet = needs (sets_of sheet) sheet

module _ (divides : Bool) (needs : Sets → Sheet → Needs) (words buffer : List ℕ) where
  abbrev pub Fits : Sheet → Type 0
  Fits sheet = Writable divides needs words buffer sheet (sets_of sheet)

  room_told : (sheet : Sheet)
      → Tells (leb (table_room (needed needs sheet).rows) (length buffer)) (table_room (needed needs sheet).rows ≤ length buffer)
  room_told sheet = leb_tells _ _

  writing_rule : {r : Refusal} → WritingRefuses divides needs words buffer r → read_for divides (needed needs) words (length buffer) ≡ refused r
  unfolding read_for
  writing_rule (while_reading {r} rule) = after_refused _ (refused_in divides words r ((reading_settled words).by_rule _ rule))
  writing_rule (quotient_held sheet i is not first) = after_refused _ (held_in words sheet is (accepted_reads words sheet is) divides i not first)
  writing_rule (table_too_small sheet sets is free small) =
      let same = only_sets words sheet sets is in
      let few : length buffer < table_room (needed needs sheet).rows = subst (λ s. length buffer < table_room (needs s sheet).rows) same small in
      let not_room : ¬ (table_room (needed needs sheet).rows ≤ length buffer) = omega arith in
      after_given _ (reads_in words sheet divides is.is_read free) ∙ after_refused _ (refuses _ _ (room_told sheet) not_room)

  writing_result : (sheet : Sheet) → Fits sheet → read_for divides (needed needs) words (length buffer) ≡ given sheet
  unfolding read_for
  writing_result sheet is =
      after_given _ (reads_in words sheet divides is.accepted.is_read is.calculable) ∙ after_given _ (passes _ _ (room_told sheet) is.table_fits)

  held_judged : (sheet : Sheet) → Read words sheet → Calculable words divides ⊎ ((divides ≡ false) × ((i : ℕ) × First (QuotientAt words) i))
      → Calculable words divides ⊎ ((r : Refusal) × WritingRefuses divides needs words buffer r)
  held_judged sheet is (inl free) = inl free
  held_judged sheet is (inr (not, (i, first))) = inr (_, quotient_held sheet i is not first)

  pub writing_settled : Settled (read_for divides (needed needs) words (length buffer)) (WritingRefuses divides needs words buffer) Fits
  writing_settled = record { by_rule = λ r. writing_rule; by_result = writing_result; either = by (reading_settled words).either }
    where
      by : ((sheet : Sheet) × Read words sheet) ⊎ ((r : Refusal) × ReadingRefuses words r)
          → ((sheet : Sheet) × Fits sheet) ⊎ ((r : Refusal) × WritingRefuses divides needs words buffer r)
      by (inr (r, rule)) = inr (r, while_reading rule)
      by (inl (sheet, is)) =
          let accepted = own_sets words sheet is in
          held_judged sheet is (calculable_or_held words sheet is (accepted_reads words sheet is) divides) and_then λ free.
          judged _ (room_told sheet) (λ small. (_, table_too_small sheet (sets_of sheet) accepted free (omega arith))) and_then λ room.
          inl (sheet, record { accepted = accepted; calculable = free; table_fits = room })

-- ---- starting a run

-- a finite number is wanted at each place
admitted_each : (A : Arithmetic) (xs : List A.Carrier) (place : ℕ) → all_admitted A xs place ≡ each_judged A.admits not_finite_given xs place
unfolding all_admitted each_judged
admitted_each A [] place = refl
admitted_each A (x ∷ xs) place = ap (λ rest. unless (A.admits x) (not_finite_given place) >>= (λ _. rest)) (admitted_each A xs (suc place))

module _ (A : Arithmetic) (needs : Sets → Sheet → Needs) (words : List ℕ) (starts seeds : List A.Carrier) (lent : Lent A) where
  abbrev judging : Answer Sheet
  judging = read_to_run A (needed needs) words starts seeds lent

  abbrev Stacks : Sheet → Type 0
  Stacks sheet = StacksSuffice A needs words starts seeds lent sheet (sets_of sheet)

  abbrev Lengths : Sheet → Type 0
  Lengths sheet = LengthsRight A needs words starts seeds lent sheet (sets_of sheet)

  abbrev pub OwnRunnable : Sheet → Type 0
  OwnRunnable sheet = Runnable A needs words starts seeds lent sheet (sets_of sheet)

  module _ (sheet : Sheet) where
    values_told : Tells (leb (needed needs sheet).values (length lent.values)) ((needed needs sheet).values ≤ length lent.values)
    values_told = leb_tells _ _

    turns_told : Tells (leb (needed needs sheet).turns (length lent.turns)) ((needed needs sheet).turns ≤ length lent.turns)
    turns_told = leb_tells _ _

    starts_told : Tells (eqb (length starts) (variables_of sheet)) (length starts ≡ variables_of sheet)
    starts_told = eqb_tells _ _

    seeds_told : Tells (eqb (length seeds) (variables_of sheet)) (length seeds ≡ variables_of sheet)
    seeds_told = eqb_tells _ _

    result_told : Tells (eqb (length lent.result) (2 * variables_of sheet)) (length lent.result ≡ 2 * variables_of sheet)
    result_told = eqb_tells _ _

    -- what is judged after the stacks, and after the lengths
    abbrev after_lengths : Answer Sheet
    after_lengths = all_admitted A (starts ++ seeds) 0 >>= (λ _. given sheet)

    abbrev after_stacks : Answer Sheet
    after_stacks = do
      _ ← unless (eqb (length starts) (variables_of sheet)) wrong_starts
      _ ← unless (eqb (length seeds) (variables_of sheet)) wrong_seeds
      _ ← unless (eqb (length lent.result) (2 * variables_of sheet)) wrong_result
      after_lengths

    abbrev after_table : Answer Sheet
    after_table = do
      _ ← unless (leb (needed needs sheet).values (length lent.values)) small_value_stack
      _ ← unless (leb (needed needs sheet).turns (length lent.turns)) small_turn_stack
      after_stacks

    table_passes : Fits (divides A) needs words lent.table sheet → judging ≡ after_table
    unfolding read_to_run
    table_passes is = after_given _ ((writing_settled (divides A) needs words lent.table).by_result sheet is)

    stacks_pass : Stacks sheet → judging ≡ after_stacks
    stacks_pass is = table_passes is.writable ∙ rw (values_told.1 is.values, turns_told.1 is.turns)

    lengths_pass : Lengths sheet → judging ≡ after_lengths
    lengths_pass is =
        stacks_pass is.stacks ∙ rw (starts_told.1 is.start_values, seeds_told.1 is.seed_values, result_told.1 is.results)

  -- a rule that speaks of any least sets, by the sheet's own
  module _ (sheet : Sheet) (sets : Sets) where
    own_fits : Writable (divides A) needs words lent.table sheet sets → Fits (divides A) needs words lent.table sheet
    own_fits is = subst (Writable (divides A) needs words lent.table sheet) (only_sets words sheet sets is.accepted) is

    own_stacks : StacksSuffice A needs words starts seeds lent sheet sets → Stacks sheet
    own_stacks is = subst (StacksSuffice A needs words starts seeds lent sheet) (only_sets words sheet sets is.writable.accepted) is

    own_lengths : LengthsRight A needs words starts seeds lent sheet sets → Lengths sheet
    own_lengths is = subst (LengthsRight A needs words starts seeds lent sheet) (only_sets words sheet sets is.stacks.writable.accepted) is

    pub own_run : Runnable A needs words starts seeds lent sheet sets → OwnRunnable sheet
    own_run is = subst (Runnable A needs words starts seeds lent sheet) (only_sets words sheet sets is.lengths.stacks.writable.accepted) is

  start_rule : {r : Refusal} → StartRefused A needs words starts seeds lent r → judging ≡ refused r
  unfolding read_to_run
  start_rule (while_writing rule) = after_refused _ ((writing_settled (divides A) needs words lent.table).by_rule _ rule)
  start_rule (value_stack_too_small sheet sets is few) =
      let own = subst (λ s. length lent.values < (needs s sheet).values) (only_sets words sheet sets is.accepted) few in
      let none : ¬ ((needed needs sheet).values ≤ length lent.values) = omega arith in
      table_passes sheet (own_fits sheet sets is) ∙ rw (unmet _ (values_told sheet) none)
  start_rule (turn_stack_too_small sheet sets is values few) =
      let same = only_sets words sheet sets is.accepted in
      let enough : (needed needs sheet).values ≤ length lent.values = subst (λ s. (needs s sheet).values ≤ length lent.values) same values in
      let own = subst (λ s. length lent.turns < (needs s sheet).turns) same few in
      let none : ¬ ((needed needs sheet).turns ≤ length lent.turns) = omega arith in
      table_passes sheet (own_fits sheet sets is) ∙ rw ((values_told sheet).1 enough, unmet _ (turns_told sheet) none)
  start_rule (starts_not_v sheet sets is wrong) = stacks_pass sheet (own_stacks sheet sets is) ∙ rw (unmet _ (starts_told sheet) wrong)
  start_rule (seeds_not_v sheet sets is right wrong) =
      stacks_pass sheet (own_stacks sheet sets is) ∙ rw ((starts_told sheet).1 right, unmet _ (seeds_told sheet) wrong)
  start_rule (result_not2_v sheet sets is right right' wrong) =
      stacks_pass sheet (own_stacks sheet sets is)
      ∙ rw ((starts_told sheet).1 right, (seeds_told sheet).1 right', unmet _ (result_told sheet) wrong)
  start_rule (given_not_finite sheet sets i is first) =
      let at : 0 + i ≡ i = omega arith in
      lengths_pass sheet (own_lengths sheet sets is)
      ∙ after_refused _ (admitted_each A (starts ++ seeds) 0 ∙ first_refused A.admits A.zero not_finite_given (starts ++ seeds) 0 i first)
      ∙ ap (λ n. refused (not_finite_given n)) at

  start_result : (sheet : Sheet) → OwnRunnable sheet → judging ≡ given sheet
  start_result sheet is =
      lengths_pass sheet is.lengths
      ∙ after_given _ (admitted_each A (starts ++ seeds) 0 ∙ all_pass A.admits A.zero not_finite_given (starts ++ seeds) 0 is.finite)

  admitted_judged : (sheet : Sheet) → Lengths sheet
      → ((i : ℕ) → ¬ NotFinite A starts seeds i) ⊎ ((i : ℕ) × First (NotFinite A starts seeds) i)
      → ((i : ℕ) → ¬ NotFinite A starts seeds i) ⊎ ((r : Refusal) × StartRefused A needs words starts seeds lent r)
  admitted_judged sheet is (inl finite) = inl finite
  admitted_judged sheet is (inr (i, first)) = inr (_, given_not_finite sheet (sets_of sheet) i is first)

  pub start_settled : Settled judging (StartRefused A needs words starts seeds lent) OwnRunnable
  start_settled = record { by_rule = λ r. start_rule; by_result = start_result; either = by (writing_settled (divides A) needs words lent.table).either }
    where
      by : ((sheet : Sheet) × Fits (divides A) needs words lent.table sheet) ⊎ ((r : Refusal) × WritingRefuses (divides A) needs words lent.table r)
          → ((sheet : Sheet) × OwnRunnable sheet) ⊎ ((r : Refusal) × StartRefused A needs words starts seeds lent r)
      by (inr (r, rule)) = inr (r, while_writing rule)
      by (inl (sheet, is)) =
          judged _ (values_told sheet) (λ few. (_, value_stack_too_small sheet (sets_of sheet) is (omega arith))) and_then λ values.
          judged _ (turns_told sheet) (λ few. (_, turn_stack_too_small sheet (sets_of sheet) is values (omega arith))) and_then λ turns.
          let stacks : Stacks sheet = record { writable = is; values = values; turns = turns } in
          judged _ (starts_told sheet) (λ wrong. (_, starts_not_v sheet (sets_of sheet) stacks wrong)) and_then λ starts_right.
          judged _ (seeds_told sheet) (λ wrong. (_, seeds_not_v sheet (sets_of sheet) stacks starts_right wrong)) and_then λ seeds_right.
          judged _ (result_told sheet) (λ wrong. (_, result_not2_v sheet (sets_of sheet) stacks starts_right seeds_right wrong)) and_then λ result_right.
          let lengths : Lengths sheet =
          record { stacks = stacks; start_values = starts_right; seed_values = seeds_right; results = result_right } in
          admitted_judged sheet lengths (all_or_first A.admits A.zero (starts ++ seeds)) and_then λ finite.
          inl (sheet, record { lengths = lengths; finite = finite })

  -- ---- a run that starts

  -- the sheet that the words are, of which the arithmetic can do every row
  pub reads_to_run : (sheet : Sheet) → OwnRunnable sheet → ReadFor (divides A) words sheet
  reads_to_run sheet is =
      let writable = is.lengths.stacks.writable in
      reads_for words sheet (divides A) writable.accepted.is_read writable.calculable

  -- it answers by how the machine ends
  pub started : (job : Sheet → Job A) (sheet : Sheet) (ending : Step A) → OwnRunnable sheet
      → run_of A (job sheet).table (job sheet).setting (job sheet).start ≡ ending
      → run_by A (needed needs) job words starts seeds lent ≡ ran_to A (job sheet) lent ending
  unfolding run_by ran_on
  started job sheet ending is e = ap (λ answer. ran_on A job answer lent) (start_result sheet is) ∙ ap (ran_to A (job sheet) lent) e

-- refusals 1 to 8; and what refuses a run's start isn't 12
pub writing_numbers : {needs : Sets → Sheet → Needs} {words buffer : List ℕ} {r : Refusal} → WritingRefuses true needs words buffer r → number_of r ≤ 8
unfolding number_of
writing_numbers (while_reading rule) = omega (arith, reading_numbers rule)
writing_numbers (quotient_held sheet i is not first) = let z : ◌≡◌ {A = ℕ} 0 1 = cc in absurd (omega arith)
writing_numbers (table_too_small sheet sets is free small) = omega arith

pub start_numbers : {A : Arithmetic} {needs : Sets → Sheet → Needs} {words : List ℕ} {starts seeds : List A.Carrier} {lent : Lent A} {r : Refusal}
    → StartRefused A needs words starts seeds lent r → number_of r ≢ 12
unfolding number_of
start_numbers (while_writing (while_reading rule)) e = omega (arith, reading_numbers rule)
start_numbers (while_writing (quotient_held sheet i is not first)) e = omega arith
start_numbers (while_writing (table_too_small sheet sets is free small)) e = omega arith
start_numbers (value_stack_too_small sheet sets is few) e = omega arith
start_numbers (turn_stack_too_small sheet sets is values few) e = omega arith
start_numbers (starts_not_v sheet sets is wrong) e = omega arith
start_numbers (seeds_not_v sheet sets is right wrong) e = omega arith
start_numbers (result_not2_v sheet sets is right right' wrong) e = omega arith
start_numbers (given_not_finite sheet sets i is first) e = omega arith
