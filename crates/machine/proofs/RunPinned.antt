-- The runner's contract settles, for every number of steps, the answer with its place, the open repeats and every cell of every buffer: any two
-- results that it permits coincide.
use Prim.Native.Nat.{ℕ, zero, suc, ◌+◌, ◌-◌, ◌<◌}
use mathlib.Core.Path.{◌≡◌, refl, sym, ap, ◌∙◌}
use mathlib.Core.Logic.{inl, inr}
use mathlib.Core.List.{List}
use native.Mathlib.Decide.{dec_lt}
use native.Mathlib.Omega.{arith}
use lib.ListN.{length}
use Rattle.number.specs.Arithmetic.{Arithmetic}
use Rattle.table.specs.TableRows.{TableLine}
use Rattle.machine.specs.Actions.{Memory, Setting}
use Rattle.machine.specs.Machine.{Repeat, State, Step, goes_on, ended, stops, sticks, step, if_it_goes_on, state_after}
use Rattle.machine.specs.Inner.Buffers.{Buffers, Cells}
use Rattle.machine.specs.Inner.RowSteps.{buffers_at, state_at, CopiesOn}
use Rattle.machine.specs.Inner.RunsRows.{first_state, LeavesBy, Leaves}
use Rattle.machine.specs.declared.Loop.{Loop}
use Rattle.machine.specs.declared.Place.{Place}
use Rattle.machine.specs.declared.Ended.{Ended}
use Rattle.machine.specs.declared.Ended.TheVariants as ended_as
use Rattle.machine.specs.declared.Ran.{Ran}
use Rattle.machine.proofs.StepsInTurn.{steps_add}
use Rattle.machine.proofs.OpenedLaws.{opened_length}
use Rattle.machine.proofs.RowsPinned.{buffers_pinned}

place_rebuilt : (p q : Place) → p.at.0 ≡ q.at.0 → p.depth ≡ q.depth → p.values ≡ q.values → p.turns ≡ q.turns → p.left ≡ q.left → p ≡ q
place_rebuilt p q at depth values turns left =
    let rebuilt : ◌≡◌ {A = Place} (record { at = record { 0 = p.at.0 }; depth = p.depth; values = p.values; turns = p.turns; left = p.left })
    (record { at = record { 0 = q.at.0 }; depth = q.depth; values = q.values; turns = q.turns; left = q.left }) = rw (at, depth, values, turns, left) in
    rebuilt

module _ (A : Arithmetic) where
  -- what is settled of two results: all but the cells of the open repeats' array that no open repeat has
  pub record Alike (after after' : Cells A) (opened opened' : List Repeat) (answer answer' : Ran) : Type 0 where
    pub place : answer.place ≡ answer'.place
    pub reason : answer.ended ≡ answer'.ended
    pub repeats : opened ≡ opened'
    pub store : after.store ≡ after'.store
    pub values : after.values ≡ after'.values
    pub turns : after.turns ≡ after'.turns
    pub copied : after.copied ≡ after'.copied

  module _ (setting : Setting A) (lines : List TableLine) where
    -- a run that has gone further has gone on from here
    goes_further : (n k : ℕ) (first now later : State A) → state_after A n setting lines first ≡ goes_on now
        → state_after A (n + suc k) setting lines first ≡ goes_on later
        → (next : State A) × (step A setting lines now ≡ goes_on next)
    unfolding state_after
    goes_further n k first now later here there =
        by_step (step A setting lines now) refl
        (sym (steps_add A setting lines n (suc k) first ∙ ap (λ (s : Step A). if_it_goes_on A s (λ then. state_after A (suc k) setting lines then)) here) ∙ there)
      where
        by_step : (found : Step A) → step A setting lines now ≡ found → if_it_goes_on A found (λ then. state_after A k setting lines then) ≡ goes_on later
            → (next : State A) × (step A setting lines now ≡ goes_on next)
        by_step (goes_on next) is goes = (next, is)
        by_step (ended memory) is goes = let z : ◌≡◌ {A = ℕ} 0 1 = cc in absurd (omega arith)
        by_step (stops row stop) is goes = let z : ◌≡◌ {A = ℕ} 0 1 = cc in absurd (omega arith)
        by_step sticks is goes = let z : ◌≡◌ {A = ℕ} 0 1 = cc in absurd (omega arith)

  -- where the next step goes on, no step was left
  left_none : (place : Place) (memory : Memory A) (found : Step A) (next : State A) (how : Ended) → LeavesBy A place memory found how
      → found ≡ goes_on next
      → place.left ≡ 0
  left_none place memory found next ended_as.Finished why is =
      let ends = why.1 in
      let z : ◌≡◌ {A = ℕ} 0 1 = cc in
      absurd (omega arith)
  left_none place memory found next (ended_as.Stopped row) why is =
      let stop = why.2.is in
      let z : ◌≡◌ {A = ℕ} 0 1 = cc in
      absurd (omega arith)
  left_none place memory found next ended_as.Stuck why is =
      let stays = why.1 in
      let z : ◌≡◌ {A = ℕ} 0 1 = cc in
      absurd (omega arith)
  left_none place memory found next ended_as.Unfinished why is = why

  -- why a run is left, read off the step that would be next
  abbrev reason_of : (left at : ℕ) → Step A → Ended
  reason_of zero at found = ended_as.Unfinished
  reason_of (suc n) at (goes_on state) = ended_as.Unfinished
  reason_of (suc n) at (ended memory) = ended_as.Finished
  reason_of (suc n) at (stops row stop) = ended_as.Stopped (record { 0 = at })
  reason_of (suc n) at sticks = ended_as.Stuck

  reason_is : (place : Place) (memory : Memory A) (found : Step A) (how : Ended) → LeavesBy A place memory found how
      → how ≡ reason_of place.left place.at.0 found
  reason_is place memory found how why = by_left place.left refl how why
    where
      by_left : (left : ℕ) → place.left ≡ left → (how : Ended) → LeavesBy A place memory found how → how ≡ reason_of left place.at.0 found
      by_left zero is ended_as.Finished why = absurd (omega (arith, why.0))
      by_left zero is (ended_as.Stopped row) why = absurd (omega (arith, why.0))
      by_left zero is ended_as.Stuck why = absurd (omega (arith, why.0))
      by_left zero is ended_as.Unfinished why = refl
      by_left (suc n) is ended_as.Finished why = rw why.1
      by_left (suc n) is (ended_as.Stopped row) why = rw (why.2.is, sym why.1)
      by_left (suc n) is ended_as.Stuck why = rw why.1
      by_left (suc n) is ended_as.Unfinished why = absurd (omega arith)

  module _ (setting : Setting A) (lines : List TableLine) (start : Memory A) (steps : ℕ) (first : Cells A) where
    -- neither of two results has gone further than the other
    no_further : (after after' : Cells A) (loops loops' : List Loop) (answer answer' : Ran)
        (l : Leaves A setting lines start steps first after loops answer)
        (l' : Leaves A setting lines start steps first after' loops' answer')
        → l.stands.taken < l'.stands.taken
        → ⊥
    no_further after after' loops loops' answer answer' l l' fewer =
        let n = l.stands.taken in
        let k = l'.stands.taken - suc n in
        let many : l'.stands.taken ≡ n + suc k = omega arith in
        let there = ap (λ (m : ℕ). state_after A m setting lines (first_state A start)) (sym many) ∙ l'.stands.is in
        let goes = goes_further setting lines n k (first_state A start) _ _ l.stands.is there in
        let none = left_none answer.place _ _ goes.0 answer.ended l.why goes.1 in
        omega (arith, l.stands.spent, l'.stands.spent)

    copied_alike : (held held' : List A.Carrier) (after after' : Cells A) → held ≡ held'
        → (length start.copied ≡ length first.copied → ⊥)
        → length after.copied ≡ length first.copied
        → length after'.copied ≡ length first.copied
        → CopiesOn A start.copied first held after
        → CopiesOn A start.copied first held' after'
        → after.copied ≡ after'.copied
    copied_alike held held' after after' same apart long long' (inl (is, kept)) (inl (is', kept')) = kept ∙ sym kept'
    copied_alike held held' after after' same apart long long' (inl (is, kept)) (inr is') =
        absurd (apart (ap length (sym is ∙ same ∙ is') ∙ long'))
    copied_alike held held' after after' same apart long long' (inr is) (inl (is', kept')) =
        absurd (apart (ap length (sym is' ∙ sym same ∙ is) ∙ long))
    copied_alike held held' after after' same apart long long' (inr is) (inr is') = sym is ∙ same ∙ is'

    pub run_pinned : (after after' : Cells A) (loops loops' : List Loop) (answer answer' : Ran)
        (l : Leaves A setting lines start steps first after loops answer)
        (l' : Leaves A setting lines start steps first after' loops' answer')
        → (length start.copied ≡ length first.copied → ⊥)
        → length after.copied ≡ length first.copied
        → length after'.copied ≡ length first.copied
        → Alike after after' l.stands.repeats l'.stands.repeats answer answer'
    run_pinned after after' loops loops' answer answer' l l' apart long long' =
        by_order (dec_lt l.stands.taken l'.stands.taken) (dec_lt l'.stands.taken l.stands.taken)
      where
        now : State A
        now = state_at A answer.place l.stands.repeats after l.stands.held

        now' : State A
        now' = state_at A answer'.place l'.stands.repeats after' l'.stands.held

        states : l.stands.taken ≡ l'.stands.taken → now ≡ now'
        states same =
            let both : goes_on now ≡ goes_on now' =
            sym l.stands.is ∙ ap (λ (n : ℕ). state_after A n setting lines (first_state A start)) same ∙ l'.stands.is in
            cc

        alike : l.stands.taken ≡ l'.stands.taken → now ≡ now'
            → Alike after after' l.stands.repeats l'.stands.repeats answer answer'
        alike taken same =
            let at = ap (λ (s : State A). s.at.index) same in
            let repeats = ap (λ (s : State A). s.repeats) same in
            let buffers = buffers_pinned A setting (buffers_at A answer.place after l.stands.held) (buffers_at A answer'.place after' l'.stands.held)
            l.stands.sound l'.stands.sound (ap (λ (s : State A). s.memory) same) in
            let depth = sym (opened_length answer.place.depth loops l.stands.repeats l.stands.opened) ∙ ap length repeats
            ∙ opened_length answer'.place.depth loops' l'.stands.repeats l'.stands.opened in
            let left : answer.place.left ≡ answer'.place.left = omega (arith, l.stands.spent, l'.stands.spent) in
            record {
              place =
                  place_rebuilt answer.place answer'.place at depth (ap (λ (b : Buffers A). b.height) buffers)
                  (ap (λ (b : Buffers A). b.turn_height) buffers) left;
              reason =
                  reason_is answer.place _ (step A setting lines now) answer.ended l.why
                  ∙ ap (λ (n : ℕ). reason_of n answer.place.at.0 (step A setting lines now)) left
                  ∙ ap (λ (n : ℕ). reason_of answer'.place.left n (step A setting lines now)) at
                  ∙ ap (λ (s : State A). reason_of answer'.place.left answer'.place.at.0 (step A setting lines s)) same
                  ∙ sym (reason_is answer'.place _ (step A setting lines now') answer'.ended l'.why);
              repeats = repeats;
              store = ap (λ (b : Buffers A). b.store) buffers;
              values = ap (λ (b : Buffers A). b.values) buffers;
              turns = ap (λ (b : Buffers A). b.turns) buffers;
              copied =
                  copied_alike l.stands.held l'.stands.held after after' (ap (λ (b : Buffers A). b.copied) buffers) apart long long'
                  l.stands.copies l'.stands.copies;
            }

        by_order : Dec (l.stands.taken < l'.stands.taken) → Dec (l'.stands.taken < l.stands.taken)
            → Alike after after' l.stands.repeats l'.stands.repeats answer answer'
        by_order (yes fewer) d = absurd (no_further after after' loops loops' answer answer' l l' fewer)
        by_order (no n) (yes fewer) = absurd (no_further after' after loops' loops answer' answer l' l fewer)
        by_order (no n) (no m) = let taken : l.stands.taken ≡ l'.stands.taken = omega arith in alike taken (states taken)
