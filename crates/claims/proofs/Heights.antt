-- Stacks never stand higher than their rooms, whatever more is lent, and a run that ends or stops is stuck at no step.
use Prim.Native.Nat.{ℕ, zero, suc, ◌+◌, ◌-◌, ◌≤◌}
use mathlib.Core.Path.{◌≡◌, refl, sym, ap, subst, ◌∙◌}
use mathlib.Core.Bool.{Bool, true, false, cond}
use mathlib.Core.List.{List, [], ◌∷◌}
use mathlib.Core.Option.{Option, none, some}
use lib.ListN.{length, drop}
use lib.Dec.{eqb, ltb, ltb→lt}
use native.Mathlib.Omega.{arith}
use Rattle.number.specs.Arithmetic.{Arithmetic}
use Rattle.sheet.specs.Tree.{times, while, basic, if_line, else_line, end_if, repeat, end_repeat, RowNumber}
use Rattle.sheet.specs.Rows.{◌≔◌}
use Rattle.table.specs.TableRows.{Action, assign, save, take_back, save_turn, clear, turn_round, whether, on_turn, turn_word, Origin, TableLine, Table, lines_of}
use Rattle.machine.specs.Actions.{Attempt, through, halted, stuck, ◌>>=◌, look, replaced, pushed, Memory, Setting, with_turns, count_kept, Stop, stopping_at, evaluated, restored, turned_round, acted, compared, verdict_on, turn_taken, tested}
use Rattle.machine.specs.Machine.{its_else, its_end, one_more, seek, seek_close, Repeat, State, Step, goes_on, ended, stops, sticks, jump, after_action, branch_to, after_test, after_turn, pending, loop_ends, answered, asked, on_count, step_at, step, if_it_goes_on, state_after}
use Rattle.machine.proofs.StepsInTurn.{steps_add}
use Rattle.run.specs.Runs.{enough_steps, run_of}
use Rattle.run.proofs.MachineFollows.{at_row, more_steps_same}
use Rattle.claims.proofs.MoreRoom.{with_rooms, more_room_same}
use Rattle.claims.proofs.RunsEnd.{EndsSome, ended_goes_on_nowhere}

-- ---- what holds of whatever goes through

abbrev Through : {W X : Type 0} → (X → Type 0) → Attempt W X → Type 0
Through P (through x) = P x
Through P (halted why) = Unit {0}
Through P stuck = Unit {0}

through_then : {W X Y : Type 0} (P : Y → Type 0) (x : Attempt W X) (next : X → Attempt W Y) → ((v : X) → Through P (next v)) → Through P (x >>= next)
through_then P (through v) next h = h v
through_then P (halted why) next h = tt
through_then P stuck next h = tt

-- what was put onto a stack fits its room
pushed_fits : {W X Y : Type 0} (P : Y → Type 0) (room : ℕ) (x : X) (stack : List X) (next : List X → Attempt W Y)
    → (length (x ∷ stack) ≤ room → Through P (next (x ∷ stack))) → Through P (pushed {Why = W} room x stack >>= next)
pushed_fits {W} {X} P room x stack next h = by_test (ltb (length stack) room) refl
  where
    by_test : (b : Bool) → ltb (length stack) room ≡ b
        → Through P (cond {A = Attempt W (List X)} b (through (x ∷ stack)) stuck >>= next)
    by_test true e = h (ltb→lt (length stack) room (rw e tt))
    by_test false e = tt

module _ (A : Arithmetic) where
  pub record Within (values turns : ℕ) (memory : Memory A) : Type 0 where
    pub values_fit : length memory.values ≤ values
    pub turns_fit : length memory.turns ≤ turns

  -- ---- within their rooms

  module _ (setting : Setting A) where
    abbrev Fits : Memory A → Type 0
    Fits memory = Within setting.value_room setting.turn_room memory

    abbrev FitsAfter : Step A → Type 0
    FitsAfter (goes_on s) = Fits s.memory
    FitsAfter (ended memory) = Unit {0}
    FitsAfter (stops row stop) = Unit {0}
    FitsAfter sticks = Unit {0}

    restored_within : (memory : Memory A) (d : ℕ) (values : List A.Carrier) → length values ≤ setting.value_room
        → length memory.turns ≤ setting.turn_room → Through Fits (restored A memory d values)
    restored_within memory d [] v t = tt
    restored_within memory d (x ∷ values) v t =
        through_then Fits (replaced memory.store d x) _ (λ store. record { values_fit = omega arith; turns_fit = t })

    acted_within : (action : Action) (memory : Memory A) → Fits memory → Through Fits (acted A setting action memory)
    unfolding acted turned_round
    acted_within (assign (d ≔ source)) memory h =
        through_then Fits (evaluated A setting.constants source memory.store) _
        (λ x. through_then Fits (replaced memory.store d x) _ (λ store. record { values_fit = h.values_fit; turns_fit = h.turns_fit }))
    acted_within (save d) memory h =
        through_then Fits (look memory.store d) _
        (λ x. pushed_fits Fits setting.value_room x memory.values _ (λ fits. record { values_fit = fits; turns_fit = h.turns_fit }))
    acted_within (take_back d) memory h = restored_within memory d memory.values h.values_fit h.turns_fit
    acted_within (save_turn first) memory h =
        pushed_fits Fits setting.turn_room (turn_word first) memory.turns _ (λ fits. record { values_fit = h.values_fit; turns_fit = fits })
    acted_within (clear d) memory h =
        through_then Fits (replaced memory.store d A.zero) _ (λ store. record { values_fit = h.values_fit; turns_fit = h.turns_fit })
    acted_within turn_round memory h = record { values_fit = h.values_fit; turns_fit = h.turns_fit }

    action_within : (s : State A) (origin : Origin) (x : Attempt A.Why (Memory A)) → Through Fits x → FitsAfter (after_action A s (stopping_at A origin x))
    action_within s origin (through memory) h = h
    action_within s origin (halted why) h = tt
    action_within s origin stuck h = tt

    jump_within : (s : State A) (memory : Memory A) (o : Option ℕ) → Fits memory → FitsAfter (jump A s memory o)
    jump_within s memory none h = tt
    jump_within s memory (some n) h = h

    branch_within : (s : State A) (rest : List TableLine) (first : Bool) (memory : Memory A) → Fits memory
        → FitsAfter (branch_to A s rest first memory)
    branch_within s rest true memory h = h
    branch_within s rest false memory h = jump_within s memory (one_more (seek its_else 0 rest)) h

    whether_within : (s : State A) (rest : List TableLine) (o : Option Bool) → Fits s.memory
        → FitsAfter (after_test A s rest (verdict_on A s.memory o))
    whether_within s rest none h = tt
    whether_within s rest (some first) h = branch_within s rest first s.memory h

    on_turn_within : (s : State A) (rest : List TableLine) (turns : List ℕ) → length turns ≤ setting.turn_room → Fits s.memory
        → FitsAfter (after_test A s rest (turn_taken A s.memory turns))
    on_turn_within s rest [] t h = tt
    on_turn_within s rest (turn ∷ turns) t h =
        branch_within s rest (eqb turn 1) _ (record { values_fit = h.values_fit; turns_fit = omega arith })

    turn_within : (s : State A) (repeats : List Repeat) → Fits s.memory → FitsAfter (after_turn A s repeats)
    turn_within s [] h = tt
    turn_within s (r ∷ outer) h = by_left r.start r.left
      where
        by_left : (start : RowNumber) (left : ℕ) → FitsAfter (after_turn A s (record { start = start; asks = r.asks; left = left } ∷ outer))
        by_left start zero = h
        by_left start (suc n) = h

    -- a loop with a test, at its own row
    kept_within : (count : ℕ) (memory : Memory A) → Fits memory → Through Fits (count_kept A {Why = Stop A} setting count memory)
    kept_within count memory h = by_setting setting.keeps_counts
      where
        by_setting : (keeps : Bool)
            → Through Fits
            (cond keeps (pushed {Why = Stop A} setting.turn_room count memory.turns >>= λ turns. through (with_turns A memory turns)) (through memory))
        by_setting true = pushed_fits Fits setting.turn_room count memory.turns _ (λ fits. record { values_fit = h.values_fit; turns_fit = fits })
        by_setting false = h

    end_within : (s : State A) (rest : List TableLine) (outer : List Repeat) (x : Attempt (Stop A) (Memory A)) → Through Fits x
        → FitsAfter (loop_ends A s rest outer x)
    end_within s rest outer (through memory) h = jump_within (record { at = s.at; repeats = outer; memory = memory }) memory (one_more (seek_close 0 rest)) h
    end_within s rest outer (halted stop) h = tt
    end_within s rest outer stuck h = tt

    answered_within : (s : State A) (rest : List TableLine) (most n : ℕ) (outer : List Repeat) (answer : Option Bool) → Fits s.memory
        → FitsAfter (answered A setting s rest most n outer answer)
    answered_within s rest most n outer none h = tt
    answered_within s rest most n outer (some true) h = h
    answered_within s rest most n outer (some false) h = end_within s rest outer (count_kept A setting (most - suc n) s.memory) (kept_within _ s.memory h)

    asked_within : (s : State A) (rest : List TableLine) (most left : ℕ) (outer : List Repeat) (answer : Option Bool) → Fits s.memory
        → FitsAfter (asked A setting s rest most left outer answer)
    asked_within s rest most zero outer answer h = end_within s rest outer (count_kept A setting most s.memory) (kept_within most s.memory h)
    asked_within s rest most (suc n) outer answer h = answered_within s rest most n outer answer h

    -- one on a count that is taken back
    count_within : (s : State A) (rest : List TableLine) (counts : List ℕ) → length counts ≤ setting.turn_room → Fits s.memory
        → FitsAfter (on_count A s rest counts)
    count_within s rest [] t h = tt
    count_within s rest (zero ∷ counts) t h =
        jump_within (record { at = s.at; repeats = s.repeats; memory = with_turns A s.memory counts }) (with_turns A s.memory counts) (one_more (seek_close 0 rest)) (record { values_fit = h.values_fit; turns_fit = omega arith })
    count_within s rest (suc n ∷ counts) t h = record { values_fit = h.values_fit; turns_fit = omega arith }

    step_at_within : (s : State A) (here : List TableLine) → Fits s.memory → FitsAfter (step_at A setting s here)
    unfolding step_at tested
    step_at_within s [] h = tt
    step_at_within s (basic row ∷ rest) h =
        action_within s row.origin (acted A setting row.action s.memory) (acted_within row.action s.memory h)
    step_at_within s (if_line (whether f) ∷ rest) h = whether_within s rest (compared A f s.memory.store) h
    step_at_within s (if_line on_turn ∷ rest) h = on_turn_within s rest s.memory.turns h.turns_fit h
    step_at_within s (else_line ∷ rest) h = jump_within s s.memory (one_more (seek its_end 0 rest)) h
    step_at_within s (end_if ∷ rest) h = h
    step_at_within s (repeat (times m) ∷ rest) h = h
    step_at_within s (repeat (while (whether f) m) ∷ rest) h =
        let now = pending A s (suc m) s.repeats in
        asked_within s rest (suc m) now.left now.outer (compared A f s.memory.store) h
    step_at_within s (repeat (while on_turn m) ∷ rest) h = count_within s rest s.memory.turns h.turns_fit h
    step_at_within s (end_repeat ∷ rest) h = turn_within s s.repeats h

    step_within : (lines : List TableLine) (s : State A) → Fits s.memory → FitsAfter (step A setting lines s)
    unfolding step
    step_within lines s h = step_at_within s (drop s.at.index lines) h

    steps_within : (n : ℕ) (lines : List TableLine) (s : State A) → Fits s.memory → FitsAfter (state_after A n setting lines s)
    unfolding state_after
    steps_within zero lines s h = h
    steps_within (suc n) lines s h = by_step (step A setting lines s) (step_within lines s h) (λ next fits. steps_within n lines next fits)
      where
        by_step : (x : Step A) → FitsAfter x → ((next : State A) → Fits next.memory → FitsAfter (state_after A n setting lines next))
            → FitsAfter (if_it_goes_on A x (λ next. state_after A n setting lines next))
        by_step (goes_on next) fits ih = ih next fits
        by_step (ended memory) fits ih = tt
        by_step (stops row stop) fits ih = tt
        by_step sticks fits ih = tt

    within_room : (n : ℕ) (lines : List TableLine) (start s : State A) → Within setting.value_room setting.turn_room start.memory
        → state_after A n setting lines start ≡ goes_on s → Within setting.value_room setting.turn_room s.memory
    within_room n lines start s h e = subst FitsAfter e (steps_within n lines start h)

  -- ---- a run that does not get stuck

  module _ (setting : Setting A) (lines : List TableLine) where
    -- if so many steps end or stop, no number of steps is stuck
    never_sticks : (most : ℕ) (s : State A) → EndsSome A (state_after A most setting lines s) → (n : ℕ) → state_after A n setting lines s ≡ sticks → ⊥
    never_sticks most s ends n e =
        let swap : most + n ≡ n + most = omega arith in
        subst (EndsSome A)
        (sym (more_steps_same A setting lines most n s (ended_goes_on_nowhere A _ ends)) ∙ ap (λ m. state_after A m setting lines s) swap
        ∙ steps_add A setting lines n most s ∙ ap (λ x. if_it_goes_on A x (λ next. state_after A most setting lines next)) e)
        ends

    heights_within : (values turns : ℕ) → setting.value_room ≤ values → setting.turn_room ≤ turns → (start : State A)
        → Within setting.value_room setting.turn_room start.memory → ((n : ℕ) → state_after A n setting lines start ≡ sticks → ⊥)
        → (n : ℕ) (s : State A) → state_after A n (with_rooms A setting values turns) lines start ≡ goes_on s
        → Within setting.value_room setting.turn_room s.memory
    heights_within values turns more_values more_turns start h unstuck n s e =
        within_room setting n lines start s h (sym (more_room_same A setting values turns more_values more_turns n lines start (unstuck n)) ∙ e)

  -- a table's run that ends or stops: no number of steps is stuck, and the stacks stay within these rooms whatever more is lent
  module _ (table : Table) (setting : Setting A) (memory : Memory A) (ends : EndsSome A (run_of A table setting (at_row A 0 [] memory))) where
    pub table_never_sticks : (n : ℕ) → state_after A n setting (lines_of table) (at_row A 0 [] memory) ≡ sticks → ⊥
    unfolding run_of
    table_never_sticks = never_sticks setting (lines_of table) enough_steps (at_row A 0 [] memory) ends

    pub table_heights : Within setting.value_room setting.turn_room memory → (values turns : ℕ)
        → setting.value_room ≤ values → setting.turn_room ≤ turns
        → (n : ℕ) (s : State A) → state_after A n (with_rooms A setting values turns) (lines_of table) (at_row A 0 [] memory) ≡ goes_on s
        → Within setting.value_room setting.turn_room s.memory
    table_heights h values turns more_values more_turns =
        heights_within setting (lines_of table) values turns more_values more_turns (at_row A 0 [] memory) h table_never_sticks
