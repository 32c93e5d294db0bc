-- A machine that does not get stuck does the same with more room on its stacks, step by step and in the large.
use Prim.Native.Nat.{ℕ, zero, suc, ◌-◌, ◌≤◌, ◌<◌}
use mathlib.Core.Path.{◌≡◌, refl, ap, ◌∙◌}
use mathlib.Core.Bool.{Bool, true, false, cond}
use mathlib.Core.List.{List, [], ◌∷◌}
use mathlib.Core.Option.{Option, none, some}
use lib.ListN.{length, drop}
use lib.Dec.{leb, ltb, ltb→lt, lt→ltb}
use native.Mathlib.Omega.{arith}
use Rattle.number.specs.Arithmetic.{Arithmetic}
use Rattle.sheet.specs.Tree.{times, while, done, one, fork, again, basic, if_line, else_line, end_if, repeat, end_repeat}
use Rattle.sheet.specs.Rows.{◌≔◌}
use Rattle.table.specs.TableRows.{Action, assign, save, take_back, save_turn, clear, turn_round, whether, on_turn, turn_word, TableLine, Table}
use Rattle.machine.specs.Actions.{Attempt, through, stuck, present, look, pushed, Memory, Setting, with_turns, count_kept, stopping_at, saved, turned_round, acted, compared, tested}
use Rattle.machine.specs.Machine.{Repeat, State, Step, goes_on, ended, stops, sticks, after_action, pending, loop_ends, asked, step_at, step, if_it_goes_on, state_after}
use Rattle.machine.specs.InTheLarge.{count_then, table_run}
use Rattle.machine.proofs.AttemptLaws.{bind_unless, cond_unless, turns_unless, while_unless}

-- ---- the same, unless the first is a thing that means stuck

abbrev SameUnless : {X : Type 0} → X → X → X → Type 0
SameUnless bad x y = (x ≡ bad → ⊥) → y ≡ x

same_under : {X Y : Type 0} (f : X → Y) (bad x y : X) → SameUnless bad x y → SameUnless (f bad) (f x) (f y)
same_under f bad x y same unlike = ap f (same (λ e. unlike (ap f e)))

abbrev Alike : {W X : Type 0} → Attempt W X → Attempt W X → Type 0
Alike x y = SameUnless stuck x y

pushed_alike : {W X : Type 0} (room more : ℕ) (x : X) (stack : List X) → room ≤ more
    → Alike (pushed {Why = W} room x stack) (pushed {Why = W} more x stack)
pushed_alike {W} {X} room more x stack le = by_tests (ltb (length stack) room) (ltb (length stack) more) refl refl
  where
    by_tests : (b c : Bool) → ltb (length stack) room ≡ b → ltb (length stack) more ≡ c
        → Alike {W = W} {X = List X} (cond b (through (x ∷ stack)) stuck) (cond c (through (x ∷ stack)) stuck)
    by_tests true true p q unstuck = refl
    by_tests true false p q unstuck =
        let fits : length stack < room = ltb→lt (length stack) room (rw p tt) in
        absurd (rw q at (lt→ltb (length stack) more (omega arith)))
    by_tests false c p q unstuck = absurd (unstuck refl)

module _ (A : Arithmetic) where
  abbrev pub with_rooms : Setting A → (value_room turn_room : ℕ) → Setting A
  with_rooms setting value_room turn_room =
      record {
        variables = setting.variables;
        roles = setting.roles;
        constants = setting.constants;
        seeds = setting.seeds;
        value_room = value_room;
        turn_room = turn_room;
        keeps_counts = setting.keeps_counts;
      }

  module _ (setting : Setting A) (values turns : ℕ) (more_values : setting.value_room ≤ values) (more_turns : setting.turn_room ≤ turns) where
    abbrev roomier : Setting A
    roomier = with_rooms setting values turns

    acted_alike : (action : Action) (memory : Memory A) → Alike (acted A setting action memory) (acted A roomier action memory)
    unfolding acted turned_round
    acted_alike (assign (d ≔ source)) memory = λ unstuck. refl
    acted_alike (save d) memory =
        bind_unless (look memory.store d) (look memory.store d) (λ x. saved A setting.value_room memory x) (λ x. saved A values memory x)
        (λ unstuck. refl)
        (λ x. bind_unless (pushed setting.value_room x memory.values) (pushed values x memory.values) _ _
        (pushed_alike setting.value_room values x memory.values more_values) (λ stack unstuck. refl))
    acted_alike (take_back d) memory = λ unstuck. refl
    acted_alike (save_turn first) memory =
        bind_unless (pushed setting.turn_room (turn_word first) memory.turns) (pushed turns (turn_word first) memory.turns) _ _
        (pushed_alike setting.turn_room turns (turn_word first) memory.turns more_turns) (λ stack unstuck. refl)
    acted_alike (clear d) memory = λ unstuck. refl
    acted_alike turn_round memory = λ unstuck. refl

    count_alike : {W : Type 0} (count : ℕ) (memory : Memory A) → Alike (count_kept A {Why = W} setting count memory) (count_kept A roomier count memory)
    count_alike count memory =
        cond_unless setting.keeps_counts _ _ _ _
        (bind_unless (pushed setting.turn_room count memory.turns) (pushed turns count memory.turns) _ _
        (pushed_alike setting.turn_room turns count memory.turns more_turns) (λ stack unstuck. refl))
        (λ unstuck. refl)

    -- a loop with a test that ends after so many turns
    ends_alike : (s : State A) (rest : List TableLine) (outer : List Repeat) (count : ℕ)
        → SameUnless sticks (loop_ends A s rest outer (count_kept A setting count s.memory)) (loop_ends A s rest outer (count_kept A roomier count s.memory))
    ends_alike s rest outer count =
        same_under (loop_ends A s rest outer) stuck (count_kept A setting count s.memory) (count_kept A roomier count s.memory)
        (count_alike count s.memory)

    asked_alike : (s : State A) (rest : List TableLine) (most left : ℕ) (outer : List Repeat) (holds : Option Bool)
        → SameUnless sticks (asked A setting s rest most left outer holds) (asked A roomier s rest most left outer holds)
    asked_alike s rest most zero outer holds = ends_alike s rest outer most
    asked_alike s rest most (suc n) outer none = λ unstuck. refl
    asked_alike s rest most (suc n) outer (some true) = λ unstuck. refl
    asked_alike s rest most (suc n) outer (some false) = ends_alike s rest outer (most - suc n)

    step_at_alike : (s : State A) (here : List TableLine) → SameUnless sticks (step_at A setting s here) (step_at A roomier s here)
    unfolding step_at
    step_at_alike s [] = λ unstuck. refl
    step_at_alike s (basic row ∷ rest) =
        same_under (λ x. after_action A s (stopping_at A row.origin x)) stuck (acted A setting row.action s.memory)
        (acted A roomier row.action s.memory)
        (acted_alike row.action s.memory)
    step_at_alike s (if_line f ∷ rest) = λ unstuck. refl
    step_at_alike s (else_line ∷ rest) = λ unstuck. refl
    step_at_alike s (end_if ∷ rest) = λ unstuck. refl
    step_at_alike s (repeat (times m) ∷ rest) = λ unstuck. refl
    step_at_alike s (repeat (while (whether f) m) ∷ rest) =
        let now = pending A s (suc m) s.repeats in
        asked_alike s rest (suc m) now.left now.outer (compared A f s.memory.store)
    step_at_alike s (repeat (while on_turn m) ∷ rest) = λ unstuck. refl
    step_at_alike s (end_repeat ∷ rest) = λ unstuck. refl

    step_alike : (lines : List TableLine) (s : State A) → SameUnless sticks (step A setting lines s) (step A roomier lines s)
    unfolding step
    step_alike lines s = step_at_alike s (drop s.at.index lines)

    pub more_room_same : (n : ℕ) (lines : List TableLine) (s : State A) → (state_after A n setting lines s ≡ sticks → ⊥)
        → state_after A n (with_rooms setting values turns) lines s ≡ state_after A n setting lines s
    unfolding state_after
    more_room_same zero lines s unstuck = refl
    more_room_same (suc n) lines s unstuck =
        ap (λ x. if_it_goes_on A x (λ next. state_after A n roomier lines next))
        (step_alike lines s (λ e. unstuck (ap (λ x. if_it_goes_on A x (λ next. state_after A n setting lines next)) e)))
        ∙ by_step (step A setting lines s) (λ next. more_room_same n lines next) unstuck
      where
        by_step : (x : Step A) → ((next : State A) → SameUnless sticks (state_after A n setting lines next) (state_after A n roomier lines next))
            → SameUnless sticks (if_it_goes_on A x (λ next. state_after A n setting lines next))
            (if_it_goes_on A x (λ next. state_after A n roomier lines next))
        by_step (goes_on next) ih = ih next
        by_step (ended memory) ih = λ unstuck'. refl
        by_step (stops row stop) ih = λ unstuck'. refl
        by_step sticks ih = λ unstuck'. refl

    -- the same in the large
    count_then_alike : {W Y : Type 0} (most : ℕ) (turn turn' : Memory A → Attempt W (Memory A)) (rest rest' : Memory A → Attempt W Y)
        → ((now : Memory A) → Alike (turn now) (turn' now)) → ((now : Memory A) → Alike (rest now) (rest' now))
        → (memory : Memory A) (words : List ℕ) → Alike (count_then A most turn rest memory words) (count_then A most turn' rest' memory words)
    unfolding count_then
    count_then_alike most turn turn' rest rest' same follows memory [] = λ unstuck. refl
    count_then_alike most turn turn' rest rest' same follows memory (zero ∷ words) =
        cond_unless (leb 0 most) _ _ _ _ (follows (with_turns A memory words)) (λ unstuck. refl)
    count_then_alike most turn turn' rest rest' same follows memory (suc n ∷ words) =
        cond_unless (leb (suc n) most) _ _ _ _ (turns_unless turn turn' rest rest' same follows n (with_turns A memory words)) (λ unstuck. refl)

    tree_alike : (t : Table) (memory : Memory A) → Alike (table_run A setting t memory) (table_run A roomier t memory)
    unfolding table_run
    tree_alike done memory = λ unstuck. refl
    tree_alike (one row k) memory =
        bind_unless (stopping_at A row.origin (acted A setting row.action memory)) (stopping_at A row.origin (acted A roomier row.action memory)) _ _
        (same_under (stopping_at A row.origin) stuck (acted A setting row.action memory) (acted A roomier row.action memory)
        (acted_alike row.action memory))
        (λ next. tree_alike k next)
    tree_alike (fork f a b k) memory =
        bind_unless (present (tested A f memory)) (present (tested A f memory)) _ _ (λ unstuck. refl)
        (λ v. bind_unless (cond v.first (table_run A setting a v.memory) (table_run A setting b v.memory)) _ _ _
        (cond_unless v.first _ _ _ _ (tree_alike a v.memory) (tree_alike b v.memory)) (λ next. tree_alike k next))
    tree_alike (again (times m) a k) memory =
        turns_unless (table_run A setting a) (table_run A roomier a) (table_run A setting k) (table_run A roomier k) (λ now. tree_alike a now)
        (λ now. tree_alike k now) m memory
    tree_alike (again (while (whether f) m) a k) memory =
        while_unless (table_run A setting a) (table_run A roomier a) (table_run A setting k) (table_run A roomier k) (λ now. tree_alike a now)
        (λ now. tree_alike k now) (λ now. compared A f now.store) (count_kept A setting) (count_kept A roomier) count_alike 0 (suc m) memory
    tree_alike (again (while on_turn m) a k) memory =
        count_then_alike (suc m) (table_run A setting a) (table_run A roomier a) (table_run A setting k) (table_run A roomier k) (λ now. tree_alike a now)
        (λ now. tree_alike k now) memory memory.turns

    pub more_room_same_in_the_large : (t : Table) (memory : Memory A) → (table_run A setting t memory ≡ stuck → ⊥)
        → table_run A (with_rooms setting values turns) t memory ≡ table_run A setting t memory
    more_room_same_in_the_large = tree_alike
