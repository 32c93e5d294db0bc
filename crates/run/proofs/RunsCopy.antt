-- A run of an adjoint table that finishes has passed row 17: as many values as there are variables have been copied out. It is said of the machine and
-- not of the table in the large, which is stuck where a count is too high and the machine needn't be.
use Prim.Native.Nat.{ℕ, zero, suc, ◌+◌, ◌*◌, ◌-◌, ◌≤◌}
use mathlib.Core.Path.{◌≡◌, refl, sym, ap, subst, ◌∙◌}
use mathlib.Core.Logic.{◌⊎◌, inl, inr}
use mathlib.Core.Bool.{Bool, true, false, cond}
use mathlib.Core.List.{List, [], ◌∷◌, ◌++◌}
use mathlib.Core.Option.{Option, none, some}
use native.Mathlib.Omega.{arith}
use lib.ListN.{length, take, drop, length-set, length-append, length-drop}
use lib.Seq.{length-take-le}
use lib.Dec.{eqb}
use Rattle.number.specs.Arithmetic.{Arithmetic}
use Rattle.sheet.specs.Tree.{Loop, times, while, done, one, fork, again, if_line, else_line, end_if, repeat, end_repeat, flat, rows}
use Rattle.sheet.specs.Rows.{◌≔◌, is_dependent, target_of, Test}
use Rattle.sets.specs.Marks.{Marked}
use Rattle.table.specs.TableRows.{Action, assign, save, take_back, save_turn, clear, turn_round, TableTest, whether, on_turn}
use Rattle.table.specs.TableRows.{Table, TableRow, TableLine, saving, itself, turn_word, lines_of}
use Rattle.table.specs.Adjoint.{Body, put, put_if, forward_row, forward_part, adjoint_table}
use Rattle.machine.specs.Actions.{Attempt, through, halted, stuck, ◌>>=◌, replaced, pushed, look, Memory, Setting, with_turns, count_kept, Stop, stopping_at, evaluated, stored, restored, acted, turned_round, seeded, Verdict, verdict_on, turn_taken, tested, compared}
use Rattle.machine.specs.Machine.{Repeat, State, Step, goes_on, ended, stops, sticks, pending, after_action, branch_to, after_test, loop_ends, answered, on_count, step_at, step, if_it_goes_on, state_after}
use Rattle.machine.proofs.AttemptLaws.{went, same_through, was_replaced}
use Rattle.machine.proofs.LinesPassed.{past_line, past_tree, seek_else, seek_end}
use Rattle.machine.proofs.RoleLaws.{counting_length}
use Rattle.run.specs.Runs.{enough_steps, run_of}
use Rattle.run.proofs.MachineFollows.{at_row, loop_at, BeganBefore, began_earlier, jumps, past_loop, first_pending, same_pending, asks_with}

-- ---- row 17 stands in a table outside every block

TurnsRound : Table → Type 0
TurnsRound done = ⊥
TurnsRound (one row k) = (row.action ≡ turn_round) ⊎ TurnsRound k
TurnsRound (fork f a b k) = TurnsRound k
TurnsRound (again l a k) = TurnsRound k

row_turns : (m : Marked) (rest : Table) → TurnsRound rest → TurnsRound (forward_row m rest)
unfolding forward_row TurnsRound
row_turns m rest turns = by_saved m.saved
  where
    by_saved : (saved : Bool)
        → TurnsRound (put_if saved m.row saving (save (target_of m.assignment)) (put m.row itself (assign m.assignment) rest))
    by_saved true = inr (inr turns)
    by_saved false = inr turns

forward_turns : (t : Body) (rest : Table) → TurnsRound rest → TurnsRound (forward_part t rest)
unfolding forward_part TurnsRound
forward_turns done rest turns = turns
forward_turns (one m k) rest turns = row_turns m (forward_part k rest) (forward_turns k rest turns)
forward_turns (fork f a b k) rest turns = forward_turns k rest turns
forward_turns (again l a k) rest turns = forward_turns k rest turns

module _ (A : Arithmetic) (setting : Setting A) (sections : setting.variables ≡ length setting.roles) where
  -- room for the originals and their adjoints
  abbrev Roomy : Memory A → Type 0
  Roomy memory = 2 * setting.variables ≤ length memory.store

  -- The store keeps its size, and what is copied is as many values as there are variables, if it was before.
  record Keeps (before after : Memory A) : Type 0 where
    room : length after.store ≡ length before.store
    copies : length before.copied ≡ setting.variables → length after.copied ≡ setting.variables

  -- a memory made with the same store and the same copies
  keeps_same : {before made after : Memory A} → made ≡ after → made.store ≡ before.store → made.copied ≡ before.copied → Keeps before after
  keeps_same is store copied =
      record {
        room = ap (λ m. length m.store) (sym is) ∙ ap length store;
        copies = λ h. ap (λ m. length m.copied) (sym is) ∙ ap length copied ∙ h;
      }

  keeps_then : {before between after : Memory A} → Keeps before between → Keeps between after → Keeps before after
  keeps_then first second = record { room = second.room ∙ first.room; copies = λ h. second.copies (first.copies h) }

  -- ---- one row

  keeps_stored : (memory after : Memory A) (d : ℕ) (x : A.Carrier) → stored A memory d x ≡ through after → Keeps memory after
  keeps_stored memory after d x e =
      let c = went (replaced memory.store d x) _ after e in
      let is = (was_replaced {W = A.Why} memory.store c.0 d x c.1).1 in
      let same = same_through c.2 in
      record {
        room = ap (λ m. length m.store) (sym same) ∙ ap length is ∙ length-set memory.store d x;
        copies = λ h. ap (λ m. length m.copied) (sym same) ∙ h;
      }

  -- row 17
  turned_room : (memory : Memory A) → Roomy memory
      → length (turned_round A setting memory).store ≡ length memory.store
  unfolding turned_round
  turned_room memory enough =
      let v = setting.variables in
      let originals = take v memory.store in
      let adjoints = seeded A setting.roles setting.seeds in
      let rest = drop (2 * v) memory.store in
      omega (
        arith,
        length-append (originals ++ adjoints) rest,
        length-append originals adjoints,
        length-take-le v memory.store (omega arith),
        counting_length A is_dependent setting.roles setting.seeds,
        length-drop (2 * v) memory.store,
      )

  turned_copies : (memory : Memory A) → Roomy memory → length (turned_round A setting memory).copied ≡ setting.variables
  unfolding turned_round
  turned_copies memory enough = length-take-le setting.variables memory.store (omega arith)

  keeps_acted : (action : Action) (memory after : Memory A) → Roomy memory → acted A setting action memory ≡ through after → Keeps memory after
  unfolding acted
  keeps_acted (assign (d ≔ source)) memory after enough e =
      let c = went (evaluated A setting.constants source memory.store) _ after e in
      keeps_stored memory after d c.0 c.2
  keeps_acted (save d) memory after enough e =
      let c = went (look memory.store d) _ after e in
      keeps_same (same_through (went (pushed setting.value_room c.0 memory.values) _ after c.2).2) refl refl
  keeps_acted (take_back d) memory after enough e = by_stack memory.values e
    where
      by_stack : (values : List A.Carrier) → restored A memory d values ≡ through after → Keeps memory after
      by_stack [] e = let z : ◌≡◌ {A = ℕ} 0 1 = cc in absurd (omega arith)
      by_stack (x ∷ values) e =
          let kept = keeps_stored (record { store = memory.store; values = values; turns = memory.turns; copied = memory.copied }) after d x e in
          record { room = kept.room; copies = kept.copies }
  keeps_acted (save_turn first) memory after enough e =
      keeps_same (same_through (went (pushed setting.turn_room (turn_word first) memory.turns) _ after e).2) refl refl
  keeps_acted (clear d) memory after enough e = keeps_stored memory after d A.zero e
  keeps_acted turn_round memory after enough e =
      let same = same_through e in
      record {
        room = ap (λ m. length m.store) (sym same) ∙ turned_room memory enough;
        copies = λ h. ap (λ m. length m.copied) (sym same) ∙ turned_copies memory enough;
      }

  keeps_tested : (test : TableTest) (memory : Memory A) (verdict : Verdict A) → tested A test memory ≡ some verdict → Keeps memory verdict.memory
  unfolding tested
  keeps_tested (whether f) memory verdict e = by_answer (compared A f memory.store) e
    where
      by_answer : (o : Option Bool) → verdict_on A memory o ≡ some verdict → Keeps memory verdict.memory
      by_answer none e = let z : ◌≡◌ {A = ℕ} 0 1 = cc in absurd (omega arith)
      by_answer (some first) e =
          let same : record { first = first; memory = memory } ≡ verdict = cc in
          keeps_same (ap (λ v. v.memory) same) refl refl
  keeps_tested on_turn memory verdict e = by_stack memory.turns e
    where
      by_stack : (turns : List ℕ) → turn_taken A memory turns ≡ some verdict → Keeps memory verdict.memory
      by_stack [] e = let z : ◌≡◌ {A = ℕ} 0 1 = cc in absurd (omega arith)
      by_stack (turn ∷ turns) e =
          let taken : Memory A = record { store = memory.store; values = memory.values; turns = turns; copied = memory.copied } in
          let same : record { first = eqb turn 1; memory = taken } ≡ verdict = cc in
          keeps_same (ap (λ v. v.memory) same) refl refl

  keeps_counted : (count : ℕ) (memory after : Memory A) → count_kept A {Why = Stop A} setting count memory ≡ through after → Keeps memory after
  keeps_counted count memory after = by_setting setting.keeps_counts
    where
      by_setting : (keeps : Bool)
          → cond keeps (pushed {Why = Stop A} setting.turn_room count memory.turns >>= λ turns. through (with_turns A memory turns)) (through memory)
          ≡ through after → Keeps memory after
      by_setting true e = keeps_same (same_through (went (pushed setting.turn_room count memory.turns) _ after e).2) refl refl
      by_setting false e = keeps_same (same_through e) refl refl

  -- ---- one step of a run that ends

  module _ (lines : List TableLine) (final : Memory A) where
    record Ends (s : State A) : Type 0 where
      steps : ℕ
      is : state_after A steps setting lines s ≡ ended final

    abbrev EndsBy : Step A → Type 0
    EndsBy (goes_on next) = Ends next
    EndsBy (ended memory) = memory ≡ final
    EndsBy (stops row stop) = ⊥
    EndsBy sticks = ⊥

    ends_by : (s : State A) (here : List TableLine) → drop s.at.index lines ≡ here → Ends s → EndsBy (step_at A setting s here)
    unfolding state_after step
    ends_by s here e ends = subst (λ l. EndsBy (step_at A setting s l)) e (by_steps ends.steps ends.is)
      where
        by_step : (n : ℕ) (x : Step A) → if_it_goes_on A x (λ next. state_after A n setting lines next) ≡ ended final → EndsBy x
        by_step n (goes_on next) e = record { steps = n; is = e }
        by_step n (ended memory) e = cc
        by_step n (stops row stop) e = let z : ◌≡◌ {A = ℕ} 0 1 = cc in absurd (omega arith)
        by_step n sticks e = let z : ◌≡◌ {A = ℕ} 0 1 = cc in absurd (omega arith)

        by_steps : (n : ℕ) → state_after A n setting lines s ≡ ended final → EndsBy (step A setting lines s)
        by_steps zero e = let z : ◌≡◌ {A = ℕ} 0 1 = cc in absurd (omega arith)
        by_steps (suc n) e = by_step n (step A setting lines s) e

    -- where a step goes on to
    ends_on : {s s' : State A} {here : List TableLine} → drop s.at.index lines ≡ here → step_at A setting s here ≡ goes_on s' → Ends s → Ends s'
    ends_on {s} {here = here} e on ends = subst EndsBy on (ends_by s here e ends)

    -- ---- a tree's lines

    -- it comes to row q, with what it keeps, and has copied the values if it has turned round
    record Comes (Turned : Type 0) (before : Memory A) (q : ℕ) (repeats : List Repeat) : Type 0 where
      next : Memory A
      kept : Keeps before next
      copied : Turned → length next.copied ≡ setting.variables
      ends : Ends (at_row A q repeats next)

    abbrev Passes : Table → (p : ℕ) → List Repeat → Type 0
    Passes t p repeats = (memory : Memory A) → Roomy memory → Ends (at_row A p repeats memory) → Comes (TurnsRound t) memory (p + rows t) repeats

    -- from a later memory on
    comes_then : {Turned : Type 0} {before between : Memory A} {q : ℕ} {repeats : List Repeat} → Keeps before between → Comes Turned between q repeats
        → Comes Turned before q repeats
    comes_then first c = record { next = c.next; kept = keeps_then first c.kept; copied = c.copied; ends = c.ends }

    still_roomy : {before after : Memory A} → Keeps before after → Roomy before → Roomy after
    still_roomy kept enough = rw kept.room enough

    -- ---- an action

    turns_copied : (action : Action) (memory next : Memory A) → Roomy memory → acted A setting action memory ≡ through next → action ≡ turn_round
        → length next.copied ≡ setting.variables
    unfolding acted
    turns_copied action memory next enough is turning =
        let same = same_through (ap (λ a. acted A setting a memory) (sym turning) ∙ is) in
        ap (λ m. length m.copied) (sym same) ∙ turned_copies memory enough

    action_passes : (p : ℕ) (repeats : List Repeat) (row : TableRow) (k : Table) → Passes k (suc p) repeats
        → (memory : Memory A) → Roomy memory → (x : Attempt A.Why (Memory A)) → acted A setting row.action memory ≡ x
        → EndsBy (after_action A (at_row A p repeats memory) (stopping_at A row.origin x)) → Comes (TurnsRound (one row k)) memory (suc p + rows k) repeats
    unfolding TurnsRound
    action_passes p repeats row k after memory enough (through next) is ends =
        let kept = keeps_acted row.action memory next enough is in
        let c = after next (still_roomy kept enough) ends in
        record { next = c.next; kept = keeps_then kept c.kept; copied = by_turning c; ends = c.ends }
      where
        by_turning : (c : Comes (TurnsRound k) next (suc p + rows k) repeats) → (row.action ≡ turn_round) ⊎ TurnsRound k
            → length c.next.copied ≡ setting.variables
        by_turning c (inl turning) = c.kept.copies (turns_copied row.action memory next enough is turning)
        by_turning c (inr later) = c.copied later
    action_passes p repeats row k after memory enough (halted why) is ends = absurd ends
    action_passes p repeats row k after memory enough stuck is ends = absurd ends

    -- ---- an "if" block

    module _ (p : ℕ) (repeats : List Repeat) (f : TableTest) (a b k : Table) (rest : List TableLine)
        (standing : drop p lines ≡ if_line f ∷ flat a (else_line ∷ flat b (end_if ∷ rest)))
        (first : Passes a (suc p) repeats) (second : Passes b (suc (suc p + rows a)) repeats)
        (after : Passes k (suc (suc (suc p + rows a) + rows b)) repeats) where
      abbrev split : ℕ
      split = suc p + rows a

      -- from the end of a branch that was taken
      block_passes : {Turned : Type 0} {before : Memory A} {q : ℕ} → Roomy before → Comes Turned before q repeats
          → ((next : Memory A) → Ends (at_row A q repeats next) → Ends (at_row A (suc (suc split + rows b)) repeats next))
          → Comes (TurnsRound k) before (suc (suc split + rows b) + rows k) repeats
      block_passes enough c past = comes_then c.kept (after c.next (still_roomy c.kept enough) (past c.next c.ends))

      branch_passes : (before memory : Memory A) → Roomy memory → (taken : Bool)
          → EndsBy (branch_to A (at_row A p repeats before) (flat a (else_line ∷ flat b (end_if ∷ rest))) taken memory)
          → Comes (TurnsRound k) memory (suc (suc split + rows b) + rows k) repeats
      unfolding step_at
      branch_passes before memory enough true ends =
          let at_a = past_line lines p _ _ standing in
          block_passes enough (first memory enough ends)
          (λ next. ends_on (past_tree lines (suc p) a _ at_a) (jumps A (at_row A split repeats next) next _ _ (seek_end b rest) (omega arith)))
      branch_passes before memory enough false ends =
          let at_a = past_line lines p _ _ standing in
          let at_b = past_line lines split else_line _ (past_tree lines (suc p) a _ at_a) in
          let there = subst EndsBy (jumps A (at_row A p repeats before) memory _ _ {q = suc split} (seek_else a _) (omega arith)) ends in
          block_passes enough (second memory enough there) (λ next. ends_on (past_tree lines (suc split) b _ at_b) refl)

      test_passes : (memory : Memory A) → Roomy memory → (x : Option (Verdict A)) → tested A f memory ≡ x
          → EndsBy (after_test A (at_row A p repeats memory) (flat a (else_line ∷ flat b (end_if ∷ rest))) x)
          → Comes (TurnsRound k) memory (suc (suc split + rows b) + rows k) repeats
      test_passes memory enough none is ends = absurd ends
      test_passes memory enough (some verdict) is ends =
          let told = keeps_tested f memory verdict is in
          comes_then told (branch_passes memory verdict.memory (still_roomy told enough) verdict.first ends)

    -- ---- a loop

    module _ (p : ℕ) (repeats : List Repeat) (a k : Table) (rest : List TableLine) (standing : drop (suc p) lines ≡ flat a (end_repeat ∷ rest))
        (body : (asks : Bool) (left : ℕ) → Passes a (suc p) (loop_at p asks left ∷ repeats)) (after : Passes k (suc (suc p + rows a)) repeats) where
      abbrev beyond : ℕ
      beyond = suc (suc p + rows a)

      abbrev PassesLoop : Memory A → Type 0
      PassesLoop memory = Comes (TurnsRound k) memory (beyond + rows k) repeats

      turns_pass : (m : ℕ) (memory : Memory A) → Roomy memory → Ends (at_row A (suc p) (loop_at p false m ∷ repeats) memory) → PassesLoop memory
      unfolding step_at
      turns_pass zero memory enough ends =
          let c = body false 0 memory enough ends in
          comes_then c.kept (after c.next (still_roomy c.kept enough) (ends_on (past_tree lines (suc p) a _ standing) refl c.ends))
      turns_pass (suc m) memory enough ends =
          let c = body false (suc m) memory enough ends in
          comes_then c.kept
          (turns_pass m c.next (still_roomy c.kept enough) (ends_on (past_tree lines (suc p) a _ standing) refl c.ends))

      -- with a test

      end_passes : (around : List Repeat) (memory : Memory A) → Roomy memory → (count : ℕ) (kept : Attempt (Stop A) (Memory A))
          → count_kept A setting count memory ≡ kept
          → EndsBy (loop_ends A (at_row A p around memory) (flat a (end_repeat ∷ rest)) repeats kept) → PassesLoop memory
      end_passes around memory enough count (through next) is ends =
          let kept = keeps_counted count memory next is in
          comes_then kept (after next (still_roomy kept enough) (subst EndsBy (past_loop A p repeats a rest next) ends))
      end_passes around memory enough count (halted stop) is ends = absurd ends
      end_passes around memory enough count stuck is ends = absurd ends

      module _ (f : Test) (m : ℕ) (here : drop p lines ≡ repeat (while (whether f) m) ∷ flat a (end_repeat ∷ rest)) where
        while_passes : (left : ℕ) (around : List Repeat) (memory : Memory A)
            → pending A (at_row A p around memory) (suc m) around ≡ record { left = left; outer = repeats }
            → Roomy memory → Ends (at_row A p around memory) → PassesLoop memory
        unfolding step_at
        while_passes zero around memory now enough ends =
            end_passes around memory enough (suc m) _ refl
            (subst EndsBy (asks_with A setting f m (flat a (end_repeat ∷ rest)) p around memory now) (ends_by (at_row A p around memory) _ here ends))
        while_passes (suc left) around memory now enough ends =
            by_answer (compared A f memory.store)
            (subst EndsBy (asks_with A setting f m (flat a (end_repeat ∷ rest)) p around memory now) (ends_by (at_row A p around memory) _ here ends))
            (λ next. while_passes left (loop_at p true left ∷ repeats) next (same_pending A p repeats left next (suc m)))
          where
            by_answer : (answer : Option Bool)
                → EndsBy (answered A setting (at_row A p around memory) (flat a (end_repeat ∷ rest)) (suc m) left repeats answer)
                → ((next : Memory A) → Roomy next → Ends (at_row A p (loop_at p true left ∷ repeats) next) → PassesLoop next) → PassesLoop memory
            by_answer none ends later = absurd ends
            by_answer (some true) ends later =
                let c = body true (suc left) memory enough ends in
                comes_then c.kept
                (later c.next (still_roomy c.kept enough) (ends_on (past_tree lines (suc p) a _ standing) refl c.ends))
            by_answer (some false) ends later = end_passes around memory enough (suc m - suc left) _ refl ends

      -- on a count that is taken back
      count_passes : (memory : Memory A) → Roomy memory → (counts : List ℕ)
          → EndsBy (on_count A (at_row A p repeats memory) (flat a (end_repeat ∷ rest)) counts) → PassesLoop memory
      count_passes memory enough [] ends = absurd ends
      count_passes memory enough (zero ∷ counts) ends =
          let taken = with_turns A memory counts in
          let kept : Keeps memory taken = keeps_same refl refl refl in
          comes_then kept (after taken enough (subst EndsBy (past_loop A p repeats a rest taken) ends))
      count_passes memory enough (suc n ∷ counts) ends =
          let kept : Keeps memory (with_turns A memory counts) = keeps_same refl refl refl in
          comes_then kept (turns_pass n (with_turns A memory counts) enough ends)

    loop_passes : (p : ℕ) (repeats : List Repeat) (l : Loop TableTest) (a k : Table) (rest : List TableLine)
        → drop p lines ≡ repeat l ∷ flat a (end_repeat ∷ rest) → BeganBefore p repeats
        → ((asks : Bool) (left : ℕ) → Passes a (suc p) (loop_at p asks left ∷ repeats)) → Passes k (suc (suc p + rows a)) repeats
        → (memory : Memory A) → Roomy memory → Ends (at_row A p repeats memory) → Comes (TurnsRound k) memory (suc (suc p + rows a) + rows k) repeats
    unfolding step_at
    loop_passes p repeats (times m) a k rest here began body after memory enough ends =
        turns_pass p repeats a k rest (past_line lines p _ _ here) body after m memory enough (ends_on here refl ends)
    loop_passes p repeats (while (whether f) m) a k rest here began body after memory enough ends =
        while_passes p repeats a k rest (past_line lines p _ _ here) body after f m here (suc m) repeats memory (first_pending A p repeats memory (suc m) began)
        enough ends
    loop_passes p repeats (while on_turn m) a k rest here began body after memory enough ends =
        count_passes p repeats a k rest (past_line lines p _ _ here) body after memory enough memory.turns (ends_by (at_row A p repeats memory) _ here ends)

    -- ---- any tree

    -- the row written otherwise
    comes_to : {Turned : Type 0} {before : Memory A} {q r : ℕ} {repeats : List Repeat} → q ≡ r → Comes Turned before q repeats → Comes Turned before r repeats
    comes_to {Turned} {before} {repeats = repeats} e c = subst (λ q. Comes Turned before q repeats) e c

    tree_passes : (t : Table) (p : ℕ) (rest : List TableLine) (repeats : List Repeat) → drop p lines ≡ flat t rest → BeganBefore p repeats → Passes t p repeats
    unfolding TurnsRound flat rows step_at
    tree_passes done p rest repeats e began memory enough ends =
        comes_to (omega arith) (record { next = memory; kept = keeps_same {made = memory} refl refl refl; copied = λ never. absurd never; ends = ends })
    tree_passes (one row k) p rest repeats e began memory enough ends =
        comes_to (omega arith)
        (action_passes p repeats row k (tree_passes k (suc p) rest repeats (past_line lines p _ _ e) (began_earlier p _ repeats (omega arith) began))
        memory enough (acted A setting row.action memory) refl (ends_by (at_row A p repeats memory) _ e ends))
    tree_passes (fork f a b k) p rest repeats e began memory enough ends =
        let at_a = past_line lines p _ _ e in
        let at_b = past_line lines (suc p + rows a) else_line _ (past_tree lines (suc p) a _ at_a) in
        let at_k = past_line lines (suc (suc p + rows a) + rows b) end_if _ (past_tree lines (suc (suc p + rows a)) b _ at_b) in
        comes_to (omega arith)
        (test_passes p repeats f a b k (flat k rest) e (tree_passes a (suc p) _ repeats at_a (began_earlier p _ repeats (omega arith) began))
        (tree_passes b (suc (suc p + rows a)) _ repeats at_b (began_earlier p _ repeats (omega arith) began))
        (tree_passes k (suc (suc (suc p + rows a) + rows b)) rest repeats at_k (began_earlier p _ repeats (omega arith) began))
        memory enough (tested A f memory) refl (ends_by (at_row A p repeats memory) _ e ends))
    tree_passes (again l a k) p rest repeats e began memory enough ends =
        let at_a = past_line lines p _ _ e in
        let at_k = past_line lines (suc p + rows a) end_repeat _ (past_tree lines (suc p) a _ at_a) in
        comes_to (omega arith)
        (loop_passes p repeats l a k (flat k rest) e began (λ asks left. tree_passes a (suc p) _ (loop_at p asks left ∷ repeats) at_a (omega arith))
        (tree_passes k (suc (suc p + rows a)) rest repeats at_k (began_earlier p _ repeats (omega arith) began)) memory enough ends)

  -- ---- a whole table

  pub adjoint_copies : (body : Body) (memory after : Memory A) → Roomy memory
      → run_of A (adjoint_table setting.variables body) setting (at_row A 0 [] memory) ≡ ended after → length after.copied ≡ setting.variables
  unfolding adjoint_table run_of lines_of step_at TurnsRound
  adjoint_copies body memory after enough e =
      let table = adjoint_table setting.variables body in
      let lines = flat table [] in
      let c = tree_passes lines after table 0 [] [] refl tt memory enough (record { steps = enough_steps; is = e }) in
      let last = ends_by lines after (at_row A (0 + rows table) [] c.next) [] (past_tree lines 0 table [] refl) c.ends in
      ap (λ m. length m.copied) (sym last) ∙ c.copied (forward_turns body _ (inl refl))
