-- The row machine on a table's lines does what executing the table's tree in the large gives, noting the same of what derivative rows
-- read, and a run takes no more steps than it may. A stop is at the row that the run in the large with its rows numbered names. Where that is stuck,
-- the machine needn't be: in the large a count above the most turns of its loop is stuck, and the machine does that many turns. So what is said of being
-- stuck stands under a premise `Plain`, from which it follows that the table has no blocks.
use Prim.Native.Nat.{ℕ, zero, suc, ◌+◌, ◌*◌, ◌-◌, ◌≤◌, ◌<◌, max}
use mathlib.Core.Path.{◌≡◌, refl, sym, ap, subst, ◌∙◌}
use mathlib.Core.Bool.{Bool, true, false, cond, and-false}
use mathlib.Core.List.{List, [], ◌∷◌, ◌++◌, append-nil}
use mathlib.Core.Option.{Option, none, some}
use lib.Dec.{leb}
use lib.ListN.{drop}
use native.Mathlib.Nat.{add-zero, mul-le-mul_right}
use native.Mathlib.Omega.{arith}
use borrow.Author.Tests.{eq-eqb, ne_eqb, leb-true}
use Rattle.number.specs.Arithmetic.{Arithmetic}
use Rattle.sheet.specs.Rows.{Test}
use Rattle.sheet.specs.Tree.{Loop, times, while, done, one, fork, again, basic, if_line, else_line, end_if, repeat, end_repeat, flat, rows, RowNumber}
use Rattle.sheet.proofs.Depth.{deep}
use Rattle.table.specs.TableRows.{TableRow, TableTest, whether, on_turn, TableLine, Table, lines_of}
use Rattle.machine.specs.Actions.{Attempt, through, halted, stuck, ◌>>=◌, present, turns_then, while_then, Memory, Setting, with_turns, count_kept, Stop, stopping_at, Verdict, acted, compared, tested}
use Rattle.machine.specs.Machine.{one_more, Repeat, State, Step, goes_on, ended, stops, sticks, Pending, pending, seek_close}
use Rattle.machine.specs.Machine.{jump, after_action, branch_to, after_test, loop_ends, answered, asked, on_count, step_at, step, if_it_goes_on, state_after, steps_of}
use Rattle.machine.specs.InTheLarge.{turns_or, count_then, table_run, turns_log, while_log, turns_log_or, count_log, table_log}
use Rattle.machine.specs.RowReads.{Entry, noted, noted_at, machine_log, on_through}
use Rattle.machine.proofs.LinesPassed.{past_line, past_tree, seek_else, seek_end, seek_close_lem}
use Rattle.machine.proofs.StepsInTurn.{steps_add, one_step_is, log_add, log_first}
use Rattle.run.specs.Runs.{enough_steps, run_of}
use Rattle.run.proofs.RowsInTheLarge.{ResultAt, in_row, without_row, without_its_row, kept_in_row, table_run_at, run_without_row}

-- a loop under way, by its row
abbrev pub loop_at : ℕ → (asks : Bool) → (left : ℕ) → Repeat
loop_at p asks left = record { start = record { index = p }; asks = asks; left = left }

-- the innermost open loop began before this row: it isn't the one that begins here
abbrev pub BeganBefore : ℕ → List Repeat → Type 0
BeganBefore p [] = Unit {0}
BeganBefore p (r ∷ outer) = r.start.index < p

pub began_earlier : (p q : ℕ) (repeats : List Repeat) → p ≤ q → BeganBefore p repeats → BeganBefore q repeats
began_earlier p q [] h began = tt
began_earlier p q (r ∷ outer) h began = omega arith

-- ---- what so many steps come to

module _ (A : Arithmetic) where
  abbrev pub at_row : ℕ → List Repeat → Memory A → State A
  at_row p repeats memory = record { at = record { index = p }; repeats = repeats; memory = memory }

  abbrev pub Result : Type 0
  Result = Attempt (Stop A) (Memory A)

  -- a step comes to what an execution in the large gives: on to row p, the same stop, or stuck
  abbrev pub LandsAt : (Plain : Type 0) → ℕ → List Repeat → Result → Step A → Type 0
  LandsAt Plain p repeats (through memory) out = out ≡ goes_on (at_row p repeats memory)
  LandsAt Plain p repeats (halted stop) out = (row : RowNumber) × (out ≡ stops row stop)
  LandsAt Plain p repeats stuck out = Plain → out ≡ sticks

  -- the same, with the row that a stop is at
  abbrev pub LandsExactly : (Plain : Type 0) → ℕ → List Repeat → ResultAt A → Step A → Type 0
  LandsExactly Plain p repeats (through memory) out = out ≡ goes_on (at_row p repeats memory)
  LandsExactly Plain p repeats (halted at) out = out ≡ stops at.row at.stop
  LandsExactly Plain p repeats stuck out = Plain → out ≡ sticks

  lands_without_row : (Plain : Type 0) (p : ℕ) (repeats : List Repeat) (x : ResultAt A) (out : Step A) → LandsExactly Plain p repeats x out
      → LandsAt Plain p repeats (without_row A x) out
  lands_without_row Plain p repeats (through memory) out h = h
  lands_without_row Plain p repeats (halted at) out h = (at.row, h)
  lands_without_row Plain p repeats stuck out h = h

  -- ---- where single steps lead

  -- past a line that was found
  pub jumps : (s : State A) (memory : Memory A) (o : Option ℕ) (n : ℕ) {q : ℕ} → o ≡ some n → s.at.index + suc n ≡ q
      → jump A s memory (one_more o) ≡ goes_on (at_row q s.repeats memory)
  jumps s memory o n e h = ap (λ x. jump A s memory (one_more x)) e ∙ ap (λ q. goes_on (at_row q s.repeats memory)) h

  module _ (p : ℕ) (repeats : List Repeat) where
    -- past a whole loop, from its row
    pub past_loop : (a : Table) (rest : List TableLine) (memory : Memory A)
        → jump A (at_row p repeats memory) memory (one_more (seek_close 0 (flat a (end_repeat ∷ rest)))) ≡ goes_on (at_row (suc (suc p + rows a)) repeats memory)
    past_loop a rest memory = jumps (at_row p repeats memory) memory _ _ (seek_close_lem a rest) (omega arith)

    -- at the row of a loop with a test that isn't under way yet
    pub first_pending : (memory : Memory A) (most : ℕ) → BeganBefore p repeats
        → pending A (at_row p repeats memory) most repeats ≡ record { left = most; outer = repeats }
    first_pending memory most = by_loops repeats
      where
        by_loops : (around : List Repeat) → BeganBefore p around
            → pending A (at_row p around memory) most around ≡ record { left = most; outer = around }
        by_loops [] began = refl
        by_loops (r ∷ outer) began = rw (ne_eqb r.start.index p (λ e. omega arith), and-false r.asks)

    -- and of one that is
    pub same_pending : (left : ℕ) (memory : Memory A) (most : ℕ)
        → pending A (at_row p (loop_at p true left ∷ repeats) memory) most (loop_at p true left ∷ repeats) ≡ record { left = left; outer = repeats }
    same_pending left memory most = rw (eq-eqb p p refl)

  -- one step there, with so many turns still to come
  pub asks_with : {left : ℕ} {outer : List Repeat} (setting : Setting A) (f : Test) (m : ℕ) (rest : List TableLine) (p : ℕ) (around : List Repeat)
      (memory : Memory A) → pending A (at_row p around memory) (suc m) around ≡ record { left = left; outer = outer }
      → step_at A setting (at_row p around memory) (repeat (while (whether f) m) ∷ rest)
      ≡ asked A setting (at_row p around memory) rest (suc m) left outer (compared A f memory.store)
  unfolding step_at
  asks_with setting f m rest p around memory =
      ap (λ (now : Pending A). asked A setting (at_row p around memory) rest (suc m) now.left now.outer (compared A f memory.store))

  module _ (setting : Setting A) (lines : List TableLine) where
    step_at_lem : (s : State A) (here : List TableLine) → drop s.at.index lines ≡ here → step A setting lines s ≡ step_at A setting s here
    unfolding step
    step_at_lem s here e = ap (step_at A setting s) e

    -- where the steps no longer go on, more of them change nothing
    pub more_steps_same : (n more : ℕ) (s : State A) → ((state : State A) → state_after A n setting lines s ≡ goes_on state → ⊥)
        → state_after A (n + more) setting lines s ≡ state_after A n setting lines s
    more_steps_same n more s enough = steps_add A setting lines n more s ∙ by_step (state_after A n setting lines s) enough
      where
        by_step : (x : Step A) → ((state : State A) → x ≡ goes_on state → ⊥) → if_it_goes_on A x (λ next. state_after A more setting lines next) ≡ x
        by_step (goes_on next) h = absurd (h next refl)
        by_step (ended memory) h = refl
        by_step (stops row stop) h = refl
        by_step sticks h = refl

  -- ---- a tree's lines

  module _ (Plain : Type 0) (setting : Setting A) (lines : List TableLine) where
    -- from this state, within so many steps. A step that stops or sticks is among them: its row has been noted. Where a count is too high they lead up
    -- to its loop's row.
    pub record Reaches (start : State A) (bound : ℕ) (p : ℕ) (repeats : List Repeat) (result : Result) (log : List (Entry A)) : Type 0 where
      pub steps : ℕ
      pub few : steps ≤ bound
      pub lands : LandsAt Plain p repeats result (state_after A steps setting lines start)
      pub notes : machine_log A steps setting lines start ≡ log

    -- the same, with the row that a stop is at
    pub record ReachesAt (start : State A) (bound : ℕ) (p : ℕ) (repeats : List Repeat) (result : ResultAt A) (log : List (Entry A)) : Type 0 where
      pub steps : ℕ
      pub few : steps ≤ bound
      pub lands : LandsExactly Plain p repeats result (state_after A steps setting lines start)
      pub notes : machine_log A steps setting lines start ≡ log

    -- the machine from row p on does what the tree gives in the large
    abbrev Follows : Table → (p : ℕ) → List Repeat → Type 0
    Follows t p repeats =
        (memory : Memory A)
        → ReachesAt (at_row p repeats memory) (steps_of t) (p + rows t) repeats (table_run_at A setting t p memory) (table_log A setting t memory)

    -- one execution after another, the first of which is y without the number of its row
    then_reaches : {s : State A} {n m p q : ℕ} {outer inner : List Repeat} {log : List (Entry A)} (x : ResultAt A) (y : Result)
        (next : Memory A → ResultAt A) (later : Memory A → List (Entry A)) → without_row A x ≡ y → ReachesAt s n p inner x log
        → ((memory : Memory A) → ReachesAt (at_row p inner memory) m q outer (next memory) (later memory))
        → ReachesAt s (n + m) q outer (x >>= next) (log ++ on_through A y later)
    then_reaches {s} {outer} (through memory) y next later same first second =
        let h = second memory in
        record {
          steps = first.steps + h.steps;
          few = omega (arith, first.few, h.few);
          lands = rw (steps_add A setting lines first.steps h.steps s, first.lands) h.lands;
          notes = rw (log_add A setting lines first.steps h.steps s, first.lands, first.notes, h.notes, sym same);
        }
    then_reaches {s} {log} (halted at) y next later same first second =
        record {
          steps = first.steps;
          few = omega (arith, first.few);
          lands = first.lands;
          notes = rw (sym same) (first.notes ∙ sym (append-nil log));
        }
    then_reaches {s} {log} stuck y next later same first second =
        record {
          steps = first.steps;
          few = omega (arith, first.few);
          lands = first.lands;
          notes = rw (sym same) (first.notes ∙ sym (append-nil log));
        }

    abbrev noted_from : State A → List TableLine → List (Entry A)
    noted_from s here = noted_at A setting.variables here s.memory

    -- one step by itself
    one_step : {s : State A} {here : List TableLine} {p : ℕ} {repeats : List Repeat} (x : ResultAt A) → drop s.at.index lines ≡ here
        → LandsExactly Plain p repeats x (step_at A setting s here) → ReachesAt s 1 p repeats x (noted_from s here)
    unfolding machine_log
    one_step {s} {here} {p} {repeats} x e h =
        record {
          steps = 1;
          few = omega arith;
          lands = subst (LandsExactly Plain p repeats x) (sym (one_step_is A setting lines s ∙ step_at_lem setting lines s here e)) h;
          notes = ap (noted_from s) e;
        }

    -- a step that notes nothing, and what comes after it
    after_step : {s s' : State A} {here : List TableLine} {n p : ℕ} {repeats : List Repeat} {x : ResultAt A} {log : List (Entry A)}
        → drop s.at.index lines ≡ here → noted_from s here ≡ [] → step_at A setting s here ≡ goes_on s' → ReachesAt s' n p repeats x log
        → ReachesAt s (1 + n) p repeats x log
    unfolding state_after
    after_step {s} {s'} {here} e nothing on h =
        let next : step A setting lines s ≡ goes_on s' = step_at_lem setting lines s here e ∙ on in
        let quiet : noted_from s (drop s.at.index lines) ≡ [] = ap (noted_from s) e ∙ nothing in
        record {
          steps = suc h.steps;
          few = omega (arith, h.few);
          lands = rw next h.lands;
          notes = log_first A setting lines h.steps s ∙ rw (quiet, next) h.notes;
        }

    -- the bound may be larger, and the row written otherwise
    within_more : {s : State A} {n m p q : ℕ} {repeats : List Repeat} {x : ResultAt A} {log : List (Entry A)} → n ≤ m → p ≡ q
        → ReachesAt s n p repeats x log → ReachesAt s m q repeats x log
    within_more {s} {repeats} {x} few e h =
        record {
          steps = h.steps;
          few = omega (arith, h.few);
          lands = subst (λ row. LandsExactly Plain row repeats x (state_after A h.steps setting lines s)) e h.lands;
          notes = h.notes;
        }

    -- ---- a tree's lines, line by line

    action_lands : (p : ℕ) (repeats : List Repeat) (memory : Memory A) (x : Result)
        → LandsExactly Plain (suc p) repeats (in_row A p x) (after_action A (at_row p repeats memory) x)
    action_lands p repeats memory (through next) = refl
    action_lands p repeats memory (halted stop) = refl
    action_lands p repeats memory stuck = λ plain. refl

    row_follows : (p : ℕ) (repeats : List Repeat) (memory : Memory A) (row : TableRow) (rest : List TableLine) → drop p lines ≡ basic row ∷ rest
        → ReachesAt (at_row p repeats memory) 1 (suc p) repeats (in_row A p (stopping_at A row.origin (acted A setting row.action memory)))
        (noted A setting.variables row memory)
    unfolding step_at
    row_follows p repeats memory row rest e =
        let x = stopping_at A row.origin (acted A setting row.action memory) in
        one_step (in_row A p x) e (action_lands p repeats memory x)

    -- a loop's turns, where its body stands behind row p
    module _ (p : ℕ) (repeats : List Repeat) (a k : Table) (rest : List TableLine) (standing : drop (suc p) lines ≡ flat a (end_repeat ∷ rest))
        (body : (asks : Bool) (left : ℕ) → Follows a (suc p) (loop_at p asks left ∷ repeats))
        (after : Follows k (suc (suc p + rows a)) repeats) where
      abbrev turn_at : Memory A → ResultAt A
      turn_at = table_run_at A setting a (suc p)

      -- the row behind the loop, and what follows
      abbrev beyond : ℕ
      beyond = suc (suc p + rows a)

      abbrev then_at : Memory A → ResultAt A
      then_at = table_run_at A setting k beyond

      -- so many turns to come after this one, once the loop's row has been passed
      turns_follow : (m : ℕ) (memory : Memory A)
          → ReachesAt (at_row (suc p) (loop_at p false m ∷ repeats) memory) (suc m * (steps_of a + 1) + steps_of k) (beyond + rows k) repeats
          (turns_then m turn_at then_at memory) (turns_log A m (table_run A setting a) (table_log A setting a) (table_log A setting k) memory)
      unfolding turns_then turns_log step_at
      turns_follow zero memory =
          within_more (omega arith) refl
          (then_reaches (turn_at memory) (table_run A setting a memory) then_at (table_log A setting k) (run_without_row A setting a (suc p) memory)
          (body false 0 memory) (λ next. after_step (past_tree lines (suc p) a _ standing) refl refl (after next)))
      turns_follow (suc m) memory =
          within_more (omega arith) refl
          (then_reaches (turn_at memory) (table_run A setting a memory) (turns_then m turn_at then_at)
          (turns_log A m (table_run A setting a) (table_log A setting a) (table_log A setting k)) (run_without_row A setting a (suc p) memory)
          (body false (suc m) memory)
          (λ next. after_step (past_tree lines (suc p) a _ standing) refl refl (turns_follow m next)))

      -- what stands behind the loop's row
      abbrev in_loop : List TableLine
      in_loop = flat a (end_repeat ∷ rest)

      -- ---- a loop with a test

      module _ (f : Test) (m : ℕ) (here : drop p lines ≡ repeat (while (whether f) m) ∷ in_loop) where
        abbrev holds : Memory A → Option Bool
        holds memory = compared A f memory.store

        -- its end, with what its row puts away
        end_lands : (around : List Repeat) (memory : Memory A) (kept : Result)
            → LandsExactly Plain beyond repeats (in_row A p kept) (loop_ends A (at_row p around memory) in_loop repeats kept)
        end_lands around memory (through next) = past_loop p repeats a rest next
        end_lands around memory (halted stop) = refl
        end_lands around memory stuck = λ plain. refl

        end_follows : (n : ℕ) (around : List Repeat) (memory : Memory A)
            → step_at A setting (at_row p around memory) (repeat (while (whether f) m) ∷ in_loop)
            ≡ loop_ends A (at_row p around memory) in_loop repeats (count_kept A setting n memory)
            → ReachesAt (at_row p around memory) (1 + steps_of k) (beyond + rows k) repeats (count_kept A setting n memory >>= then_at)
            (on_through A {W = Stop A} (count_kept A setting n memory) (table_log A setting k))
        end_follows n around memory e =
            let kept : Result = count_kept A setting n memory in
            let ends = end_lands around memory kept in
            subst (λ x. ReachesAt (at_row p around memory) (1 + steps_of k) (beyond + rows k) repeats (x >>= then_at) (on_through A kept (table_log A setting k)))
            (kept_in_row A p setting n memory)
            (then_reaches (in_row A p kept) kept then_at (table_log A setting k) (without_its_row A p kept)
            (one_step (in_row A p kept) here (subst (LandsExactly Plain beyond repeats (in_row A p kept)) (sym e) ends)) after)

        abbrev while_notes : (turns_done left : ℕ) → Memory A → List (Entry A)
        while_notes = while_log A {W = Stop A} holds (table_run A setting a) (count_kept A setting) (table_log A setting a) (table_log A setting k)

        -- So many turns done, at most so many still to come. The machine is at the loop's row for the first time, or again.
        while_follows : (left n : ℕ) → n + left ≡ suc m → (around : List Repeat) (memory : Memory A)
            → pending A (at_row p around memory) (suc m) around ≡ record { left = left; outer = repeats }
            → ReachesAt (at_row p around memory) (1 + left * (steps_of a + 2) + steps_of k) (beyond + rows k) repeats
            (while_then holds turn_at (count_kept A setting) then_at n left memory) (while_notes n left memory)
        unfolding while_then while_log step_at
        while_follows zero n all around memory now =
            let last : suc m ≡ n = omega arith in
            within_more (omega arith) refl
            (end_follows n around memory
            (asks_with setting f m in_loop p around memory now ∙ ap (λ c. loop_ends A (at_row p around memory) in_loop repeats (count_kept A setting c memory)) last))
        while_follows (suc left) n all around memory now =
            by_answer (holds memory) (asks_with setting f m in_loop p around memory now)
            (λ next. while_follows left (suc n) (omega arith) (loop_at p true left ∷ repeats) next (same_pending p repeats left next (suc m)))
          where
            by_answer : (answer : Option Bool)
                → step_at A setting (at_row p around memory) (repeat (while (whether f) m) ∷ in_loop)
                ≡ answered A setting (at_row p around memory) in_loop (suc m) left repeats answer
                → ((next : Memory A) → ReachesAt (at_row p (loop_at p true left ∷ repeats) next) (1 + left * (steps_of a + 2) + steps_of k) (beyond + rows k) repeats
                (while_then holds turn_at (count_kept A setting) then_at (suc n) left next) (while_notes (suc n) left next))
                → ReachesAt (at_row p around memory) (1 + suc left * (steps_of a + 2) + steps_of k) (beyond + rows k) repeats
                (present answer >>= λ more. cond more (turn_at memory >>= while_then holds turn_at (count_kept A setting) then_at (suc n) left)
                (count_kept A setting n memory >>= then_at))
                (on_through A {W = Stop A} (present answer)
                (λ more. cond more (table_log A setting a memory ++ on_through A (table_run A setting a memory) (while_notes (suc n) left))
                (on_through A {W = Stop A} (count_kept A setting n memory) (table_log A setting k))))
            by_answer none e later = within_more (omega arith) refl (one_step stuck here (λ plain. e))
            by_answer (some true) e later =
                within_more (omega arith) refl
                (then_reaches (turn_at memory) (table_run A setting a memory) (while_then holds turn_at (count_kept A setting) then_at (suc n) left)
                (while_notes (suc n) left) (run_without_row A setting a (suc p) memory) (after_step here refl e (body true (suc left) memory))
                (λ next. after_step (past_tree lines (suc p) a _ standing) refl refl (later next)))
            by_answer (some false) e later =
                let count : suc m - suc left ≡ n = omega arith in
                within_more (omega arith) refl
                (end_follows n around memory (e ∙ ap (λ c. loop_ends A (at_row p around memory) in_loop repeats (count_kept A setting c memory)) count))

      -- ---- a loop on a count that is taken back

      module _ (m : ℕ) (here : drop p lines ≡ repeat (while on_turn m) ∷ in_loop) (blocks : Plain → ⊥) where
        abbrev CountReaches : Memory A → ResultAt A → List (Entry A) → Type 0
        CountReaches memory result log =
            ReachesAt (at_row p repeats memory) (1 + suc m * (steps_of a + 2) + steps_of k) (beyond + rows k) repeats result log

        count_follows : (memory : Memory A) (counts : List ℕ)
            → step_at A setting (at_row p repeats memory) (repeat (while on_turn m) ∷ in_loop) ≡ on_count A (at_row p repeats memory) in_loop counts
            → CountReaches memory (count_then A (suc m) turn_at then_at memory counts)
            (count_log A (suc m) (table_run A setting a) (table_log A setting a) (table_log A setting k) memory counts)
        unfolding count_then count_log machine_log
        count_follows memory [] e = within_more (omega arith) refl (one_step stuck here (λ plain. e))
        count_follows memory (count ∷ counts) e = by_bound (leb count (suc m)) count refl e
          where
            by_bound : (may : Bool) (n : ℕ) → leb n (suc m) ≡ may
                → step_at A setting (at_row p repeats memory) (repeat (while on_turn m) ∷ in_loop) ≡ on_count A (at_row p repeats memory) in_loop (n ∷ counts)
                → CountReaches memory (cond may (turns_or A n turn_at then_at (with_turns A memory counts)) stuck)
                (cond may (turns_log_or A n (table_run A setting a) (table_log A setting a) (table_log A setting k) (with_turns A memory counts)) [])
            by_bound false n is e = record { steps = 0; few = omega arith; lands = λ plain. absurd (blocks plain); notes = refl }
            by_bound true zero is e =
                let taken = with_turns A memory counts in
                within_more (omega arith) refl (after_step here refl (e ∙ past_loop p repeats a rest taken) (after taken))
            by_bound true (suc n) is e =
                let few = leb-true (suc n) (suc m) is in
                within_more (omega (arith, mul-le-mul_right (steps_of a + 2) few)) refl (after_step here refl e (turns_follow n (with_turns A memory counts)))

    -- any loop, by how it turns
    loop_follows : (p : ℕ) (repeats : List Repeat) (l : Loop TableTest) (a k : Table) (rest : List TableLine)
        → drop p lines ≡ repeat l ∷ flat a (end_repeat ∷ rest) → BeganBefore p repeats → (Plain → ⊥)
        → ((asks : Bool) (left : ℕ) → Follows a (suc p) (loop_at p asks left ∷ repeats))
        → Follows k (suc (suc p + rows a)) repeats → Follows (again l a k) p repeats
    unfolding table_run_at table_log steps_of rows step_at
    loop_follows p repeats (times m) a k rest here began blocks body after memory =
        within_more (omega arith) (omega arith)
        (after_step here refl refl (turns_follow p repeats a k rest (past_line lines p _ _ here) body after m memory))
    loop_follows p repeats (while (whether f) m) a k rest here began blocks body after memory =
        within_more (omega arith) (omega arith)
        (while_follows p repeats a k rest (past_line lines p _ _ here) body after f m here (suc m) 0 (omega arith) repeats memory
        (first_pending p repeats memory (suc m) began))
    loop_follows p repeats (while on_turn m) a k rest here began blocks body after memory =
        within_more (omega arith) (omega arith)
        (count_follows p repeats a k rest (past_line lines p _ _ here) body after m here blocks memory memory.turns refl)

    -- an "if" block, by the branch that its test picks
    module _ (p : ℕ) (repeats : List Repeat) (f : TableTest) (a b k : Table) (rest : List TableLine)
        (standing : drop p lines ≡ if_line f ∷ flat a (else_line ∷ flat b (end_if ∷ rest)))
        (first : Follows a (suc p) repeats) (second : Follows b (suc (suc p + rows a)) repeats)
        (after : Follows k (suc (suc (suc p + rows a) + rows b)) repeats) where
      -- what stands behind the test
      abbrev behind : List TableLine
      behind = flat a (else_line ∷ flat b (end_if ∷ rest))

      abbrev split : ℕ
      split = suc p + rows a

      abbrev picked : Bool → Memory A → Result
      picked taken memory = cond taken (table_run A setting a memory) (table_run A setting b memory)

      abbrev picked_at : Bool → Memory A → ResultAt A
      picked_at taken memory = cond taken (table_run_at A setting a (suc p) memory) (table_run_at A setting b (suc split) memory)

      -- what follows the block
      abbrev after_at : Memory A → ResultAt A
      after_at = table_run_at A setting k (suc (suc split + rows b))

      abbrev picked_log : Bool → Memory A → List (Entry A)
      picked_log taken memory =
          cond taken (table_log A setting a memory) (table_log A setting b memory) ++ on_through A (picked taken memory) (table_log A setting k)

      abbrev ReachesEnd : Memory A → ResultAt A → List (Entry A) → Type 0
      ReachesEnd before result log =
          ReachesAt (at_row p repeats before) (2 + max (steps_of a) (steps_of b) + steps_of k) (suc (suc split + rows b) + rows k) repeats result log

      branch_follows : (before memory : Memory A) (taken : Bool)
          → step_at A setting (at_row p repeats before) (if_line f ∷ behind) ≡ branch_to A (at_row p repeats before) behind taken memory
          → ReachesEnd before (picked_at taken memory >>= after_at) (picked_log taken memory)
      unfolding step_at
      branch_follows before memory true e =
          let at_a = past_line lines p _ _ standing in
          within_more (omega arith) refl
          (then_reaches (table_run_at A setting a (suc p) memory) (table_run A setting a memory) after_at (table_log A setting k)
          (run_without_row A setting a (suc p) memory) (after_step standing refl e (first memory))
          (λ next. after_step (past_tree lines (suc p) a _ at_a) refl
          (jumps (at_row split repeats next) next _ _ (seek_end b rest) (omega arith)) (after next)))
      branch_follows before memory false e =
          let at_a = past_line lines p _ _ standing in
          let at_b = past_line lines split else_line _ (past_tree lines (suc p) a _ at_a) in
          within_more (omega arith) refl
          (then_reaches (table_run_at A setting b (suc split) memory) (table_run A setting b memory) after_at (table_log A setting k)
          (run_without_row A setting b (suc split) memory)
          (after_step standing refl (e ∙ jumps (at_row p repeats before) memory _ _ (seek_else a _) (omega arith)) (second memory))
          (λ next. after_step (past_tree lines (suc split) b _ at_b) refl refl (after next)))

      test_follows : (memory : Memory A) (verdict : Option (Verdict A))
          → step_at A setting (at_row p repeats memory) (if_line f ∷ behind) ≡ after_test A (at_row p repeats memory) behind verdict
          → ReachesEnd memory (present verdict >>= λ v. picked_at v.first v.memory >>= after_at)
          (on_through A {W = Stop A} (present verdict) (λ v. picked_log v.first v.memory))
      test_follows memory none e = within_more (omega arith) refl (one_step stuck standing (λ plain. e))
      test_follows memory (some v) e = branch_follows memory v.memory v.first e

    -- the machine on a tree's lines, whatever stands behind them and whatever loops are open
    pub reaches_at : (t : Table) (p : ℕ) (rest : List TableLine) (repeats : List Repeat) (memory : Memory A) → drop p lines ≡ flat t rest
        → BeganBefore p repeats → (Plain → deep t ≡ 0)
        → ReachesAt (at_row p repeats memory) (steps_of t) (p + rows t) repeats (table_run_at A setting t p memory) (table_log A setting t memory)
    unfolding table_run_at table_run table_log steps_of rows flat step_at deep
    reaches_at done p rest repeats memory e began plain =
        record {
          steps = 0;
          few = omega arith;
          lands = unfold state_after in ap (λ q. goes_on (at_row q repeats memory)) (sym (add-zero p));
          notes = unfold machine_log in refl;
        }
    reaches_at (one row k) p rest repeats memory e began plain =
        let x = stopping_at A row.origin (acted A setting row.action memory) in
        within_more (omega arith) (omega arith)
        (then_reaches (in_row A p x) x (table_run_at A setting k (suc p)) (table_log A setting k) (without_its_row A p x)
        (row_follows p repeats memory row _ e)
        (λ next. reaches_at k (suc p) rest repeats next (past_line lines p _ _ e) (began_earlier p (suc p) repeats (omega arith) began) plain))
    reaches_at (fork f a b k) p rest repeats memory e began plain =
        let at_a = past_line lines p _ _ e in
        let at_b = past_line lines (suc p + rows a) else_line _ (past_tree lines (suc p) a _ at_a) in
        let at_k = past_line lines (suc (suc p + rows a) + rows b) end_if _ (past_tree lines (suc (suc p + rows a)) b _ at_b) in
        let earlier : (q : ℕ) → p ≤ q → BeganBefore q repeats = λ q h. began_earlier p q repeats h began in
        within_more (omega arith) (omega arith)
        (test_follows p repeats f a b k (flat k rest) e
        (λ next. reaches_at a (suc p) _ repeats next at_a (earlier _ (omega arith)) (λ is. omega (arith, plain is)))
        (λ next. reaches_at b (suc (suc p + rows a)) _ repeats next at_b (earlier _ (omega arith)) (λ is. omega (arith, plain is)))
        (λ next. reaches_at k (suc (suc (suc p + rows a) + rows b)) rest repeats next at_k (earlier _ (omega arith)) (λ is. omega (arith, plain is)))
        memory (tested A f memory) refl)
    reaches_at (again l a k) p rest repeats memory e began plain =
        let at_a = past_line lines p _ _ e in
        let at_k = past_line lines (suc p + rows a) end_repeat _ (past_tree lines (suc p) a _ at_a) in
        loop_follows p repeats l a k (flat k rest) e began (λ is. omega (arith, plain is))
        (λ asks left next. reaches_at a (suc p) _ (loop_at p asks left ∷ repeats) next at_a (omega arith) (λ is. omega (arith, plain is)))
        (λ next. reaches_at k (suc (suc p + rows a)) rest repeats next at_k (began_earlier p _ repeats (omega arith) began) (λ is. omega (arith, plain is)))
        memory

    -- the same without the row that a stop is at
    pub reaches : (t : Table) (p : ℕ) (rest : List TableLine) (repeats : List Repeat) (memory : Memory A) → drop p lines ≡ flat t rest
        → BeganBefore p repeats → (Plain → deep t ≡ 0)
        → Reaches (at_row p repeats memory) (steps_of t) (p + rows t) repeats (table_run A setting t memory) (table_log A setting t memory)
    reaches t p rest repeats memory e began plain =
        let h = reaches_at t p rest repeats memory e began plain in
        let there = state_after A h.steps setting lines (at_row p repeats memory) in
        record {
          steps = h.steps;
          few = h.few;
          lands = subst (λ x. LandsAt Plain (p + rows t) repeats x there) (run_without_row A setting t p memory)
              (lands_without_row Plain (p + rows t) repeats (table_run_at A setting t p memory) there h.lands);
          notes = h.notes;
        }

  -- an execution that goes through is a number of steps to the row behind the tree
  pub goes_through : (setting : Setting A) (lines : List TableLine) (t : Table) (p : ℕ) (rest : List TableLine) (repeats : List Repeat)
      (memory next : Memory A) → drop p lines ≡ flat t rest → BeganBefore p repeats → table_run A setting t memory ≡ through next
      → (n : ℕ) × (n ≤ steps_of t) × (state_after A n setting lines (at_row p repeats memory) ≡ goes_on (at_row (p + rows t) repeats next))
  goes_through setting lines t p rest repeats memory next e began went =
      let h = reaches ⊥ setting lines t p rest repeats memory e began (λ never. absurd never) in
      let there = state_after A h.steps setting lines (at_row p repeats memory) in
      (h.steps, h.few, subst (λ x. LandsAt ⊥ (p + rows t) repeats x there) went h.lands)

  -- ---- a whole table

  -- a run comes to what an execution in the large gives: its end, the same stop, or stuck
  abbrev pub EndsAs : (Plain : Type 0) → Result → Step A → Type 0
  EndsAs Plain (through memory) out = out ≡ ended memory
  EndsAs Plain (halted stop) out = (row : RowNumber) × (out ≡ stops row stop)
  EndsAs Plain stuck out = Plain → out ≡ sticks

  -- the same, with the row that a stop is at
  abbrev pub EndsAt : (Plain : Type 0) → ResultAt A → Step A → Type 0
  EndsAt Plain (through memory) out = out ≡ ended memory
  EndsAt Plain (halted at) out = out ≡ stops at.row at.stop
  EndsAt Plain stuck out = Plain → out ≡ sticks

  ends_without_row : (Plain : Type 0) (x : ResultAt A) (out : Step A) → EndsAt Plain x out → EndsAs Plain (without_row A x) out
  ends_without_row Plain (through memory) out h = h
  ends_without_row Plain (halted at) out h = (at.row, h)
  ends_without_row Plain stuck out h = h

  module _ (setting : Setting A) (lines : List TableLine) (p : ℕ) (behind_all : drop p lines ≡ []) (repeats : List Repeat) where
    -- behind the last line the next step ends the run
    ends_behind : (n : ℕ) (memory : Memory A) → state_after A (suc n) setting lines (at_row p repeats memory) ≡ ended memory
    unfolding state_after step_at
    ends_behind n memory = rw (step_at_lem setting lines (at_row p repeats memory) [] behind_all)

    landed_ends : (Plain : Type 0) (n : ℕ) (x : ResultAt A) (out : Step A) → LandsExactly Plain p repeats x out
        → EndsAt Plain x (if_it_goes_on A out (λ next. state_after A (suc n) setting lines next))
    landed_ends Plain n (through memory) out h = rw h (ends_behind n memory)
    landed_ends Plain n (halted at) out h = rw h
    landed_ends Plain n stuck out h = λ plain. rw (h plain)

  module _ (Plain : Type 0) (table : Table) (setting : Setting A) (memory : Memory A) (plain : Plain → deep table ≡ 0) where
    -- by any number of steps that is enough
    steps_follow : (n : ℕ) → steps_of table < n
        → EndsAt Plain (table_run_at A setting table 0 memory) (state_after A n setting (flat table []) (at_row 0 [] memory))
    steps_follow n enough =
        let lines = flat table [] in
        let start = at_row 0 [] memory in
        let result = table_run_at A setting table 0 memory in
        let h = reaches_at Plain setting lines table 0 [] [] memory refl tt plain in
        let few = h.few in
        let more = n - suc h.steps in
        let all : h.steps + suc more ≡ n = omega arith in
        subst (EndsAt Plain result) (sym (steps_add A setting lines h.steps (suc more) start) ∙ ap (λ n. state_after A n setting lines start) all)
        (landed_ends setting lines (0 + rows table) (past_tree lines 0 table [] refl) [] Plain more result _ h.lands)

    module _ (enough : steps_of table < enough_steps) where
      pub run_follows_at : EndsAt Plain (table_run_at A setting table 0 memory) (run_of A table setting (at_row 0 [] memory))
      unfolding run_of lines_of
      run_follows_at = steps_follow enough_steps enough

      pub run_follows : EndsAs Plain (table_run A setting table memory) (run_of A table setting (at_row 0 [] memory))
      run_follows =
          subst (λ x. EndsAs Plain x (run_of A table setting (at_row 0 [] memory))) (run_without_row A setting table 0 memory)
          (ends_without_row Plain (table_run_at A setting table 0 memory) _ run_follows_at)

      -- a run does not go on after them, unless it is stuck in the large and the table has blocks
      pub steps_suffice : (table_run A setting table memory ≡ stuck → Plain) → (state : State A) → run_of A table setting (at_row 0 [] memory) ≡ goes_on state → ⊥
      steps_suffice unless state = by_result (table_run A setting table memory) (run_of A table setting (at_row 0 [] memory)) unless run_follows
        where
          by_result : (x : Result) (out : Step A) → (x ≡ stuck → Plain) → EndsAs Plain x out → out ≡ goes_on state → ⊥
          by_result (through next) out unless h e = let z : ◌≡◌ {A = ℕ} 0 1 = cc in absurd (omega arith)
          by_result (halted stop) out unless h e =
              let stopped = h.1 in
              let z : ◌≡◌ {A = ℕ} 0 1 = cc in
              absurd (omega arith)
          by_result stuck out unless h e =
              let stays = h (unless refl) in
              let z : ◌≡◌ {A = ℕ} 0 1 = cc in
              absurd (omega arith)
