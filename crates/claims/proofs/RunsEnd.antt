-- How the machine's steps in turn end: at a row whose operation the arithmetic refused, or past the last row; and each of the two only there.
use Prim.Native.Nat.{ℕ, zero, suc, ◌+◌, ◌-◌}
use mathlib.Core.Path.{◌≡◌, refl, sym, ap, subst, ◌∙◌}
use mathlib.Core.Bool.{Bool, true, false, cond}
use mathlib.Core.List.{List, [], ◌∷◌}
use mathlib.Core.Option.{Option, none, some}
use lib.Dec.{ltb}
use lib.ListN.{drop, length}
use native.Mathlib.Omega.{arith}
use Rattle.number.specs.Arithmetic.{Arithmetic}
use Rattle.sheet.specs.Tree.{times, while, basic, if_line, else_line, end_if, repeat, end_repeat, RowNumber}
use Rattle.table.specs.TableRows.{TableRow, TableLine, whether, on_turn, lines_of}
use Rattle.machine.specs.Actions.{Attempt, through, halted, stuck, ◌>>=◌, Memory, Setting, with_turns, count_kept, Verdict, acted, compared, tested, Stop, stopping_at}
use Rattle.machine.specs.Machine.{State, Step, goes_on, ended, stops, sticks, Repeat, one_more, its_else, its_end, seek, seek_close, jump, after_action, branch_to, after_test, after_turn, past_loop, pending, loop_ends, answered, asked, on_count, step_at, step, if_it_goes_on, state_after}
use Rattle.machine.proofs.StepsInTurn.{steps_add, one_step_is}
use Rattle.run.specs.Runs.{Job, enough_steps, run_of}
use Rattle.run.proofs.MachineFollows.{more_steps_same}
use Rattle.claims.specs.ExactlyWhen.{StoppedThere, FinishedWith}

-- it ended or stopped
abbrev pub EndsSome : (A : Arithmetic) → Step A → Type 0
EndsSome A (goes_on state) = ⊥
EndsSome A (ended memory) = Unit {0}
EndsSome A (stops row stop) = Unit {0}
EndsSome A sticks = ⊥

pub ended_goes_on_nowhere : (A : Arithmetic) (x : Step A) → EndsSome A x → (state : State A) → x ≡ goes_on state → ⊥
ended_goes_on_nowhere A x ends state e = subst (EndsSome A) e ends

module _ (A : Arithmetic) (setting : Setting A) (lines : List TableLine) where
  -- ---- the last of so many steps

  record LastStep (start : State A) (x : Step A) : Type 0 where
    steps : ℕ
    state : State A
    reached : state_after A steps setting lines start ≡ goes_on state
    is : step A setting lines state ≡ x

  last_step : (n : ℕ) (start : State A) (x : Step A) → EndsSome A x → state_after A n setting lines start ≡ x → LastStep start x
  unfolding state_after
  last_step zero start x ends e = absurd (ended_goes_on_nowhere A x ends start (sym e))
  last_step (suc n) start x ends e = by (step A setting lines start) refl e (λ next. last_step n next x ends)
    where
      by : (out : Step A) → step A setting lines start ≡ out → if_it_goes_on A out (λ next. state_after A n setting lines next) ≡ x
          → ((next : State A) → state_after A n setting lines next ≡ x → LastStep next x) → LastStep start x
      by (goes_on next) is e later =
          let last = later next e in
          record { steps = suc last.steps; state = last.state; reached = rw is last.reached; is = last.is }
      by (ended memory) is e later = record { steps = 0; state = start; reached = refl; is = is ∙ e }
      by (stops row stop) is e later = record { steps = 0; state = start; reached = refl; is = is ∙ e }
      by sticks is e later = record { steps = 0; state = start; reached = refl; is = is ∙ e }

  -- ---- one step

  module _ (state : State A) where
    record RefusedAt (row : RowNumber) (stop : Stop A) : Type 0 where
      at_row : state.at ≡ row
      line : TableRow
      rest : List TableLine
      there : drop state.at.index lines ≡ basic line ∷ rest
      comes_from : line.origin ≡ stop.origin
      refuses : acted A setting line.action state.memory ≡ halted stop.why

    record PastAll (memory : Memory A) : Type 0 where
      past : drop state.at.index lines ≡ []
      leaves : state.memory ≡ memory

    -- a step that stops or ends tells where; one that goes on or sticks tells nothing
    abbrev Reports : Step A → Type 0
    Reports (goes_on next) = Unit {0}
    Reports (ended memory) = PastAll memory
    Reports (stops row stop) = RefusedAt row stop
    Reports sticks = Unit {0}

    jump_reports : (from : State A) (memory : Memory A) (o : Option ℕ) → Reports (jump A from memory o)
    jump_reports from memory none = tt
    jump_reports from memory (some n) = tt

    past_loop_reports : (rest : List TableLine) (outer : List Repeat) (memory : Memory A) → Reports (past_loop A state rest outer memory)
    past_loop_reports rest outer memory = jump_reports (record { at = state.at; repeats = outer; memory = memory }) memory (one_more (seek_close 0 rest))

    branch_reports : (rest : List TableLine) (first : Bool) (memory : Memory A) → Reports (branch_to A state rest first memory)
    branch_reports rest true memory = tt
    branch_reports rest false memory = jump_reports state memory (one_more (seek its_else 0 rest))

    test_reports : (rest : List TableLine) (o : Option (Verdict A)) → Reports (after_test A state rest o)
    test_reports rest none = tt
    test_reports rest (some verdict) = branch_reports rest verdict.first verdict.memory

    turn_reports : (start : RowNumber) (asks : Bool) (left : ℕ) (outer : List Repeat)
        → Reports (after_turn A state (record { start = start; asks = asks; left = left } ∷ outer))
    turn_reports start asks zero outer = tt
    turn_reports start asks (suc left) outer = tt

    turns_report : (repeats : List Repeat) → Reports (after_turn A state repeats)
    turns_report [] = tt
    turns_report (r ∷ outer) = turn_reports r.start r.asks r.left outer

    -- a loop's row stops nothing, whatever it puts away
    end_reports : (rest : List TableLine) (outer : List Repeat) (count : ℕ) → Reports (loop_ends A state rest outer (count_kept A setting count state.memory))
    end_reports rest outer count = by setting.keeps_counts (ltb (length state.memory.turns) setting.turn_room)
      where
        by : (keeps fits : Bool)
            → Reports (loop_ends A state rest outer (cond keeps
            (cond fits (through (count ∷ state.memory.turns)) stuck >>= λ turns. through (with_turns A state.memory turns)) (through state.memory)))
        by true true = past_loop_reports rest outer (with_turns A state.memory (count ∷ state.memory.turns))
        by true false = tt
        by false fits = past_loop_reports rest outer state.memory

    answer_reports : (rest : List TableLine) (most n : ℕ) (outer : List Repeat) (answer : Option Bool)
        → Reports (answered A setting state rest most n outer answer)
    answer_reports rest most n outer none = tt
    answer_reports rest most n outer (some true) = tt
    answer_reports rest most n outer (some false) = end_reports rest outer (most - suc n)

    asked_reports : (rest : List TableLine) (most left : ℕ) (outer : List Repeat) (answer : Option Bool)
        → Reports (asked A setting state rest most left outer answer)
    asked_reports rest most zero outer answer = end_reports rest outer most
    asked_reports rest most (suc n) outer answer = answer_reports rest most n outer answer

    count_reports : (rest : List TableLine) (counts : List ℕ) → Reports (on_count A state rest counts)
    count_reports rest [] = tt
    count_reports rest (zero ∷ counts) = past_loop_reports rest state.repeats (with_turns A state.memory counts)
    count_reports rest (suc n ∷ counts) = tt

    action_reports : (r : TableRow) (rest : List TableLine) → drop state.at.index lines ≡ basic r ∷ rest
        → (attempt : Attempt A.Why (Memory A)) → acted A setting r.action state.memory ≡ attempt
        → Reports (after_action A state (stopping_at A r.origin attempt))
    action_reports r rest here (through memory) e = tt
    action_reports r rest here stuck e = tt
    action_reports r rest here (halted why) e = record { at_row = refl; line = r; rest = rest; there = here; comes_from = refl; refuses = e }

    step_reports : (here : List TableLine) → drop state.at.index lines ≡ here → Reports (step_at A setting state here)
    unfolding step_at
    step_reports [] h = record { past = h; leaves = refl }
    step_reports (basic r ∷ rest) h = action_reports r rest h (acted A setting r.action state.memory) refl
    step_reports (if_line f ∷ rest) h = test_reports rest (tested A f state.memory)
    step_reports (else_line ∷ rest) h = jump_reports state state.memory (one_more (seek its_end 0 rest))
    step_reports (end_if ∷ rest) h = tt
    step_reports (repeat (times m) ∷ rest) h = tt
    step_reports (repeat (while (whether f) m) ∷ rest) h =
        let now = pending A state (suc m) state.repeats in
        asked_reports rest (suc m) now.left now.outer (compared A f state.memory.store)
    step_reports (repeat (while on_turn m) ∷ rest) h = count_reports rest state.memory.turns
    step_reports (end_repeat ∷ rest) h = turns_report state.repeats

    reported : (x : Step A) → step A setting lines state ≡ x → Reports x
    unfolding step
    reported x e = subst Reports e (step_reports (drop state.at.index lines) refl)

  -- ---- and back

  -- where steps in turn ended, more or fewer that ended came to the same
  ends_once : (n m : ℕ) (start : State A) (x : Step A) → EndsSome A (state_after A n setting lines start) → EndsSome A x
      → state_after A m setting lines start ≡ x → state_after A n setting lines start ≡ x
  ends_once n m start x ends ends' e =
      let sum : n + m ≡ m + n = omega arith in
      sym (more_steps_same A setting lines n m start (ended_goes_on_nowhere A _ ends))
      ∙ ap (λ k. state_after A k setting lines start) sum
      ∙ more_steps_same A setting lines m n start (λ state on. ended_goes_on_nowhere A x ends' state (sym e ∙ on)) ∙ e

  one_more_lem : (k : ℕ) (start state : State A) → state_after A k setting lines start ≡ goes_on state
      → state_after A (k + 1) setting lines start ≡ step A setting lines state
  one_more_lem k start state reached = steps_add A setting lines k 1 start ∙ rw reached (one_step_is A setting lines state)

-- ---- a job's run

module _ (A : Arithmetic) (job : Job A) where
  abbrev lines : List TableLine
  lines = lines_of job.table

  abbrev ending : Step A
  ending = run_of A job.table job.setting job.start

  -- from how it ended to where

  pub stop_names_its_row : (row : RowNumber) (stop : Stop A) → ending ≡ stops row stop → StoppedThere A job row stop
  unfolding run_of
  stop_names_its_row row stop e =
      let last = last_step A job.setting lines enough_steps job.start (stops row stop) tt e in
      let refused = reported A job.setting lines last.state (stops row stop) last.is in
      record {
        steps = last.steps;
        state = last.state;
        reached = last.reached;
        at_row = refused.at_row;
        line = refused.line;
        rest = refused.rest;
        there = subst (λ (r : RowNumber). drop r.index lines ≡ basic refused.line ∷ refused.rest) refused.at_row refused.there;
        comes_from = refused.comes_from;
        refuses = refused.refuses;
      }

  pub end_is_past_all : (memory : Memory A) → ending ≡ ended memory → FinishedWith A job memory
  unfolding run_of
  end_is_past_all memory e =
      let last = last_step A job.setting lines enough_steps job.start (ended memory) tt e in
      let past = reported A job.setting lines last.state (ended memory) last.is in
      record { steps = last.steps; state = last.state; reached = last.reached; past_all = past.past; leaves = past.leaves }

  -- and back

  pub stops_there : EndsSome A ending → (row : RowNumber) (stop : Stop A) → StoppedThere A job row stop → ending ≡ stops row stop
  unfolding run_of step step_at
  stops_there ends row stop there =
      let here = ap (λ (r : RowNumber). drop r.index lines) there.at_row ∙ there.there in
      let refused : step A job.setting lines there.state ≡ stops row stop = rw (here, there.refuses, there.comes_from, there.at_row) refl in
      ends_once A job.setting lines enough_steps (there.steps + 1) job.start (stops row stop) ends tt
      (one_more_lem A job.setting lines there.steps job.start there.state there.reached ∙ refused)

  pub finishes_there : EndsSome A ending → (memory : Memory A) → FinishedWith A job memory → ending ≡ ended memory
  unfolding run_of step step_at
  finishes_there ends memory past =
      let over : step A job.setting lines past.state ≡ ended memory = rw (past.past_all, past.leaves) refl in
      ends_once A job.setting lines enough_steps (past.steps + 1) job.start (ended memory) ends tt
      (one_more_lem A job.setting lines past.steps job.start past.state past.reached ∙ over)
