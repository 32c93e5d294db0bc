-- The forward part of a table, for any choice of saved rows: it executes the sheet, and its stacks hold what was saved.
use Prim.Native.Nat.{ℕ, zero, suc, ◌+◌, ◌*◌, ◌≤◌, ◌<◌}
use mathlib.Core.Path.{◌≡◌, refl, sym, ap, subst, ◌∙◌}
use mathlib.Core.Bool.{Bool, true, false, cond}
use mathlib.Core.List.{List, ◌∷◌, ◌++◌}
use mathlib.Core.Option.{Option, none, some}
use lib.ListN.{length, get_or}
use native.Mathlib.Nat.{suc-mul}
use native.Mathlib.Omega.{arith}
use borrow.Author.Tests.{lt-ltb}
use Rattle.number.specs.Arithmetic.{Arithmetic}
use Rattle.sheet.specs.Tree.{times, while, Tree, done, one, fork, again, rows, RowNumber}
use Rattle.sheet.specs.Rows.{Assignment, ◌≔◌, Source, Test}
use Rattle.sheet.specs.Names.{SourcePresent, AssignmentPresent, Present}
use Rattle.sets.specs.Transfers.{Activity}
use Rattle.sets.specs.Marks.{Marked, MarkedTest, numbered}
use Rattle.table.specs.TableRows.{Table, of_row, itself, turning, saving, assign, save, save_turn, turn_word}
use Rattle.table.specs.Adjoint.{put, put_if, forward_row, forward_part}
use Rattle.table.specs.Sizes.{values_needed, turns_needed}
use Rattle.machine.specs.Actions.{Attempt, through, halted, stuck, ◌>>=◌, present, replaced, Memory, Setting, count_kept, Stop, stopping_at, evaluated, acted, compared, verdict_on, stored}
use Rattle.machine.specs.InTheLarge.{table_run}
use Rattle.machine.proofs.AttemptLaws.{bind_assoc, bind_same, in_turn_lem, loops_in_step}
use Rattle.claims.specs.IdealSweep.{Progress, onward, performed, turned, executed}
use Rattle.claims.specs.WholeRun.{onto, saved_values}
use Rattle.claims.proofs.Runs.{was_performed, Runs, stay, row, left, right, last, more, tested, Rounds, spent, fails, turns, runs}
use Rattle.claims.proofs.RunsKeepSizes.{performed_keeps, runs_keep}
use Rattle.run.proofs.Originals.{evaluated_originals, compared_originals, replaced_original, replaced_alone, looked_up}

-- ---- the marks of a choice of saved rows

-- the machine's memory: these originals, what stands behind them, and what an execution has saved so far
abbrev pub memory_with : (A : Arithmetic) → (saved : ℕ → Assignment → Bool) → (copied originals beyond : List A.Carrier) → Progress A → Memory A
memory_with A saved copied originals beyond now =
    record { store = originals ++ beyond; values = saved_values A saved now.trace; turns = now.turns; copied = copied }

module _ (known : ℕ → Assignment → Activity) (saved : ℕ → Assignment → Bool) where
  abbrev pub marking : ℕ → Assignment → Marked
  marking p b = record { row = record { index = p }; assignment = b; known = known p b; saved = saved p b }

  abbrev pub body : Tree Assignment Test → ℕ → Tree Marked MarkedTest
  body t p = numbered marking t p

  module _ (A : Arithmetic) where
    -- ---- an execution keeps the store's size, and saves no more than is counted

    module _ (constants : List ℕ) where
      onto_length : (test : Bool) (x : A.Carrier) (xs : List A.Carrier) → length (onto A saved test x xs) ≡ cond test 1 0 + length xs
      onto_length true x xs = omega arith
      onto_length false x xs = omega arith

      -- at most so many more on each stack
      pub record Grown (more_values more_turns : ℕ) (s e : Progress A) : Type 0 where
        pub values : length (saved_values A saved e.trace) ≤ length (saved_values A saved s.trace) + more_values
        pub turns : length e.turns ≤ length s.turns + more_turns

      -- one assignment
      pub record OneMore (p : ℕ) (b : Assignment) (s m : Progress A) : Type 0 where
        pub values : length (saved_values A saved m.trace) ≡ cond (saved p b) 1 0 + length (saved_values A saved s.trace)
        pub turns : m.turns ≡ s.turns

      pub one_more_lem : (p : ℕ) (b : Assignment) (s m : Progress A) → performed A constants p b s ≡ through m → OneMore p b s m
      unfolding saved_values
      one_more_lem p (d ≔ source) s m e =
          let done = was_performed A constants p d source s m e in
          subst (OneMore p (d ≔ source) s) (sym done.goes)
          (record {
            values = onto_length (saved p (d ≔ source)) (get_or s.store d A.zero) (saved_values A saved s.trace);
            turns = refl;
          })

      mutual
        unfolding numbered values_needed turns_needed

        pub grown : {t : Tree Assignment Test} {p : ℕ} {s e : Progress A} → Runs A constants t p s e
            → Grown (values_needed (body t p)) (turns_needed (body t p)) s e
        grown stay = record { values = omega arith; turns = omega arith }
        grown (row {b = b} {p = p} {s = s} {m = m} h r) =
            let one = one_more_lem p b s m h in
            let rest = grown r in
            record { values = omega (arith, one.values, rest.values); turns = omega (arith, ap length one.turns, rest.turns) }
        grown (left h f r) =
            let first = grown f in
            let rest = grown r in
            record { values = omega arith; turns = omega arith }
        grown (right h f r) =
            let second = grown f in
            let rest = grown r in
            record { values = omega arith; turns = omega arith }
        grown (last f r) =
            let turn = grown f in
            let rest = grown r in
            record { values = omega arith; turns = omega arith }
        grown (more {n = n} {a = a} {p = p} f r) =
            let turn = grown f in
            let rest = grown r in
            record {
              values = omega (arith, suc-mul (suc n) (values_needed (body a (suc p))));
              turns = omega (arith, suc-mul (suc n) (turns_needed (body a (suc p))));
            }
        grown (tested loop r) =
            let looped = rounds_grown loop in
            let rest = grown r in
            record { values = omega arith; turns = omega arith }

        -- so many turns of a body
        rounds_grown : {f : Test} {a : Tree Assignment Test} {p most n : ℕ} {s e : Progress A} → Rounds A constants f a p most s n e
            → Grown (most * values_needed (body a (suc p))) (most * turns_needed (body a (suc p))) s e
        rounds_grown spent = record { values = omega arith; turns = omega arith }
        rounds_grown (fails test) = record { values = omega arith; turns = omega arith }
        rounds_grown (turns {a = a} {p = p} {most = most} test f later) =
            let turn = grown f in
            let rest = rounds_grown later in
            record {
              values = omega (arith, suc-mul most (values_needed (body a (suc p))));
              turns = omega (arith, suc-mul most (turns_needed (body a (suc p))));
            }

    -- ---- the forward part

    module _ (setting : Setting A) (k : ℕ) (tail copied : List A.Carrier) (keeps : setting.keeps_counts ≡ true) where
      -- where the forward part has come so far
      abbrev memory : Progress A → Memory A
      memory now = memory_with A saved copied now.store tail now

      -- room on both stacks for what is still to come
      abbrev RoomLeft : Progress A → (more_values more_turns : ℕ) → Type 0
      RoomLeft now more_values more_turns =
          (length (saved_values A saved now.trace) + more_values ≤ setting.value_room) × (length now.turns + more_turns ≤ setting.turn_room)

      -- what is known before each turn of a loop with a test
      record BeforeTurn (more_values more_turns : ℕ) (now : Progress A) : Type 0 where
        size : length now.store ≡ setting.variables
        room : RoomLeft now more_values more_turns

      assigned : (rest : Table) (p d : ℕ) (source : Source) (now : Progress A) (values : List A.Carrier) → length now.store ≡ setting.variables
          → d < setting.variables → SourcePresent setting.variables k source
          → saved_values A saved (record { row = record { index = p }; assignment = d ≔ source; before = now.store } ∷ now.trace) ≡ values
          → table_run A setting (put (record { index = p }) itself (assign (d ≔ source)) rest)
          (record { store = now.store ++ tail; values = values; turns = now.turns; copied = copied })
          ≡ (performed A setting.constants p (d ≔ source) now >>= λ m. table_run A setting rest (memory m))
      unfolding table_run acted performed
      assigned rest p d source now values n h q e =
          rw (evaluated_originals A setting.variables k now.store tail n setting.constants source q)
          (by_value (evaluated A setting.constants source now.store))
        where
          before : Memory A
          before = record { store = now.store ++ tail; values = values; turns = now.turns; copied = copied }

          by_value : (m : Attempt A.Why A.Carrier)
              → (stopping_at A (of_row (record { index = p }) itself) (m >>= λ x. stored A before d x) >>= λ next. table_run A setting rest next)
              ≡ (stopping_at A (of_row (record { index = p }) itself) m
              >>= (λ x. replaced now.store d x >>= λ store. through (onward A p (d ≔ source) now store))
              >>= λ m. table_run A setting rest (memory m))
          by_value (halted why) = refl
          by_value stuck = refl
          by_value (through x) =
              let with_tail = replaced_original A setting.variables k now.store tail n {W = A.Why} d x h in
              rw (with_tail, replaced_alone A setting.variables k now.store tail n {W = Stop A} d x h, e)

      saved_first : (rest : Table) (row : RowNumber) (d : ℕ) (now : Progress A) → length now.store ≡ setting.variables → d < setting.variables
          → length (saved_values A saved now.trace) < setting.value_room
          → table_run A setting (put row saving (save d) rest) (memory now)
          ≡ table_run A setting rest
          (record {
            store = now.store ++ tail;
            values = get_or now.store d A.zero ∷ saved_values A saved now.trace;
            turns = now.turns;
            copied = copied;
          })
      unfolding table_run acted
      saved_first rest r d now n h room =
          let fits = lt-ltb (length (saved_values A saved now.trace)) setting.value_room room in
          rw (looked_up A setting.variables k now.store tail n d h, fits)

      -- an assignment's rows: the save, if it is saved, and itself
      forward_row_lem : (rest : Table) (p : ℕ) (b : Assignment) (now : Progress A) → length now.store ≡ setting.variables
          → AssignmentPresent setting.variables k b → length (saved_values A saved now.trace) + cond (saved p b) 1 0 ≤ setting.value_room
          → table_run A setting (forward_row (marking p b) rest) (memory now)
          ≡ (performed A setting.constants p b now >>= λ m. table_run A setting rest (memory m))
      unfolding forward_row AssignmentPresent saved_values
      forward_row_lem rest p (d ≔ source) now n named room = by_choice (saved p (d ≔ source)) refl
        where
          by_choice : (choice : Bool) → saved p (d ≔ source) ≡ choice
              → table_run A setting
              (put_if choice (record { index = p }) saving (save d) (put (record { index = p }) itself (assign (d ≔ source)) rest)) (memory now)
              ≡ (performed A setting.constants p (d ≔ source) now >>= λ m. table_run A setting rest (memory m))
          by_choice false e = assigned rest p d source now (saved_values A saved now.trace) n named.0 named.1 (rw e refl)
          by_choice true e =
              let enough : length (saved_values A saved now.trace) < setting.value_room = omega (arith, rw e at room) in
              saved_first _ (record { index = p }) d now n named.0 enough
              ∙ assigned rest p d source now _ n named.0 named.1 (rw e refl)

      -- the turn saved at a branch's end
      turn_saved : (rest : Table) (row : RowNumber) (first : Bool) (now : Progress A) → length now.turns < setting.turn_room
          → table_run A setting (put row turning (save_turn first) rest) (memory now) ≡ table_run A setting rest (memory (turned A (turn_word first) now))
      unfolding table_run acted
      turn_saved rest r first now room =
          rw (lt-ltb (length now.turns) setting.turn_room room)

      -- a branch with its turn saved
      branch_executes : (t : Tree Assignment Test) (at : ℕ) (r : RowNumber) (first : Bool) (now : Progress A)
          → length now.turns + suc (turns_needed (body t at)) ≤ setting.turn_room
          → table_run A setting (forward_part (body t at) (put r turning (save_turn first) done)) (memory now)
          ≡ (executed A setting.constants t at now >>= λ m. table_run A setting (put r turning (save_turn first) done) (memory m))
          → table_run A setting (forward_part (body t at) (put r turning (save_turn first) done)) (memory now)
          ≡ (executed A setting.constants t at now >>= λ m. through (memory (turned A (turn_word first) m)))
      unfolding table_run
      branch_executes t at r first now room e =
          e
          ∙ bind_same (executed A setting.constants t at now) _ _
          (λ m h.
          let grew = grown setting.constants (runs A setting.constants t at now m h) in
          turn_saved done r first m (omega (arith, grew.turns)))

      -- by the branch that the test picks
      fork_executes : (o : Option Bool) (now : Progress A) (first second : Memory A → Attempt (Stop A) (Memory A))
          (a b : Attempt (Stop A) (Progress A)) (rest : Memory A → Attempt (Stop A) (Memory A)) (next : Progress A → Attempt (Stop A) (Progress A))
          (after : Progress A → Attempt (Stop A) (Memory A)) → first (memory now) ≡ (a >>= λ m. through (memory (turned A (turn_word true) m)))
          → second (memory now) ≡ (b >>= λ m. through (memory (turned A (turn_word false) m)))
          → ((m : Progress A) → a ≡ through m → rest (memory (turned A (turn_word true) m)) ≡ (next (turned A (turn_word true) m) >>= after))
          → ((m : Progress A) → b ≡ through m → rest (memory (turned A (turn_word false) m)) ≡ (next (turned A (turn_word false) m) >>= after))
          → (present {Why = Stop A} (verdict_on A (memory now) o)
          >>= λ verdict. cond verdict.first (first verdict.memory) (second verdict.memory) >>= rest)
          ≡ (present o >>= (λ way. cond way a b >>= λ m. next (turned A (turn_word way) m)) >>= after)
      fork_executes none now first second a b rest next after e f g h = refl
      fork_executes (some true) now first second a b rest next after e f g h =
          in_turn_lem (first (memory now)) a (λ m. memory (turned A (turn_word true) m)) rest _ after e g
      fork_executes (some false) now first second a b rest next after e f g h =
          in_turn_lem (second (memory now)) b (λ m. memory (turned A (turn_word false) m)) rest _ after f h

      -- the count that a loop with a test puts away when it ends
      count_kept_lem : (count : ℕ) (now : Progress A) → length now.turns < setting.turn_room
          → count_kept A {Why = Stop A} setting count (memory now) ≡ through (memory (turned A count now))
      count_kept_lem count now room = rw (keeps, lt-ltb (length now.turns) setting.turn_room room)

      -- The forward part executes the sheet: it comes to where the execution comes to, or stops where it stops.
      pub forward_executes : (t : Tree Assignment Test) (p : ℕ) (now : Progress A) (rest : Table) → Present setting.variables k t
          → length now.store ≡ setting.variables → RoomLeft now (values_needed (body t p)) (turns_needed (body t p))
          → table_run A setting (forward_part (body t p) rest) (memory now)
          ≡ (executed A setting.constants t p now >>= λ m. table_run A setting rest (memory m))
      unfolding numbered forward_part executed values_needed turns_needed Present table_run
      forward_executes done p now rest named n room = refl
      forward_executes (one b kk) p now rest named n room =
          forward_row_lem (forward_part (body kk (suc p)) rest) p b now n named.0 (omega (arith, room.0))
          ∙ bind_same (performed A setting.constants p b now) _ _
          (λ m e.
          let more = one_more_lem setting.constants p b now m e in
          forward_executes kk (suc p) m rest named.1 (performed_keeps A setting.constants p b now m e ∙ n)
          (omega (arith, more.values, room.0), omega (arith, ap length more.turns, room.1)))
          ∙ sym (bind_assoc (performed A setting.constants p b now) _ _)
      forward_executes (fork f a b kk) p now rest named n room =
          let there : RowNumber = record { index = p } in
          let split : ℕ = suc p + rows a in
          rw (compared_originals A setting.variables k now.store tail n f named.0)
          (fork_executes (compared A f now.store) now
          (λ x. table_run A setting (forward_part (body a (suc p)) (put there turning (save_turn true) done)) x)
          (λ x. table_run A setting (forward_part (body b (suc split)) (put there turning (save_turn false) done)) x)
          (executed A setting.constants a (suc p) now) (executed A setting.constants b (suc split) now)
          (λ x. table_run A setting (forward_part (body kk (suc (suc split + rows b))) rest) x)
          (λ x. executed A setting.constants kk (suc (suc split + rows b)) x) (λ m. table_run A setting rest (memory m))
          (branch_executes a (suc p) there true now (omega (arith, room.1))
          (forward_executes a (suc p) now _ named.1 n (omega (arith, room.0), omega (arith, room.1))))
          (branch_executes b (suc split) there false now (omega (arith, room.1))
          (forward_executes b (suc split) now _ named.2 n (omega (arith, room.0), omega (arith, room.1))))
          (λ m e.
          let went = runs A setting.constants a (suc p) now m e in
          let grew = grown setting.constants went in
          forward_executes kk (suc (suc split + rows b)) (turned A (turn_word true) m) rest named.3 (runs_keep A setting.constants went ∙ n)
          (omega (arith, grew.values, room.0), omega (arith, grew.turns, room.1)))
          (λ m e.
          let went = runs A setting.constants b (suc split) now m e in
          let grew = grown setting.constants went in
          forward_executes kk (suc (suc split + rows b)) (turned A (turn_word false) m) rest named.3 (runs_keep A setting.constants went ∙ n)
          (omega (arith, grew.values, room.0), omega (arith, grew.turns, room.1))))
      forward_executes (again (times zero) a kk) p now rest named n room =
          in_turn_lem _ (executed A setting.constants a (suc p) now) memory _ _ _
          (forward_executes a (suc p) now done named.0 n (omega (arith, room.0), omega (arith, room.1)))
          (λ m e.
          let went = runs A setting.constants a (suc p) now m e in
          let grew = grown setting.constants went in
          forward_executes kk (suc (suc p + rows a)) m rest named.1 (runs_keep A setting.constants went ∙ n)
          (omega (arith, grew.values, room.0), omega (arith, grew.turns, room.1)))
      forward_executes (again (times (suc m)) a kk) p now rest named n room =
          let values_split = suc-mul (suc m) (values_needed (body a (suc p))) in
          let turns_split = suc-mul (suc m) (turns_needed (body a (suc p))) in
          in_turn_lem _ (executed A setting.constants a (suc p) now) memory
          (λ x. table_run A setting (forward_part (body (again (times m) a kk) p) rest) x) (λ x. executed A setting.constants (again (times m) a kk) p x)
          (λ x. table_run A setting rest (memory x))
          (forward_executes a (suc p) now done named.0 n (omega (arith, values_split, room.0), omega (arith, turns_split, room.1)))
          (λ x e.
          let went = runs A setting.constants a (suc p) now x e in
          let grew = grown setting.constants went in
          forward_executes (again (times m) a kk) p x rest named (runs_keep A setting.constants went ∙ n)
          (omega (arith, values_split, grew.values, room.0), omega (arith, turns_split, grew.turns, room.1)))
      forward_executes (again (while f m) a kk) p now rest named n room =
          let end : ℕ = suc (suc p + rows a) in
          let values : ℕ = values_needed (body a (suc p)) in
          let words : ℕ = turns_needed (body a (suc p)) in
          loops_in_step memory (λ x. compared A f x.store) (λ x. table_run A setting (forward_part (body a (suc p)) done) x) (count_kept A setting)
          (λ x. table_run A setting (forward_part (body kk end) rest) x) (λ x. compared A f x.store) (executed A setting.constants a (suc p))
          (λ count x. through (turned A count x)) (executed A setting.constants kk end) (λ x. table_run A setting rest (memory x))
          (λ left. BeforeTurn (left * values + values_needed (body kk end)) (left * words + 1 + turns_needed (body kk end)))
          (λ left x known. compared_originals A setting.variables k x.store tail known.size f named.2)
          (λ left x known.
          forward_executes a (suc p) x done named.0 known.size
          (omega (arith, suc-mul left values, known.room.0), omega (arith, suc-mul left words, known.room.1)))
          (λ left x m known e.
          let went = runs A setting.constants a (suc p) x m e in
          let grew = grown setting.constants went in
          record {
            size = runs_keep A setting.constants went ∙ known.size;
            room = (omega (arith, suc-mul left values, grew.values, known.room.0), omega (arith, suc-mul left words, grew.turns, known.room.1));
          })
          (λ count left x known.
          ap (λ o. o >>= λ x. table_run A setting (forward_part (body kk end) rest) x) (count_kept_lem count x (omega (arith, known.room.1)))
          ∙ forward_executes kk end (turned A count x) rest named.1 known.size (omega (arith, known.room.0), omega (arith, known.room.1)))
          0 (suc m) now (record { size = n; room = (omega (arith, room.0), omega (arith, room.1)) })
