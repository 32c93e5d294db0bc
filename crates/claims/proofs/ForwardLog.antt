-- The forward part of a table notes nothing: none of its rows is of a derivative rule.
use Prim.Native.Nat.{ℕ, zero, suc, ◌+◌, ◌≤◌}
use mathlib.Core.Path.{◌≡◌, refl, sym, ap, ◌∙◌}
use mathlib.Core.Bool.{Bool, true, false, cond}
use mathlib.Core.List.{List, [], ◌++◌}
use mathlib.Core.Option.{Option}
use lib.ListN.{length}
use Rattle.number.specs.Arithmetic.{Arithmetic}
use Rattle.sheet.specs.Tree.{Loop, times, while, loop_by, Tree, done, one, fork, again, RowNumber}
use Rattle.sheet.specs.Rows.{Assignment, Test, target_of}
use Rattle.sheet.specs.Names.{Present}
use Rattle.sets.specs.Transfers.{Activity}
use Rattle.sets.specs.Marks.{MarkedTest}
use Rattle.table.specs.TableRows.{Table, Action, assign, save, save_turn, TableTest, whether, of_row, Operation, saving, itself, turning}
use Rattle.table.specs.Adjoint.{Body, put, put_if, forward_row, forward_part}
use Rattle.table.specs.Sizes.{values_needed, turns_needed}
use Rattle.machine.specs.Actions.{Attempt, through, halted, stuck, ◌>>=◌, present, while_then, Memory, Setting, count_kept, Stop, stopping_at, acted, compared, tested}
use Rattle.machine.specs.InTheLarge.{table_run, while_log, table_log}
use Rattle.machine.specs.RowReads.{Entry, is_derivative, noted_by, on_through}
use Rattle.claims.specs.IdealSweep.{Progress, executed}
use Rattle.claims.specs.WholeRun.{saved_values}
use Rattle.claims.proofs.Forward.{body, memory_with, forward_executes}

module _ (A : Arithmetic) where
  -- where what is noted first is nothing, and what follows is noted at its end only
  in_turn_silent : {W X Y : Type 0} (first : Attempt W X) (next : X → Attempt W Y) (log : List (Entry A)) (logs : X → List (Entry A))
      (after : Y → List (Entry A)) → log ≡ [] → ((x : X) → logs x ≡ on_through A (next x) after)
      → log ++ on_through A first logs ≡ on_through A (first >>= next) after
  in_turn_silent (through x) next log logs after e h = rw e (h x)
  in_turn_silent (halted why) next log logs after e h = rw e refl
  in_turn_silent stuck next log logs after e h = rw e refl

  chosen_silent : {W Y : Type 0} (first : Bool) (a b : List (Entry A)) (x y : Attempt W Y) (after : Y → List (Entry A)) → a ≡ on_through A x after
      → b ≡ on_through A y after → cond first a b ≡ on_through A (cond first x y) after
  chosen_silent true a b x y after p q = p
  chosen_silent false a b x y after p q = q

  -- a loop with a test whose turns note nothing
  while_silent : {W X Y : Type 0} (holds : X → Option Bool) (turn : X → Attempt W X) (ends : ℕ → X → Attempt W X) (next : X → Attempt W Y)
      (log logs : X → List (Entry A)) (after : Y → List (Entry A)) → ((x : X) → log x ≡ []) → ((x : X) → logs x ≡ on_through A (next x) after)
      → (n left : ℕ) (x : X) → while_log A holds turn ends log logs n left x ≡ on_through A (while_then holds turn ends next n left x) after
  unfolding while_log while_then
  while_silent holds turn ends next log logs after nothing follows n zero x = in_turn_silent (ends n x) next [] logs after refl follows
  while_silent {W = W} holds turn ends next log logs after nothing follows n (suc left) x =
      in_turn_silent {W = W} (present (holds x)) _ [] _ after refl
      (λ more.
      chosen_silent more _ _ _ _ after
      (in_turn_silent (turn x) _ (log x) _ after (nothing x) (while_silent holds turn ends next log logs after nothing follows (suc n) left))
      (in_turn_silent (ends n x) next [] logs after refl follows))

  nothing_after : {W X : Type 0} (m : Attempt W X) (log : X → List (Entry A)) → ((x : X) → log x ≡ []) → on_through A m log ≡ []
  nothing_after (through x) log h = h x
  nothing_after (halted why) log h = refl
  nothing_after stuck log h = refl

  chosen_nothing : (first : Bool) (a b : List (Entry A)) → a ≡ [] → b ≡ [] → cond first a b ≡ []
  chosen_nothing true a b p q = p
  chosen_nothing false a b p q = q

  module _ (setting : Setting A) where
    abbrev NotesNothing : Table → Type 0
    NotesNothing table = (x : Memory A) → table_log A setting table x ≡ []

    -- a part that notes nothing before the rest
    abbrev Silent : (Table → Table) → Type 0
    Silent part =
        (rest : Table) (x : Memory A)
        → table_log A setting (part rest) x ≡ on_through A (table_run A setting (part done) x) (λ y. table_log A setting rest y)

    silent_before : (part : Table → Table) → Silent part → (rest : Table) → NotesNothing rest → NotesNothing (part rest)
    silent_before part silent rest nothing x = silent rest x ∙ nothing_after (table_run A setting (part done) x) _ nothing

    silent_none : Silent (λ rest. rest)
    unfolding table_run
    silent_none rest x = refl

    done_silent : NotesNothing done
    unfolding table_log
    done_silent x = refl

    turn_silent : (row : RowNumber) (first : Bool) → NotesNothing (put row turning (save_turn first) done)
    unfolding table_log
    turn_silent row first x = nothing_after (stopping_at A (of_row row turning) (acted A setting (save_turn first) x)) _ (λ y. refl)

    put_silent : (test : Bool) (row : RowNumber) (operation : Operation) (action : Action) (part : Table → Table) → is_derivative operation ≡ false
        → Silent part → Silent (λ rest. put_if test row operation action (part rest))
    unfolding table_log table_run
    put_silent true row operation action part e silent rest x =
        in_turn_silent (stopping_at A (of_row row operation) (acted A setting action x)) _ (noted_by A setting.variables (of_row row operation) action x) _ _
        (rw e refl) (silent rest)
    put_silent false row operation action part e silent rest x = silent rest x

    fork_silent : (f : TableTest) (a b : Table) (part : Table → Table) → NotesNothing a → NotesNothing b
        → Silent part → Silent (λ rest. fork f a b (part rest))
    unfolding table_log table_run
    fork_silent f a b part p q silent rest x =
        in_turn_silent (present {Why = Stop A} (tested A f x)) _ [] _ _ refl
        (λ w.
        in_turn_silent (cond w.first (table_run A setting a w.memory) (table_run A setting b w.memory)) _ _ _ _
        (chosen_nothing w.first _ _ (p w.memory) (q w.memory)) (silent rest))

    loop_silent : (l : Loop MarkedTest) (a : Table) (part : Table → Table) → NotesNothing a → Silent part
        → Silent (λ rest. again (loop_by (λ f. whether f.test) l) a (part rest))
    unfolding table_log table_run
    loop_silent (times zero) a part p silent rest x = in_turn_silent (table_run A setting a x) _ _ _ _ (p x) (silent rest)
    loop_silent (times (suc n)) a part p silent rest x =
        in_turn_silent (table_run A setting a x) _ _ _ _ (p x) (loop_silent (times n) a part p silent rest)
    loop_silent (while f m) a part p silent rest x =
        while_silent {W = Stop A} (λ now. compared A f.test now.store) (table_run A setting a) (count_kept A setting) (table_run A setting (part done))
        (table_log A setting a) (table_log A setting (part rest)) (table_log A setting rest) p (silent rest) 0 (suc m) x

    forward_silent : (b : Body) → Silent (forward_part b)
    unfolding forward_part forward_row
    forward_silent done = silent_none
    forward_silent (one m k) =
        put_silent m.saved m.row saving (save (target_of m.assignment))
        (λ rest. put m.row itself (assign m.assignment) (forward_part k rest)) refl
        (put_silent true m.row itself (assign m.assignment) (forward_part k) refl (forward_silent k))
    forward_silent (fork f a b k) =
        fork_silent (whether f.test) _ _ (forward_part k) (silent_before (forward_part a) (forward_silent a) _ (turn_silent f.row true))
        (silent_before (forward_part b) (forward_silent b) _ (turn_silent f.row false)) (forward_silent k)
    forward_silent (again l a k) =
        loop_silent l _ (forward_part k) (silent_before (forward_part a) (forward_silent a) done done_silent) (forward_silent k)

    module _ (known : ℕ → Assignment → Activity) (saved : ℕ → Assignment → Bool) (k : ℕ) (tail copied : List A.Carrier)
        (keeps : setting.keeps_counts ≡ true) where
      abbrev memory : Progress A → Memory A
      memory now = memory_with A saved copied now.store tail now

      pub forward_notes_nothing : (t : Tree Assignment Test) (p : ℕ) (now : Progress A) (rest : Table) → Present setting.variables k t
          → length now.store ≡ setting.variables
          → (length (saved_values A saved now.trace) + values_needed (body known saved t p) ≤ setting.value_room)
          × (length now.turns + turns_needed (body known saved t p) ≤ setting.turn_room)
          → table_log A setting (forward_part (body known saved t p) rest) (memory now)
          ≡ on_through A (executed A setting.constants t p now) (λ m. table_log A setting rest (memory m))
      unfolding table_run
      forward_notes_nothing t p now rest named n room =
          forward_silent (body known saved t p) rest (memory now)
          ∙ ap (λ y. on_through A y (table_log A setting rest)) (forward_executes known saved A setting k tail copied keeps t p now done named n room)
          ∙ sym (in_turn_silent (executed A setting.constants t p now) _ [] _ _ refl (λ m. refl))
