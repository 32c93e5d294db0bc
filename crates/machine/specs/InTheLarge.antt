-- A table's rows in the large, block by block: what the machine's steps come to, and what derivative rows then read. No demand speaks of it: the
-- laws of claims and run go through it.
use Rattle.std.specs.Prelude.{ℕ, zero, suc, Bool, leb}
use Rattle.std.proofs.Math.Bool.{cond}
use mathlib.Core.List.{List, [], ◌∷◌, ◌++◌}
use Rattle.std.proofs.Math.Option.{Option}
use Rattle.number.specs.Arithmetic.{Arithmetic}
use Rattle.sheet.specs.Tree.{times, while, done, one, fork, again}
use Rattle.table.specs.TableRows.{Table, whether, on_turn}
use Rattle.machine.specs.Actions.{Attempt, through, stuck, ◌>>=◌, present, turns_then, while_then, Memory, Setting, with_turns, count_kept, Stop, stopping_at, acted, compared, tested}
use Rattle.machine.specs.RowReads.{Entry, noted, reads_of, on_through}

module _ (A : Arithmetic) where
  -- a loop on the count that is taken back; a count that such a loop never does is taken for stuck
  abbrev pub turns_or : {W X Y : Type 0} → (count : ℕ) → (turn : X → Attempt W X) → (rest : X → Attempt W Y) → X → Attempt W Y
  turns_or zero turn rest x = rest x
  turns_or (suc n) turn rest x = turns_then n turn rest x

  unfoldable pub count_then : {W Y : Type 0} → (most : ℕ) → (turn : Memory A → Attempt W (Memory A)) → (rest : Memory A → Attempt W Y)
      → Memory A → List ℕ → Attempt W Y
  unfolding turns_then
  count_then most turn rest memory [] = stuck
  count_then most turn rest memory (count ∷ turns) = cond (leb count most) (turns_or count turn rest (with_turns A memory turns)) stuck

  unfoldable pub table_run : Setting A → Table → Memory A → Attempt (Stop A) (Memory A)
  unfolding acted compared tested turns_then while_then count_then
  table_run setting done memory = through memory
  table_run setting (one row k) memory = do
    next ← stopping_at A row.origin (acted A setting row.action memory)
    table_run setting k next
  table_run setting (fork f a b k) memory = do
    verdict ← present (tested A f memory)
    next ← cond verdict.first (table_run setting a verdict.memory) (table_run setting b verdict.memory)
    table_run setting k next
  table_run setting (again (times m) a k) memory = turns_then m (table_run setting a) (table_run setting k) memory
  table_run setting (again (while (whether f) m) a k) memory =
      while_then (λ now. compared A f now.store) (table_run setting a) (count_kept A setting) (table_run setting k) 0 (suc m) memory
  table_run setting (again (while on_turn m) a k) memory = count_then (suc m) (table_run setting a) (table_run setting k) memory memory.turns

  -- what m + 1 turns note, one after the other, and then what follows
  unfoldable pub turns_log : {W X : Type 0} → ℕ → (turn : X → Attempt W X) → (log rest : X → List (Entry A)) → X → List (Entry A)
  turns_log zero turn log rest x = log x ++ on_through A (turn x) rest
  turns_log (suc m) turn log rest x = log x ++ on_through A (turn x) (turns_log m turn log rest)

  -- what a loop with a test notes, so many turns done and at most so many still to come
  unfoldable pub while_log : {W X : Type 0} → (holds : X → Option Bool) → (turn : X → Attempt W X) → (ends : ℕ → X → Attempt W X)
      → (log rest : X → List (Entry A)) → (turns_done left : ℕ) → X → List (Entry A)
  while_log holds turn ends log rest n zero x = on_through A (ends n x) rest
  while_log {W = W} holds turn ends log rest n (suc left) x =
      on_through A {W = W} (present (holds x))
      (λ more. cond more (log x ++ on_through A (turn x) (while_log holds turn ends log rest (suc n) left)) (on_through A (ends n x) rest))

  -- and one on a count that is taken back
  abbrev pub turns_log_or : {W X : Type 0} → (count : ℕ) → (turn : X → Attempt W X) → (log rest : X → List (Entry A)) → X → List (Entry A)
  turns_log_or zero turn log rest x = rest x
  turns_log_or (suc n) turn log rest x = turns_log n turn log rest x

  unfoldable pub count_log : {W : Type 0} → (most : ℕ) → (turn : Memory A → Attempt W (Memory A)) → (log rest : Memory A → List (Entry A))
      → Memory A → List ℕ → List (Entry A)
  unfolding turns_log
  count_log most turn log rest memory [] = []
  count_log most turn log rest memory (count ∷ turns) = cond (leb count most) (turns_log_or count turn log rest (with_turns A memory turns)) []

  -- what its derivative rows read
  unfoldable pub table_log : Setting A → Table → Memory A → List (Entry A)
  unfolding reads_of acted compared tested table_run turns_log while_log count_log
  table_log setting done memory = []
  table_log setting (one row k) memory =
      noted A setting.variables row memory
      ++ on_through A (stopping_at A row.origin (acted A setting row.action memory)) (λ next. table_log setting k next)
  table_log setting (fork f a b k) memory =
      on_through A {W = Stop A} (present (tested A f memory))
      (λ verdict.
      cond verdict.first (table_log setting a verdict.memory) (table_log setting b verdict.memory)
      ++ on_through A (cond verdict.first (table_run setting a verdict.memory) (table_run setting b verdict.memory))
      (λ next. table_log setting k next))
  table_log setting (again (times m) a k) memory = turns_log m (table_run setting a) (table_log setting a) (table_log setting k) memory
  table_log setting (again (while (whether f) m) a k) memory =
      while_log {W = Stop A} (λ now. compared A f now.store) (table_run setting a) (count_kept A setting) (table_log setting a) (table_log setting k) 0 (suc m) memory
  table_log setting (again (while on_turn m) a k) memory =
      count_log (suc m) (table_run setting a) (table_log setting a) (table_log setting k) memory memory.turns
