-- A table's rows in the large as in machine/specs/InTheLarge.antt, with the number of the table row threaded: a stop names its row. Without the
-- number it is the run in the large.
use Prim.Native.Nat.{ℕ, zero, suc, ◌+◌}
use mathlib.Core.Path.{◌≡◌, refl, sym, ap, ◌∙◌}
use mathlib.Core.Bool.{Bool, true, false, cond}
use mathlib.Core.List.{List, [], ◌∷◌}
use mathlib.Core.Option.{Option, none, some}
use lib.Dec.{leb, ltb}
use lib.ListN.{length}
use Rattle.number.specs.Arithmetic.{Arithmetic}
use Rattle.sheet.specs.Tree.{times, while, done, one, fork, again, rows, RowNumber}
use Rattle.table.specs.TableRows.{Table, whether, on_turn}
use Rattle.machine.specs.Actions.{Attempt, through, halted, stuck, ◌>>=◌, present, turns_then, while_then, Memory, Setting, with_turns, count_kept, Stop, stopping_at, Verdict, acted, compared, tested}
use Rattle.machine.specs.InTheLarge.{turns_or, count_then, table_run}

module _ (A : Arithmetic) where
  -- a stop with its row of the table
  pub record StopAtRow : Type 0 where
    pub row : RowNumber
    pub stop : Stop A

  abbrev pub ResultAt : Type 0
  ResultAt = Attempt StopAtRow (Memory A)

  abbrev pub in_row : (row : ℕ) → Attempt (Stop A) (Memory A) → ResultAt
  in_row row (through memory) = through memory
  in_row row (halted stop) = halted (record { row = record { index = row }; stop = stop })
  in_row row stuck = stuck

  -- a tree that begins at this row
  unfoldable pub table_run_at : Setting A → Table → (row : ℕ) → Memory A → ResultAt
  unfolding acted compared tested rows turns_then while_then count_then
  table_run_at setting done p memory = through memory
  table_run_at setting (one row k) p memory = do
    next ← in_row p (stopping_at A row.origin (acted A setting row.action memory))
    table_run_at setting k (suc p) next
  table_run_at setting (fork f a b k) p memory = do
    let split = suc p + rows a
    let end = suc split + rows b
    verdict ← present (tested A f memory)
    next ← cond verdict.first (table_run_at setting a (suc p) verdict.memory) (table_run_at setting b (suc split) verdict.memory)
    table_run_at setting k (suc end) next
  table_run_at setting (again (times m) a k) p memory =
      turns_then m (table_run_at setting a (suc p)) (table_run_at setting k (suc (suc p + rows a))) memory
  table_run_at setting (again (while (whether f) m) a k) p memory =
      while_then (λ now. compared A f now.store) (table_run_at setting a (suc p)) (count_kept A setting)
      (table_run_at setting k (suc (suc p + rows a))) 0 (suc m) memory
  table_run_at setting (again (while on_turn m) a k) p memory =
      count_then A (suc m) (table_run_at setting a (suc p)) (table_run_at setting k (suc (suc p + rows a))) memory memory.turns

  -- ---- without the number

  abbrev pub without_row : ResultAt → Attempt (Stop A) (Memory A)
  without_row (through memory) = through memory
  without_row (halted at) = halted at.stop
  without_row stuck = stuck

  pub without_its_row : (row : ℕ) (x : Attempt (Stop A) (Memory A)) → without_row (in_row row x) ≡ x
  without_its_row row (through memory) = refl
  without_its_row row (halted stop) = refl
  without_its_row row stuck = refl

  then_without_row : (x : ResultAt) (y : Attempt (Stop A) (Memory A)) (f : Memory A → ResultAt) (g : Memory A → Attempt (Stop A) (Memory A))
      → without_row x ≡ y → ((memory : Memory A) → without_row (f memory) ≡ g memory) → without_row (x >>= f) ≡ (y >>= g)
  then_without_row (through memory) y f g e h = rw (sym e) (h memory)
  then_without_row (halted at) y f g e h = rw (sym e)
  then_without_row stuck y f g e h = rw (sym e)

  -- by the branch that a verdict picks
  fork_without_row : (verdict : Option (Verdict A)) (a b k : Memory A → ResultAt) (a' b' k' : Memory A → Attempt (Stop A) (Memory A))
      → ((memory : Memory A) → without_row (a memory) ≡ a' memory) → ((memory : Memory A) → without_row (b memory) ≡ b' memory)
      → ((memory : Memory A) → without_row (k memory) ≡ k' memory)
      → without_row (present verdict >>= λ v. cond v.first (a v.memory) (b v.memory) >>= k)
      ≡ (present verdict >>= λ v. cond v.first (a' v.memory) (b' v.memory) >>= k')
  fork_without_row none a b k a' b' k' first second after = refl
  fork_without_row (some v) a b k a' b' k' first second after = by_branch v.first
    where
      by_branch : (taken : Bool)
          → without_row (cond taken (a v.memory) (b v.memory) >>= k) ≡ (cond taken (a' v.memory) (b' v.memory) >>= k')
      by_branch true = then_without_row (a v.memory) (a' v.memory) k k' (first v.memory) after
      by_branch false = then_without_row (b v.memory) (b' v.memory) k k' (second v.memory) after

  -- ---- loops, by a turn and by what follows them

  -- the count that is put away stops nowhere
  pub kept_in_row : (row : ℕ) (setting : Setting A) (count : ℕ) (memory : Memory A)
      → in_row row (count_kept A setting count memory) ≡ count_kept A setting count memory
  kept_in_row row setting count memory = by setting.keeps_counts (ltb (length memory.turns) setting.turn_room)
    where
      by : (keeps fits : Bool)
          → in_row row (cond keeps (cond fits (through (count ∷ memory.turns)) stuck >>= λ turns. through (with_turns A memory turns)) (through memory))
          ≡ cond keeps (cond fits (through (count ∷ memory.turns)) stuck >>= λ turns. through (with_turns A memory turns)) (through memory)
      by true true = refl
      by true false = refl
      by false fits = refl

  kept_without_row : (setting : Setting A) (count : ℕ) (memory : Memory A)
      → without_row (count_kept A setting count memory) ≡ count_kept A setting count memory
  kept_without_row setting count memory = ap without_row (sym (kept_in_row 0 setting count memory)) ∙ without_its_row 0 (count_kept A setting count memory)

  module _ (turn rest : Memory A → ResultAt) (turn' rest' : Memory A → Attempt (Stop A) (Memory A))
      (same : (memory : Memory A) → without_row (turn memory) ≡ turn' memory) (after : (memory : Memory A) → without_row (rest memory) ≡ rest' memory) where
    turns_without_row : (m : ℕ) (memory : Memory A) → without_row (turns_then m turn rest memory) ≡ turns_then m turn' rest' memory
    unfolding turns_then
    turns_without_row zero memory = then_without_row (turn memory) (turn' memory) rest rest' (same memory) after
    turns_without_row (suc m) memory =
        then_without_row (turn memory) (turn' memory) (turns_then m turn rest) (turns_then m turn' rest') (same memory) (turns_without_row m)

    while_without_row : (setting : Setting A) (holds : Memory A → Option Bool) (n left : ℕ) (memory : Memory A)
        → without_row (while_then holds turn (count_kept A setting) rest n left memory) ≡ while_then holds turn' (count_kept A setting) rest' n left memory
    unfolding while_then
    while_without_row setting holds n zero memory =
        then_without_row (count_kept A setting n memory) (count_kept A setting n memory) rest rest' (kept_without_row setting n memory) after
    while_without_row setting holds n (suc left) memory = by_answer (holds memory) (while_without_row setting holds (suc n) left)
      where
        by_answer : (answer : Option Bool)
            → ((now : Memory A) → without_row (while_then holds turn (count_kept A setting) rest (suc n) left now)
            ≡ while_then holds turn' (count_kept A setting) rest' (suc n) left now)
            → without_row (present answer >>= λ more. cond more (turn memory >>= while_then holds turn (count_kept A setting) rest (suc n) left)
            (count_kept A setting n memory >>= rest))
            ≡ (present answer >>= λ more. cond more (turn' memory >>= while_then holds turn' (count_kept A setting) rest' (suc n) left)
            (count_kept A setting n memory >>= rest'))
        by_answer none later = refl
        by_answer (some true) later = then_without_row (turn memory) (turn' memory) _ _ (same memory) later
        by_answer (some false) later =
            then_without_row (count_kept A setting n memory) (count_kept A setting n memory) rest rest' (kept_without_row setting n memory) after

    count_without_row : (most : ℕ) (memory : Memory A) (counts : List ℕ)
        → without_row (count_then A most turn rest memory counts) ≡ count_then A most turn' rest' memory counts
    unfolding count_then
    count_without_row most memory [] = refl
    count_without_row most memory (count ∷ counts) = by_bound (leb count most) count
      where
        by_bound : (may : Bool) (n : ℕ)
            → without_row (cond may (turns_or A n turn rest (with_turns A memory counts)) stuck)
            ≡ cond may (turns_or A n turn' rest' (with_turns A memory counts)) stuck
        by_bound false n = refl
        by_bound true zero = after (with_turns A memory counts)
        by_bound true (suc n) = turns_without_row n (with_turns A memory counts)

  pub run_without_row : (setting : Setting A) (t : Table) (p : ℕ) (memory : Memory A)
      → without_row (table_run_at setting t p memory) ≡ table_run A setting t memory
  unfolding table_run_at table_run
  run_without_row setting done p memory = refl
  run_without_row setting (one row k) p memory =
      let x = stopping_at A row.origin (acted A setting row.action memory) in
      then_without_row (in_row p x) x (table_run_at setting k (suc p)) (table_run A setting k) (without_its_row p x) (run_without_row setting k (suc p))
  run_without_row setting (fork f a b k) p memory =
      let split = suc p + rows a in
      let end = suc split + rows b in
      fork_without_row (tested A f memory) (table_run_at setting a (suc p)) (table_run_at setting b (suc split)) (table_run_at setting k (suc end))
      (table_run A setting a) (table_run A setting b) (table_run A setting k) (run_without_row setting a (suc p)) (run_without_row setting b (suc split))
      (run_without_row setting k (suc end))
  run_without_row setting (again (times m) a k) p memory =
      let end = suc p + rows a in
      turns_without_row (table_run_at setting a (suc p)) (table_run_at setting k (suc end)) (table_run A setting a) (table_run A setting k)
      (run_without_row setting a (suc p)) (run_without_row setting k (suc end)) m memory
  run_without_row setting (again (while (whether f) m) a k) p memory =
      let end = suc p + rows a in
      while_without_row (table_run_at setting a (suc p)) (table_run_at setting k (suc end)) (table_run A setting a) (table_run A setting k)
      (run_without_row setting a (suc p)) (run_without_row setting k (suc end)) setting (λ now. compared A f now.store) 0 (suc m) memory
  run_without_row setting (again (while on_turn m) a k) p memory =
      let end = suc p + rows a in
      count_without_row (table_run_at setting a (suc p)) (table_run_at setting k (suc end)) (table_run A setting a) (table_run A setting k)
      (run_without_row setting a (suc p)) (run_without_row setting k (suc end)) (suc m) memory memory.turns
