-- What the machine on a whole table has noted, of what derivative rows read, is the table's log in the large: `reaches` of MachineFollows
-- has it for every tree of the table, and behind the last line nothing more is noted. Where the table is stuck in the large, that is so of tables
-- without blocks: a machine that does more turns than the table in the large may note more.
use Prim.Native.Nat.{ℕ, zero, suc, ◌+◌, ◌-◌, ◌≤◌}
use mathlib.Core.Path.{◌≡◌, refl, ap, ◌∙◌}
use mathlib.Core.List.{List, [], ◌++◌, append-nil}
use lib.ListN.{drop}
use native.Mathlib.Omega.{arith}
use Rattle.number.specs.Arithmetic.{Arithmetic}
use Rattle.sheet.specs.Tree.{flat, rows}
use Rattle.sheet.proofs.Depth.{deep}
use Rattle.table.specs.TableRows.{TableLine, Table, lines_of}
use Rattle.machine.specs.Actions.{through, halted, stuck, Memory, Setting}
use Rattle.machine.specs.Machine.{Repeat, Step, step, step_at, steps_of}
use Rattle.machine.specs.InTheLarge.{table_run, table_log}
use Rattle.machine.specs.RowReads.{on_next, machine_log}
use Rattle.machine.proofs.LinesPassed.{past_tree}
use Rattle.machine.proofs.StepsInTurn.{log_add, log_first}
use Rattle.run.proofs.MachineFollows.{at_row, Result, LandsAt, reaches}

module _ (A : Arithmetic) (setting : Setting A) where
  module _ (lines : List TableLine) (p : ℕ) (behind : drop p lines ≡ []) (repeats : List Repeat) where
    nothing_noted_behind : (n : ℕ) (memory : Memory A) → machine_log A n setting lines (at_row A p repeats memory) ≡ []
    unfolding machine_log step step_at
    nothing_noted_behind zero memory = refl
    nothing_noted_behind (suc n) memory = log_first A setting lines n (at_row A p repeats memory) ∙ rw behind

    nothing_noted_after : (Plain : Type 0) (n : ℕ) (x : Result A) (out : Step A) → (x ≡ stuck → Plain) → LandsAt A Plain p repeats x out
        → on_next A out (λ next. machine_log A n setting lines next) ≡ []
    nothing_noted_after Plain n (through memory) out unless h = rw h (nothing_noted_behind n memory)
    nothing_noted_after Plain n (halted s) out unless h = rw h.1
    nothing_noted_after Plain n stuck out unless h = rw (h (unless refl))

  pub table_log_lem : (Plain : Type 0) (table : Table) (memory : Memory A) → (Plain → deep table ≡ 0) → (table_run A setting table memory ≡ stuck → Plain)
      → (n : ℕ) → steps_of table ≤ n → machine_log A n setting (lines_of table) (at_row A 0 [] memory) ≡ table_log A setting table memory
  unfolding lines_of
  table_log_lem Plain table memory plain unless n enough =
      let lines = flat table [] in
      let start = at_row A 0 [] memory in
      let h = reaches A Plain setting lines table 0 [] [] memory refl tt plain in
      let few = h.few in
      let more = n - h.steps in
      let split : n ≡ h.steps + more = omega arith in
      let behind = past_tree lines 0 table [] refl in
      let last = nothing_noted_after lines (0 + rows table) behind [] Plain more (table_run A setting table memory) _ unless h.lands in
      ap (λ m. machine_log A m setting lines start) split ∙ log_add A setting lines h.steps more start
      ∙ ap (machine_log A h.steps setting lines start ++◌) last ∙ append-nil _ ∙ h.notes
