-- What is executed with rates, in the plain engine or by the machine on a tangent table, by any sets, has the values of executing the sheet by itself.
use Prim.Native.Nat.{ℕ, zero, suc, ◌+◌, ◌<◌}
use mathlib.Core.Path.{◌≡◌, refl, sym, ap, ◌∙◌}
use mathlib.Core.Bool.{Bool, true, false, cond}
use mathlib.Core.List.{List}
use mathlib.Core.Option.{Option, none, some}
use lib.ListN.{length, take, set}
use native.Mathlib.Omega.{arith}
use borrow.Author.Tests.{lt-ltb}
use Rattle.number.specs.Arithmetic.{Arithmetic, divides}
use Rattle.number.specs.Residues.{residues}
use Rattle.sheet.specs.Tree.{times, while, Tree, done, one, fork, again, rows}
use Rattle.sheet.specs.Rows.{Assignment, ◌≔◌, Source, Test}
use Rattle.sheet.specs.Sheets.{Sheet, variables_of}
use Rattle.sheet.proofs.Feasibility.{ReadFor}
use Rattle.sets.specs.Transfers.{Activity}
use Rattle.sets.specs.Marks.{Sets, numbered, mark_by, marked_by}
use Rattle.table.specs.TableRows.{turn_word}
use Rattle.table.specs.Adjoint.{Body}
use Rattle.machine.specs.Actions.{Attempt, through, halted, stuck, ◌>>=◌, present, turns_then, while_then, replaced, Memory, Stop, Try, evaluated, compared}
use Rattle.machine.specs.Machine.{Step, ended}
use Rattle.machine.proofs.AttemptLaws.{went, same_through, was_replaced}
use Rattle.run.specs.Runs.{run_of}
use Rattle.tangent.specs.Tangent.{tangent_by, tangent_rows, rate_count, rows_over}
use Rattle.tangent.specs.TangentRuns.{tangent_setting, tangent_start}
use Rattle.plain.specs.Plain.{Carried, StopAt, stopping_in, rate_for, carried_over, plain_run, plain_by}
use Rattle.plain.proofs.WholeRunsAgree.{SameEnd, both_end, both_halt, runs_agree}
use Rattle.claims.specs.IdealSweep.{Progress, beginning, performed, turned, executed, execution}

module _ (A : Arithmetic) where
  -- an execution that goes through and comes to these values
  pub record Executes (attempt : Attempt (Stop A) (Progress A)) (values : List A.Carrier) : Type 0 where
    pub progress : Progress A
    pub goes : attempt ≡ through progress
    pub same : progress.store ≡ values

  then_executes : (attempt : Attempt (Stop A) (Progress A)) (next : Progress A → Attempt (Stop A) (Progress A)) {between values : List A.Carrier}
      → Executes attempt between → ((progress : Progress A) → progress.store ≡ between → Executes (next progress) values)
      → Executes (attempt >>= next) values
  then_executes attempt next first h = rw first.goes (h first.progress first.same)

  -- by what a test answers
  answer_executes : (test : Option Bool) (carried : Bool → Attempt (StopAt A) (Carried A)) (runs : Bool → Attempt (Stop A) (Progress A)) (end : Carried A)
      → ((first : Bool) → carried first ≡ through end → Executes (runs first) end.values)
      → (present test >>= carried) ≡ through end → Executes (present test >>= runs) end.values
  answer_executes none carried runs end h e = let z : ◌≡◌ {A = ℕ} 0 1 = cc in absurd (omega arith)
  answer_executes (some first) carried runs end h e = h first e

  -- one of two
  either_executes : (first : Bool) (of_a of_b : Attempt (StopAt A) (Carried A)) (a b : Attempt (Stop A) (Progress A)) (end : Carried A)
      → (of_a ≡ through end → Executes a end.values) → (of_b ≡ through end → Executes b end.values)
      → cond first of_a of_b ≡ through end → Executes (cond first a b) end.values
  either_executes true of_a of_b a b end h other = h
  either_executes false of_a of_b a b end other h = h

  -- by the branch that a test picks
  fork_executes : (test : Option Bool) (of_a of_b : Attempt (StopAt A) (Carried A)) (then : Carried A → Attempt (StopAt A) (Carried A))
      (a b : Attempt (Stop A) (Progress A)) (after : Bool → Progress A → Attempt (Stop A) (Progress A)) (end : Carried A)
      → ((next : Carried A) → of_a ≡ through next → Executes a next.values) → ((next : Carried A) → of_b ≡ through next → Executes b next.values)
      → ((first : Bool) (next : Carried A) (between : Progress A) → between.store ≡ next.values → then next ≡ through end
      → Executes (after first between) end.values)
      → (present test >>= λ first. cond first of_a of_b >>= then) ≡ through end
      → Executes (present test >>= λ first. cond first a b >>= λ between. after first between) end.values
  fork_executes test of_a of_b then a b after end first second rest =
      answer_executes test (λ taken. cond taken of_a of_b >>= then) (λ taken. cond taken a b >>= after taken) end
      (λ taken e.
      let c = went (cond taken of_a of_b) then end e in
      then_executes (cond taken a b) (after taken) (either_executes taken of_a of_b a b c.0 (first c.0) (second c.0) c.1)
      (λ between here. rest taken c.0 between here c.2))

  -- loops, of which each turn and what follows are executed
  module _ (its_turn then : Carried A → Attempt (StopAt A) (Carried A)) (turn next : Progress A → Attempt (Stop A) (Progress A)) (end : Carried A)
      (turns : (now after : Carried A) (before : Progress A) → before.store ≡ now.values → its_turn now ≡ through after
      → Executes (turn before) after.values)
      (follows : (now : Carried A) (before : Progress A) → before.store ≡ now.values → then now ≡ through end → Executes (next before) end.values) where
    -- a turn, and then what is executed from there
    turn_executes : (then : Carried A → Attempt (StopAt A) (Carried A)) (next : Progress A → Attempt (Stop A) (Progress A))
        → ((now : Carried A) (before : Progress A) → before.store ≡ now.values → then now ≡ through end → Executes (next before) end.values)
        → (now : Carried A) (before : Progress A) → before.store ≡ now.values → (its_turn now >>= then) ≡ through end
        → Executes (turn before >>= next) end.values
    turn_executes then next later now before same e =
        let c = went (its_turn now) then end e in
        then_executes (turn before) next (turns now c.0 before same c.1) (λ between here. later c.0 between here c.2)

    turns_execute : (m : ℕ) (now : Carried A) (before : Progress A) → before.store ≡ now.values
        → turns_then m its_turn then now ≡ through end → Executes (turns_then m turn next before) end.values
    unfolding turns_then
    turns_execute zero = turn_executes then next follows
    turns_execute (suc m) = turn_executes (turns_then m its_turn then) (turns_then m turn next) (turns_execute m)

    -- the count that is put away leaves the values as they are
    while_executes : (holds : List A.Carrier → Option Bool) (n left : ℕ) (now : Carried A) (before : Progress A) → before.store ≡ now.values
        → while_then (λ now. holds now.values) its_turn (λ n now. through now) then n left now ≡ through end
        → Executes (while_then (λ now. holds now.store) turn (λ n now. through (turned A n now)) next n left before) end.values
    unfolding while_then
    while_executes holds n zero now before same e = follows now (turned A n before) same e
    while_executes holds n (suc left) now before same e =
        rw (ap holds same)
        (answer_executes (holds now.values) _ _ end
        (λ more.
        either_executes more _ _ _ _ end (turn_executes _ _ (while_executes holds (suc n) left) now before same) (follows now (turned A n before) same)) e)

  passed_in : {X : Type 0} (row : ℕ) (m : Try A X) (x : X) → stopping_in A row m ≡ through x → m ≡ through x
  passed_in row (through y) x e = cc
  passed_in row (halted why) x e = let z : ◌≡◌ {A = ℕ} 0 1 = cc in absurd (omega arith)
  passed_in row stuck x e = let z : ◌≡◌ {A = ℕ} 0 1 = cc in absurd (omega arith)

  module _ (constants : List ℕ) where
    -- one assignment that was carried over: the value it gave, and the values after it
    record CarriedValue (d : ℕ) (source : Source) (before after : List A.Carrier) : Type 0 where
      value : A.Carrier
      gives : evaluated A constants source before ≡ through value
      there : d < length before
      is : set before d value ≡ after

    was_carried : (d : ℕ) (source : Source) (known : Activity) (row : ℕ) (now next : Carried A)
        → carried_over A constants (d ≔ source) known row now ≡ through next → CarriedValue d source now.values next.values
    unfolding carried_over
    was_carried d source known row now next e =
        let own = row + rate_count source known in
        let c₁ = went (rate_for A source known row now) _ next e in
        let c₂ = went (stopping_in A own (evaluated A constants source now.values)) _ next c₁.2 in
        let c₃ = went (replaced now.values d c₂.0) _ next c₂.2 in
        let c₄ = went (replaced now.rates d c₁.0) _ next c₃.2 in
        let placed = was_replaced now.values c₃.0 d c₂.0 c₃.1 in
        record {
          value = c₂.0;
          gives = passed_in own _ c₂.0 c₂.1;
          there = placed.0;
          is = sym placed.1 ∙ ap (λ (n : Carried A). n.values) (same_through c₄.2);
        }

    assignment_executes : (b : Assignment) (known : Activity) (row p : ℕ) (now next : Carried A) (before : Progress A) → before.store ≡ now.values
        → carried_over A constants b known row now ≡ through next → Executes (performed A constants p b before) next.values
    unfolding performed
    assignment_executes (d ≔ source) known row p now next before same e =
        by_value now.values same (was_carried d source known row now next e)
      where
        by_value : (values : List A.Carrier) → before.store ≡ values → CarriedValue d source values next.values
            → Executes (performed A constants p (d ≔ source) before) next.values
        by_value values same carried =
            rw (same, carried.gives, lt-ltb d (length values) carried.there) (record { progress = _; goes = refl; same = carried.is })

    module _ (sets : Sets) (v : ℕ) where
      abbrev body : Tree Assignment Test → ℕ → Body
      body t p = numbered (mark_by sets) t p

      carried_executes : (t : Tree Assignment Test) (p row : ℕ) (now end : Carried A) (before : Progress A) → before.store ≡ now.values
          → plain_run A v constants (body t p) row now ≡ through end → Executes (executed A constants t p before) end.values
      unfolding plain_run executed numbered mark_by
      carried_executes done p row now end before same e =
          record { progress = before; goes = refl; same = same ∙ ap (λ (n : Carried A). n.values) (same_through e) }
      carried_executes (one b k) p row now end before same e =
          let known = (mark_by sets p b).known in
          let c = went (carried_over A constants b known row now) _ end e in
          then_executes (performed A constants p b before) (executed A constants k (suc p))
          (assignment_executes b known row p now c.0 before same c.1)
          (λ next here. carried_executes k (suc p) (row + rows_over b known) c.0 end next here c.2)
      carried_executes (fork f a b k) p row now end before same e =
          let split = suc p + rows a in
          let row_split = suc row + tangent_rows v (body a (suc p)) in
          let after = suc (suc row_split + tangent_rows v (body b (suc split))) in
          rw (ap (compared A f) same)
          (fork_executes (compared A f now.values) (plain_run A v constants (body a (suc p)) (suc row) now)
          (plain_run A v constants (body b (suc split)) (suc row_split) now) (plain_run A v constants (body k (suc (suc split + rows b))) after)
          (executed A constants a (suc p) before) (executed A constants b (suc split) before)
          (λ first next. executed A constants k (suc (suc split + rows b)) (turned A (turn_word first) next)) end
          (λ next went. carried_executes a (suc p) (suc row) now next before same went)
          (λ next went. carried_executes b (suc split) (suc row_split) now next before same went)
          (λ first next between here went. carried_executes k (suc (suc split + rows b)) after next end (turned A (turn_word first) between) here went) e)
      carried_executes (again (times m) a k) p row now end before same e =
          let after = suc (suc p + rows a) in
          let row_after = suc (suc row + tangent_rows v (body a (suc p))) in
          turns_execute (plain_run A v constants (body a (suc p)) (suc row)) (plain_run A v constants (body k after) row_after)
          (executed A constants a (suc p)) (executed A constants k after) end
          (carried_executes a (suc p) (suc row)) (λ now before. carried_executes k after row_after now end before) m now before same e
      carried_executes (again (while f m) a k) p row now end before same e =
          let after = suc (suc p + rows a) in
          let row_after = suc (suc row + tangent_rows v (body a (suc p))) in
          while_executes (plain_run A v constants (body a (suc p)) (suc row)) (plain_run A v constants (body k after) row_after)
          (executed A constants a (suc p)) (executed A constants k after) end
          (carried_executes a (suc p) (suc row)) (λ now before. carried_executes k after row_after now end before) (compared A f) 0 (suc m) now before same e

  -- ---- whole runs of a sheet

  module _ (sheet : Sheet) (sets : Sets) (starts rates : List A.Carrier) where
    pub plain_executes : (now : Carried A) → plain_by A sets sheet starts rates ≡ through now → Executes (execution A sheet starts) now.values
    unfolding plain_by marked_by execution
    plain_executes now e = carried_executes sheet.constants sets (variables_of sheet) sheet.body 0 0 _ now (beginning A starts) refl e

    abbrev tangent_run : Step A
    tangent_run = run_of A (tangent_by sets sheet) (tangent_setting A sheet rates) (tangent_start A sheet starts rates)

    pub tangent_executes : (words : List ℕ) → ReadFor (divides A) words sheet → length starts ≡ variables_of sheet → (memory : Memory A) → tangent_run ≡ ended memory
        → Executes (execution A sheet starts) (take (variables_of sheet) memory.store)
    tangent_executes words reads many memory e = by_end (runs_agree A sheet starts rates words reads sets many)
      where
        by_end : SameEnd A sheet tangent_run (plain_by A sets sheet starts rates)
            → Executes (execution A sheet starts) (take (variables_of sheet) memory.store)
        by_end (both_end left now is goes values result) =
            let whole = plain_executes now goes in
            let one_memory : left ≡ memory = cc in
            record {
              progress = whole.progress;
              goes = whole.goes;
              same = whole.same ∙ sym values ∙ ap (λ (m : Memory A). take (variables_of sheet) m.store) one_memory;
            }
        by_end (both_halt row stop is goes) = let z : ◌≡◌ {A = ℕ} 0 1 = cc in absurd (omega arith)

-- In residues nothing stops, so every run ends.
pub residues_end : (words : List ℕ) (sheet : Sheet) → ReadFor false words sheet → (sets : Sets) (starts rates : List ℕ) → length starts ≡ variables_of sheet
    → (memory : Memory residues) × (tangent_run residues sheet sets starts rates ≡ ended memory)
residues_end words sheet reads sets starts rates many = by_end (runs_agree residues sheet starts rates words reads sets many)
  where
    by_end : SameEnd residues sheet (tangent_run residues sheet sets starts rates) (plain_by residues sets sheet starts rates)
        → (memory : Memory residues) × (tangent_run residues sheet sets starts rates ≡ ended memory)
    by_end (both_end memory now is goes values result) = (memory, is)
    by_end (both_halt row stop is goes) = absurd stop.why
