-- The runner's two loops over the arithmetic: at every place on the way the run stands in the machine's state after the steps that it has taken, and
-- is left there by what the next step comes to.
use Prim.Native.Nat.{ℕ, ◌+◌, ◌≤◌, ◌<◌}
use Rattle.std.specs.Prelude.{Result, Ok, Err}
use mathlib.Core.Path.{◌≡◌, refl, sym, ap, ◌∙◌, subst}
use mathlib.Core.Logic.{◌⊎◌, inl, inr}
use mathlib.Core.Bool.{Bool}
use mathlib.Core.List.{List, []}
use native.Mathlib.Omega.{arith}
use lib.ListN.{length}
use Rattle.number.specs.Arithmetic.{Arithmetic}
use Rattle.sheet.specs.Bounds.{limit}
use Rattle.sheet.specs.declared.RowNumber.{RowNumber}
use Rattle.table.specs.TableRows.{TableLine}
use Rattle.machine.specs.Actions.{Memory, Setting}
use Rattle.machine.specs.Machine.{Repeat, State, Step, goes_on, ended, stops, sticks, step, if_it_goes_on, state_after}
use Rattle.machine.specs.Inner.Buffers.{Buffers, Cells, cells_of, memory_of, Sound, RoundSizes}
use Rattle.machine.specs.Inner.RowsHanded.{Shallow, Indexed, Indexes}
use Rattle.machine.specs.Inner.RowSteps.{Nested, Opened, Reaches, first_place, left_at, buffers_at, state_at, CopiesOn, Stays, StopsAt, Blocked, GoesTo, StepsStraight, StraightRow, Peeks, PeeksOn, CrossedSays, BlockRow}
use Rattle.machine.specs.Inner.RunsRows.{first_state, Handed, AfterSteps, LeavesBy, Leaves, RunsRows}
use Rattle.machine.specs.declared.Loop.{Loop}
use Rattle.machine.specs.declared.Place.{Place}
use Rattle.machine.specs.declared.Ahead.{Ahead}
use Rattle.machine.specs.declared.Ahead.TheVariants as ahead_as
use Rattle.machine.specs.declared.Acted.{Acted}
use Rattle.machine.specs.declared.Acted.TheVariants as acted
use Rattle.machine.specs.declared.Ended.{Ended}
use Rattle.machine.specs.declared.Ended.TheVariants as ended_as
use Rattle.machine.specs.declared.Ran.{Ran}
use Rattle.machine.proofs.StepsInTurn.{steps_add}
use Rattle.machine.proofs.OpenedLaws.{opened_length}

module _ (A : Arithmetic) (setting : Setting A) (lines : List TableLine) where
  -- ---- one step more

  after_none : (now : State A) → state_after A 0 setting lines now ≡ goes_on now
  unfolding state_after
  after_none now = refl

  after_once : (now next : State A) → step A setting lines now ≡ goes_on next → state_after A 1 setting lines now ≡ goes_on next
  unfolding state_after
  after_once now next is = rw (is, state_after)

  after_one_more : (n : ℕ) (first now next : State A) → state_after A n setting lines first ≡ goes_on now → step A setting lines now ≡ goes_on next
      → state_after A (n + 1) setting lines first ≡ goes_on next
  after_one_more n first now next so_far is =
      steps_add A setting lines n 1 first
      ∙ ap (λ (s : Step A). if_it_goes_on A s (λ then. state_after A 1 setting lines then)) so_far
      ∙ after_once now next is

  -- a ninth open repeat there is not
  blocked_sticks : (n : ℕ) (first now : State A) → Shallow A setting lines first → state_after A n setting lines first ≡ goes_on now
      → Blocked A (step A setting lines now)
      → step A setting lines now ≡ sticks
  blocked_sticks n first now shallow so_far blocked = by_step (step A setting lines now) refl blocked
    where
      by_step : (found : Step A) → step A setting lines now ≡ found → Blocked A found → step A setting lines now ≡ sticks
      by_step (goes_on next) is deep =
          let bound = shallow (n + 1) next (after_one_more n first now next so_far is) in
          absurd (omega arith)
      by_step (ended memory) is blocked = absurd blocked
      by_step (stops row stop) is blocked = absurd blocked
      by_step sticks is blocked = is

module _ (A : Arithmetic) where
  memory_rebuilt : (m : Memory A) (store values : List A.Carrier) (turns : List ℕ) (copied : List A.Carrier)
      → m.store ≡ store
      → m.values ≡ values
      → m.turns ≡ turns
      → m.copied ≡ copied
      → record { store = store; values = values; turns = turns; copied = copied } ≡ m
  memory_rebuilt m store values turns copied s v t c = rw (sym s, sym v, sym t, sym c)

  sizes_kept : (roles : List ℕ) (seeds store copied store' copied' : List A.Carrier) → length store' ≡ length store → length copied' ≡ length copied
      → RoundSizes A roles seeds store copied
      → RoundSizes A roles seeds store' copied'
  sizes_kept roles seeds store copied store' copied' s c sizes =
      let fits = sizes.store_fits in
      record { seeds_fit = sizes.seeds_fit; store_fits = rw s fits; copied_fits = c ∙ sizes.copied_fits }

-- a store of the same length has the same variables
pub still_indexed : {table : List ℕ} {rows n n' k : ℕ} → n' ≡ n → Indexed table rows n k → Indexed table rows n' k
still_indexed same indexed = rw same indexed

pub still_indexes : {table : List ℕ} {rows n n' k : ℕ} → n' ≡ n → Indexed table rows n k → Indexes table rows n'
still_indexes {k = k} same indexed = record { constants = k; indexed = still_indexed same indexed }

-- and so have the first of a table's rows
pub first_indexed : {table : List ℕ} {until rows n k : ℕ} → until ≤ rows → Indexed table rows n k → Indexed table until n k
first_indexed some indexed =
    record {
      within = omega (arith, indexed.within);
      named = λ p h. indexed.named p (omega arith);
      compared = λ p h. indexed.compared p (omega arith);
    }

-- a row leaves every buffer as long as it was
pub record SameLengths {A : Arithmetic} (before after : Cells A) : Type 0 where
  pub store : length after.store ≡ length before.store
  pub values : length after.values ≡ length before.values
  pub turns : length after.turns ≡ length before.turns
  pub copied : length after.copied ≡ length before.copied

lengths_on : {A : Arithmetic} {first cells after : Cells A} → SameLengths first cells → SameLengths cells after → SameLengths first after
lengths_on before now =
    record {
      store = now.store ∙ before.store;
      values = now.values ∙ before.values;
      turns = now.turns ∙ before.turns;
      copied = now.copied ∙ before.copied;
    }

-- what a run is given that stays as it is
pub record Task (A : Arithmetic) : Type 0 where
  pub table : List ℕ
  pub rows : ℕ
  pub beyond : List ℕ
  pub keeps : Bool
  pub roles : List ℕ
  pub constants : List ℕ
  pub seeds : List A.Carrier
  pub steps : ℕ

module _ {A : Arithmetic} (task : Task A) where
  abbrev HandedOver : (first : Cells A) → Setting A → List TableLine → Memory A → Type 0
  HandedOver first setting lines start =
      Handed A task.table task.rows task.beyond task.keeps task.roles task.constants task.seeds first setting lines start

  abbrev Straight : (until : ℕ) → Place → (before after : Cells A) → Acted → Type 0
  Straight until place before after answer =
      StraightRow A task.table until task.roles task.constants task.seeds place before after answer

  abbrev Block : Place → (before : Cells A) → (loops : List Loop) (turns_after : List ℕ) (loops_after : List Loop) → Result Place Ended → Type 0
  Block place before loops turns_after loops_after answer =
      BlockRow A task.table task.rows task.beyond task.keeps place before.store before.turns loops turns_after loops_after answer

  abbrev Left : (first after : Cells A) → (loops : List Loop) → Ran → Type 0
  Left first after loops answer =
      RunsRows A task.table task.rows task.beyond task.keeps task.roles task.constants task.seeds task.steps first after loops answer

  abbrev Running : (first : Cells A) → Setting A → List TableLine → Memory A → Place → Cells A → (loops : List Loop) → Type 0
  Running first setting lines start place cells loops = AfterSteps A setting lines start task.steps first place cells loops

  -- under every setting, lines and start that the runner may have been handed with its first buffers
  pub record Invariant (first : Cells A) (place : Place) (cells : Cells A) (loops : List Loop) : Type 0 where
    pub lengths : SameLengths first cells
    pub running : (setting : Setting A) (lines : List TableLine) (start : Memory A)
        → HandedOver first setting lines start
        → Running first setting lines start place cells loops

  -- The inner loop: what held where it began holds on. It can't see the run's first buffers, so it speaks of any.
  pub record Inner (until : ℕ) (began : Place) (cells_then : Cells A) (place : Place) (cells : Cells A) (loops : List Loop) : Type 0 where
    pub lengths : SameLengths cells_then cells
    pub reaches : Reaches until task.rows place
    pub fewer : place.left ≤ began.left
    pub still : (first : Cells A) → Invariant first began cells_then loops → Invariant first place cells loops

  pub run_starts : (first : Cells A) (loops : List Loop) (place : Place) → place ≡ first_place task.steps → limit.depth ≤ length loops
      → Invariant first place first loops
  unfolding Nested
  run_starts first loops place is room =
      rw is
      (record {
        lengths = record { store = refl; values = refl; turns = refl; copied = refl };
        running = λ setting lines start handed.
            let whole = memory_rebuilt A start first.store [] [] start.copied handed.store handed.values handed.turns refl in
            record {
              taken = 0;
              spent = omega arith;
              repeats = [];
              held = start.copied;
              is = after_none A setting lines (first_state A start) ∙ ap (λ (m : Memory A). goes_on (first_state A m)) (sym whole);
              opened = record { room = room; nested = tt };
              sound = handed.sound;
              copies = inl (refl, refl);
            };
      })

  module _ (first : Cells A) (setting : Setting A) (lines : List TableLine) (start : Memory A) (place : Place) (cells : Cells A) (loops : List Loop)
      (now : Running first setting lines start place cells loops) where
    abbrev state : State A
    state = state_at A place now.repeats cells now.held

    copies_on : (held : List A.Carrier) (after : Cells A) → CopiesOn A now.held cells held after → CopiesOn A start.copied first held after
    copies_on held after (inr is) = inr is
    copies_on held after (inl (is, kept)) = by_copies now.copies
      where
        by_copies : CopiesOn A start.copied first now.held cells → CopiesOn A start.copied first held after
        by_copies (inl (none, as_first)) = inl (is ∙ none, kept ∙ as_first)
        by_copies (inr copied) = inr (is ∙ copied ∙ sym kept)

    running_goes : (next : Place) (repeats : List Repeat) (held : List A.Carrier) (after : Cells A) (loops_after : List Loop)
        → GoesTo A setting place next repeats after held (step A setting lines state)
        → Opened next.depth loops_after repeats
        → CopiesOn A now.held cells held after
        → Running first setting lines start next after loops_after
    running_goes next repeats held after loops_after goes opened copies =
        record {
          taken = now.taken + 1;
          spent = omega (arith, now.spent, goes.fewer);
          repeats = repeats;
          held = held;
          is = after_one_more A setting lines now.taken (first_state A start) state (state_at A next repeats after held) now.is goes.is;
          opened = opened;
          sound = goes.sound;
          copies = copies_on held after copies;
        }

    -- ---- where the run is left, the row at hand has changed nothing

    module _ (held : List A.Carrier) (after : Cells A) (loops_after : List Loop) (stays : Stays A place cells after now.held held)
        (opened : Opened place.depth loops_after now.repeats)
        (copies : CopiesOn A now.held cells held after) where
      abbrev state_of : Buffers A → State A
      state_of b = record { at = record { index = place.at.0 }; repeats = now.repeats; memory = memory_of A b }

      abbrev running_stays : Running first setting lines start place after loops_after
      running_stays =
          record {
            taken = now.taken;
            spent = now.spent;
            repeats = now.repeats;
            held = held;
            is = now.is ∙ ap (λ (b : Buffers A). goes_on (state_of b)) (sym stays);
            opened = opened;
            sound = subst (λ (b : Buffers A). Sound A setting b) (sym stays) now.sound;
            copies = copies_on held after copies;
          }

      found_again : step A setting lines (state_of (buffers_at A place after held)) ≡ step A setting lines state
      found_again = ap (λ (b : Buffers A). step A setting lines (state_of b)) stays

      leaves_by : (how : Ended)
          → LeavesBy A place (memory_of A (buffers_at A place after held)) (step A setting lines (state_of (buffers_at A place after held))) how
          → Leaves A setting lines start task.steps first after loops_after (left_at place how)
      leaves_by how why = record { stands = running_stays; why = why }

      running_stops : (row : RowNumber) → row.0 ≡ place.at.0 → 0 < place.left → StopsAt A place.at.0 (step A setting lines state)
          → Leaves A setting lines start task.steps first after loops_after (left_at place (ended_as.Stopped row))
      running_stops row at some_left stop =
          leaves_by (ended_as.Stopped row)
          (some_left, at, record { stop = stop.stop; is = found_again ∙ stop.is })

      running_sticks : Shallow A setting lines (first_state A start) → 0 < place.left → Blocked A (step A setting lines state)
          → Leaves A setting lines start task.steps first after loops_after (left_at place ended_as.Stuck)
      running_sticks shallow some_left blocked =
          leaves_by ended_as.Stuck
          (some_left, found_again ∙ blocked_sticks A setting lines now.taken (first_state A start) state shallow now.is blocked)

      running_spent : place.left ≡ 0 → Leaves A setting lines start task.steps first after loops_after (left_at place ended_as.Unfinished)
      running_spent spent = leaves_by ended_as.Unfinished spent

      running_ends : 0 < place.left → step A setting lines state ≡ ended (memory_of A (buffers_at A place after held))
          → Leaves A setting lines start task.steps first after loops_after (left_at place ended_as.Finished)
      running_ends some_left is = leaves_by ended_as.Finished (some_left, found_again ∙ is)

  -- ---- the inner loop's row

  module _ {first cells after : Cells A} {until : ℕ} {place : Place} {loops : List Loop} (reaches : Reaches until task.rows place)
      (now : Invariant first place cells loops) where
    stepped : (setting : Setting A) (lines : List TableLine) (start : Memory A) → (handed : HandedOver first setting lines start)
        → (answer : Acted)
        → Straight until place cells after answer
        → StepsStraight A setting lines place (now.running setting lines start handed).repeats cells after (now.running setting lines start handed).held answer
    stepped setting lines start handed answer straight =
        let here = now.running setting lines start handed in
        straight.steps setting lines here.repeats here.held handed.holds (rw handed.rows reaches) handed.suits
        (sizes_kept A task.roles task.seeds first.store first.copied cells.store cells.copied now.lengths.store now.lengths.copied
        handed.sizes)
        here.sound

    straight_on : (next : Place) (ahead : Ahead) → Straight until place cells after (acted.On next ahead) → SameLengths cells after
        → Invariant first next after loops
    straight_on next ahead straight kept =
        record {
          lengths = lengths_on now.lengths kept;
          running = λ setting lines start handed.
              let here = now.running setting lines start handed in
              let steps_on = stepped setting lines start handed (acted.On next ahead) straight in
              running_goes first setting lines start place cells loops here next here.repeats steps_on.held after loops steps_on.says.1
              (rw steps_on.says.0 here.opened)
              steps_on.copies;
        }

    -- ---- the block row after it: where no straight row stood, nothing has happened

    module _ (straight : Straight until place cells after acted.Block) where
      module _ (setting : Setting A) (lines : List TableLine) (start : Memory A)
          (handed : HandedOver first setting lines start) where
        rested : Running first setting lines start place after loops
        rested =
            subst (λ (x : Cells A). Running first setting lines start place x loops) (sym (stepped setting lines start handed acted.Block straight).says.1)
            (now.running setting lines start handed)

        crossed_says : (turns_after : List ℕ) (loops_after : List Loop) (answer : Result Place Ended)
            → Block place after loops turns_after loops_after answer
            → CrossedSays A setting place rested.repeats loops_after after
            (cells_of A after.store after.values turns_after after.copied) rested.held
            (step A setting lines (state_at A place rested.repeats after rested.held)) answer
        crossed_says turns_after loops_after answer block =
            let few = handed.shallow rested.taken _ rested.is in
            let deep = opened_length place.depth loops rested.repeats rested.opened in
            block.steps setting lines rested.repeats after.values after.copied rested.held handed.holds handed.rows handed.jumps
            (stepped setting lines start handed acted.Block straight).says.0
            handed.keeping
            rested.opened
            (rw (sym deep) few)
            rested.sound

      module _ (turns_after : List ℕ) (loops_after : List Loop) where
        abbrev left_over : Cells A
        left_over = cells_of A after.store after.values turns_after after.copied

        block_on : (next : Place)
            → Block place after loops turns_after loops_after (Ok next)
            → SameLengths cells left_over
            → Invariant first next left_over loops_after
        block_on next block kept =
            record {
              lengths = lengths_on now.lengths kept;
              running = λ setting lines start handed.
                  let says = crossed_says setting lines start handed turns_after loops_after (Ok next) block in
                  let here = rested setting lines start handed in
                  running_goes first setting lines start place after loops here next says.repeats here.held left_over loops_after says.goes
                  says.opened
                  (inl (refl, refl));
            }

        block_out : (how : Ended) → Block place after loops turns_after loops_after (Err how)
            → Left first left_over loops_after (left_at place how)
        block_out ended_as.Finished block setting lines start handed =
            let (some_left, is, rests) = crossed_says setting lines start handed turns_after loops_after (Err ended_as.Finished) block in
            let here = rested setting lines start handed in
            running_ends first setting lines start place after loops here here.held left_over loops_after rests.stays rests.opened
            (inl (refl, refl)) some_left is
        block_out (ended_as.Stopped row) block setting lines start handed =
            absurd (crossed_says setting lines start handed turns_after loops_after (Err (ended_as.Stopped row)) block)
        block_out ended_as.Stuck block setting lines start handed =
            let (some_left, blocked, rests) = crossed_says setting lines start handed turns_after loops_after (Err ended_as.Stuck) block in
            let here = rested setting lines start handed in
            running_sticks first setting lines start place after loops here here.held left_over loops_after rests.stays rests.opened
            (inl (refl, refl)) handed.shallow some_left blocked
        block_out ended_as.Unfinished block setting lines start handed =
            let (spent, rests) = crossed_says setting lines start handed turns_after loops_after (Err ended_as.Unfinished) block in
            let here = rested setting lines start handed in
            running_spent first setting lines start place after loops here here.held left_over loops_after rests.stays rests.opened
            (inl (refl, refl)) spent

  -- ---- what each answer of the code comes to, at the place where the inner loop is

  module _ {cells cells_then after : Cells A} {until : ℕ} {place began : Place} {loops : List Loop} {answer : Acted}
      (inner : Inner until began cells_then place cells loops)
      (straight : Straight until place cells after answer) where
    module _ {next : Place} {ahead : Ahead} (is : answer ≡ acted.On next ahead) where
      pub straight_fewer : next.left < place.left
      straight_fewer = omega (arith, (rw is at straight).left)

      pub inner_goes : SameLengths cells after → Inner until began cells_then next after loops
      inner_goes kept =
          let goes = rw is at straight in
          record {
            lengths = lengths_on inner.lengths kept;
            reaches = omega (arith, goes.left, goes.at, inner.reaches);
            fewer = omega (arith, goes.left, inner.fewer);
            still = λ first before. straight_on inner.reaches (inner.still first before) next ahead goes kept;
          }

    module _ {first : Cells A} (run : Invariant first began cells_then loops) where
      pub straight_stops : {ran : Ran} {row : RowNumber} → answer ≡ acted.Stopped → row.0 ≡ place.at.0 → ran ≡ left_at place (ended_as.Stopped row)
          → Left first after loops ran
      straight_stops {row = row} is at answered setting lines start handed =
          let now = inner.still first run in
          let here = now.running setting lines start handed in
          let stepping = stepped inner.reaches now setting lines start handed acted.Stopped (rw is at straight) in
          let (some_left, stop, stays) = stepping.says in
          rw answered
          (running_stops first setting lines start place cells loops here stepping.held after loops stays here.opened
          stepping.copies row at some_left stop)

      pub straight_sticks : {ran : Ran} → answer ≡ acted.Stuck → ran ≡ left_at place ended_as.Stuck → Left first after loops ran
      straight_sticks is answered setting lines start handed =
          let now = inner.still first run in
          let here = now.running setting lines start handed in
          let stepping = stepped inner.reaches now setting lines start handed acted.Stuck (rw is at straight) in
          let (some_left, blocked, stays) = stepping.says in
          rw answered
          (running_sticks first setting lines start place cells loops here stepping.held after loops stays here.opened
          stepping.copies handed.shallow some_left blocked)

      module _ {turns_after : List ℕ} {loops_after : List Loop} {crossing : Result Place Ended}
          (block : Block place after loops turns_after loops_after crossing) where
        pub block_goes : {next : Place} → answer ≡ acted.Block → crossing ≡ Ok next
            → SameLengths cells (cells_of A after.store after.values turns_after after.copied)
            → Invariant first next (cells_of A after.store after.values turns_after after.copied) loops_after
        block_goes {next} none is kept =
            block_on inner.reaches (inner.still first run) (rw none at straight) turns_after loops_after next (rw is at block) kept

        pub block_ends : {ran : Ran} {how : Ended} → answer ≡ acted.Block → crossing ≡ Err how → ran ≡ left_at place how
            → Left first (cells_of A after.store after.values turns_after after.copied) loops_after ran
        block_ends {how = how} none is answered =
            subst (λ (r : Ran). Left first (cells_of A after.store after.values turns_after after.copied) loops_after r) (sym answered)
            (block_out inner.reaches (inner.still first run) (rw none at straight) turns_after loops_after how (rw is at block))

  -- ---- what peeking comes to at the place after a row: the inner loop goes on from where it answers

  module _ {store store_after : List A.Carrier} {until : ℕ} {place answer : Place}
      (peek : Peeks A task.table until place store store_after answer) where
    inner_peeks : {values copied : List A.Carrier} {turns : List ℕ} {began : Place} {cells_then : Cells A} {loops : List Loop}
        → Inner until began cells_then place (cells_of A store values turns copied) loops
        → length store_after ≡ length store
        → Inner until began cells_then answer (cells_of A store_after values turns copied) loops
    inner_peeks {values} {copied} {turns} {began} {cells_then} {loops} inner kept =
        by_row (peek.peeks task.roles task.constants task.seeds values turns copied)
      where
        by_row : ((answer ≡ place) × (store_after ≡ store))
            ⊎ Straight until place (cells_of A store values turns copied) (cells_of A store_after values turns copied) (acted.On answer ahead_as.Any)
            → Inner until began cells_then answer (cells_of A store_after values turns copied) loops
        by_row (inl (is, same)) =
            subst (λ (p : Place). Inner until began cells_then p (cells_of A store_after values turns copied) loops) (sym is)
            (subst (λ (s : List A.Carrier). Inner until began cells_then place (cells_of A s values turns copied) loops) (sym same) inner)
        by_row (inr straight) = inner_goes inner straight refl (record { store = kept; values = refl; turns = refl; copied = refl })

  -- and peeking there once more

  module _ {store store_after : List A.Carrier} {until : ℕ} {place answer : Place}
      (peeks : PeeksOn A task.table until place store store_after answer) where
    pub inner_peeks_on : {values copied : List A.Carrier} {turns : List ℕ} {began : Place} {cells_then : Cells A} {loops : List Loop}
        → Inner until began cells_then place (cells_of A store values turns copied) loops
        → length store_after ≡ length store
        → Inner until began cells_then answer (cells_of A store_after values turns copied) loops
    inner_peeks_on inner kept = inner_peeks peeks.second (inner_peeks peeks.first inner peeks.long) (kept ∙ sym peeks.long)
