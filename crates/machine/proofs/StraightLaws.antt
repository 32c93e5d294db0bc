-- A straight row's code as one step of the machine: what is read at a place, and then over the arithmetic.
use Prim.Native.Nat.{ℕ, zero, suc, ◌+◌, ◌*◌, ◌<◌}
use Rattle.std.specs.Prelude.{Result, Ok, Err}
use Rattle.machine.specs.declared.Stuck.{Stuck}
use mathlib.Core.Path.{◌≡◌, refl, sym, ap, ◌∙◌, subst}
use mathlib.Core.Bool.{Bool}
use mathlib.Core.Logic.{◌⊎◌, inl, inr}
use mathlib.Core.List.{List, [], ◌∷◌}
use mathlib.Core.Option.{none, some}
use native.Mathlib.Omega.{arith}
use native.Mathlib.Numerals.{add-one}
use lib.ListN.{length, drop}
use lib.Dec.{eqb}
use Rattle.number.specs.Arithmetic.{Arithmetic}
use Rattle.sheet.specs.Bounds.{limit}
use Rattle.sheet.specs.Tree.{basic}
use Rattle.sheet.specs.Rows.{Source, quotient, ◌≔◌, Row, row_of, quotient_kind}
use Rattle.sheet.specs.Sheets.{row_at}
use Rattle.table.specs.TableRows.{Action, assign, save, take_back, save_turn, clear, turn_round, TableLine, TableRow, row_of_action, table_row_of}
use Rattle.machine.specs.Actions.{Attempt, through, halted, stuck, Memory, Setting, Try, stopping_at, evaluated, acted}
use Rattle.machine.specs.Inner.RowAnswers.{whether_went, whether_did, whether_moved, height_after}
use Rattle.machine.specs.Machine.{Repeat, Step, step, step_at, after_action, go_to}
use Rattle.machine.specs.Inner.Buffers.{Buffers, Cells, cells_of, memory_of, Sound, Does, Assigns, MovesValues, SavesTurn, Clears, RoundSizes, TurnsRound}
use Rattle.machine.specs.Inner.RowWords.{action_of}
use Rattle.machine.specs.Inner.RowsHanded.{Holds, Suits}
use Rattle.machine.specs.Inner.RowSteps.{buffers_at, state_at, raised, following, acted_by, went_to, did_to, values_to, turns_to, NoneStraight, ActedLeft, ActedAt, CopiesOn, Acts, ActsBy, ActedSays, Stays, Blocked, StepsStraight, StraightRow}
use Rattle.machine.specs.declared.Place.{Place}
use Rattle.machine.specs.declared.Ahead.{Ahead}
use Rattle.machine.specs.declared.Ahead.TheVariants as ahead_as
use Rattle.machine.specs.declared.Acted.{Acted}
use Rattle.machine.specs.declared.Acted.TheVariants as acted_as
use Rattle.machine.proofs.RowsPinned.{halted_apart, stuck_apart}
use Rattle.machine.proofs.LineLaws.{action_said, straight_or_not, says_save, says_take_back, says_save_turn, says_clear, says_turn_round, says_quotient}
use Rattle.machine.proofs.RowLaws.{assign_sticks}

-- ---- the line that stands at a row

pub record Stands (lines : List TableLine) (at : ℕ) : Type 0 where
  pub line : TableLine
  pub rest : List TableLine
  pub is : drop at lines ≡ line ∷ rest

pub stands_there : (lines : List TableLine) (at : ℕ) → at < length lines → Stands lines at
stands_there [] at h = absurd (omega arith)
stands_there (line ∷ lines) zero h = record { line = line; rest = lines; is = refl }
stands_there (line ∷ lines) (suc at) h =
    let later = stands_there lines at (omega arith) in
    record { line = later.line; rest = later.rest; is = later.is }

heads : (line other : TableLine) (rest more : List TableLine) → line ∷ rest ≡ other ∷ more → line ≡ other
heads line other rest more is = cc

-- its row's words are those in the table
pub words_there : (table : List ℕ) (lines rest : List TableLine) (line : TableLine) (at : ℕ) (row : Row) → Holds table lines
    → row ≡ row_at table (1 + at * limit.row_words)
    → drop at lines ≡ line ∷ rest
    → table_row_of line ≡ row
words_there table lines rest line at row holds said is =
    let same : 1 + 4 * at ≡ 1 + at * 4 = omega arith in
    sym (holds.held at line rest is) ∙ ap (row_at table) same ∙ sym said

-- ---- the answers, as attempts that lead to a place

acted_left : {Why : Type 0} (went : Attempt Why (Unit {0})) (next : Place) (ahead : Ahead)
    → ActedLeft (suc next.left) (acted_by went next ahead)
acted_left (through u) next ahead = refl
acted_left (halted why) next ahead = tt
acted_left stuck next ahead = tt

acted_at : {Why : Type 0} (went : Attempt Why (Unit {0})) (next : Place) (ahead : Ahead) → ActedAt next.at.0 (acted_by went next ahead)
acted_at (through u) next ahead = refl
acted_at (halted why) next ahead = tt
acted_at stuck next ahead = tt

did_answers : {Stop Why : Type 0} (why : Stop → Why) (w : Result (Unit {0}) Stop) (next : Place) (ahead : Ahead)
    → did_to w next ahead ≡ acted_by (whether_did why w) (raised next next.values next.turns) ahead
did_answers why (Ok u) next ahead = refl
did_answers why (Err s) next ahead = refl

module _ (Why : Type 0) where
  went_answers : (w : Result (Unit {0}) Stuck) (next : Place)
      → went_to w next ≡ acted_by (whether_went {Why = Why} w) (raised next next.values next.turns) ahead_as.Any
  went_answers (Ok u) next = refl
  went_answers (Err s) next = refl

  values_answer : (m : Result ℕ Stuck) (next : Place) (ahead : Ahead)
      → values_to m next ahead ≡ acted_by (whether_moved {Why = Why} m) (raised next (height_after m next.values) next.turns) ahead
  values_answer (Ok height) next ahead = refl
  values_answer (Err s) next ahead = refl

  turns_answer : (m : Result ℕ Stuck) (next : Place)
      → turns_to m next ≡ acted_by (whether_moved {Why = Why} m) (raised next next.values (height_after m next.turns)) ahead_as.Any
  turns_answer (Ok height) next = refl
  turns_answer (Err s) next = refl

module _ {A : Arithmetic} where
  -- ---- what a straight row does, by the contract of its code

  module _ {row : Row} {roles constants : List ℕ} {seeds : List A.Carrier} {next : Place} {answer : Acted} where
    acts_as : {before after : Cells A} (action : Action) (went : Try A (Unit {0})) (height turn_height : ℕ) (ahead : Ahead) → action_of row ≡ some action
        → answer ≡ acted_by went (raised next height turn_height) ahead
        → ((setting : Setting A) (former : List A.Carrier) → Suits A roles constants seeds setting
        → RoundSizes A roles seeds before.store before.copied
        → Sound A setting (buffers_at A next before former)
        → (held : List A.Carrier)
        × Does A setting action (buffers_at A next before former) (buffers_at A (raised next height turn_height) after held) went
        × CopiesOn A former before held after)
        → ActsBy A row roles constants seeds next before after answer
    acts_as {before} {after} action went height turn_height ahead said answers does =
        record {
          left = rw answers (acted_left went (raised next height turn_height) ahead);
          at = rw answers (acted_at went (raised next height turn_height) ahead);
          acts = λ setting other former told suits sizes sound.
              let both : some action ≡ some other = sym said ∙ told in
              let same : action ≡ other = cc in
              let done = does setting former suits sizes sound in
              subst (λ (a : Action). Acts A setting a next before after former answer) same
              (record {
                went = went;
                height = height;
                turn_height = turn_height;
                held = done.0;
                ahead = ahead;
                answers = answers;
                does = done.1;
                copies = done.2;
              });
          other = λ told.
              let nothing : some action ≡ none = sym said ∙ told in
              let z : ◌≡◌ {A = ℕ} 0 1 = cc in
              absurd (omega arith);
        }

    -- words of no straight row
    pub none_acts : {cells : Cells A} → action_of row ≡ none → answer ≡ acted_as.Block → ActsBy A row roles constants seeds next cells cells answer
    none_acts said answers =
        rw answers
        (record {
          left = tt;
          at = tt;
          acts = λ setting action former told suits sizes sound.
              let nothing : none ≡ some action = sym said ∙ told in
              let z : ◌≡◌ {A = ℕ} 0 1 = cc in
              absurd (omega arith);
          other = λ told. (refl, refl);
        })

    module _ {store values : List A.Carrier} {turns : List ℕ} {copied : List A.Carrier} where
      values_move : {action : Action} {m : Result ℕ Stuck} (ahead : Ahead) {store_after values_after : List A.Carrier} → action_of row ≡ some action
          → answer ≡ values_to m next ahead
          → MovesValues A action store values next.values store_after values_after m
          → ActsBy A row roles constants seeds next (cells_of A store values turns copied) (cells_of A store_after values_after turns copied) answer
      values_move {action} {m} ahead said answers moves =
          acts_as action (whether_moved m) (height_after m next.values) next.turns ahead said (answers ∙ values_answer A.Why m next ahead)
          (λ setting former suits sizes sound. (former, moves.does setting turns next.turns former sound, inl (refl, refl)))

      pub saved : {m : Result ℕ Stuck} (ahead : Ahead) {values_after : List A.Carrier} → row.kind ≡ 12 → answer ≡ values_to m next ahead
          → MovesValues A (save row.d) store values next.values store values_after m
          → ActsBy A row roles constants seeds next (cells_of A store values turns copied) (cells_of A store values_after turns copied) answer
      saved ahead kind answers moves = values_move ahead (says_save row kind) answers moves

      pub taken_back : {m : Result ℕ Stuck} (ahead : Ahead) {store_after values_after : List A.Carrier} → row.kind ≡ 13 → answer ≡ values_to m next ahead
          → MovesValues A (take_back row.d) store values next.values store_after values_after m
          → ActsBy A row roles constants seeds next (cells_of A store values turns copied) (cells_of A store_after values_after turns copied) answer
      taken_back ahead kind answers moves = values_move ahead (says_take_back row kind) answers moves

      pub turn_saved : {first : Bool} {m : Result ℕ Stuck} {turns_after : List ℕ} → row.kind ≡ 14 → first ≡ eqb row.a 1 → answer ≡ turns_to m next
          → SavesTurn A first turns next.turns turns_after m
          → ActsBy A row roles constants seeds next (cells_of A store values turns copied) (cells_of A store values turns_after copied) answer
      turn_saved {first} {m} kind is answers saves =
          acts_as (save_turn first) (whether_moved m) next.values (height_after m next.turns) ahead_as.Any
          (says_save_turn row kind ∙ ap (λ (b : Bool). some (save_turn b)) (sym is))
          (answers ∙ turns_answer A.Why m next)
          (λ setting former suits sizes sound. (former, saves.does setting store values next.values former sound, inl (refl, refl)))

      pub cleared : {w : Result (Unit {0}) Stuck} {store_after : List A.Carrier} → row.kind ≡ 16 → answer ≡ went_to w next
          → Clears A row.d store store_after w
          → ActsBy A row roles constants seeds next (cells_of A store values turns copied) (cells_of A store_after values turns copied) answer
      cleared {w} kind answers clears =
          acts_as (clear row.d) (whether_went w) next.values next.turns ahead_as.Any (says_clear row kind) (answers ∙ went_answers A.Why w next)
          (λ setting former suits sizes sound. (former, clears.does setting values next.values turns next.turns former sound, inl (refl, refl)))

      pub turned_round : {w : Result (Unit {0}) Stuck} {store_after copied_after : List A.Carrier} → row.kind ≡ 17 → answer ≡ went_to w next
          → TurnsRound A roles seeds store copied store_after copied_after w
          → ActsBy A row roles constants seeds next (cells_of A store values turns copied) (cells_of A store_after values turns copied_after) answer
      turned_round {w} {store_after} {copied_after} kind answers turns_it =
          acts_as turn_round (whether_went w) next.values next.turns ahead_as.Any (says_turn_round row kind) (answers ∙ went_answers A.Why w next)
          (λ setting former suits sizes sound. (
            copied_after,
            turns_it.round sizes setting values next.values turns next.turns former suits.variables suits.roles suits.seeds sound,
            inr refl,
          ))

      pub assigned : (ahead : Ahead) {s : Source} {got : Try A A.Carrier} {went : Try A (Unit {0})} {store_after : List A.Carrier}
          → action_of row ≡ some (assign (row.d ≔ s))
          → answer ≡ acted_by went (raised next next.values next.turns) ahead
          → got ≡ evaluated A constants s store
          → Assigns A row.d got store store_after went
          → ActsBy A row roles constants seeds next (cells_of A store values turns copied) (cells_of A store_after values turns copied) answer
      assigned ahead {s} {got} {went} {store_after} said answers reads assigns =
          acts_as (assign (row.d ≔ s)) went next.values next.turns ahead said answers
          (λ setting former suits sizes sound. (
            former,
            assigns.does setting s (reads ∙ rw suits.constants) values next.values turns next.turns former sound,
            inl (refl, refl),
          ))

  -- ---- the step

  -- an action's outcome is the step's
  module _ (place : Place) (before after : Cells A) (answer : Acted) (left : ℕ) (spends : place.left ≡ suc left) (setting : Setting A) (lines rest : List TableLine) (row : TableRow)
      (repeats : List Repeat)
      (former : List A.Carrier)
      (here : drop place.at.0 lines ≡ basic row ∷ rest) where
    abbrev next : Place
    next = following place (place.at.0 + 1) left

    abbrev step_there : Step A
    step_there = step A setting lines (state_at A place repeats before former)

    abbrev after_acting : Try A (Memory A) → Step A
    after_acting x = after_action A (state_at A place repeats before former) (stopping_at A row.origin x)

    there_acted : step_there
        ≡ after_acting (acted A setting row.action (memory_of A (buffers_at A place before former)))
    unfolding step step_at
    there_acted = rw here

    -- the buffers of a row that did not go through, at the row's own place
    stays_there : (height turn_height : ℕ) (held : List A.Carrier)
        → buffers_at A (raised next height turn_height) after held ≡ buffers_at A next before former
        → Stays A place before after former held
    stays_there height turn_height held same =
        ap
        (λ (b : Buffers A). record {
          store = b.store;
          values = b.values;
          height = place.values;
          turns = b.turns;
          turn_height = place.turns;
          copied = b.copied;
        })
        same

    outcome_said : (went : Try A (Unit {0})) (height turn_height : ℕ) (held : List A.Carrier) (ahead : Ahead)
        → answer ≡ acted_by went (raised next height turn_height) ahead
        → Does A setting row.action (buffers_at A next before former) (buffers_at A (raised next height turn_height) after held) went
        → ActedSays A setting lines place repeats before after former held step_there answer
    outcome_said (through u) height turn_height held ahead is does =
        subst (λ (r : Acted). ActedSays A setting lines place repeats before after former held step_there r) (sym is) (
          refl,
          record {
            is =
                there_acted
                ∙ ap after_acting (sym does.meaning)
                ∙ ap (λ (n : ℕ). go_to A n repeats (memory_of A (buffers_at A (raised next height turn_height) after held))) (sym (add-one place.at.0));
            fewer = spends;
            sound = does.sound;
          },
        )
    outcome_said (halted why) height turn_height held ahead is does =
        subst (λ (r : Acted). ActedSays A setting lines place repeats before after former held step_there r) (sym is) (
          omega arith,
          record {
            stop = record { origin = row.origin; why = why };
            is = there_acted ∙ ap after_acting (sym does.meaning);
          },
          stays_there height turn_height held (does.unchanged (halted_apart why)),
        )
    outcome_said stuck height turn_height held ahead is does =
        let stays = there_acted ∙ ap after_acting (sym does.meaning) in
        subst (λ (r : Acted). ActedSays A setting lines place repeats before after former held step_there r) (sym is)
        (omega arith, subst (λ (s : Step A). Blocked A s) (sym stays) tt, stays_there height turn_height held (does.unchanged stuck_apart))

  module _ {table : List ℕ} {until : ℕ} {roles constants : List ℕ} {seeds : List A.Carrier} {place : Place} where
    pub straight_acts : {before after : Cells A} {answer : Acted} {words : Row} {to : Place} {left : ℕ}
        → place.left ≡ suc left
        → place.at.0 < until
        → words ≡ row_at table (1 + place.at.0 * limit.row_words)
        → to ≡ following place (place.at.0 + 1) left
        → ActsBy A words roles constants seeds to before after answer
        → StraightRow A table until roles constants seeds place before after answer
    unfolding table_row_of row_of
    straight_acts {before} {after} {answer} {words} {to} {left} spends within said follows acts =
        let does = rw follows at acts in
        record {
          left = rw spends does.left;
          at = subst (λ (n : ℕ). ActedAt n answer) (add-one place.at.0) does.at;
          steps = λ setting lines repeats former holds reaches suits sizes sound.
              let there = stands_there lines place.at.0 (omega arith) in
              let told = words_there table lines there.rest there.line place.at.0 words holds said there.is in
              by_line setting lines there.rest there.line repeats former does suits sizes sound there.is told (straight_or_not there.line);
        }
      where
        by_line : (setting : Setting A) (lines rest : List TableLine) (line : TableLine) (repeats : List Repeat) (former : List A.Carrier)
            → ActsBy A words roles constants seeds (following place (place.at.0 + 1) left) before after answer
            → Suits A roles constants seeds setting
            → RoundSizes A roles seeds before.store before.copied
            → Sound A setting (buffers_at A place before former)
            → drop place.at.0 lines ≡ line ∷ rest
            → table_row_of line ≡ words
            → ((row : TableRow) × (line ≡ basic row)) ⊎ ((action_of (table_row_of line) ≡ none) × ((row : TableRow) → line ≡ basic row → ⊥))
            → StepsStraight A setting lines place repeats before after former answer
        by_line setting lines rest line repeats former does suits sizes sound here told (inl (row, is)) =
            let same : row_of_action row.action ≡ words = sym (ap table_row_of is) ∙ told in
            let done = does.acts setting row.action former (ap action_of (sym same) ∙ action_said row.action) suits sizes sound in
            record {
              held = done.held;
              says =
                  outcome_said place before after answer left spends setting lines rest row repeats former
                  (here ∙ ap (λ (l : TableLine). l ∷ rest) is) done.went done.height done.turn_height done.held done.ahead done.answers
                  done.does;
              copies = done.copies;
            }
        by_line setting lines rest line repeats former does suits sizes sound here told (inr (nothing, apart)) =
            let rested = does.other (ap action_of (sym told) ∙ nothing) in
            let none_straight : NoneStraight place.at.0 lines =
            λ row more there. apart row (heads line (basic row) rest more (sym here ∙ there)) in
            rw (rested.0, rested.1) (record { held = former; says = (λ some_left. none_straight, refl, refl); copies = inl (refl, refl) })

-- ---- an assignment by what its code answers

module _ {A : Arithmetic} {row : Row} {roles constants : List ℕ} {seeds store values copied store_after : List A.Carrier} {turns : List ℕ} {next : Place}
    {answer : Acted} {got : Try A A.Carrier} {s : Source} where
  pub assigned_did : {Failure : Type 0} (why : Failure → A.Why) (w : Result (Unit {0}) Failure) (ahead : Ahead) → action_of row ≡ some (assign (row.d ≔ s))
      → answer ≡ did_to w next ahead
      → got ≡ evaluated A constants s store
      → Assigns A row.d got store store_after (whether_did why w)
      → ActsBy A row roles constants seeds next (cells_of A store values turns copied) (cells_of A store_after values turns copied) answer
  assigned_did why w ahead said answers reads assigns = assigned ahead said (answers ∙ did_answers why w next ahead) reads assigns

-- ---- an arithmetic without quotients is stuck at one

module _ {A : Arithmetic} {row : Row} {roles constants : List ℕ} {seeds store values copied : List A.Carrier} {turns : List ℕ} {next : Place} {answer : Acted} where
  pub undivided_sticks : row.kind ≡ quotient_kind → answer ≡ acted_as.Stuck
      → stuck ≡ evaluated A constants (quotient row.a row.b) store
      → ActsBy A row roles constants seeds next (cells_of A store values turns copied) (cells_of A store values turns copied) answer
  undivided_sticks kind answers sticks = assigned ahead_as.Any (says_quotient row kind) answers sticks assign_sticks
