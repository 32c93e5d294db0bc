-- A block row's code as one step of the machine, over the arithmetic.
use Prim.Native.Nat.{ℕ, zero, suc, pred, ◌+◌, ◌*◌, ◌-◌, ◌≤◌, ◌<◌}
use Rattle.std.specs.Prelude.{Result, Ok, Err, IsErrAnd}
use Rattle.machine.specs.Inner.RowAnswers.{is_stuck}
use Rattle.machine.specs.declared.Stuck.{Stuck}
use mathlib.Core.Path.{◌≡◌, refl, sym, ap, ◌∙◌, subst}
use mathlib.Core.Logic.{◌≢◌, ◌⊎◌, inl, inr}
use mathlib.Core.Bool.{Bool, true, false}
use mathlib.Core.List.{List, [], ◌∷◌}
use mathlib.Core.Option.{Option, none, some}
use native.Mathlib.Decide.{dec_lt}
use native.Mathlib.Omega.{arith}
use native.Mathlib.Numerals.{add-one}
use borrow.Author.Tests.{ne_eqb}
use lib.ListN.{length, length-set, get_or, set, drop, drop_of_length-le}
use Rattle.number.specs.Arithmetic.{Arithmetic}
use Rattle.sheet.specs.Bounds.{limit}
use Rattle.sheet.specs.Tree.{times, while, if_line, else_line, end_if, repeat, end_repeat}
use Rattle.sheet.specs.Rows.{Test, less, Row, row_of, while_kind}
use Rattle.sheet.specs.Answers.{row_said}
use Rattle.sheet.specs.Sheets.{row_at}
use Rattle.sheet.specs.declared.RowWords.{RowWords}
use Rattle.table.specs.TableRows.{TableTest, whether, on_turn, TableLine, row_of_table_while, table_row_of}
use Rattle.machine.specs.Actions.{through, stuck, Memory, Setting, count_kept, Stop, Verdict, compared, tested, verdict_on}
use Rattle.machine.specs.Machine.{its_else, its_end, one_more, seek, seek_close, Repeat, back_to, State, Step, step, step_at, go_to, jump, after_test, after_turn, pending, loop_ends, asked, on_count}
use Rattle.machine.specs.Inner.RowAnswers.{height_after, branch_of, turn_of, height_branched}
use Rattle.machine.specs.Inner.Buffers.{stack_of, Stack, Buffers, memory_of, Sound, Tests, Compares, TakesTurn}
use Rattle.machine.specs.Inner.RowsHanded.{Arrives, Jumps}
use Rattle.machine.specs.Inner.RowSteps.{stuck_there, note_of, Opened, Pushes, Opens, Closes, is_under_way, turns_left, loops_around, Pends, KeptAs, KeepsCount, JumpsTo, BranchesTo, TurnsTo, CrossedLeft, CrossedSays, BlockRow, CrossesBy, StepsTo, EndsLoop, AsksLoop, OnCount}
use Rattle.machine.specs.Inner.RowSteps.{buffers_at, state_at, raised, within, moved, following, preceding, MeetsRow, AsksLess, AsksRow, Meets, Stays, Blocked}
use Rattle.machine.specs.Inner.Buffers.{Cells, cells_of}
use Rattle.machine.specs.declared.Place.{Place}
use Rattle.machine.specs.declared.Branch.{Branch}
use Rattle.machine.specs.declared.Branch.TheVariants as branch_as
use Rattle.machine.specs.declared.Loop.{Loop}
use Rattle.machine.specs.declared.Pending.{Pending}
use Rattle.machine.specs.declared.Ended.{Ended}
use Rattle.machine.specs.declared.Ended.TheVariants as ended_as
use Rattle.machine.specs.declared.Met.{Met}
use Rattle.machine.specs.declared.Met.TheVariants as met_as
use Rattle.machine.proofs.LineLaws.{block_of, said_of, SaysAll, said_all, said_count, block_said}
use Rattle.machine.proofs.StackLaws.{stack_top, stack_below, taken_off}
use Rattle.machine.proofs.OpenedLaws.{opened_length}
use Rattle.machine.proofs.StraightLaws.{stands_there, words_there}

-- what a stuck row hands on by `?`
pub sticks_on : {answer : Result Place Ended} → IsErrAnd answer (λ how. how ≡ ended_as.Stuck) → answer ≡ stuck_there
sticks_on {answer = Ok next} never = absurd never
sticks_on {answer = Err how} is = ap Err is

-- ---- the branch that a test picks

-- the place after a test that leaves the turn stack at a height
abbrev lowered : Place → (height : ℕ) → Place
lowered next height = raised next next.values height

-- the same place among the loops around a loop with a test
abbrev amid : Place → Pending → Place
amid next found = within next found.depth

module _ (beyond : List ℕ) (at : ℕ) (next : Place) where
  abbrev PicksTo : (height : ℕ) → (picked : Option Bool) → Result Place Ended → Type 0
  PicksTo height (some true) answer = answer ≡ Ok (lowered next height)
  PicksTo height (some false) answer = JumpsTo beyond at (lowered next height) answer
  PicksTo height none answer = answer ≡ stuck_there

  branch_picks : (b : Branch) (answer : Result Place Ended) → BranchesTo beyond at next b answer → PicksTo next.turns (branch_of b) answer
  branch_picks branch_as.First answer to = to
  branch_picks branch_as.Second answer to = to

  turn_picks : (b : Result (Branch × ℕ) Stuck) (answer : Result Place Ended) → TurnsTo beyond at next b answer → PicksTo (height_branched b next.turns) (turn_of b) answer
  turn_picks (Ok (branch_as.First, height)) answer to = to
  turn_picks (Ok (branch_as.Second, height)) answer to = to
  turn_picks (Err s) answer to = to

  -- the steps that are left
  picks_left : (height : ℕ) (picked : Option Bool) (answer : Result Place Ended) → PicksTo height picked answer → CrossedLeft (suc next.left) answer
  picks_left height (some true) answer is = rw is refl
  picks_left height (some false) answer jumps = jumps.left
  picks_left height none answer is = rw is tt

-- ---- what the code reads at a place

module _ {table : List ℕ} {rows : ℕ} {place next : Place} {row : Row} {left : ℕ} (said : row ≡ row_at table (1 + place.at.0 * limit.row_words))
    (within : place.at.0 < rows)
    (spends : place.left ≡ suc left)
    (follows : next ≡ following place (place.at.0 + 1) left) where
  pub meets_row : MeetsRow table rows place row next
  meets_row = record { follows = record { left = left; is = follows; spends = spends }; within = within; said = said }

-- ---- where a jump's code goes

pub jump_goes : (beyond : List ℕ) (at : ℕ) (next to : Place) → to ≡ moved next (get_or beyond at 0) → JumpsTo beyond at next (Ok to)
jump_goes beyond at next to is = record { there = λ _. ap Ok is; left = ap (λ (p : Place). suc p.left) is }

pub jump_nowhere : (beyond : List ℕ) (at : ℕ) (next : Place) → length beyond ≤ at → JumpsTo beyond at next stuck_there
jump_nowhere beyond at next h = record { there = λ here. absurd (omega arith); left = tt }

-- ---- a jump goes on by at least one row, so the list of jumps has a number for it

one_more_some : (o : Option ℕ) (far : ℕ) → one_more o ≡ some far → 0 < far
one_more_some none far is = let z : ◌≡◌ {A = ℕ} 0 1 = cc in absurd (omega arith)
one_more_some (some n) far is = let same : suc n ≡ far = cc in omega arith

listed : (l : List ℕ) (i : ℕ) → 0 < get_or l i 0 → i < length l
listed [] i h = absurd (omega arith)
listed (x ∷ l) zero h = omega arith
listed (x ∷ l) (suc i) h = let later = listed l i h in omega arith

module _ {A : Arithmetic} where
  turn_out : (state : State A) (r : Repeat) (outer : List Repeat) → r.left ≡ 0
      → after_turn A state (r ∷ outer) ≡ go_to A (suc state.at.index) outer state.memory
  turn_out state r outer is = rw is

  turn_back : (state : State A) (r : Repeat) (n : ℕ) (outer : List Repeat) → r.left ≡ suc n
      → after_turn A state (r ∷ outer) ≡ go_to A (back_to r) (record { start = r.start; asks = r.asks; left = n } ∷ outer) state.memory
  turn_back state r n outer is = rw is

  -- what is to be shown of one line
  record Crosses (at : ℕ) (next : Place) (setting : Setting A) (line : TableLine) (rest : List TableLine) (repeats : List Repeat)
      (before after : Cells A) (held : List A.Carrier) (loops : List Loop) (answer : Result Place Ended) : Type 0 where
    says : CrossedSays A setting (preceding next at) repeats loops before after held
        (step_at A setting (state_at A (preceding next at) repeats before held) (line ∷ rest)) answer

  module _ {at : ℕ} {next : Place} {setting : Setting A} {line : TableLine} {rest : List TableLine} {repeats : List Repeat}
      {before after : Cells A} {held : List A.Carrier} {loops : List Loop} {answer : Result Place Ended} where
    -- the step goes on to a place
    goes_to : (to : Place) (open_then : List Repeat)
        → answer ≡ Ok to
        → to.left ≡ next.left
        → Opened to.depth loops open_then
        → Sound A setting (buffers_at A to after held)
        → step_at A setting (state_at A (preceding next at) repeats before held) (line ∷ rest)
        ≡ go_to A to.at.0 open_then (memory_of A (buffers_at A to after held))
        → Crosses at next setting line rest repeats before after held loops answer
    goes_to to open_then is left opened sound found =
        subst (λ (r : Result Place Ended). Crosses at next setting line rest repeats before after held loops r) (sym is)
        (record {
          says = record { repeats = open_then; opened = opened; goes = record { is = found; fewer = ap suc (sym left); sound = sound } };
        })

    -- the step is stuck
    sticks_there : answer ≡ stuck_there → Blocked A (step_at A setting (state_at A (preceding next at) repeats before held) (line ∷ rest))
        → Opened next.depth loops repeats
        → Stays A next before after held held
        → Crosses at next setting line rest repeats before after held loops answer
    sticks_there is blocked opened stays =
        subst (λ (r : Result Place Ended). Crosses at next setting line rest repeats before after held loops r) (sym is)
        (record { says = (omega arith, blocked, record { opened = opened; stays = stays }) })

    -- a jump over as many lines as a search finds, among the loops that are then open
    jumps_among : {beyond : List ℕ} (from : Place) (open_then : List Repeat) (search_found : Option ℕ)
        → from.left ≡ next.left
        → Arrives (one_more search_found) at (get_or beyond at 0)
        → JumpsTo beyond at from answer
        → Opened from.depth loops open_then
        → Sound A setting (buffers_at A from after held)
        → (state : State A) → state.at.index ≡ at → state.repeats ≡ open_then
        → step_at A setting (state_at A (preceding next at) repeats before held) (line ∷ rest)
        ≡ jump A state (memory_of A (buffers_at A from after held)) (one_more search_found)
        → Crosses at next setting line rest repeats before after held loops answer
    jumps_among {beyond} from open_then search_found left reached jumps opened sound state there open_is found =
        let memory = memory_of A (buffers_at A from after held) in
        let positive = one_more_some search_found reached.far reached.finds in
        let arrives = reached.arrives in
        let here : at < length beyond = listed beyond at (omega arith) in
        goes_to (moved from (get_or beyond at 0)) open_then (jumps.there here) left opened sound
        (found ∙ ap (λ (o : Option ℕ). jump A state memory o) reached.finds
        ∙ ap (λ (l : List Repeat). go_to A (state.at.index + reached.far) l memory) open_is
        ∙ ap (λ (n : ℕ). go_to A n open_then memory) (ap (λ (n : ℕ). n + reached.far) there ∙ sym arrives))

    jumps_there : {beyond : List ℕ} (from : Place) (search_found : Option ℕ)
        → from.left ≡ next.left
        → Arrives (one_more search_found) at (get_or beyond at 0)
        → JumpsTo beyond at from answer
        → Opened from.depth loops repeats
        → Sound A setting (buffers_at A from after held)
        → step_at A setting (state_at A (preceding next at) repeats before held) (line ∷ rest)
        ≡ jump A (state_at A (preceding next at) repeats before held) (memory_of A (buffers_at A from after held)) (one_more search_found)
        → Crosses at next setting line rest repeats before after held loops answer
    jumps_there from search_found left reached jumps opened sound found =
        jumps_among from repeats search_found left reached jumps opened sound (state_at A (preceding next at) repeats before held) refl refl found

  -- kinds 7 and 15
  module _ {beyond : List ℕ} {at : ℕ} {next : Place} {setting : Setting A} {lines rest : List TableLine} {repeats : List Repeat}
      {before after : Cells A} {held : List A.Carrier} {loops : List Loop} {answer : Result Place Ended}
      (test : TableTest) (height : ℕ)
      (follows : next.at.0 ≡ suc at)
      (here : drop at lines ≡ if_line test ∷ rest)
      (jumps : Jumps lines beyond)
      (opened : Opened next.depth loops repeats) where
    test_crosses : (picked : Option Bool)
        → Tests A setting test (buffers_at A next before held) (buffers_at A (lowered next height) after held) picked
        → PicksTo beyond at next height picked answer
        → Crosses at next setting (if_line test) rest repeats before after held loops answer
    unfolding step_at
    test_crosses picked tests picks =
        by_branch picked picks tests.sound tests.unchanged (ap (after_test A (state_at A (preceding next at) repeats before held) rest) (sym tests.meaning))
      where
        by_branch : (picked : Option Bool) → PicksTo beyond at next height picked answer
            → Sound A setting (buffers_at A (lowered next height) after held)
            → (picked ≡ none → buffers_at A (lowered next height) after held ≡ buffers_at A next before held)
            → step_at A setting (state_at A (preceding next at) repeats before held) (if_line test ∷ rest)
            ≡ after_test A (state_at A (preceding next at) repeats before held) rest
            (verdict_on A (memory_of A (buffers_at A (lowered next height) after held)) picked)
            → Crosses at next setting (if_line test) rest repeats before after held loops answer
        by_branch (some true) is sound same found =
            goes_to (lowered next height) repeats is refl opened sound
            (found ∙ ap (λ (n : ℕ). go_to A n repeats (memory_of A (buffers_at A (lowered next height) after held))) (sym follows))
        by_branch (some false) jumping sound same found =
            jumps_there (lowered next height) (seek its_else 0 rest) refl (jumps.from_if at test rest here) jumping opened sound found
        by_branch none is sound same found =
            sticks_there is (subst (λ (s : Step A). Blocked A s) (sym found) tt) opened
            (ap
            (λ (b : Buffers A). record {
              store = b.store;
              values = b.values;
              height = next.values;
              turns = b.turns;
              turn_height = next.turns;
              copied = b.copied;
            })
            (same refl))

  -- one loop more, unless there is no room for it
  module _ {at : ℕ} {next : Place} {setting : Setting A} {line : TableLine} {rest : List TableLine} {repeats : List Repeat}
      {before after : Cells A} {held : List A.Carrier} {loops loops_after : List Loop} {answer : Result Place Ended} {body note : ℕ} where
    pushes_room : (from : Place) (r : Repeat) (outer : List Repeat)
        → from.left ≡ next.left → from.at.0 ≡ suc at → back_to r ≡ body → note_of r ≡ note
        → Pushes body note from loops loops_after answer
        → from.depth < limit.depth
        → Opened from.depth loops outer
        → Sound A setting (buffers_at A from after held)
        → step_at A setting (state_at A (preceding next at) repeats before held) (line ∷ rest)
        ≡ go_to A (suc at) (r ∷ outer) (memory_of A (buffers_at A from after held))
        → Crosses at next setting line rest repeats before after held loops_after answer
    pushes_room from r outer left follows back noted pushes room around sound found =
        goes_to (within from (suc from.depth)) (r ∷ outer) (pushes.room room) left (pushes.opened room r outer back noted around) sound
        (found ∙ ap (λ (n : ℕ). go_to A n (r ∷ outer) (memory_of A (buffers_at A from after held))) (sym follows))

    pushes_crosses : (from : Place) (r : Repeat) (outer : List Repeat)
        → from.left ≡ next.left → from.at.0 ≡ suc at → back_to r ≡ body → note_of r ≡ note
        → Pushes body note from loops loops_after answer
        → Opened from.depth loops outer
        → Opened next.depth loops repeats
        → Sound A setting (buffers_at A from after held)
        → Stays A next before after held held
        → step_at A setting (state_at A (preceding next at) repeats before held) (line ∷ rest)
        ≡ go_to A (suc at) (r ∷ outer) (memory_of A (buffers_at A from after held))
        → Crosses at next setting line rest repeats before after held loops_after answer
    pushes_crosses from r outer left follows back noted pushes around opened sound stays found = by (dec_lt from.depth limit.depth)
      where
        by : Dec (from.depth < limit.depth) → Crosses at next setting line rest repeats before after held loops_after answer
        by (yes room) = pushes_room from r outer left follows back noted pushes room around sound found
        by (no full) =
            let deep = opened_length from.depth loops outer around in
            let full_up = pushes.full (omega arith) in
            let ninth : limit.depth < length (r ∷ outer) = omega arith in
            sticks_there full_up.0 (subst (λ (s : Step A). Blocked A s) (sym found) ninth) (rw full_up.1 opened) stays

  -- ---- kind 19

  pending_left : (state : State A) (most : ℕ) (repeats : List Repeat) → (pending A state most repeats).left ≡ turns_left state.at.index most repeats
  pending_left state most [] = refl
  pending_left state most (r ∷ outer) = by (is_under_way state.at.index r) refl
    where
      by : (b : Bool) → is_under_way state.at.index r ≡ b → (pending A state most (r ∷ outer)).left ≡ turns_left state.at.index most (r ∷ outer)
      by true e = rw e
      by false e = rw e

  pending_outer : (state : State A) (most : ℕ) (repeats : List Repeat) → (pending A state most repeats).outer ≡ loops_around state.at.index repeats
  pending_outer state most [] = refl
  pending_outer state most (r ∷ outer) = by (is_under_way state.at.index r) refl
    where
      by : (b : Bool) → is_under_way state.at.index r ≡ b → (pending A state most (r ∷ outer)).outer ≡ loops_around state.at.index (r ∷ outer)
      by true e = rw e
      by false e = rw e

  -- the step of the loop's row, by what the code found
  asked_step : (branch : Branch) {most at : ℕ} (next : Place) {loops : List Loop} {found : Pending}
      → Pends most at next.depth loops found → (setting : Setting A) (rest : List TableLine) (f : Test) (m : ℕ) (repeats : List Repeat) (cells : Cells A) (held : List A.Carrier)
      → most ≡ suc m → compared A f cells.store ≡ branch_of branch → next.depth ≤ limit.depth → Opened next.depth loops repeats
      → let state = state_at A (preceding next at) repeats cells held in
      step_at A setting state (repeat (while (whether f) m) ∷ rest)
      ≡ asked A setting state rest most found.left (loops_around at repeats) (branch_of branch)
  unfolding step_at
  asked_step branch {most} {at} next pends setting rest f m repeats cells held is test shallow opened =
      let state = state_at A (preceding next at) repeats cells held in
      rw (test, pending_left state (suc m) repeats, pending_outer state (suc m) repeats, sym is, sym (pends.left repeats shallow opened))

  module _ {branch : Branch} {most : ℕ} {keeps : Bool} {beyond : List ℕ} {at : ℕ} {next : Place} {turns : List ℕ} {loops : List Loop} {found : Pending}
      (pends : Pends most at next.depth loops found) where
    -- into its body
    pub asks_in : {loops_after : List Loop} {answer : Result Place Ended} → branch ≡ branch_as.First → 0 < found.left
        → Pushes at found.note (amid next found) loops loops_after answer
        → AsksLoop A branch most keeps beyond at next turns loops turns loops_after answer
    asks_in {loops_after} {answer} first positive pushes =
        record {
          left = pushes.left;
          asks = λ setting lines rest f m repeats store values copied held is test follows here jumps keeping opened shallow sound.
              let cells = cells_of A store values turns copied in
              let loop : Repeat = record { start = record { index = at }; asks = true; left = found.left } in
              let inside : Crosses at next setting (repeat (while (whether f) m)) rest repeats cells cells held loops_after answer =
              pushes_crosses (amid next found) loop (loops_around at repeats) refl follows refl (sym pends.noted) pushes (pends.around repeats shallow opened) opened sound refl
              (asked_step branch next pends setting rest f m repeats cells held is test shallow opened
              ∙ goes_in setting (state_at A (preceding next at) repeats cells held) rest (loops_around at repeats) found.left positive) in
              inside.says;
        }
      where
        goes_in : (setting : Setting A) (state : State A) (rest : List TableLine) (outer : List Repeat) (left : ℕ) → 0 < left
            → asked A setting state rest most left outer (branch_of branch)
            ≡ go_to A (suc state.at.index) (record { start = state.at; asks = true; left = left } ∷ outer) state.memory
        goes_in setting state rest outer zero h = absurd (omega arith)
        goes_in setting state rest outer (suc n) h = rw first

    -- past it
    pub asks_out : {turns_after : List ℕ} {answer : Result Place Ended} → (branch ≡ branch_as.First → found.left ≡ 0)
        → EndsLoop A (most - found.left) keeps beyond at (amid next found) turns turns_after answer
        → AsksLoop A branch most keeps beyond at next turns loops turns_after loops answer
    asks_out {turns_after} {answer} over ends =
        record {
          left = ends.left;
          asks = λ setting lines rest f m repeats store values copied held is test follows here jumps keeping opened shallow sound.
              (by_move setting lines rest f m repeats store values copied held here jumps opened shallow
              (ends.keeping.kept setting store values next.values held keeping sound)
              (asked_step branch next pends setting rest f m repeats (cells_of A store values turns copied) held is test shallow opened
              ∙ goes_out setting (state_at A (preceding next at) repeats (cells_of A store values turns copied) held) rest (loops_around at repeats) branch over
              found.left refl)
              ends.moved refl).says;
        }
      where
        goes_out : (setting : Setting A) (state : State A) (rest : List TableLine) (outer : List Repeat) (b : Branch) → (b ≡ branch_as.First → found.left ≡ 0)
            → (left : ℕ) → found.left ≡ left
            → asked A setting state rest most left outer (branch_of b)
            ≡ loop_ends A state rest outer (count_kept A setting (most - found.left) state.memory)
        goes_out setting state rest outer b spent zero is = let all : most - found.left ≡ most = omega arith in rw all
        goes_out setting state rest outer branch_as.First spent (suc n) is = let none_left = spent refl in absurd (omega arith)
        goes_out setting state rest outer branch_as.Second spent (suc n) is = rw is

        by_move : (setting : Setting A) (lines rest : List TableLine) (f : Test) (m : ℕ) (repeats : List Repeat) (store values copied held : List A.Carrier)
            → drop at lines ≡ repeat (while (whether f) m) ∷ rest → Jumps lines beyond → Opened next.depth loops repeats → next.depth ≤ limit.depth
            → KeptAs A setting (most - found.left) (buffers_at A next (cells_of A store values turns copied) held)
            (buffers_at A (raised next next.values (height_after ends.moved next.turns)) (cells_of A store values turns_after copied) held) ends.moved
            → let state = state_at A (preceding next at) repeats (cells_of A store values turns copied) held in
            step_at A setting state (repeat (while (whether f) m) ∷ rest)
            ≡ loop_ends A state rest (loops_around at repeats) (count_kept A setting (most - found.left) state.memory)
            → (moved : Result ℕ Stuck) → ends.moved ≡ moved
            → Crosses at next setting (repeat (while (whether f) m)) rest repeats (cells_of A store values turns copied) (cells_of A store values turns_after copied) held
            loops answer
        by_move setting lines rest f m repeats store values copied held here jumps opened shallow kept leads (Ok height) is =
            let after = cells_of A store values turns_after copied in
            let to = raised (amid next found) next.values height in
            let state = state_at A (preceding next at) repeats (cells_of A store values turns copied) held in
            let memory = memory_of A (buffers_at A to after held) in
            let through_there : count_kept A {Why = Stop A} setting (most - found.left) state.memory ≡ through memory = sym (rw is at kept.meaning) in
            jumps_among to (loops_around at repeats) (seek_close 0 rest) refl (jumps.from_repeat at _ rest here) (ends.goes height is)
            (pends.around repeats shallow opened) (rw is at kept.sound)
            (record { at = record { index = at }; repeats = loops_around at repeats; memory = memory }) refl refl
            (leads ∙ ap (loop_ends A state rest (loops_around at repeats)) through_there)
        by_move setting lines rest f m repeats store values copied held here jumps opened shallow kept leads (Err s) is =
            let state = state_at A (preceding next at) repeats (cells_of A store values turns copied) held in
            let stuck_there : count_kept A {Why = Stop A} setting (most - found.left) state.memory ≡ stuck = sym (rw is at kept.meaning) in
            sticks_there (ends.sticks is)
            (subst (λ (s : Step A). Blocked A s) (sym (leads ∙ ap (loop_ends A state rest (loops_around at repeats)) stuck_there)) tt) opened
            (rw is at (kept.unchanged is))

  -- the end of such a loop, by what became of its count
  module _ {count : ℕ} {keeps : Bool} {beyond : List ℕ} {at : ℕ} {next : Place} {turns turns_after : List ℕ} {moved : Result ℕ Stuck} {answer : Result Place Ended}
      (keeping : KeepsCount A count keeps turns next.turns turns_after moved) where
    pub ends_past : {to : Place} (height : ℕ) → moved ≡ Ok height → to ≡ raised next next.values height → JumpsTo beyond at to answer
        → EndsLoop A count keeps beyond at next turns turns_after answer
    ends_past {to} height is there jumps =
        record {
          left = rw there at jumps.left;
          moved = moved;
          keeping = keeping;
          goes = λ other same.
              let heights : height ≡ other = cc in
              subst (λ h. JumpsTo beyond at (raised next next.values h) answer) heights (subst (λ p. JumpsTo beyond at p answer) there jumps);
          sticks = λ stuck_there. let z : ◌≡◌ {A = ℕ} 0 1 = cc in absurd (omega arith);
        }

    pub ends_stuck : moved ≡ Err is_stuck → answer ≡ stuck_there → EndsLoop A count keeps beyond at next turns turns_after answer
    ends_stuck is sticks_so =
        record {
          left = rw sticks_so tt;
          moved = moved;
          keeping = keeping;
          goes = λ height same. let z : ◌≡◌ {A = ℕ} 0 1 = cc in absurd (omega arith);
          sticks = λ _. sticks_so;
        }

  -- ---- kind 20

  -- the buffers with the count taken
  count_taken : (next : Place) (turns : List ℕ) (top : ℕ) → next.turns ≡ suc top → (setting : Setting A) (store values copied held : List A.Carrier)
      → Sound A setting (buffers_at A next (cells_of A store values turns copied) held)
      → Sound A setting (buffers_at A (lowered next top) (cells_of A store values (set turns top 0) copied) held)
  count_taken next turns top is setting store values copied held sound =
      let high = subst (λ h. Stack 0 h turns) is sound.turns in
      record {
        values = sound.values;
        turns = taken_off 0 top turns high;
        value_room = sound.value_room;
        turn_room = rw length-set sound.turn_room;
      }

  -- what the step makes of it
  count_step : (at : ℕ) (next : Place) (turns : List ℕ) (top : ℕ) → next.turns ≡ suc top → top < length turns → (setting : Setting A) (rest : List TableLine) (m : ℕ) (repeats : List Repeat) (store values copied held : List A.Carrier)
      → let state = state_at A (preceding next at) repeats (cells_of A store values turns copied) held in
      step_at A setting state (repeat (while on_turn m) ∷ rest) ≡ on_count A state rest (get_or turns top 0 ∷ stack_of top (set turns top 0))
  unfolding step_at
  count_step at next turns top is there setting rest m repeats store values copied held = rw (is, stack_top top turns 0 there, stack_below top turns 0)

  module _ {beyond : List ℕ} {at : ℕ} {next : Place} {turns : List ℕ} {loops : List Loop} where
    pub counts_none : (next.turns ≡ 0) ⊎ (length turns < next.turns)
        → OnCount A beyond at next turns loops turns loops stuck_there
    unfolding step_at
    counts_none nothing =
        record {
          left = tt;
          takes = λ setting lines rest m repeats store values copied held follows here jumps opened shallow sound.
              let empty : next.turns ≡ 0 = is_empty nothing sound.turns.within in
              let cells = cells_of A store values turns copied in
              let there : Crosses at next setting (repeat (while on_turn m)) rest repeats cells cells held loops stuck_there =
              sticks_there refl (rw empty tt) opened refl in
              there.says;
        }
      where
        is_empty : (next.turns ≡ 0) ⊎ (length turns < next.turns) → next.turns ≤ length turns → next.turns ≡ 0
        is_empty (inl is) high = is
        is_empty (inr above) high = absurd (omega arith)

    module _ (top : ℕ) (is : next.turns ≡ suc top) (there : top < length turns) where
      pub counts_past : {answer : Result Place Ended} → get_or turns top 0 ≡ 0 → JumpsTo beyond at (lowered next top) answer
          → OnCount A beyond at next turns loops (set turns top 0) loops answer
      counts_past {answer} zero_there jumping =
          record {
            left = jumping.left;
            takes = λ setting lines rest m repeats store values copied held follows here jumps opened shallow sound.
                let after = cells_of A store values (set turns top 0) copied in
                let state = state_at A (preceding next at) repeats (cells_of A store values turns copied) held in
                let past : Crosses at next setting (repeat (while on_turn m)) rest repeats (cells_of A store values turns copied) after held loops answer =
                jumps_among (lowered next top) repeats (seek_close 0 rest) refl (jumps.from_repeat at _ rest here) jumping opened
                (count_taken next turns top is setting store values copied held sound)
                (record { at = record { index = at }; repeats = repeats; memory = memory_of A (buffers_at A (lowered next top) after held) }) refl refl
                (count_step at next turns top is there setting rest m repeats store values copied held
                ∙ ap (λ (c : ℕ). on_count A state rest (c ∷ stack_of top (set turns top 0))) zero_there) in
                past.says;
          }

      pub counts_full : get_or turns top 0 ≢ 0 → limit.depth ≤ next.depth → OnCount A beyond at next turns loops turns loops stuck_there
      counts_full not_zero full =
          record {
            left = tt;
            takes = λ setting lines rest m repeats store values copied held follows here jumps opened shallow sound.
                let state = state_at A (preceding next at) repeats (cells_of A store values turns copied) held in
                let deep = opened_length next.depth loops repeats opened in
                let cells = cells_of A store values turns copied in
                let blocked : Crosses at next setting (repeat (while on_turn m)) rest repeats cells cells held loops stuck_there =
                sticks_there refl
                (subst (λ (s : Step A). Blocked A s) (sym (count_step at next turns top is there setting rest m repeats store values copied held))
                (ninth state rest (get_or turns top 0) (stack_of top (set turns top 0)) not_zero (omega arith)))
                opened refl in
                blocked.says;
          }
        where
          ninth : (state : State A) (rest : List TableLine) (c : ℕ) (below : List ℕ) → c ≢ 0 → limit.depth ≤ length state.repeats
              → Blocked A (on_count A state rest (c ∷ below))
          ninth state rest zero below not_zero deep = absurd (not_zero refl)
          ninth state rest (suc n) below not_zero deep = omega arith

      pub counts_in : {loops_after : List Loop} {answer : Result Place Ended} (n : ℕ) → get_or turns top 0 ≡ suc n → next.depth < limit.depth
          → Opens (get_or turns top 0) (lowered next top) loops loops_after answer
          → OnCount A beyond at next turns loops (set turns top 0) loops_after answer
      counts_in {loops_after} {answer} n count room opens =
          record {
            left = opens.left;
            takes = λ setting lines rest m repeats store values copied held follows here jumps opened shallow sound.
                let state = state_at A (preceding next at) repeats (cells_of A store values turns copied) held in
                let loop : Repeat = record { start = record { index = at }; asks = false; left = n } in
                let inside : Crosses at next setting (repeat (while on_turn m)) rest repeats (cells_of A store values turns copied)
                (cells_of A store values (set turns top 0) copied) held loops_after answer =
                pushes_room (lowered next top) loop repeats refl follows (sym follows) (omega arith) (opens.opens n count) room opened
                (count_taken next turns top is setting store values copied held sound)
                (count_step at next turns top is there setting rest m repeats store values copied held
                ∙ ap (λ (c : ℕ). on_count A state rest (c ∷ stack_of top (set turns top 0))) count) in
                inside.says;
          }

  -- ---- the line that a row's words say

  module _ {beyond : List ℕ} {at : ℕ} {next : Place} {row : Row} {turns : List ℕ} {loops : List Loop} where
    crosses_as : (line : TableLine) {turns_after : List ℕ} {loops_after : List Loop} {answer : Result Place Ended} → block_of row ≡ some line → SaysAll line
        → CrossedLeft (suc next.left) answer
        → ((setting : Setting A) (lines rest : List TableLine) (repeats : List Repeat) (store values copied held : List A.Carrier)
        → table_row_of line ≡ row
        → next.at.0 ≡ suc at
        → drop at lines ≡ line ∷ rest
        → Jumps lines beyond
        → Opened next.depth loops repeats
        → next.depth ≤ limit.depth
        → Sound A setting (buffers_at A next (cells_of A store values turns copied) held)
        → Crosses at next setting line rest repeats (cells_of A store values turns copied) (cells_of A store values turns_after copied) held
        loops_after answer)
        → CrossesBy A row beyond at next turns loops turns_after loops_after answer
    crosses_as line {turns_after} {loops_after} {answer} said all left crosses =
        record {
          left = left;
          crosses = λ setting lines rest other repeats store values copied held words not_if not_while follows here jumps none_straight opened shallow sound.
              let told : some line ≡ some (said_of other) =
              sym said
              ∙ ap block_of (sym words)
              ∙ block_said other (λ basic_row is. none_straight basic_row rest (here ∙ ap (λ (l : TableLine). l ∷ rest) is)) in
              let same : line ≡ other = said_all line other all cc in
              (subst
              (λ (l : TableLine). Crosses at next setting l rest repeats (cells_of A store values turns copied)
              (cells_of A store values turns_after copied) held loops_after answer)
              same
              (crosses setting lines rest repeats store values copied held (ap table_row_of same ∙ words) follows
              (here ∙ ap (λ (l : TableLine). l ∷ rest) (sym same))
              jumps opened shallow sound)).says;
        }

    pub else_crosses : {answer : Result Place Ended} → row.kind ≡ 8 → JumpsTo beyond at next answer
        → CrossesBy A row beyond at next turns loops turns loops answer
    unfolding block_of step_at
    else_crosses kind to =
        crosses_as else_line (rw kind) tt to.left
        (λ setting lines rest repeats store values copied held words follows here jumps opened shallow sound.
        jumps_there next (seek its_end 0 rest) refl (jumps.from_else at rest here) to opened sound refl)

    pub end_if_crosses : row.kind ≡ 9 → CrossesBy A row beyond at next turns loops turns loops (Ok next)
    unfolding block_of step_at
    end_if_crosses kind =
        crosses_as end_if (rw kind) tt refl
        (λ setting lines rest repeats store values copied held words follows here jumps opened shallow sound.
        goes_to next repeats refl refl opened sound
        (ap (λ (n : ℕ). go_to A n repeats (memory_of A (buffers_at A next (cells_of A store values turns copied) held))) (sym follows)))

    pub repeat_crosses : {loops_after : List Loop} {answer : Result Place Ended} → row.kind ≡ 10
        → Opens row.a next loops loops_after answer
        → CrossesBy A row beyond at next turns loops turns loops_after answer
    unfolding block_of step_at table_row_of row_of
    repeat_crosses {loops_after} {answer} kind opens =
        let m = pred row.a in
        crosses_as (repeat (times m)) (rw kind) tt opens.left
        (λ setting lines rest repeats store values copied held words follows here jumps opened shallow sound.
        let count = sym (ap (λ (r : Row). r.a) words) in
        let loop : Repeat = record { start = record { index = at }; asks = false; left = m } in
        pushes_crosses next loop repeats refl follows (sym follows) (omega arith) (opens.opens m count) opened opened sound refl refl)

    pub end_repeat_crosses : {loops_after : List Loop} {answer : Result Place Ended} → row.kind ≡ 11
        → Closes next loops loops_after answer
        → CrossesBy A row beyond at next turns loops turns loops_after answer
    unfolding block_of step_at
    end_repeat_crosses {loops_after} {answer} kind closes =
        crosses_as end_repeat (rw kind) tt closes.left
        (λ setting lines rest repeats store values copied held words follows here jumps opened shallow sound.
        by_repeats repeats follows opened shallow sound)
      where
        by_left : {setting : Setting A} {rest : List TableLine} {cells : Cells A} {held : List A.Carrier}
            (r : Repeat) (outer : List Repeat) (left : ℕ)
            → r.left ≡ left
            → next.at.0 ≡ suc at
            → Opened next.depth loops (r ∷ outer)
            → next.depth ≤ limit.depth
            → Sound A setting (buffers_at A next cells held)
            → Crosses at next setting end_repeat rest (r ∷ outer) cells cells held loops_after answer
        by_left {setting} {rest} {cells} {held} r outer zero left follows opened shallow sound =
            let out = closes.out shallow r outer opened left in
            goes_to (within next (pred next.depth)) outer out.0 refl out.1 sound
            (turn_out (state_at A (preceding next at) (r ∷ outer) cells held) r outer left
            ∙ ap (λ (n : ℕ). go_to A n outer (memory_of A (buffers_at A next cells held))) (sym follows))
        by_left {setting} {rest} {cells} {held} r outer (suc n) left follows opened shallow sound =
            let back = closes.back shallow r n outer opened left in
            goes_to (moved next (back_to r)) (record { start = r.start; asks = r.asks; left = n } ∷ outer) back.0 refl back.1 sound
            (turn_back (state_at A (preceding next at) (r ∷ outer) cells held) r n outer left)

        by_repeats : {setting : Setting A} {rest : List TableLine} {cells : Cells A} {held : List A.Carrier} (repeats : List Repeat)
            → next.at.0 ≡ suc at
            → Opened next.depth loops repeats
            → next.depth ≤ limit.depth
            → Sound A setting (buffers_at A next cells held)
            → Crosses at next setting end_repeat rest repeats cells cells held loops_after answer
        by_repeats [] follows opened shallow sound = let none_open = closes.none opened in sticks_there none_open.0 tt none_open.1 refl
        by_repeats (r ∷ outer) follows opened shallow sound = by_left r outer r.left refl follows opened shallow sound

    pub on_turn_crosses : {picked : Result (Branch × ℕ) Stuck} {turns_after : List ℕ} {answer : Result Place Ended} → row.kind ≡ 15
        → TakesTurn A turns next.turns turns_after picked
        → TurnsTo beyond at next picked answer
        → CrossesBy A row beyond at next turns loops turns_after loops answer
    unfolding block_of
    on_turn_crosses {picked} {turns_after} {answer} kind takes to =
        let height = height_branched picked next.turns in
        let picks = turn_picks beyond at next picked answer to in
        crosses_as (if_line on_turn) (rw kind) tt (picks_left beyond at next height (turn_of picked) answer picks)
        (λ setting lines rest repeats store values copied held words follows here jumps opened shallow sound.
        test_crosses on_turn height follows here jumps opened (turn_of picked) (takes.tests setting store values next.values held sound) picks)

    pub on_count_crosses : {turns_after : List ℕ} {loops_after : List Loop} {answer : Result Place Ended} → row.kind ≡ 20
        → OnCount A beyond at next turns loops turns_after loops_after answer
        → CrossesBy A row beyond at next turns loops turns_after loops_after answer
    unfolding block_of
    on_count_crosses {turns_after} {loops_after} {answer} kind counts =
        record {
          left = counts.left;
          crosses = λ setting lines rest other repeats store values copied held words not_if not_while follows here jumps none_straight opened shallow sound.
              let said : block_of row ≡ some (repeat (while on_turn 0)) = rw kind in
              let told : some (repeat (while on_turn 0)) ≡ some (said_of other) =
              sym said
              ∙ ap block_of (sym words)
              ∙ block_said other (λ basic_row is. none_straight basic_row rest (here ∙ ap (λ (l : TableLine). l ∷ rest) is)) in
              let loop = said_count other cc in
              subst
              (λ (l : TableLine). StepsTo A setting l rest at next repeats (cells_of A store values turns copied) (cells_of A store values turns_after copied)
              held loops_after answer)
              (sym loop.1)
              (counts.takes setting lines rest loop.0 repeats store values copied held follows (here ∙ ap (λ (l : TableLine). l ∷ rest) loop.1) jumps opened
              shallow sound);
        }

    -- no line has another kind
    pub never_crosses : row.kind ≢ 8 → row.kind ≢ 9 → row.kind ≢ 10 → row.kind ≢ 11 → row.kind ≢ 15 → row.kind ≢ 20
        → CrossesBy A row beyond at next turns loops turns loops stuck_there
    unfolding block_of
    never_crosses k₈ k₉ k₁₀ k₁₁ k₁₅ k₂₀ =
        record {
          left = tt;
          crosses = λ setting lines rest other repeats store values copied held words k₇ k₁₉ follows here jumps none_straight opened shallow sound.
              let nothing : block_of row ≡ none =
              rw (
                ne_eqb row.kind 7 k₇,
                ne_eqb row.kind 8 k₈,
                ne_eqb row.kind 9 k₉,
                ne_eqb row.kind 10 k₁₀,
                ne_eqb row.kind 11 k₁₁,
                ne_eqb row.kind 15 k₁₅,
                ne_eqb row.kind while_kind k₁₉,
                ne_eqb row.kind 20 k₂₀,
              ) in
              let told : none ≡ some (said_of other) =
              sym nothing
              ∙ ap block_of (sym words)
              ∙ block_said other (λ basic_row is. none_straight basic_row rest (here ∙ ap (λ (l : TableLine). l ∷ rest) is)) in
              let z : ◌≡◌ {A = ℕ} 0 1 = cc in
              absurd (omega arith);
        }

  -- ---- the row at a place

  -- the step at the line that stands there
  found_there : (place : Place) {left : ℕ} (lines : List TableLine) {rest : List TableLine} {line : TableLine} (setting : Setting A)
      (repeats : List Repeat) (before after : Cells A) (held : List A.Carrier) (loops : List Loop) (answer : Result Place Ended)
      → place.left ≡ suc left
      → drop place.at.0 lines ≡ line ∷ rest
      → Crosses place.at.0 (following place (place.at.0 + 1) left) setting line rest repeats before after held loops answer
      → CrossedSays A setting place repeats loops before after held (step A setting lines (state_at A place repeats before held)) answer
  unfolding step
  found_there place {left} lines {rest} {line} setting repeats before after held loops answer spends here crosses =
      let same_place : preceding (following place (place.at.0 + 1) left) place.at.0 ≡ place = rw (sym spends) in
      rw here
      (subst
      (λ (p : Place). CrossedSays A setting p repeats loops before after held (step_at A setting (state_at A p repeats before held) (line ∷ rest)) answer)
      same_place
      crosses.says)

  first_in : Option (Verdict A) → Option Bool
  first_in none = none
  first_in (some verdict) = some verdict.first

  -- what a comparison's code says of the test
  compared_is : (place : Place) (store : List A.Carrier) (turns : List ℕ) (a b : ℕ) (setting : Setting A) (picked : Branch) (values copied held : List A.Carrier) → Compares A a b store picked
      → Sound A setting (buffers_at A place (cells_of A store values turns copied) held)
      → compared A (less a b) store ≡ branch_of picked
  unfolding tested first_in
  compared_is place store turns a b setting picked values copied held compares sound =
      by (compared A (less a b) store) picked (compares.tests setting values place.values turns place.turns held sound).meaning
    where
      memory : Memory A
      memory = memory_of A (buffers_at A place (cells_of A store values turns copied) held)

      by : (o : Option Bool) (b : Branch) → verdict_on A memory (branch_of b) ≡ verdict_on A memory o → o ≡ branch_of b
      by none branch_as.First e = sym (ap first_in e)
      by none branch_as.Second e = sym (ap first_in e)
      by (some x) branch_as.First e = sym (ap first_in e)
      by (some x) branch_as.Second e = sym (ap first_in e)

  module _ {table : List ℕ} {rows : ℕ} {beyond : List ℕ} {keeps : Bool} {place : Place} {store : List A.Carrier} {turns : List ℕ} {loops : List Loop} where
    pub block_leaves : {how : Ended} {met : Met} → Meets table rows place met → met ≡ met_as.Out how
        → BlockRow A table rows beyond keeps place store turns loops turns loops (Err how)
    unfolding step step_at
    block_leaves {how} meets is = by_end how (rw is at meets)
      where
        by_end : (how : Ended) → Meets table rows place (met_as.Out how)
            → BlockRow A table rows beyond keeps place store turns loops turns loops (Err how)
        by_end ended_as.Finished (some_left, over) =
            record {
              left = tt;
              steps = λ setting lines repeats values copied held holds count jumps none_due keeping opened shallow sound.
                  let none_there : drop place.at.0 lines ≡ [] = drop_of_length-le lines {i = place.at.0} (rw count over) in
                  (some_left, rw none_there, record { opened = opened; stays = refl });
            }
        by_end (ended_as.Stopped row) never = absurd never
        by_end ended_as.Stuck never = absurd never
        by_end ended_as.Unfinished spent =
            record {
              left = tt;
              steps = λ setting lines repeats values copied held holds count jumps none_due keeping opened shallow sound.
                  (spent, record { opened = opened; stays = refl });
            }

    pub block_crosses : {row : RowWords} {next : Place} {turns_after : List ℕ} {loops_after : List Loop} {answer : Result Place Ended} {met : Met} → Meets table rows place met
        → met ≡ met_as.Other row next
        → CrossesBy A (row_said row) beyond place.at.0 next turns loops turns_after loops_after answer
        → BlockRow A table rows beyond keeps place store turns loops turns_after loops_after answer
    block_crosses {row} {next} {turns_after} {loops_after} {answer} meets is crosses =
        let (there, not_if, not_while) = rw is at meets in
        let left = there.follows.left in
        let spends = there.follows.spends in
        let done = rw there.follows.is at crosses in
        record {
          left = rw spends done.left;
          steps = λ setting lines repeats values copied held holds count jumps none_due keeping opened shallow sound.
              let line = stands_there lines place.at.0 (rw count there.within) in
              let words = words_there table lines line.rest line.line place.at.0 (row_said row) holds there.said line.is in
              found_there place lines setting repeats (cells_of A store values turns copied) (cells_of A store values turns_after copied) held
              loops_after answer spends line.is
              (record {
                says = done.crosses setting lines line.rest line.line repeats store values copied held words not_if not_while (add-one place.at.0)
                    line.is jumps (none_due (omega arith)) opened shallow sound;
              });
        }

    block_compares : {row : RowWords} {next : Place} {picked : Branch} {answer : Result Place Ended} → MeetsRow table rows place (row_said row) next
        → row.kind ≡ 7
        → Compares A row.a row.b store picked
        → BranchesTo beyond place.at.0 next picked answer
        → BlockRow A table rows beyond keeps place store turns loops turns loops answer
    unfolding block_of
    block_compares {row} {next} {picked} {answer} there kind compares to =
        let left = there.follows.left in
        let spends = there.follows.spends in
        let goes = rw there.follows.is at to in
        let follow = following place (place.at.0 + 1) left in
        let picks = branch_picks beyond place.at.0 follow picked answer goes in
        record {
          left = rw spends (picks_left beyond place.at.0 follow place.turns (branch_of picked) answer picks);
          steps = λ setting lines repeats values copied held holds count jumps none_due keeping opened shallow sound.
              let line = stands_there lines place.at.0 (rw count there.within) in
              let words = words_there table lines line.rest line.line place.at.0 (row_said row) holds there.said line.is in
              let f : TableTest = whether (less row.a row.b) in
              let is_if : block_of (row_said row) ≡ some (if_line f) = rw kind in
              let told : some (if_line f) ≡ some (said_of line.line) =
              sym is_if
              ∙ ap block_of (sym words)
              ∙ block_said line.line
              (λ basic_row is. none_due (omega arith) basic_row line.rest (line.is ∙ ap (λ (l : TableLine). l ∷ line.rest) is)) in
              let same : if_line f ≡ line.line = said_all _ line.line tt cc in
              let here = line.is ∙ ap (λ (l : TableLine). l ∷ line.rest) (sym same) in
              let cells = cells_of A store values turns copied in
              found_there place lines setting repeats cells cells held loops answer spends here
              (test_crosses f place.turns (add-one place.at.0) here jumps opened (branch_of picked)
              (compares.tests setting values place.values turns place.turns held sound) picks);
        }

    block_loops : {row : RowWords} {next : Place} {picked : Branch} {turns_after : List ℕ} {loops_after : List Loop} {answer : Result Place Ended}
        → MeetsRow table rows place (row_said row) next
        → row.kind ≡ while_kind
        → Compares A row.a row.b store picked
        → AsksLoop A picked row.d keeps beyond place.at.0 next turns loops turns_after loops_after answer
        → BlockRow A table rows beyond keeps place store turns loops turns_after loops_after answer
    unfolding block_of table_row_of row_of_table_while
    block_loops {row} {next} {picked} {turns_after} {loops_after} {answer} there kind compares loop =
        let left = there.follows.left in
        let spends = there.follows.spends in
        let done = rw there.follows.is at loop in
        record {
          left = rw spends done.left;
          steps = λ setting lines repeats values copied held holds count jumps none_due keeping opened shallow sound.
              let line = stands_there lines place.at.0 (rw count there.within) in
              let words = words_there table lines line.rest line.line place.at.0 (row_said row) holds there.said line.is in
              let f : Test = less row.a row.b in
              let m : ℕ = pred row.d in
              let is_while : block_of (row_said row) ≡ some (repeat (while (whether f) m)) = rw kind in
              let told : some (repeat (while (whether f) m)) ≡ some (said_of line.line) =
              sym is_while
              ∙ ap block_of (sym words)
              ∙ block_said line.line
              (λ basic_row is. none_due (omega arith) basic_row line.rest (line.is ∙ ap (λ (l : TableLine). l ∷ line.rest) is)) in
              let same : repeat (while (whether f) m) ≡ line.line = said_all _ line.line tt cc in
              let here = line.is ∙ ap (λ (l : TableLine). l ∷ line.rest) (sym same) in
              let turns_are : row.d ≡ suc m = sym (ap (λ (r : Row). r.d) (ap table_row_of same ∙ words)) in
              found_there place lines setting repeats (cells_of A store values turns copied) (cells_of A store values turns_after copied) held
              loops_after answer spends here
              (record {
                says = done.asks setting lines line.rest f m repeats store values copied held turns_are
                    (compared_is place store turns row.a row.b setting picked values copied held compares sound) (add-one place.at.0) here jumps keeping opened shallow
                    sound;
              });
        }

    pub block_asks : {row : RowWords} {next : Place} {picked : Branch} {turns_after : List ℕ} {loops_after : List Loop} {answer : Result Place Ended} {met : Met}
        → Meets table rows place met
        → met ≡ met_as.Ask row next
        → Compares A row.a row.b store picked
        → AsksRow A picked (row_said row) keeps beyond place.at.0 next turns loops turns_after loops_after answer
        → BlockRow A table rows beyond keeps place store turns loops turns_after loops_after answer
    block_asks {row} {next} {picked} {turns_after} {loops_after} {answer} meets is compares row_asks =
        let (there, kind) = rw is at meets in
        by_kind there kind
      where
        by_kind : MeetsRow table rows place (row_said row) next → AsksLess row.kind
            → BlockRow A table rows beyond keeps place store turns loops turns_after loops_after answer
        by_kind there (inl if_kind) =
            let (to, same_turns, same_loops) = row_asks.picks if_kind in
            rw (same_turns, same_loops) (block_compares there if_kind compares to)
        by_kind there (inr loop_kind) = block_loops there loop_kind compares (row_asks.asks (λ if_kind. omega arith))
