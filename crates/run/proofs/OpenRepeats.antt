-- As many repeats are open at every step of a run as stand open around its row, so no more than the table's blocks nest. A loop whose row is asked before
-- each turn is open at that row too, once it is under way.
use Prim.Native.Nat.{ℕ, zero, suc, pred, ◌+◌, ◌-◌, ◌≤◌}
use mathlib.Core.Path.{◌≡◌, refl, sym, ap, subst, ◌∙◌}
use mathlib.Core.Logic.{◌⊎◌, inl, inr}
use mathlib.Core.Bool.{Bool, true, false, ◌&&◌, cond}
use mathlib.Core.List.{List, [], ◌∷◌}
use mathlib.Core.Option.{Option, none, some}
use lib.ListN.{length, drop}
use lib.Dec.{eqb}
use native.Mathlib.Omega.{arith}
use borrow.Author.Tests.{eq-eqb, eqb-true}
use Rattle.number.specs.Arithmetic.{Arithmetic}
use Rattle.sheet.specs.Bounds.{limit}
use Rattle.sheet.specs.Tree.{Loop, times, while, done, one, fork, again, rows, flat, basic, if_line, else_line, end_if, repeat, end_repeat, RowNumber}
use Rattle.sheet.proofs.Depth.{deep}
use Rattle.sets.proofs.Truths.{never}
use Rattle.table.specs.TableRows.{Table, TableLine, TableTest, whether, on_turn, lines_of}
use Rattle.machine.specs.Actions.{Attempt, through, halted, stuck, Memory, Setting, with_turns, count_kept, Stop, stopping_at, Verdict, acted, compared, tested}
use Rattle.machine.specs.Machine.{its_else, its_end, one_more, seek, seek_close, Repeat, Pending, pending, State, Step, goes_on, ended, stops, sticks}
use Rattle.machine.specs.Machine.{jump, after_action, branch_to, after_test, after_turn, loop_ends, asked, on_count, step_at, step, if_it_goes_on, state_after}
use Rattle.machine.specs.Inner.RowsHanded.{Shallow}
use Rattle.machine.specs.Inner.RunsRows.{first_state}
use Rattle.machine.proofs.LinesStand.{Branch, Stands, stands_at, FromEach, from_each_next, from_each_end}
use Rattle.machine.proofs.LinesPassed.{past_line, past_tree, seek_else, seek_end, seek_close_lem}

-- ---- how many repeats stand open before these lines: each is ended by one of them

open_at : List TableLine → ℕ
open_at [] = 0
open_at (basic b ∷ rest) = open_at rest
open_at (if_line f ∷ rest) = open_at rest
open_at (else_line ∷ rest) = open_at rest
open_at (end_if ∷ rest) = open_at rest
open_at (repeat m ∷ rest) = pred (open_at rest)
open_at (end_repeat ∷ rest) = suc (open_at rest)

open_flat : (t : Table) (rest : List TableLine) → open_at (flat t rest) ≡ open_at rest
unfolding open_at flat
open_flat done rest = refl
open_flat (one b k) rest = open_flat k rest
open_flat (fork f a b k) rest = open_flat a _ ∙ open_flat b _ ∙ open_flat k rest
open_flat (again m a k) rest = ap pred (open_flat a (end_repeat ∷ flat k rest)) ∙ open_flat k rest

-- no more than so many, wherever the lines begin
abbrev AtMostOpen : ℕ → List TableLine → Type 0
AtMostOpen most lines = open_at lines ≤ most

open_deep : (most : ℕ) (t : Table) (rest : List TableLine) → FromEach (AtMostOpen most) rest → open_at rest + deep t ≤ most
    → FromEach (AtMostOpen most) (flat t rest)
unfolding open_at flat deep
open_deep most done rest later h = later
open_deep most (one b k) rest later h =
    from_each_next (AtMostOpen most) (basic b) _ (omega (arith, open_flat k rest)) (open_deep most k rest later h)
open_deep most (fork f a b k) rest later h =
    let few = AtMostOpen most in
    let k_flat = open_flat k rest in
    let b_flat = open_flat b (end_if ∷ flat k rest) in
    let a_flat = open_flat a (else_line ∷ flat b (end_if ∷ flat k rest)) in
    let after_b = from_each_next few end_if _ (omega arith) (open_deep most k rest later (omega arith)) in
    let after_a = from_each_next few else_line _ (omega arith) (open_deep most b _ after_b (omega arith)) in
    from_each_next few (if_line f) _ (omega arith) (open_deep most a _ after_a (omega arith))
open_deep most (again m a k) rest later h =
    let few = AtMostOpen most in
    let k_flat = open_flat k rest in
    let after_a = from_each_next few end_repeat _ (omega arith) (open_deep most k rest later (omega arith)) in
    let whole : open_at (repeat m ∷ flat a (end_repeat ∷ flat k rest)) ≡ open_at (flat k rest) = ap pred (open_flat a (end_repeat ∷ flat k rest)) in
    from_each_next few (repeat m) _ (omega arith) (open_deep most a _ after_a (omega arith))

-- ---- the machine's repeats

-- behind a branch as many stand open as before the mark that ends it
branch_open : {mark : TableLine} {rest : List TableLine} (branch : Branch mark rest) → open_at (mark ∷ branch.behind) ≡ open_at rest
branch_open {mark} branch = sym (ap open_at branch.is ∙ open_flat branch.tree (mark ∷ branch.behind))

-- the rows that are asked before each turn of their loop
asks_at : List TableLine → Bool
asks_at [] = false
asks_at (basic b ∷ rest) = false
asks_at (if_line f ∷ rest) = false
asks_at (else_line ∷ rest) = false
asks_at (end_if ∷ rest) = false
asks_at (repeat (times m) ∷ rest) = false
asks_at (repeat (while (whether f) m) ∷ rest) = true
asks_at (repeat (while on_turn m) ∷ rest) = false
asks_at (end_repeat ∷ rest) = false

second_passes : (a b : Bool) → (a && b) ≡ true → b ≡ true
second_passes true b e = e
second_passes false b e = never e

module _ (lines : List TableLine) where
  past_branch : (p : ℕ) (rest : List TableLine) (mark : TableLine) (branch : Branch mark rest) → drop (suc p) lines ≡ rest
      → drop (p + suc (rows branch.tree + 1)) lines ≡ branch.behind
  past_branch p rest mark branch e =
      let tree = branch.tree in
      let far : p + suc (rows tree + 1) ≡ suc (suc p + rows tree) = omega arith in
      let at_mark = past_tree lines (suc p) tree (mark ∷ branch.behind) (e ∙ branch.is) in
      ap (λ n. drop n lines) far ∙ past_line lines (suc p + rows tree) mark branch.behind at_mark

  -- each open repeat has as many outside it as stand open at its row, and its row is asked if it says so
  Starts : List Repeat → Type 0
  Starts [] = Unit {0}
  Starts (r ∷ outer) =
      (open_at (drop (suc r.start.index) lines) ≡ suc (length outer)) × (r.asks ≡ asks_at (drop r.start.index lines)) × Starts outer

  -- back at the row of the innermost one: those outside it stand open there
  AtItsRow : ℕ → List Repeat → Type 0
  AtItsRow p [] = ⊥
  AtItsRow p (r ∷ outer) = (r.start.index ≡ p) × (r.asks ≡ true) × (length outer ≡ open_at (drop p lines))

  -- outside a loop whose row is asked one fewer stands open than inside
  outside : (p n : ℕ) (here : List TableLine) → drop p lines ≡ here → asks_at here ≡ true → open_at (drop (suc p) lines) ≡ suc n → open_at here ≡ n
  unfolding open_at asks_at
  outside p n [] e is inside = never is
  outside p n (basic b ∷ rest) e is inside = never is
  outside p n (if_line f ∷ rest) e is inside = never is
  outside p n (else_line ∷ rest) e is inside = never is
  outside p n (end_if ∷ rest) e is inside = never is
  outside p n (repeat (times m) ∷ rest) e is inside = never is
  outside p n (repeat (while (whether f) m) ∷ rest) e is inside =
      ap pred (sym (ap open_at (past_line lines p (repeat (while (whether f) m)) rest e)) ∙ inside)
  outside p n (repeat (while on_turn m) ∷ rest) e is inside = never is
  outside p n (end_repeat ∷ rest) e is inside = never is

  module _ (A : Arithmetic) where
    record Open (state : State A) : Type 0 where
      many : (length state.repeats ≡ open_at (drop state.at.index lines)) ⊎ AtItsRow state.at.index state.repeats
      starts : Starts state.repeats

    OpenAfter : Step A → Type 0
    OpenAfter (goes_on state) = Open state
    OpenAfter (ended memory) = Unit {0}
    OpenAfter (stops row stop) = Unit {0}
    OpenAfter sticks = Unit {0}

    -- where the row isn't asked, all that are open stand open there
    not_asked : (s : State A) (here : List TableLine) → drop s.at.index lines ≡ here → asks_at here ≡ false → Open s
        → length s.repeats ≡ open_at here
    unfolding Starts AtItsRow
    not_asked s here e plain o = by_many s.repeats o.many o.starts
      where
        by_many : (repeats : List Repeat) → (length repeats ≡ open_at (drop s.at.index lines)) ⊎ AtItsRow s.at.index repeats → Starts repeats
            → length repeats ≡ open_at here
        by_many repeats (inl many) starts = many ∙ ap open_at e
        by_many [] (inr back) starts = absurd back
        by_many (r ∷ outer) (inr (is, asks, many)) starts =
            never (sym plain ∙ sym (ap asks_at e) ∙ sym (ap (λ p. asks_at (drop p lines)) is) ∙ sym starts.1 ∙ asks)

    -- where it is, all but its own loop: those around a row
    record Around (here : List TableLine) (outer : List Repeat) : Type 0 where
      many : length outer ≡ open_at here
      starts : Starts outer

    around : (s : State A) (here : List TableLine) → drop s.at.index lines ≡ here → asks_at here ≡ false → Open s → Around here s.repeats
    around s here e plain o = record { many = not_asked s here e plain o; starts = o.starts }

    around_asked : (s : State A) (most : ℕ) (here : List TableLine) → drop s.at.index lines ≡ here → asks_at here ≡ true → Open s
        → Around here (pending A s most s.repeats).outer
    unfolding Starts AtItsRow
    around_asked s most here e is o = by_many s.repeats o.many o.starts
      where
        -- all are around it where the innermost one isn't its own loop: with that, one more would be open than stands open there
        by_own : (r : Repeat) (outer : List Repeat) (own : Bool) → (r.asks && eqb r.start.index s.at.index) ≡ own
            → length (r ∷ outer) ≡ open_at here → Starts (r ∷ outer)
            → Around here (cond {A = Pending A} own (record { left = r.left; outer = outer }) (record { left = most; outer = r ∷ outer })).outer
        by_own r outer true same many starts =
            let at : r.start.index ≡ s.at.index = eqb-true r.start.index s.at.index (second_passes r.asks _ same) in
            absurd (omega (arith, outside s.at.index (length outer) here e is (ap (λ p. open_at (drop (suc p) lines)) (sym at) ∙ starts.0)))
        by_own r outer false same many starts = record { many = many; starts = starts }

        by_many : (repeats : List Repeat) → (length repeats ≡ open_at (drop s.at.index lines)) ⊎ AtItsRow s.at.index repeats → Starts repeats
            → Around here (pending A s most repeats).outer
        by_many [] (inl many) starts = record { many = many ∙ ap open_at e; starts = starts }
        by_many [] (inr back) starts = absurd back
        by_many (r ∷ outer) (inl many) starts = by_own r outer _ refl (many ∙ ap open_at e) starts
        by_many (r ∷ outer) (inr (at, asks, many)) starts =
            rw (asks, eq-eqb r.start.index s.at.index at) (record { many = many ∙ ap open_at e; starts = starts.2 })

    -- on to a row where as many stand open
    moved : (s : State A) (q : ℕ) (here behind : List TableLine) (memory : Memory A) → drop q lines ≡ behind → open_at behind ≡ open_at here
        → Around here s.repeats → Open (record { at = record { index = q }; repeats = s.repeats; memory = memory })
    moved s q here behind memory f same o = record { many = inl (o.many ∙ sym same ∙ sym (ap open_at f)); starts = o.starts }

    action_open : (s : State A) (x : Attempt (Stop A) (Memory A))
        → ((memory : Memory A) → Open (record { at = record { index = suc s.at.index }; repeats = s.repeats; memory = memory })) → OpenAfter (after_action A s x)
    unfolding OpenAfter
    action_open s (through memory) h = h memory
    action_open s (halted stop) h = tt
    action_open s stuck h = tt

    -- past a branch that a search has found the end of
    jump_open : (s : State A) (memory : Memory A) (line : TableLine) (rest : List TableLine) → drop s.at.index lines ≡ line ∷ rest
        → (mark : TableLine) (branch : Branch mark rest) → open_at branch.behind ≡ open_at (line ∷ rest)
        → (found : Option ℕ) → found ≡ some (rows branch.tree + 1) → Around (line ∷ rest) s.repeats
        → OpenAfter (jump A s memory (one_more found))
    unfolding OpenAfter
    jump_open s memory line rest e mark branch same found is o =
        rw is
        (moved s (s.at.index + suc (rows branch.tree + 1)) (line ∷ rest) branch.behind memory
        (past_branch s.at.index rest mark branch (past_line lines s.at.index line rest e)) same o)

    test_open : (s : State A) (f : TableTest) (rest : List TableLine) → drop s.at.index lines ≡ if_line f ∷ rest → Branch else_line rest
        → Around (if_line f ∷ rest) s.repeats → (verdict : Option (Verdict A)) → OpenAfter (after_test A s rest verdict)
    unfolding OpenAfter open_at
    test_open s f rest e branch o none = tt
    test_open s f rest e branch o (some verdict) = by_turn verdict.first
      where
        by_turn : (first : Bool) → OpenAfter (branch_to A s rest first verdict.memory)
        by_turn true = moved s (suc s.at.index) (if_line f ∷ rest) rest verdict.memory (past_line lines s.at.index (if_line f) rest e) refl o
        by_turn false =
            jump_open s verdict.memory (if_line f) rest e else_line branch (branch_open branch) (seek its_else 0 rest)
            (ap (seek its_else 0) branch.is ∙ seek_else branch.tree branch.behind) o

    -- ---- a loop's first row, with those around it

    module _ (s : State A) (l : Loop TableTest) (rest : List TableLine) (e : drop s.at.index lines ≡ repeat l ∷ rest) (branch : Branch end_repeat rest)
        (outer : List Repeat) (o : Around (repeat l ∷ rest) outer) where
      -- into its body
      turn_begins : (asks : Bool) → asks ≡ asks_at (repeat l ∷ rest) → (left : ℕ) (memory : Memory A)
          → Open (record { at = record { index = suc s.at.index }; repeats = record { start = s.at; asks = asks; left = left } ∷ outer; memory = memory })
      unfolding open_at Starts
      turn_begins asks is left memory =
          let inside = ap open_at (past_line lines s.at.index (repeat l) rest e) in
          let body = branch_open branch in
          let there : open_at (drop (suc s.at.index) lines) ≡ suc (length outer) = omega (arith, o.many ∙ ap pred (sym body)) in
          record { many = inl (sym there); starts = (there, is ∙ sym (ap asks_at e), o.starts) }

      -- past its last row
      loop_passed : (memory : Memory A)
          → OpenAfter (jump A (record { at = s.at; repeats = outer; memory = memory }) memory (one_more (seek_close 0 rest)))
      unfolding open_at
      loop_passed memory =
          jump_open (record { at = s.at; repeats = outer; memory = memory }) memory (repeat l) rest e end_repeat branch (ap pred (branch_open branch))
          (seek_close 0 rest) (ap (seek_close 0) branch.is ∙ seek_close_lem branch.tree branch.behind) o

      loop_ends_lem : (x : Attempt (Stop A) (Memory A)) → OpenAfter (loop_ends A s rest outer x)
      unfolding OpenAfter
      loop_ends_lem (through memory) = loop_passed memory
      loop_ends_lem (halted stop) = tt
      loop_ends_lem stuck = tt

      asked_open : asks_at (repeat l ∷ rest) ≡ true → (setting : Setting A) (most left : ℕ) (holds : Option Bool)
          → OpenAfter (asked A setting s rest most left outer holds)
      unfolding OpenAfter
      asked_open is setting most zero holds = loop_ends_lem (count_kept A setting most s.memory)
      asked_open is setting most (suc n) none = tt
      asked_open is setting most (suc n) (some true) = turn_begins true (sym is) (suc n) s.memory
      asked_open is setting most (suc n) (some false) = loop_ends_lem (count_kept A setting (most - suc n) s.memory)

    count_open : (s : State A) (m : ℕ) (rest : List TableLine) → drop s.at.index lines ≡ repeat (while on_turn m) ∷ rest → Branch end_repeat rest
        → Around (repeat (while on_turn m) ∷ rest) s.repeats → (turns : List ℕ) → OpenAfter (on_count A s rest turns)
    unfolding OpenAfter asks_at
    count_open s m rest e branch o [] = tt
    count_open s m rest e branch o (zero ∷ turns) =
        loop_passed s (while on_turn m) rest e branch s.repeats o (with_turns A s.memory turns)
    count_open s m rest e branch o (suc n ∷ turns) =
        turn_begins s (while on_turn m) rest e branch s.repeats o false refl n (with_turns A s.memory turns)

    -- ---- its last row

    turn_open : (s : State A) (rest : List TableLine) → drop s.at.index lines ≡ end_repeat ∷ rest → (repeats : List Repeat)
        → length repeats ≡ suc (open_at rest) → Starts repeats → OpenAfter (after_turn A s repeats)
    unfolding OpenAfter Starts AtItsRow
    turn_open s rest e [] many starts = tt
    turn_open s rest e (r ∷ outer) many starts = by_left r.start r.asks r.left starts.0 starts.1
      where
        by_left : (start : RowNumber) (asks : Bool) (left : ℕ) → open_at (drop (suc start.index) lines) ≡ suc (length outer)
            → asks ≡ asks_at (drop start.index lines) → OpenAfter (after_turn A s (record { start = start; asks = asks; left = left } ∷ outer))
        by_left start asks zero there is =
            record { many = inl (omega (arith, ap open_at (past_line lines s.at.index end_repeat rest e))); starts = starts.2 }
        by_left start true (suc n) there is =
            record { many = inr (refl, refl, sym (outside start.index (length outer) _ refl (sym is) there)); starts = (there, is, starts.2) }
        by_left start false (suc n) there is = record { many = inl (sym there); starts = (there, is, starts.2) }

    step_open : (setting : Setting A) (s : State A) (here : List TableLine) → drop s.at.index lines ≡ here → Stands here → Open s
        → OpenAfter (step_at A setting s here)
    unfolding step_at OpenAfter open_at asks_at
    step_open setting s [] e stands o = tt
    step_open setting s (basic row ∷ rest) e stands o =
        action_open s (stopping_at A row.origin (acted A setting row.action s.memory))
        (λ memory. moved s (suc s.at.index) (basic row ∷ rest) rest memory (past_line lines s.at.index (basic row) rest e) refl (around s _ e refl o))
    step_open setting s (if_line f ∷ rest) e stands o = test_open s f rest e stands (around s _ e refl o) (tested A f s.memory)
    step_open setting s (else_line ∷ rest) e stands o =
        jump_open s s.memory else_line rest e end_if stands (branch_open stands) (seek its_end 0 rest)
        (ap (seek its_end 0) stands.is ∙ seek_end stands.tree stands.behind) (around s _ e refl o)
    step_open setting s (end_if ∷ rest) e stands o =
        moved s (suc s.at.index) (end_if ∷ rest) rest s.memory (past_line lines s.at.index end_if rest e) refl (around s _ e refl o)
    step_open setting s (repeat (times m) ∷ rest) e stands o =
        turn_begins s (times m) rest e stands s.repeats (around s _ e refl o) false refl m s.memory
    step_open setting s (repeat (while (whether f) m) ∷ rest) e stands o =
        let now = pending A s (suc m) s.repeats in
        asked_open s (while (whether f) m) rest e stands now.outer (around_asked s (suc m) _ e refl o) refl setting (suc m) now.left
        (compared A f s.memory.store)
    step_open setting s (repeat (while on_turn m) ∷ rest) e stands o = count_open s m rest e stands (around s _ e refl o) s.memory.turns
    step_open setting s (end_repeat ∷ rest) e stands o = turn_open s rest e s.repeats (not_asked s _ e refl o) o.starts

    steps_open : (setting : Setting A) → FromEach Stands lines → (n : ℕ) (s : State A) → Open s → OpenAfter (state_after A n setting lines s)
    unfolding state_after step OpenAfter
    steps_open setting stand zero s o = o
    steps_open setting stand (suc n) s o =
        by_step (step A setting lines s) (step_open setting s (drop s.at.index lines) refl (stand s.at.index) o) (λ next. steps_open setting stand n next)
      where
        by_step : (x : Step A) → OpenAfter x → ((next : State A) → Open next → OpenAfter (state_after A n setting lines next))
            → OpenAfter (if_it_goes_on A x (λ next. state_after A n setting lines next))
        by_step (goes_on next) h ih = ih next h
        by_step (ended memory) h ih = tt
        by_step (stops row stop) h ih = tt
        by_step sticks h ih = tt

    -- no more than stand open at some row
    few_open : (most : ℕ) → FromEach (AtMostOpen most) lines → (s : State A) → Open s → length s.repeats ≤ most
    unfolding Starts AtItsRow
    few_open most few s o = by_many s.repeats o.many o.starts
      where
        by_many : (repeats : List Repeat) → (length repeats ≡ open_at (drop s.at.index lines)) ⊎ AtItsRow s.at.index repeats → Starts repeats
            → length repeats ≤ most
        by_many repeats (inl many) starts = omega (arith, few s.at.index)
        by_many [] (inr back) starts = absurd back
        by_many (r ∷ outer) (inr back) starts = omega (arith, few (suc r.start.index), starts.0)

-- ---- a whole table

module _ (A : Arithmetic) (setting : Setting A) where
  pub table_shallow : (t : Table) (memory : Memory A) → deep t ≤ limit.depth
      → Shallow A setting (lines_of t) (first_state A memory)
  unfolding OpenAfter open_at Starts lines_of
  table_shallow t memory h n state e =
      let start : Open (lines_of t) A (record { at = record { index = 0 }; repeats = []; memory = memory }) =
      record { many = inl (sym (open_flat t [])); starts = tt } in
      few_open (lines_of t) A limit.depth
      (open_deep limit.depth t [] (from_each_end (AtMostOpen limit.depth) (omega arith)) (omega arith)) state
      (subst (OpenAfter (lines_of t) A) e (steps_open (lines_of t) A setting (λ p. stands_at t p _ refl) n _ start))
