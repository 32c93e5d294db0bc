-- The engine's way through a sheet: at each row, the rest of the block at hand and what follows the blocks around it give the whole run.
use Prim.Native.Nat.{ℕ, zero, suc, ◌+◌, ◌*◌, ◌-◌, ◌≤◌, ◌<◌}
use mathlib.Core.Path.{◌≡◌, refl, sym, ap, ap₂, subst, ◌∙◌}
use mathlib.Core.Bool.{Bool, true, false, cond}
use mathlib.Core.List.{List, [], ◌∷◌}
use mathlib.Core.Option.{Option, some}
use native.Mathlib.Omega.{arith}
use native.Mathlib.Nat.{suc-mul}
use native.Mathlib.Numerals.{add-one}
use lib.ListN.{length, get_or, set, length-set}
use lib.Seq.{get_or-set_same, get_or-set_other}
use borrow.Author.Tests.{ne_eqb}
use Rattle.number.specs.Doubles.{doubles}
use Rattle.sheet.specs.Bounds.{limit}
use Rattle.sheet.specs.Tree.{Loop, times, while, most_turns, Tree, done, one, fork, again, basic, if_line, else_line, end_if, repeat, end_repeat, rows, longest_run}
use Rattle.sheet.specs.Rows.{Assignment, ◌≔◌, Source, Test, less, SheetLine, Row, sheet_row_of}
use Rattle.sheet.specs.Names.{TestPresent, LoopPresent}
use Rattle.sheet.specs.Inner.RowLines.{numbered_row}
use Rattle.sheet.specs.Inner.Kinds.{part_of, assigns, turns_in}
use Rattle.sets.specs.Equations.{left_from}
use Rattle.sets.specs.Marks.{Marked, numbered}
use Rattle.table.specs.Inner.MarkedRows.{known_by}
use Rattle.machine.specs.Actions.{Attempt, through, halted, stuck, ◌>>=◌, present, compared, turns_then, while_then}
use Rattle.machine.proofs.AttemptLaws.{bind_assoc, bind_same}
use Rattle.tangent.specs.Tangent.{tangent_rows}
use Rattle.plain.specs.Plain.{Carried, StopAt, carried_over, plain_run}
use Rattle.plain.specs.declared.Rated.{Rated}
use Rattle.plain.specs.Inner.Crossing.{Crossed, crossed_to, at_row, asked_row, turns_on, opened, ended_turn, crossing, Crossable}
use Rattle.plain.specs.Inner.Engine.{value_in, carried_in}
use Rattle.plain.proofs.CellLaws.{field_there}
use Rattle.plain.proofs.PlacedTree.{AssignmentAt, Placed, before, before_next, before_after}

abbrev Rest : Type 0
Rest = Tree Assignment Test

-- A block around the row at hand, with what follows it; of a branch the row where that begins, and of a loop the turns still to come, what its row says,
-- where it opens and its body.
pub data Frame : Type 0 where
  in_first : (at : ℕ) → Rest → Frame
  in_second : (at : ℕ) → Rest → Frame
  in_loop : (to_come : ℕ) → (loop : Loop Test) → (start : ℕ) → (body : Rest) → Rest → Frame

-- how many of them are loops
loops : List Frame → ℕ
loops [] = 0
loops (in_first at t ∷ frames) = loops frames
loops (in_second at t ∷ frames) = loops frames
loops (in_loop m loop start a t ∷ frames) = suc (loops frames)

loops_few : (frames : List Frame) → loops frames ≤ length frames
unfolding loops
loops_few [] = omega arith
loops_few (in_first at t ∷ frames) = omega (arith, loops_few frames)
loops_few (in_second at t ∷ frames) = omega (arith, loops_few frames)
loops_few (in_loop m loop start a t ∷ frames) = omega (arith, loops_few frames)

-- the turns still to come are kept, the outermost loop's first
abbrev Kept : List ℕ → List Frame → Type 0
Kept to_come [] = Unit {0}
Kept to_come (in_first at t ∷ frames) = Kept to_come frames
Kept to_come (in_second at t ∷ frames) = Kept to_come frames
Kept to_come (in_loop m loop start a t ∷ frames) = (get_or to_come (loops frames) 0 ≡ m) × Kept to_come frames

kept_above : (to_come : List ℕ) (i m : ℕ) (frames : List Frame) → loops frames ≤ i → Kept to_come frames → Kept (set to_come i m) frames
unfolding loops
kept_above to_come i m [] h k = tt
kept_above to_come i m (in_first at t ∷ frames) h k = kept_above to_come i m frames h k
kept_above to_come i m (in_second at t ∷ frames) h k = kept_above to_come i m frames h k
kept_above to_come i m (in_loop n loop start a t ∷ frames) h k =
    (get_or-set_other to_come i (loops frames) m 0 (λ e. omega arith) ∙ k.0, kept_above to_come i m frames (omega arith) k.1)

-- as many steps as the frames still take at most: a block's last row, and what W counts twice over
cost : List Frame → ℕ
cost [] = 0
cost (in_first at t ∷ frames) = 1 + 2 * longest_run t + cost frames
cost (in_second at t ∷ frames) = 1 + 2 * longest_run t + cost frames
cost (in_loop m loop start a t ∷ frames) = 1 + m * (2 * (1 + longest_run a)) + 2 * longest_run t + cost frames

-- the line at hand
abbrev pub line_here : Rest → List Frame → SheetLine
line_here (one b t) frames = basic b
line_here (fork f a b t) frames = if_line f
line_here (again loop a t) frames = repeat loop
line_here done [] = end_repeat
line_here done (in_first at t ∷ frames) = else_line
line_here done (in_second at t ∷ frames) = end_if
line_here done (in_loop m loop start a t ∷ frames) = end_repeat

-- the line whose test is asked there: at a turn's end that of the loop's own row
abbrev pub line_asked : Rest → List Frame → SheetLine
line_asked (one b t) frames = basic b
line_asked (fork f a b t) frames = if_line f
line_asked (again loop a t) frames = repeat loop
line_asked done [] = end_repeat
line_asked done (in_first at t ∷ frames) = else_line
line_asked done (in_second at t ∷ frames) = end_if
line_asked done (in_loop m loop start a t ∷ frames) = repeat loop

-- the same loop, with at most m + 1 turns
abbrev with_turns : Loop Test → (m : ℕ) → Loop Test
with_turns (times all) m = times m
with_turns (while f all) m = while f m

-- its turns but one
abbrev all_but_one : Loop Test → ℕ
all_but_one (times m) = m
all_but_one (while f m) = m

most_turns_lem : (loop : Loop Test) → most_turns loop ≡ suc (all_but_one loop)
most_turns_lem (times m) = refl
most_turns_lem (while f m) = refl

with_its_turns : (loop : Loop Test) → with_turns loop (all_but_one loop) ≡ loop
with_its_turns (times m) = refl
with_its_turns (while f m) = refl

turns_said_lem : (loop : Loop Test) {asked : Row} → asked ≡ sheet_row_of (repeat loop) → turns_in asked ≡ suc (all_but_one loop)
unfolding sheet_row_of
turns_said_lem (times m) is = rw is refl
turns_said_lem (while (less a b) m) is = rw is refl

-- where a loop's end puts nothing away, it doesn't matter how many turns are done
turns_uncounted : {W X Y : Type 0} (holds : X → Option Bool) (turn : X → Attempt W X) (rest : X → Attempt W Y) (n n' left : ℕ) (x : X)
    → while_then holds turn (λ n x. through x) rest n left x ≡ while_then holds turn (λ n x. through x) rest n' left x
unfolding while_then
turns_uncounted holds turn rest n n' zero x = refl
turns_uncounted holds turn rest n n' (suc left) x =
    bind_same (present (holds x)) _ _ (λ more e.
    ap (λ on. cond more on (rest x)) (bind_same (turn x) _ _ (λ y e. turns_uncounted holds turn rest (suc n) (suc n') left y)))

abbrev Result : Type 0
Result = Attempt (StopAt doubles) (Carried doubles)

abbrev asks : Test → Carried doubles → Option Bool
asks f now = compared doubles f now.values

-- whether a loop does one more turn, as its test says where it has one
abbrev TestSays : Loop Test → Bool → Carried doubles → Type 0
TestSays (times all) more now = more ≡ true
TestSays (while f all) more now = asks f now ≡ some more

-- where its test holds or not, if it has one, the row that opens it says whether it turns on
abbrev LoopHolds : Loop Test → Bool → Carried doubles → Type 0
LoopHolds (times all) holds now = Unit {0}
LoopHolds (while f all) holds now = asks f now ≡ some holds

turns_on_lem : (loop : Loop Test) {asked : Row} (holds : Bool) (now : Carried doubles) → asked ≡ sheet_row_of (repeat loop) → LoopHolds loop holds now
    → TestSays loop (turns_on asked holds) now
unfolding sheet_row_of
turns_on_lem (times m) holds now is test = rw is refl
turns_on_lem (while (less a b) m) holds now is test = rw is test

-- only a loop with a test is left without a turn, and then to where its own row leads
left_beyond : (loop : Loop Test) (now : Carried doubles) (end other : ℕ) → TestSays loop false now → left_from loop end other ≡ end
left_beyond (times m) now end other says = let z : ◌≡◌ {A = ℕ} 0 1 = cc in absurd (omega arith)
left_beyond (while f m) now end other says = refl

-- a loop with at most m + 1 turns, and then the rest
abbrev loop_then : Loop Test → (m : ℕ) → (turn rest : Carried doubles → Result) → Carried doubles → Result
loop_then (times all) m turn rest now = turns_then m turn rest now
loop_then (while f all) m turn rest now = while_then (asks f) turn (λ n now. through now) rest 0 (suc m) now

-- after a turn, with so many to come
abbrev after_turn : Loop Test → (m : ℕ) → (turn rest : Carried doubles → Result) → Carried doubles → Result
after_turn loop zero turn rest now = rest now
after_turn loop (suc m) turn rest now = loop_then loop m turn rest now

loop_turn : (loop : Loop Test) (m : ℕ) (turn rest : Carried doubles → Result) (now : Carried doubles) → TestSays loop true now
    → loop_then loop m turn rest now ≡ (turn now >>= after_turn loop m turn rest)
unfolding turns_then while_then
loop_turn (times all) zero turn rest now says = refl
loop_turn (times all) (suc m) turn rest now says = refl
loop_turn (while f all) zero turn rest now says = rw says (bind_same (turn now) _ _ (λ x e. refl))
loop_turn (while f all) (suc m) turn rest now says = rw says (bind_same (turn now) _ _ (λ x e. turns_uncounted (asks f) turn rest 1 0 (suc m) x))

loop_past : (loop : Loop Test) (m : ℕ) (turn rest : Carried doubles → Result) (now : Carried doubles) → TestSays loop false now
    → loop_then loop m turn rest now ≡ rest now
unfolding while_then
loop_past (times all) m turn rest now says = let z : ◌≡◌ {A = ℕ} 0 1 = cc in absurd (omega arith)
loop_past (while f all) m turn rest now says = rw says refl

module _ (words : List ℕ) (first : ℕ) (marks goes : List ℕ) (mark : ℕ → Assignment → Marked) (v : ℕ) (constants : List ℕ) where
  abbrev InPlace : Rest → (p level : ℕ) → Type 0
  InPlace = Placed words first marks goes mark v (length constants)

  abbrev rows_to : ℕ → ℕ
  rows_to p = before words first marks goes mark v (length constants) p

  -- the run of the rows of a tree from row p on
  abbrev pub run_at : Rest → (p : ℕ) → Carried doubles → Result
  run_at t p now = plain_run doubles v constants (numbered mark t p) (rows_to p) now

  -- ---- its steps

  run_one : (b : Assignment) (t : Rest) (p l : ℕ) (now : Carried doubles) → InPlace (one b t) p l
      → run_at (one b t) p now ≡ (carried_over doubles constants b (known_by (get_or marks p 0)) (rows_to p) now >>= run_at t (suc p))
  unfolding Placed plain_run numbered
  run_one b t p l now w =
      let at = w.0 in
      let next = before_next words first marks goes mark v (length constants) (basic b) p at.stands in
      rw (at.says.assignment, at.says.known, sym next)

  run_fork : (f : Test) (a b t : Rest) (p l : ℕ) (now : Carried doubles) → InPlace (fork f a b t) p l
      → let split = suc p + rows a in
      let end = suc split + rows b in
      run_at (fork f a b t) p now
      ≡ (present (compared doubles f now.values) >>= λ holds. cond holds (run_at a (suc p) now) (run_at b (suc split) now) >>= run_at t (suc end))
  unfolding Placed plain_run numbered
  run_fork f a b t p l now w =
      let k = length constants in
      let split = suc p + rows a in
      let end = suc split + rows b in
      let at = w.0 in
      let row = rows_to p in
      let rows_a = tangent_rows v (numbered mark a (suc p)) in
      let rows_b = tangent_rows v (numbered mark b (suc split)) in
      let opened : suc row ≡ rows_to (suc p) = omega (arith, before_next words first marks goes mark v k (if_line f) p at.opens) in
      let at_split : suc row + rows_a ≡ rows_to split =
      omega (arith, opened, before_after words first marks goes mark v k a (suc p) (suc l) split refl w.1.0) in
      let second : suc (suc row + rows_a) ≡ rows_to (suc split) =
      omega (arith, at_split, before_next words first marks goes mark v k else_line split at.splits) in
      let at_end : suc (suc row + rows_a) + rows_b ≡ rows_to end =
      omega (arith, second, before_after words first marks goes mark v k b (suc split) (suc l) end refl w.1.1.0) in
      let past : suc (suc (suc row + rows_a) + rows_b) ≡ rows_to (suc end) =
      omega (arith, at_end, before_next words first marks goes mark v k end_if end at.ends) in
      by (suc row) (suc (suc row + rows_a)) (suc (suc (suc row + rows_a) + rows_b)) opened second past
    where
      by : (x y z : ℕ) → x ≡ rows_to (suc p) → y ≡ rows_to (suc (suc p + rows a)) → z ≡ rows_to (suc (suc (suc p + rows a) + rows b))
          → (present (compared doubles f now.values)
          >>= λ holds. cond holds (plain_run doubles v constants (numbered mark a (suc p)) x now)
          (plain_run doubles v constants (numbered mark b (suc (suc p + rows a))) y now)
          >>= plain_run doubles v constants (numbered mark t (suc (suc (suc p + rows a) + rows b))) z)
          ≡ (present (compared doubles f now.values)
          >>= λ holds. cond holds (run_at a (suc p) now) (run_at b (suc (suc p + rows a)) now) >>= run_at t (suc (suc (suc p + rows a) + rows b)))
      by x y z e f g = rw (e, f, g)

  module _ (loop : Loop Test) (a t : Rest) (p l : ℕ) (w : InPlace (again loop a t) p l) where
    abbrev end : ℕ
    end = suc p + rows a

    opened_rows : suc (rows_to p) ≡ rows_to (suc p)
    unfolding Placed
    opened_rows = omega (arith, before_next words first marks goes mark v (length constants) (repeat loop) p w.0.opens)

    past : suc (suc (rows_to p) + tangent_rows v (numbered mark a (suc p))) ≡ rows_to (suc end)
    unfolding Placed
    past =
        omega (
          arith,
          opened_rows,
          before_after words first marks goes mark v (length constants) a (suc p) (suc l) end refl w.1.0,
          before_next words first marks goes mark v (length constants) end_repeat end w.0.ends,
        )

    run_loop : (m : ℕ) (now : Carried doubles)
        → run_at (again (with_turns loop m) a t) p now ≡ loop_then loop m (run_at a (suc p)) (run_at t (suc end)) now
    unfolding plain_run numbered while_then
    run_loop m now = by loop
      where
        by : (kind : Loop Test) → run_at (again (with_turns kind m) a t) p now ≡ loop_then kind m (run_at a (suc p)) (run_at t (suc end)) now
        by (times all) = rw (past, opened_rows)
        by (while f all) =
            ap₂
            (λ x y. while_then (asks f) (plain_run doubles v constants (numbered mark a (suc p)) x) (λ n kept. through kept)
            (plain_run doubles v constants (numbered mark t (suc end)) y) 0 (suc m) now)
            opened_rows past

    -- what follows a turn, by those to come
    unfoldable follows : (m : ℕ) → Carried doubles → Result
    follows zero now = run_at t (suc end) now
    follows (suc m) now = run_at (again (with_turns loop m) a t) p now

    run_turn : (m : ℕ) (now : Carried doubles) → TestSays loop true now → run_at (again (with_turns loop m) a t) p now ≡ (run_at a (suc p) now >>= follows m)
    unfolding follows
    run_turn m now says =
        run_loop m now ∙ loop_turn loop m (run_at a (suc p)) (run_at t (suc end)) now says ∙ bind_same (run_at a (suc p) now) _ _ (λ x e. by m x)
      where
        by : (m : ℕ) (x : Carried doubles) → after_turn loop m (run_at a (suc p)) (run_at t (suc end)) x ≡ follows m x
        by zero x = refl
        by (suc m) x = sym (run_loop m x)

    run_past : (m : ℕ) (now : Carried doubles) → TestSays loop false now → run_at (again (with_turns loop m) a t) p now ≡ run_at t (suc end) now
    run_past m now says = run_loop m now ∙ loop_past loop m (run_at a (suc p)) (run_at t (suc end)) now says

  -- ---- what follows

  unfoldable pub resume : List Frame → Carried doubles → Result
  resume [] now = through now
  resume (in_first at t ∷ frames) now = run_at t at now >>= resume frames
  resume (in_second at t ∷ frames) now = run_at t at now >>= resume frames
  resume (in_loop zero loop start a t ∷ frames) now = run_at t (suc (suc start + rows a)) now >>= resume frames
  resume (in_loop (suc m) loop start a t ∷ frames) now = run_at (again (with_turns loop m) a t) start now >>= resume frames

  -- a run of a loop that turns on is one of its body, with so many turns to come
  turn_by_turn : (m : ℕ) (loop : Loop Test) (a t : Rest) (start l : ℕ) (frames : List Frame) (now : Carried doubles) → InPlace (again loop a t) start l
      → TestSays loop true now
      → (run_at (again (with_turns loop m) a t) start now >>= resume frames) ≡ (run_at a (suc start) now >>= resume (in_loop m loop start a t ∷ frames))
  unfolding resume follows
  turn_by_turn zero loop a t start l frames now w says =
      ap (λ run. run >>= resume frames) (run_turn loop a t start l w zero now says) ∙ bind_assoc (run_at a (suc start) now) _ _
  turn_by_turn (suc m) loop a t start l frames now w says =
      ap (λ run. run >>= resume frames) (run_turn loop a t start l w (suc m) now says) ∙ bind_assoc (run_at a (suc start) now) _ _

  record FirstEnds (at q : ℕ) (t : Rest) (level : ℕ) : Type 0 where
    stands : numbered_row words first q ≡ sheet_row_of else_line
    leads : suc (get_or goes q 0) ≡ at
    later : q < at
    follows : InPlace t at level

  record SecondEnds (at q : ℕ) (t : Rest) (level : ℕ) : Type 0 where
    stands : numbered_row words first q ≡ sheet_row_of end_if
    leads : suc q ≡ at
    follows : InPlace t at level

  record TurnEnds (loop : Loop Test) (start : ℕ) (a : Rest) (q : ℕ) (t : Rest) (level : ℕ) : Type 0 where
    ends : q ≡ suc start + rows a
    whole : InPlace (again loop a t) start level

  -- the frames' blocks end one after another, the innermost at row q, and after the last the rows end
  Closes : (count : ℕ) → List Frame → (q : ℕ) → Type 0
  Closes count [] q = q ≡ count
  Closes count (in_first at t ∷ frames) q = FirstEnds at q t (length frames) × Closes count frames (at + rows t)
  Closes count (in_second at t ∷ frames) q = SecondEnds at q t (length frames) × Closes count frames (at + rows t)
  Closes count (in_loop m loop start a t ∷ frames) q = TurnEnds loop start a q t (length frames) × Closes count frames (suc (suc start + rows a) + rows t)

  closes_within : (count : ℕ) (frames : List Frame) (q : ℕ) → Closes count frames q → q ≤ count
  unfolding Closes
  closes_within count [] q c = omega arith
  closes_within count (in_first at t ∷ frames) q c = omega (arith, c.0.later, closes_within count frames (at + rows t) c.1)
  closes_within count (in_second at t ∷ frames) q c = omega (arith, c.0.leads, closes_within count frames (at + rows t) c.1)
  closes_within count (in_loop m loop start a t ∷ frames) q c =
      omega (arith, c.0.ends, closes_within count frames (suc (suc start + rows a) + rows t) c.1)

  -- ---- the engine's state

  pub record Going (count : ℕ) (whole : Result) (cells : List Rated) (to_come : List ℕ) (row depth left : ℕ) : Type 0 where
    pub tree : Rest
    pub frames : List Frame
    placed : InPlace tree row (length frames)
    closes : Closes count frames (row + rows tree)
    is : whole ≡ (run_at tree row (carried_in v cells) >>= resume frames)
    deep : depth ≡ loops frames
    kept : Kept to_come frames
    pub room : length to_come ≡ limit.depth
    enough : 2 * longest_run tree + cost frames ≤ left
    pub cells_room : length cells ≡ limit.variables

  pub going_starts : (t : Rest) (cells : List Rated) (to_come : List ℕ) (left : ℕ) → InPlace t 0 0 → length to_come ≡ limit.depth
      → 2 * longest_run t ≤ left → length cells ≡ limit.variables → Going (rows t) (run_at t 0 (carried_in v cells)) cells to_come 0 0 left
  unfolding resume Closes loops cost
  going_starts t cells to_come left w room enough cells_room =
      record {
        tree = t;
        frames = [];
        placed = w;
        closes = omega arith;
        is = sym (bind_through (run_at t 0 (carried_in v cells)));
        deep = refl;
        kept = tt;
        room = room;
        enough = omega arith;
        cells_room = cells_room;
      }
    where
      bind_through : (m : Result) → (m >>= λ x. through x) ≡ m
      bind_through (through x) = refl
      bind_through (halted why) = refl
      bind_through stuck = refl

  -- the line at hand is the row that the words have there
  line_stands : (count : ℕ) (t : Rest) (frames : List Frame) (p : ℕ) → InPlace t p (length frames) → Closes count frames (p + rows t) → p < count
      → numbered_row words first p ≡ sheet_row_of (line_here t frames)
  unfolding Placed Closes rows
  line_stands count (one b t) frames p w c h = w.0.stands
  line_stands count (fork f a b t) frames p w c h = w.0.opens
  line_stands count (again loop a t) frames p w c h = w.0.opens
  line_stands count done [] p w c h = absurd (omega arith)
  line_stands count done (in_first at t ∷ frames) p w c h = subst (λ q. numbered_row words first q ≡ sheet_row_of else_line) (omega arith) c.0.stands
  line_stands count done (in_second at t ∷ frames) p w c h = subst (λ q. numbered_row words first q ≡ sheet_row_of end_if) (omega arith) c.0.stands
  line_stands count done (in_loop m loop start a t ∷ frames) p w c h =
      subst (λ q. numbered_row words first q ≡ sheet_row_of end_repeat) (omega (arith, c.0.ends)) c.0.whole.0.ends

  -- and the line that is asked is the row where the loop opens, or that same row
  asked_stands : (count : ℕ) (t : Rest) (frames : List Frame) (p : ℕ) → InPlace t p (length frames) → Closes count frames (p + rows t) → p < count
      → (asked_row (part_of (line_here t frames)) goes p < count)
      × (numbered_row words first (asked_row (part_of (line_here t frames)) goes p) ≡ sheet_row_of (line_asked t frames))
  unfolding Placed Closes rows
  asked_stands count (one b t) frames p w c h = (h, w.0.stands)
  asked_stands count (fork f a b t) frames p w c h = (h, w.0.opens)
  asked_stands count (again loop a t) frames p w c h = (h, w.0.opens)
  asked_stands count done [] p w c h = absurd (omega arith)
  asked_stands count done (in_first at t ∷ frames) p w c h = (h, line_stands count done (in_first at t ∷ frames) p w c h)
  asked_stands count done (in_second at t ∷ frames) p w c h = (h, line_stands count done (in_second at t ∷ frames) p w c h)
  asked_stands count done (in_loop m loop start a t ∷ frames) p w c h =
      let here : p ≡ suc start + rows a = omega (arith, c.0.ends) in
      let opens : get_or goes p 0 ≡ start = rw here c.0.whole.0.end_goes in
      (omega (arith, opens), rw opens c.0.whole.0.opens)

  -- what a line's test names is there
  abbrev TestThere : SheetLine → Type 0
  TestThere (basic b) = Unit {0}
  TestThere (if_line f) = TestPresent v f
  TestThere else_line = Unit {0}
  TestThere end_if = Unit {0}
  TestThere (repeat loop) = LoopPresent v loop
  TestThere end_repeat = Unit {0}

  test_there : (count : ℕ) (t : Rest) (frames : List Frame) (p : ℕ) → InPlace t p (length frames) → Closes count frames (p + rows t)
      → TestThere (line_asked t frames)
  unfolding Placed Closes
  test_there count (one b t) frames p w c = tt
  test_there count (fork f a b t) frames p w c = w.0.present
  test_there count (again loop a t) frames p w c = w.0.present
  test_there count done [] p w c = tt
  test_there count done (in_first at t ∷ frames) p w c = tt
  test_there count done (in_second at t ∷ frames) p w c = tt
  test_there count done (in_loop m loop start a t ∷ frames) p w c = c.0.whole.0.present

  some_left : (count : ℕ) (t : Rest) (frames : List Frame) (p left : ℕ) → Closes count frames (p + rows t) → p < count
      → 2 * longest_run t + cost frames ≤ left → 1 ≤ left
  unfolding Closes rows longest_run cost
  some_left count (one b t) frames p left c h e = omega arith
  some_left count (fork f a b t) frames p left c h e = omega arith
  some_left count (again loop a t) frames p left c h e = omega arith
  some_left count done [] p left c h e = absurd (omega arith)
  some_left count done (in_first at t ∷ frames) p left c h e = omega arith
  some_left count done (in_second at t ∷ frames) p left c h e = omega arith
  some_left count done (in_loop m loop start a t ∷ frames) p left c h e = omega arith

  -- ---- an assignment

  pub record AtAssignment (count : ℕ) (whole : Result) (cells : List Rated) (to_come : List ℕ) (row depth left : ℕ) : Type 0 where
    pub d : ℕ
    pub source : Source
    pub at : AssignmentAt words first marks goes mark v (length constants) (d ≔ source) row
    pub rest : Rest
    pub frames : List Frame
    pub is : whole
        ≡ (carried_over doubles constants (d ≔ source) (known_by (get_or marks row 0)) (rows_to row) (carried_in v cells)
        >>= λ next. run_at rest (suc row) next >>= resume frames)
    pub on : (cells' : List Rated) → length cells' ≡ limit.variables → whole ≡ (run_at rest (suc row) (carried_in v cells') >>= resume frames)
        → Going count whole cells' to_come (row + 1) depth (left - 1)

  module _ {count : ℕ} {whole : Result} {cells : List Rated} {to_come : List ℕ} {row depth left : ℕ}
      (going : Going count whole cells to_come row depth left) where
    pub going_line : row < count → numbered_row words first row ≡ sheet_row_of (line_here going.tree going.frames)
    going_line h = line_stands count going.tree going.frames row going.placed going.closes h

    pub going_asked : row < count → let part = part_of (line_here going.tree going.frames) in
        (asked_row part goes row < count) × (numbered_row words first (asked_row part goes row) ≡ sheet_row_of (line_asked going.tree going.frames))
    going_asked h = asked_stands count going.tree going.frames row going.placed going.closes h

    pub going_left : row < count → 1 ≤ left
    going_left h = some_left count going.tree going.frames row left going.closes h going.enough

    -- after the last row
    pub going_ends : count ≤ row → whole ≡ through (carried_in v cells)
    unfolding plain_run numbered resume Closes rows
    going_ends h = by going.tree going.frames going.closes going.is
      where
        by : (t : Rest) (frames : List Frame) → Closes count frames (row + rows t) → whole ≡ (run_at t row (carried_in v cells) >>= resume frames)
            → whole ≡ through (carried_in v cells)
        by done [] c e = e
        by done (in_first at t ∷ frames) c e = absurd (omega (arith, c.0.later, closes_within count frames (at + rows t) c.1))
        by done (in_second at t ∷ frames) c e = absurd (omega (arith, c.0.leads, closes_within count frames (at + rows t) c.1))
        by done (in_loop m loop start a t ∷ frames) c e =
            absurd (omega (arith, c.0.ends, closes_within count frames (suc (suc start + rows a) + rows t) c.1))
        by (one b t) frames c e = absurd (omega (arith, closes_within count frames _ c))
        by (fork f a b t) frames c e = absurd (omega (arith, closes_within count frames _ c))
        by (again loop a t) frames c e = absurd (omega (arith, closes_within count frames _ c))

    pub at_assignment : assigns (part_of (line_here going.tree going.frames)) ≡ true → AtAssignment count whole cells to_come row depth left
    unfolding Placed rows longest_run
    at_assignment h =
        by going.tree going.frames going.placed going.closes going.is going.deep going.kept going.enough h
      where
        by : (t : Rest) (frames : List Frame) → InPlace t row (length frames) → Closes count frames (row + rows t)
            → whole ≡ (run_at t row (carried_in v cells) >>= resume frames) → depth ≡ loops frames → Kept to_come frames
            → 2 * longest_run t + cost frames ≤ left → assigns (part_of (line_here t frames)) ≡ true → AtAssignment count whole cells to_come row depth left
        by (one (to ≔ source) t) frames w c e d k l h =
            record {
              d = to;
              source = source;
              at = w.0;
              rest = t;
              frames = frames;
              is = e ∙ ap (λ run. run >>= resume frames) (run_one (to ≔ source) t row (length frames) (carried_in v cells) w)
                  ∙ bind_assoc (carried_over doubles constants (to ≔ source) (known_by (get_or marks row 0)) (rows_to row) (carried_in v cells)) _ _;
              on = λ cells' room is.
                  subst (λ p. Going count whole cells' to_come p depth (left - 1)) (sym (add-one row))
                  (record {
                    tree = t;
                    frames = frames;
                    placed = w.1;
                    closes = subst (Closes count frames) (omega arith) c;
                    is = is;
                    deep = d;
                    kept = k;
                    room = going.room;
                    enough = omega arith;
                    cells_room = room;
                  });
            }
        by (fork f a b t) frames w c e d k l h = let z : ◌≡◌ {A = ℕ} 0 1 = cc in absurd (omega arith)
        by (again loop a t) frames w c e d k l h = let z : ◌≡◌ {A = ℕ} 0 1 = cc in absurd (omega arith)
        by done [] w c e d k l h = let z : ◌≡◌ {A = ℕ} 0 1 = cc in absurd (omega arith)
        by done (in_first at t ∷ frames) w c e d k l h = let z : ◌≡◌ {A = ℕ} 0 1 = cc in absurd (omega arith)
        by done (in_second at t ∷ frames) w c e d k l h = let z : ◌≡◌ {A = ℕ} 0 1 = cc in absurd (omega arith)
        by done (in_loop m loop start a t ∷ frames) w c e d k l h = let z : ◌≡◌ {A = ℕ} 0 1 = cc in absurd (omega arith)

    -- ---- a block's row

    -- what the test that is asked comes to
    abbrev Holds : SheetLine → Bool → Type 0
    Holds (basic b) holds = Unit {0}
    Holds (if_line f) holds = asks f (carried_in v cells) ≡ some holds
    Holds else_line holds = Unit {0}
    Holds end_if holds = Unit {0}
    Holds (repeat loop) holds = LoopHolds loop holds (carried_in v cells)
    Holds end_repeat holds = Unit {0}

    -- by the pairs that its words name
    pub test_holds : v ≤ limit.variables → (x y z : Rated) {holds : Bool} → holds ≡ doubles.less x.value y.value
        → let line = line_asked going.tree going.frames in
        ((sheet_row_of line).a < limit.variables → x ≡ get_or cells (sheet_row_of line).a z)
        → ((sheet_row_of line).b < limit.variables → y ≡ get_or cells (sheet_row_of line).b z) → Holds line holds
    unfolding TestPresent sheet_row_of compared
    test_holds few x y z {holds} is at_a at_b =
        by (line_asked going.tree going.frames) (test_there count going.tree going.frames row going.placed going.closes) at_a at_b
      where
        of_less : (a b : ℕ) → TestPresent v (less a b) → (a < limit.variables → x ≡ get_or cells a z) → (b < limit.variables → y ≡ get_or cells b z)
            → asks (less a b) (carried_in v cells) ≡ some holds
        of_less a b present at_a at_b =
            let below_a : a < limit.variables = omega (arith, present.0) in
            let below_b : b < limit.variables = omega (arith, present.1) in
            let room : v ≤ length cells = omega (arith, going.cells_room) in
            rw (field_there v cells room value_in a z present.0, field_there v cells room value_in b z present.1, is, at_a below_a, at_b below_b)

        by : (line : SheetLine) → TestThere line → ((sheet_row_of line).a < limit.variables → x ≡ get_or cells (sheet_row_of line).a z)
            → ((sheet_row_of line).b < limit.variables → y ≡ get_or cells (sheet_row_of line).b z) → Holds line holds
        by (basic b) present at_a at_b = tt
        by (if_line (less a b)) present at_a at_b = of_less a b present at_a at_b
        by else_line present at_a at_b = tt
        by end_if present at_a at_b = tt
        by (repeat (times m)) present at_a at_b = tt
        by (repeat (while (less a b) m)) present at_a at_b = of_less a b present at_a at_b
        by end_repeat present at_a at_b = tt

    abbrev GoingAt : Crossed → Type 0
    GoingAt next = Going count whole cells next.to_come next.at.row.0 next.at.depth (left - 1)

    -- the state after a row, as it is put together
    abbrev Next : Rest → List Frame → (to_come : List ℕ) (row depth : ℕ) → Type 0
    Next t frames to_come row depth =
        InPlace t row (length frames) → Closes count frames (row + rows t) → whole ≡ (run_at t row (carried_in v cells) >>= resume frames)
        → Kept to_come frames → length to_come ≡ limit.depth → depth ≡ loops frames → 2 * longest_run t + cost frames ≤ left - 1
        → Going count whole cells to_come row depth (left - 1)

    next : (t : Rest) (frames : List Frame) (to_come' : List ℕ) (row' depth' : ℕ) → Next t frames to_come' row' depth'
    next t frames to_come' row' depth' w c e k r d l =
        record { tree = t; frames = frames; placed = w; closes = c; is = e; deep = d; kept = k; room = r; enough = l; cells_room = going.cells_room }

    module _ (f : Test) (a b t : Rest) (frames : List Frame) (w : InPlace (fork f a b t) row (length frames))
        (c : Closes count frames (row + rows (fork f a b t))) (e : whole ≡ (run_at (fork f a b t) row (carried_in v cells) >>= resume frames))
        (d : depth ≡ loops frames) (k : Kept to_come frames) (l : 2 * longest_run (fork f a b t) + cost frames ≤ left) where
      abbrev split : ℕ
      split = suc row + rows a

      abbrev end_of : ℕ
      end_of = suc split + rows b

      chosen : (holds : Bool) → compared doubles f (carried_in v cells).values ≡ some holds
          → whole ≡ (cond holds (run_at a (suc row) (carried_in v cells)) (run_at b (suc split) (carried_in v cells)) >>= λ next. run_at t (suc end_of) next >>= resume frames)
      chosen holds h =
          e ∙ ap (λ run. run >>= resume frames) (run_fork f a b t row (length frames) (carried_in v cells) w)
          ∙ rw h (bind_assoc (cond holds (run_at a (suc row) (carried_in v cells)) (run_at b (suc split) (carried_in v cells))) _ _)

      after_fork : (holds : Bool) → compared doubles f (carried_in v cells).values ≡ some holds
          → GoingAt (crossed_to (cond holds (row + 1) (get_or goes row 0 + 1)) depth to_come)
      unfolding Placed Closes resume rows longest_run loops cost
      after_fork true h =
          subst (λ p. Going count whole cells to_come p depth (left - 1)) (sym (add-one row))
          (next a (in_first (suc end_of) t ∷ frames) to_come (suc row) depth w.1.0 (
            record { stands = w.0.splits; leads = ap suc w.0.split_goes; later = omega arith; follows = w.1.1.1 },
            subst (Closes count frames) (omega arith) c,
          )
          (chosen true h) k going.room d (omega arith))
      after_fork false h =
          subst (λ p. Going count whole cells to_come p depth (left - 1)) (sym (add-one (get_or goes row 0) ∙ ap suc w.0.open_goes))
          (next b (in_second (suc end_of) t ∷ frames) to_come (suc split) depth w.1.1.0
          (record { stands = w.0.ends; leads = refl; follows = w.1.1.1 }, subst (Closes count frames) (omega arith) c)
          (chosen false h) k going.room d (omega arith))

    module _ (loop : Loop Test) (a t : Rest) (frames : List Frame) (w : InPlace (again loop a t) row (length frames))
        (c : Closes count frames (row + rows (again loop a t))) (e : whole ≡ (run_at (again loop a t) row (carried_in v cells) >>= resume frames))
        (d : depth ≡ loops frames) (k : Kept to_come frames) (l : 2 * longest_run (again loop a t) + cost frames ≤ left) where
      opens_below : depth < limit.depth
      unfolding Placed
      opens_below = omega (arith, loops_few frames, w.0.shallow)

      abbrev m : ℕ
      m = all_but_one loop

      -- with its own turns
      by_turns : whole ≡ (run_at (again (with_turns loop m) a t) row (carried_in v cells) >>= resume frames)
      by_turns = subst (λ its. whole ≡ (run_at (again its a t) row (carried_in v cells) >>= resume frames)) (sym (with_its_turns loop)) e

      after_opening : (more : Bool) → TestSays loop more (carried_in v cells) → (turns : ℕ) → turns ≡ suc m
          → GoingAt (opened more turns goes to_come (at_row row depth))
      unfolding Placed Closes rows longest_run loops cost
      after_opening true says turns is =
          let one_fewer : turns - 1 ≡ m = omega arith in
          let below = opens_below in
          let top : get_or (set to_come depth m) (loops frames) 0 ≡ m =
          ap (λ i. get_or (set to_come depth m) i 0) (sym d) ∙ get_or-set_same to_come depth m 0 (omega (arith, going.room)) in
          rw (one_fewer, add-one row, add-one depth)
          (next a (in_loop m loop row a t ∷ frames) (set to_come depth m) (suc row) (suc depth) w.1.0
          (record { ends = refl; whole = w }, subst (Closes count frames) (omega arith) c)
          (by_turns ∙ turn_by_turn m loop a t row (length frames) frames (carried_in v cells) w says)
          (top, kept_above to_come depth m frames (omega arith) k) (length-set to_come depth m ∙ going.room) (ap suc d)
          (omega (arith, suc-mul m (1 + longest_run a), ap (λ turns. turns * (1 + longest_run a)) (most_turns_lem loop))))
      after_opening false says turns is =
          let beyond : get_or goes row 0 + 1 ≡ suc (suc row + rows a) =
          add-one (get_or goes row 0) ∙ ap suc (w.0.open_goes ∙ left_beyond loop (carried_in v cells) (suc row + rows a) (suc row) says) in
          rw beyond
          (next t frames to_come (suc (suc row + rows a)) depth w.1.1 (subst (Closes count frames) (omega arith) c)
          (by_turns ∙ ap (λ run. run >>= resume frames) (run_past loop a t row (length frames) w m (carried_in v cells) says)) k going.room d (omega arith))

    module _ (at : ℕ) (t : Rest) (frames : List Frame) (d : depth ≡ loops frames) (k : Kept to_come frames)
        (c : Closes count frames (at + rows t)) (l : 1 + 2 * longest_run t + cost frames ≤ left)
        (e : whole ≡ (run_at t at (carried_in v cells) >>= resume frames)) (w : InPlace t at (length frames)) where
      after_branch : (to : ℕ) → to + 1 ≡ at → GoingAt (crossed_to (to + 1) depth to_come)
      after_branch to is =
          subst (λ p. Going count whole cells to_come p depth (left - 1)) (sym is) (next t frames to_come at depth w c e k going.room d (omega arith))

    module _ (loop : Loop Test) (start : ℕ) (a t : Rest) (frames : List Frame) (d : depth ≡ suc (loops frames))
        (w : InPlace (again loop a t) start (length frames)) (q : row ≡ suc start + rows a) (c : Closes count frames (suc (suc start + rows a) + rows t))
        (k : Kept to_come frames) where
      outer : depth - 1 ≡ loops frames
      outer = omega arith

      after_loop : 1 + 2 * longest_run t + cost frames ≤ left → whole ≡ (run_at t (suc (suc start + rows a)) (carried_in v cells) >>= resume frames)
          → GoingAt (crossed_to (row + 1) (depth - 1) to_come)
      unfolding Placed
      after_loop l e =
          let past : row + 1 ≡ suc (suc start + rows a) = omega arith in
          rw (outer, past) (next t frames to_come (suc (suc start + rows a)) (loops frames) w.1.1 c e k going.room refl (omega arith))

      after_turn_lem : (m : ℕ) (more : Bool) → get_or to_come (loops frames) 0 ≡ m → TestSays loop more (carried_in v cells)
          → 1 + m * (2 * (1 + longest_run a)) + 2 * longest_run t + cost frames ≤ left
          → whole ≡ resume (in_loop m loop start a t ∷ frames) (carried_in v cells) → GoingAt (ended_turn more goes to_come (at_row row depth))
      unfolding Placed Closes resume rows longest_run loops cost
      after_turn_lem zero more top says l e = let none : get_or to_come (depth - 1) 0 ≡ 0 = rw outer top in rw none (after_loop (omega arith) e)
      after_turn_lem (suc m) true top says l e =
          let fewer : suc m - 1 ≡ m = omega arith in
          let back : get_or goes row 0 + 1 ≡ suc start = rw q (add-one (get_or goes (suc start + rows a) 0) ∙ ap suc w.0.end_goes) in
          let below : loops frames < length to_come = omega (arith, loops_few frames, w.0.shallow, going.room) in
          rw (outer, top, ne_eqb (suc m) 0 (λ e. omega arith), fewer, back)
          (next a (in_loop m loop start a t ∷ frames) (set to_come (loops frames) m) (suc start) depth w.1.0
          (record { ends = refl; whole = w }, c)
          (e ∙ turn_by_turn m loop a t start (length frames) frames (carried_in v cells) w says)
          (get_or-set_same to_come (loops frames) m 0 below, kept_above to_come (loops frames) m frames (omega arith) k)
          (length-set to_come (loops frames) m ∙ going.room) d (omega (arith, suc-mul m (2 * (1 + longest_run a)))))
      after_turn_lem (suc m) false top says l e =
          let some : get_or to_come (depth - 1) 0 ≡ suc m = rw outer top in
          rw (some, ne_eqb (suc m) 0 (λ e. omega arith))
          (after_loop (omega (arith, suc-mul m (2 * (1 + longest_run a))))
          (e ∙ ap (λ run. run >>= resume frames) (run_past loop a t start (length frames) w m (carried_in v cells) says)))

    pub at_block : row < count → (asked : Row) (holds : Bool) → let line = line_here going.tree going.frames in
        assigns (part_of line) ≡ false → asked ≡ sheet_row_of (line_asked going.tree going.frames) → Holds (line_asked going.tree going.frames) holds
        → Crossable (part_of line) (turns_in asked) depth (length to_come) × GoingAt (crossing (part_of line) asked holds goes to_come (at_row row depth))
    unfolding Placed Closes resume rows plain_run numbered longest_run loops cost
    at_block below asked holds h is =
        by going.tree going.frames going.placed going.closes going.is going.deep going.kept going.enough h is
      where
        by : (t : Rest) (frames : List Frame) → InPlace t row (length frames) → Closes count frames (row + rows t)
            → whole ≡ (run_at t row (carried_in v cells) >>= resume frames) → depth ≡ loops frames → Kept to_come frames
            → 2 * longest_run t + cost frames ≤ left → assigns (part_of (line_here t frames)) ≡ false → asked ≡ sheet_row_of (line_asked t frames)
            → Holds (line_asked t frames) holds
            → Crossable (part_of (line_here t frames)) (turns_in asked) depth (length to_come)
            × GoingAt (crossing (part_of (line_here t frames)) asked holds goes to_come (at_row row depth))
        by (one b t) frames w c e d k l h is test = let z : ◌≡◌ {A = ℕ} 0 1 = cc in absurd (omega arith)
        by (fork f a b t) frames w c e d k l h is test = (tt, after_fork f a b t frames w c e d k l holds test)
        by (again loop a t) frames w c e d k l h is test =
            let turns = turns_said_lem loop is in (
              (omega (arith, turns), omega (arith, opens_below loop a t frames w c e d k l, going.room)),
              after_opening loop a t frames w c e d k l (turns_on asked holds) (turns_on_lem loop holds (carried_in v cells) is test) (turns_in asked) turns,
            )
        by done [] w c e d k l h is test = absurd (omega arith)
        by done (in_first at t ∷ frames) w c e d k l h is test =
            let here : row + 0 ≡ row = omega arith in
            let leads : get_or goes row 0 + 1 ≡ at = add-one (get_or goes row 0) ∙ (rw here at c.0.leads) in
            (tt, after_branch at t frames d k c.1 (omega arith) e c.0.follows (get_or goes row 0) leads)
        by done (in_second at t ∷ frames) w c e d k l h is test =
            (tt, after_branch at t frames d k c.1 (omega arith) e c.0.follows row (omega (arith, c.0.leads)))
        by done (in_loop m loop start a t ∷ frames) w c e d k l h is test = (
          (omega arith, omega (arith, loops_few frames, c.0.whole.0.shallow, going.room)),
          after_turn_lem loop start a t frames d c.0.whole (omega (arith, c.0.ends)) c.1 k.1 m (turns_on asked holds) k.0
              (turns_on_lem loop holds (carried_in v cells) is test) (omega arith) e,
        )
