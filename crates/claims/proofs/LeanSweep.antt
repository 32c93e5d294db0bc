-- Back through an execution in residues: the lean sweep (only active rows, only varied operands) goes through, and at each point it agrees
-- with the full one, over all executed assignments, on what is varied there.
use Prim.Native.Nat.{ℕ, suc, ◌+◌}
use mathlib.Core.Path.{◌≡◌, refl, sym, ap, subst, ◌∙◌}
use mathlib.Core.List.{List, ◌∷◌}
use lib.ListN.{length}
use native.Mathlib.Omega.{arith}
use Rattle.number.specs.Residues.{residues}
use Rattle.sheet.specs.Tree.{times, while, Tree, done, one, fork, again, rows}
use Rattle.sheet.specs.Rows.{Assignment, ◌≔◌, Test}
use Rattle.sheet.specs.Names.{AssignmentPresent, Present}
use Rattle.sets.specs.VariableSets.{VariableSet, ◌∪◌, ◌⊆◌}
use Rattle.sets.specs.Rounds.{set_at}
use Rattle.sets.specs.Transfers.{varied_after, useful_before, Activity}
use Rattle.sets.specs.Marks.{activity_at}
use Rattle.sets.proofs.VariableSetLaws.{union_left, union_right, ⊆-refl}
use Rattle.sets.proofs.EquationsAlong.{ForwardAlong, BackwardAlong}
use Rattle.machine.specs.Actions.{through, Setting}
use Rattle.claims.specs.IdealSweep.{Executed, Progress, performed, swept}
use Rattle.claims.specs.EquationTwo.{Trace}
use Rattle.claims.proofs.Runs.{Runs, stay, row, left, right, last, more, tested, Rounds, spent, fails, turns, was_performed, performed_feasible}
use Rattle.claims.proofs.RunsKeepSizes.{performed_keeps, runs_keep, rounds_keep}
use Rattle.claims.proofs.EquationTwoSolved.{full_step, full_swept}
use Rattle.claims.proofs.ResidueDerivatives.{derived_goes}
use Rattle.claims.proofs.LeanStep.{Agrees, agrees_within, agrees_before}

-- a point's set that is another's, or a union, as inclusions
module _ (at : ℕ → VariableSet) where
  pub in_same : (p q : ℕ) → at q ≡ at p → at p ⊆ at q
  in_same p q e = subst (λ s. at p ⊆ s) (sym e) (⊆-refl (at p))

  pub in_left : (p q r : ℕ) → at r ≡ at p ∪ at q → at p ⊆ at r
  in_left p q r e = subst (λ s. at p ⊆ s) (sym e) (union_left (at p) (at q))

  pub in_right : (p q r : ℕ) → at r ≡ at p ∪ at q → at q ⊆ at r
  in_right p q r e = subst (λ s. at q ⊆ s) (sym e) (union_right (at p) (at q))

-- Where going back through a tree ends: at its start, but at a repeat's body's start, so that one more turn can go on from there. Where going on through
-- one begins is the same place. For a loop with a test it is its start: what is known before each of its turns is more than at any one point, so that its turns
-- have a law of their own.
abbrev pub entry : Tree Assignment Test → ℕ → ℕ
entry done p = p
entry (one b k) p = p
entry (fork f a b k) p = p
entry (again (times n) a k) p = suc p
entry (again (while f m) a k) p = p

module _ (setting : Setting residues) (constants : List ℕ) (varied_sets useful_sets : List VariableSet) where
  abbrev pub v : ℕ
  v = setting.variables

  abbrev pub known : ℕ → Assignment → Activity
  known = activity_at (set_at varied_sets) (set_at useful_sets)

  abbrev pub AgreesAt : ℕ → (ℕ → ℕ) → List ℕ → Type 0
  AgreesAt p = Agrees (set_at varied_sets p) (set_at useful_sets p) v

  move : (p q : ℕ) (full : ℕ → ℕ) (lean : List ℕ) → set_at varied_sets q ⊆ set_at varied_sets p → set_at useful_sets p ⊆ set_at useful_sets q
      → AgreesAt p full lean → AgreesAt q full lean
  move p q full lean f g A = agrees_within (set_at varied_sets p) (set_at varied_sets q) (set_at useful_sets p) (set_at useful_sets q) v full lean f g A

  -- both sweeps, taken from the later trace to the earlier one: what is left to sweep, and the adjoints there
  pub record Came (p : ℕ) (later earlier : Trace) (full : ℕ → ℕ) (lean : List ℕ) : Type 0 where
    pub full_there : ℕ → ℕ
    pub lean_there : List ℕ
    pub fulls : full_swept later full ≡ full_swept earlier full_there
    pub leans : swept residues setting known later lean ≡ swept residues setting known earlier lean_there
    pub agrees : AgreesAt p full_there lean_there

  then_came : (p q : ℕ) (later middle earlier : Trace) (full : ℕ → ℕ) (lean : List ℕ) (c : Came p later middle full lean)
      → Came q middle earlier c.full_there c.lean_there → Came q later earlier full lean
  then_came p q later middle earlier full lean c c' =
      record {
        full_there = c'.full_there;
        lean_there = c'.lean_there;
        fulls = c.fulls ∙ c'.fulls;
        leans = c.leans ∙ c'.leans;
        agrees = c'.agrees;
      }

  came_to : (p q : ℕ) (later earlier : Trace) (full : ℕ → ℕ) (lean : List ℕ) → set_at varied_sets q ⊆ set_at varied_sets p
      → set_at useful_sets p ⊆ set_at useful_sets q → Came p later earlier full lean → Came q later earlier full lean
  came_to p q later earlier full lean f g c =
      record {
        full_there = c.full_there;
        lean_there = c.lean_there;
        fulls = c.fulls;
        leans = c.leans;
        agrees = move p q c.full_there c.lean_there f g c.agrees;
      }

  -- a row
  row_back : (p : ℕ) (b : Assignment) (s m : Progress residues) (full : ℕ → ℕ) (lean : List ℕ) → performed residues constants p b s ≡ through m
      → length s.store ≡ v → AssignmentPresent v (length constants) b
      → set_at varied_sets (suc p) ≡ varied_after b (set_at varied_sets p) → set_at useful_sets p ≡ useful_before b (set_at useful_sets (suc p))
      → AgreesAt (suc p) full lean → Came p m.trace s.trace full lean
  unfolding AssignmentPresent full_swept swept activity_at
  row_back p (d ≔ source) s m full lean performs sized present varies uses A =
      let was = was_performed residues constants p d source s m performs in
      let e : Executed residues = record { row = record { index = p }; assignment = d ≔ source; before = s.store } in
      let A' : Agrees (varied_after (d ≔ source) (set_at varied_sets p)) (set_at useful_sets (suc p)) v full lean = rw varies at A in
      let w = derived_goes setting (length constants) d source e.row (known p (d ≔ source)) s.store lean sized present.0 present.1
      (performed_feasible residues constants was) A.size A.below in
      let B = agrees_before d source s.store (set_at varied_sets p) (set_at useful_sets (suc p)) v full lean w.0 present.0 A' w.2 in
      let latest : m.trace ≡ e ∷ s.trace = ap (λ (now : Progress residues). now.trace) was.goes in
      subst (λ later. Came p later s.trace full lean) (sym latest)
      (record {
        full_there = full_step (d ≔ source) s.store full;
        lean_there = w.0;
        fulls = refl;
        leans = rw w.1;
        agrees = rw uses B;
      })

  abbrev pub Varies : Tree Assignment Test → ℕ → Type 0
  Varies = ForwardAlong (λ p. varied_after) (set_at varied_sets)

  abbrev pub Uses : Tree Assignment Test → ℕ → Type 0
  Uses = BackwardAlong (λ p. useful_before) (set_at useful_sets)

  pub up_to_start : (t : Tree Assignment Test) (p : ℕ) (later earlier : Trace) (full : ℕ → ℕ) (lean : List ℕ) → Varies t p → Uses t p
      → Came (entry t p) later earlier full lean → Came p later earlier full lean
  unfolding ForwardAlong BackwardAlong
  up_to_start done p later earlier full lean varies uses c = c
  up_to_start (one b k) p later earlier full lean varies uses c = c
  up_to_start (fork f a b k) p later earlier full lean varies uses c = c
  up_to_start (again (times n) a k) p later earlier full lean varies uses c =
      came_to (suc p) p later earlier full lean (in_left (set_at varied_sets) p (suc p + rows a) (suc p) varies.0)
      (in_same (set_at useful_sets) (suc p) p uses.0) c
  up_to_start (again (while f m) a k) p later earlier full lean varies uses c = c

  -- from what follows a block, at point r, into the block's part from `start` to `end`, and to point p before it
  through_block : (r start end p : ℕ) (later middle earlier : Trace) (full : ℕ → ℕ) (lean : List ℕ)
      → set_at varied_sets end ⊆ set_at varied_sets r → set_at useful_sets r ⊆ set_at useful_sets end
      → set_at varied_sets p ⊆ set_at varied_sets start → set_at useful_sets start ⊆ set_at useful_sets p → Came r later middle full lean
      → ((full' : ℕ → ℕ) (lean' : List ℕ) → AgreesAt end full' lean' → Came start middle earlier full' lean') → Came p later earlier full lean
  through_block r start end p later middle earlier full lean f g h k c inside =
      let at_end = came_to r end later middle full lean f g c in
      let at_start = inside at_end.full_there at_end.lean_there at_end.agrees in
      then_came end p later middle earlier full lean at_end (came_to start p middle earlier at_end.full_there at_end.lean_there h k at_start)

  -- a loop with a test that does no turn more: from after it to a point that asks for no more than before a turn
  no_turn : (start end q : ℕ) (trace : Trace) (full : ℕ → ℕ) (lean : List ℕ) → set_at varied_sets (suc end) ≡ set_at varied_sets start
      → set_at useful_sets end ≡ set_at useful_sets (suc end) ∪ set_at useful_sets start → set_at varied_sets q ⊆ set_at varied_sets start
      → set_at useful_sets end ⊆ set_at useful_sets q → AgreesAt (suc end) full lean → Came q trace trace full lean
  no_turn start end q trace full lean varies uses f g A =
      record {
        full_there = full;
        lean_there = lean;
        fulls = refl;
        leans = refl;
        agrees = move (suc end) q full lean (λ i w. in_same (set_at varied_sets) start (suc end) varies i (f i w))
            (λ i w. g i (in_left (set_at useful_sets) (suc end) start end uses i w)) A;
      }

  mutual
    unfolding Present ForwardAlong BackwardAlong rows

    pub swept_agrees : {t : Tree Assignment Test} {p : ℕ} {s e : Progress residues} → Runs residues constants t p s e → length s.store ≡ v
        → Present v (length constants) t → Varies t p → Uses t p → (q : ℕ) → q ≡ p + rows t → (full : ℕ → ℕ) (lean : List ℕ) → AgreesAt q full lean
        → Came (entry t p) e.trace s.trace full lean
    swept_agrees (stay {p}) sized present varies uses q end full lean A =
        record { full_there = full; lean_there = lean; fulls = refl; leans = refl; agrees = subst (λ r. AgreesAt r full lean) (end ∙ omega arith) A }
    swept_agrees (row {b} {k} {p} {s} {m} {e} performs rest) sized present varies uses q end full lean A =
        let mid = performed_keeps residues constants p b s m performs ∙ sized in
        let c = up_to_start k (suc p) e.trace m.trace full lean varies.1 uses.1
        (swept_agrees rest mid present.1 varies.1 uses.1 q (end ∙ omega arith) full lean A) in
        then_came (suc p) p e.trace m.trace s.trace full lean c
        (row_back p b s m c.full_there c.lean_there performs sized present.0 varies.0 uses.0 c.agrees)
    swept_agrees (left {f} {a} {b} {k} {p} {s} {m} {e} test first rest) sized present varies uses q end full lean A =
        let split = suc p + rows a in
        let after = suc (suc split + rows b) in
        let mid = runs_keep residues constants first ∙ sized in
        through_block after (suc p) split p e.trace m.trace s.trace full lean
        (in_left (set_at varied_sets) split (suc split + rows b) after varies.4) (in_same (set_at useful_sets) after split uses.2)
        (in_same (set_at varied_sets) p (suc p) varies.0) (in_left (set_at useful_sets) (suc p) (suc split) p uses.0)
        (up_to_start k after e.trace m.trace full lean varies.5 uses.5
        (swept_agrees rest mid present.3 varies.5 uses.5 q (end ∙ omega arith) full lean A))
        (λ full' lean' A'. up_to_start a (suc p) m.trace s.trace full' lean' varies.1 uses.1
        (swept_agrees first sized present.1 varies.1 uses.1 split refl full' lean' A'))
    swept_agrees (right {f} {a} {b} {k} {p} {s} {m} {e} test second rest) sized present varies uses q end full lean A =
        let split = suc p + rows a in
        let after = suc (suc split + rows b) in
        let mid = runs_keep residues constants second ∙ sized in
        through_block after (suc split) (suc split + rows b) p e.trace m.trace s.trace full lean
        (in_right (set_at varied_sets) split (suc split + rows b) after varies.4) (in_same (set_at useful_sets) after (suc split + rows b) uses.4)
        (in_same (set_at varied_sets) p (suc split) varies.2) (in_right (set_at useful_sets) (suc p) (suc split) p uses.0)
        (up_to_start k after e.trace m.trace full lean varies.5 uses.5
        (swept_agrees rest mid present.3 varies.5 uses.5 q (end ∙ omega arith) full lean A))
        (λ full' lean' A'. up_to_start b (suc split) m.trace s.trace full' lean' varies.3 uses.3
        (swept_agrees second sized present.2 varies.3 uses.3 (suc split + rows b) refl full' lean' A'))
    swept_agrees (last {a} {k} {p} {s} {m} {e} body rest) sized present varies uses q end full lean A =
        let after = suc (suc p + rows a) in
        let mid = runs_keep residues constants body ∙ sized in
        through_block after (suc p) (suc p + rows a) (suc p) e.trace m.trace s.trace full lean
        (in_same (set_at varied_sets) (suc p + rows a) after varies.2) (in_left (set_at useful_sets) after (suc p) (suc p + rows a) uses.2)
        (⊆-refl (set_at varied_sets (suc p))) (⊆-refl (set_at useful_sets (suc p)))
        (up_to_start k after e.trace m.trace full lean varies.3 uses.3
        (swept_agrees rest mid present.1 varies.3 uses.3 q (end ∙ omega arith) full lean A))
        (λ full' lean' A'. up_to_start a (suc p) m.trace s.trace full' lean' varies.1 uses.1
        (swept_agrees body sized present.0 varies.1 uses.1 (suc p + rows a) refl full' lean' A'))
    swept_agrees (more {n} {a} {k} {p} {s} {m} {e} body rest) sized present varies uses q end full lean A =
        let mid = runs_keep residues constants body ∙ sized in
        through_block (suc p) (suc p) (suc p + rows a) (suc p) e.trace m.trace s.trace full lean
        (in_right (set_at varied_sets) p (suc p + rows a) (suc p) varies.0)
        (in_right (set_at useful_sets) (suc (suc p + rows a)) (suc p) (suc p + rows a) uses.2)
        (⊆-refl (set_at varied_sets (suc p))) (⊆-refl (set_at useful_sets (suc p)))
        (swept_agrees rest mid present varies uses q end full lean A)
        (λ full' lean' A'. up_to_start a (suc p) m.trace s.trace full' lean' varies.1 uses.1
        (swept_agrees body sized present.0 varies.1 uses.1 (suc p + rows a) refl full' lean' A'))
    swept_agrees (tested {f} {m} {n} {a} {k} {p} {s} {x} {e} loop rest) sized present varies uses q end full lean A =
        let after = suc (suc p + rows a) in
        let mid = rounds_keep residues constants loop ∙ sized in
        let c = up_to_start k after e.trace x.trace full lean varies.3 uses.3
        (swept_agrees rest mid present.1 varies.3 uses.3 q (end ∙ omega arith) full lean A) in
        then_came after p e.trace x.trace s.trace full lean c
        (rounds_agree loop m k sized present varies uses p (in_left (set_at varied_sets) p (suc p + rows a) (suc p) varies.0)
        (in_same (set_at useful_sets) (suc p + rows a) p uses.0) c.full_there c.lean_there c.agrees)

    -- The turns of a loop with a test, back from the point after it. Before each turn the sweeps agree on what is varied at the body's start and useful at its
    -- end, which no single point has: so this is said of every point q that asks for no more, such as the body's end for one more turn and the loop's start.
    rounds_agree : {f : Test} {a : Tree Assignment Test} {p most count : ℕ} {s e : Progress residues} → Rounds residues constants f a p most s count e
        → (m : ℕ) (k : Tree Assignment Test) → length s.store ≡ v → Present v (length constants) (again (while f m) a k)
        → Varies (again (while f m) a k) p → Uses (again (while f m) a k) p → (q : ℕ) → set_at varied_sets q ⊆ set_at varied_sets (suc p)
        → set_at useful_sets (suc p + rows a) ⊆ set_at useful_sets q → (full : ℕ → ℕ) (lean : List ℕ) → AgreesAt (suc (suc p + rows a)) full lean
        → Came q e.trace s.trace full lean
    rounds_agree (spent {a = a} {p = p}) m k sized present varies uses q f g full lean A =
        no_turn (suc p) (suc p + rows a) q _ full lean varies.2 uses.2 f g A
    rounds_agree (fails {a = a} {p = p} test) m k sized present varies uses q f g full lean A =
        no_turn (suc p) (suc p + rows a) q _ full lean varies.2 uses.2 f g A
    rounds_agree (turns {a = a} {p = p} {s = s} {m = w} {e = e} test body later) m k sized present varies uses q f g full lean A =
        let end = suc p + rows a in
        let mid = runs_keep residues constants body ∙ sized in
        through_block end (suc p) end q e.trace w.trace s.trace full lean (⊆-refl (set_at varied_sets end)) (⊆-refl (set_at useful_sets end)) f
        (λ i u. g i (in_right (set_at useful_sets) (suc end) (suc p) end uses.2 i u))
        (rounds_agree later m k mid present varies uses end (in_right (set_at varied_sets) p end (suc p) varies.0) (⊆-refl (set_at useful_sets end))
        full lean A)
        (λ full' lean' A'. up_to_start a (suc p) w.trace s.trace full' lean' varies.1 uses.1
        (swept_agrees body sized present.0 varies.1 uses.1 end refl full' lean' A'))
