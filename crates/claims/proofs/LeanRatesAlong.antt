-- Along an execution in residues: the plain engine goes through, with the execution's values, and at each point its rates agree with the full ones, over all
-- executed assignments, on what is useful there.
use Prim.Native.Nat.{ℕ, suc, ◌+◌}
use mathlib.Core.Path.{◌≡◌, refl, sym, ap, subst, ◌∙◌}
use mathlib.Core.Bool.{true, false}
use mathlib.Core.List.{List}
use mathlib.Core.Option.{some}
use lib.ListN.{length, set}
use native.Mathlib.Omega.{arith}
use Rattle.number.specs.Residues.{residues}
use Rattle.sheet.specs.Tree.{times, while, Tree, done, one, fork, again, rows}
use Rattle.sheet.specs.Rows.{Assignment, ◌≔◌, Test}
use Rattle.sheet.specs.Names.{AssignmentPresent, Present}
use Rattle.sets.specs.VariableSets.{◌∪◌, ◌⊆◌}
use Rattle.sets.specs.Transfers.{varied_after, useful_before}
use Rattle.sets.specs.Marks.{Sets, numbered, mark_by, activity_at}
use Rattle.sets.proofs.VariableSetLaws.{⊆-refl}
use Rattle.sets.proofs.EquationsAlong.{ForwardAlong, BackwardAlong}
use Rattle.table.specs.TableRows.{turn_word}
use Rattle.table.specs.Adjoint.{Body}
use Rattle.machine.specs.Actions.{Attempt, through, while_then, compared}
use Rattle.tangent.specs.Tangent.{tangent_rows, rows_over}
use Rattle.plain.specs.Plain.{Carried, StopAt, carried_over, plain_run}
use Rattle.claims.specs.IdealSweep.{Progress, performed, turned}
use Rattle.claims.proofs.Runs.{Runs, stay, row, left, right, last, more, tested, Rounds, spent, fails, turns, was_performed, performed_feasible}
use Rattle.claims.proofs.RunsKeepSizes.{performed_keeps}
use Rattle.claims.proofs.FullRates.{rate_step, rates_along}
use Rattle.claims.proofs.LeanRates.{RatesAgree, rates_within, stepped}
use Rattle.claims.proofs.LeanSweep.{in_same, in_left, in_right, entry}

module _ (constants : List ℕ) (sets : Sets) (v : ℕ) (first : ℕ → ℕ) where
  abbrev body : Tree Assignment Test → ℕ → Body
  body t p = numbered (mark_by sets) t p

  abbrev pub RatesAt : ℕ → Progress residues → Carried residues → Type 0
  RatesAt p s now = RatesAgree (sets.varied p) (sets.useful p) v (rates_along s.trace first) now.rates

  abbrev Varies : Tree Assignment Test → ℕ → Type 0
  Varies = ForwardAlong (λ p. varied_after) sets.varied

  abbrev Uses : Tree Assignment Test → ℕ → Type 0
  Uses = BackwardAlong (λ p. useful_before) sets.useful

  -- the plain engine abreast of the execution at this point: its values are the execution's, and its rates agree with the full ones
  pub record Abreast (p : ℕ) (s : Progress residues) (now : Carried residues) : Type 0 where
    pub sized : length s.store ≡ v
    pub values : now.values ≡ s.store
    pub agrees : RatesAt p s now

  move : (p q : ℕ) (s : Progress residues) (now : Carried residues) → sets.varied p ⊆ sets.varied q → sets.useful q ⊆ sets.useful p → Abreast p s now → Abreast q s now
  move p q s now f g abreast =
      record {
        sized = abreast.sized;
        values = abreast.values;
        agrees = rates_within (sets.varied p) (sets.varied q) (sets.useful p) (sets.useful q) v (rates_along s.trace first) now.rates f g abreast.agrees;
      }

  pub into_tree : (t : Tree Assignment Test) (p : ℕ) (s : Progress residues) (now : Carried residues) → Varies t p → Uses t p → Abreast p s now → Abreast (entry t p) s now
  unfolding ForwardAlong BackwardAlong
  into_tree done p s now varies uses w = w
  into_tree (one b k) p s now varies uses w = w
  into_tree (fork f a b k) p s now varies uses w = w
  into_tree (again (times n) a k) p s now varies uses w =
      move p (suc p) s now (in_left sets.varied p (suc p + rows a) (suc p) varies.0) (in_same sets.useful (suc p) p uses.0) w
  into_tree (again (while f m) a k) p s now varies uses w = w

  -- the plain engine over a tree whose tangent table begins at this row
  pub record Carries (t : Tree Assignment Test) (p place : ℕ) (now : Carried residues) (q : ℕ) (e : Progress residues) : Type 0 where
    pub next : Carried residues
    pub goes : plain_run residues v constants (body t p) place now ≡ through next
    pub there : Abreast q e next

  -- its turns of a loop with a test, whose body stands at `suc p` and whose table begins at `place`, and on to what follows
  pub record CarriesRounds (f : Test) (a : Tree Assignment Test) (p place most already : ℕ) (now : Carried residues)
      (then : Carried residues → Attempt (StopAt residues) (Carried residues)) (e : Progress residues) : Type 0 where
    pub next : Carried residues
    pub goes : while_then (λ (now : Carried residues). compared residues f now.values) (plain_run residues v constants (body a (suc p)) (suc place))
        (λ n now. through now) then already most now ≡ then next
    pub there : Abreast (suc (suc p + rows a)) e next

  -- a row
  record Over (b : Assignment) (p place : ℕ) (now : Carried residues) (m : Progress residues) : Type 0 where
    next : Carried residues
    goes : carried_over residues constants b (mark_by sets p b).known place now ≡ through next
    there : Abreast (suc p) m next

  row_over : (p place : ℕ) (b : Assignment) (s m : Progress residues) (now : Carried residues) → performed residues constants p b s ≡ through m
      → AssignmentPresent v (length constants) b → sets.varied (suc p) ≡ varied_after b (sets.varied p)
      → sets.useful p ≡ useful_before b (sets.useful (suc p)) → Abreast p s now → Over b p place now m
  unfolding AssignmentPresent mark_by activity_at rates_along
  row_over p place (d ≔ source) s m now performs present varies uses w =
      let was = was_performed residues constants p d source s m performs in
      let sized : length now.values ≡ v = ap length w.values ∙ w.sized in
      let A : RatesAgree (sets.varied p) (useful_before (d ≔ source) (sets.useful (suc p))) v (rates_along s.trace first) now.rates =
      subst (λ set. RatesAgree (sets.varied p) set v (rates_along s.trace first) now.rates) uses w.agrees in
      let step = stepped d source (sets.varied p) (sets.useful (suc p)) v (length constants) now (rates_along s.trace first) sized present.0 present.1
      (performed_feasible residues constants was) A place was.value constants (rw w.values was.gives) in
      let after = varied_after (d ≔ source) (sets.varied p) in
      let rates = set now.rates d step.rate in
      let full : rates_along m.trace first ≡ rate_step (d ≔ source) now.values (rates_along s.trace first) =
      ap (λ (x : Progress residues). rates_along x.trace first) was.goes
      ∙ ap (λ values. rate_step (d ≔ source) values (rates_along s.trace first)) (sym w.values) in
      record {
        next = record { values = set now.values d was.value; rates = rates };
        goes = step.goes;
        there =
            record {
              sized = performed_keeps residues constants p (d ≔ source) s m performs ∙ w.sized;
              values = ap (λ values. set values d was.value) w.values ∙ sym (ap (λ (x : Progress residues). x.store) was.goes);
              agrees =
                  subst (λ set. RatesAgree set (sets.useful (suc p)) v (rates_along m.trace first) rates) (sym varies)
                  (subst (λ full. RatesAgree after (sets.useful (suc p)) v full rates) (sym full) step.agrees);
            };
      }

  -- a loop with a test that does no turn more: on to the point after it, from one that asks for no more than before a turn
  no_turn_more : (start end q : ℕ) (s : Progress residues) (now : Carried residues) → sets.varied (suc end) ≡ sets.varied start
      → sets.useful end ≡ sets.useful (suc end) ∪ sets.useful start → sets.varied q ⊆ sets.varied start → sets.useful end ⊆ sets.useful q
      → Abreast q s now → Abreast (suc end) s now
  no_turn_more start end q s now varies uses f g w =
      move q (suc end) s now (λ i u. in_same sets.varied start (suc end) varies i (f i u))
      (λ i u. g i (in_left sets.useful (suc end) start end uses i u)) w

  mutual
    unfolding Present ForwardAlong BackwardAlong rows plain_run numbered mark_by while_then

    -- a tree that the execution went through
    pub carried : {t : Tree Assignment Test} {p : ℕ} {s e : Progress residues} → Runs residues constants t p s e → Present v (length constants) t → Varies t p
        → Uses t p → (q : ℕ) → q ≡ p + rows t → (place : ℕ) (now : Carried residues) → Abreast (entry t p) s now → Carries t p place now q e
    carried (stay {p} {s}) present varies uses q end place now w =
        record { next = now; goes = refl; there = subst (λ r. Abreast r s now) (sym (end ∙ omega arith)) w }
    carried (row {b} {k} {p} {s} {m} {e} performs rest) present varies uses q end place now w =
        let here = row_over p place b s m now performs present.0 varies.0 uses.0 w in
        let known = (mark_by sets p b).known in
        let on = carried rest present.1 varies.1 uses.1 q (end ∙ omega arith) (place + rows_over b known) here.next
        (into_tree k (suc p) m here.next varies.1 uses.1 here.there) in
        record { next = on.next; goes = rw here.goes on.goes; there = on.there }
    carried (left {f} {a} {b} {k} {p} {s} {m} {e} test first rest) present varies uses q end place now w =
        let split = suc p + rows a in
        let after = suc (suc split + rows b) in
        let place_split = suc place + tangent_rows v (body a (suc p)) in
        let after_place = suc (suc place_split + tangent_rows v (body b (suc split))) in
        let inside = move p (suc p) s now (in_same sets.varied p (suc p) varies.0) (in_left sets.useful (suc p) (suc split) p uses.0) w in
        let here = carried first present.1 varies.1 uses.1 split refl (suc place) now (into_tree a (suc p) s now varies.1 uses.1 inside) in
        let out = move split after m here.next (in_left sets.varied split (suc split + rows b) after varies.4)
        (in_same sets.useful after split uses.2) here.there in
        let turn = turned residues (turn_word true) m in
        let on = carried rest present.3 varies.5 uses.5 q (end ∙ omega arith) after_place here.next
        (into_tree k after turn here.next varies.5 uses.5 (record { sized = out.sized; values = out.values; agrees = out.agrees })) in
        let picks : compared residues f now.values ≡ some true = ap (compared residues f) w.values ∙ test in
        record { next = on.next; goes = rw (picks, here.goes) on.goes; there = on.there }
    carried (right {f} {a} {b} {k} {p} {s} {m} {e} test second rest) present varies uses q end place now w =
        let split = suc p + rows a in
        let after = suc (suc split + rows b) in
        let place_split = suc place + tangent_rows v (body a (suc p)) in
        let after_place = suc (suc place_split + tangent_rows v (body b (suc split))) in
        let inside = move p (suc split) s now (in_same sets.varied p (suc split) varies.2) (in_right sets.useful (suc p) (suc split) p uses.0) w in
        let here = carried second present.2 varies.3 uses.3 (suc split + rows b) refl (suc place_split) now
        (into_tree b (suc split) s now varies.3 uses.3 inside) in
        let out = move (suc split + rows b) after m here.next (in_right sets.varied split (suc split + rows b) after varies.4)
        (in_same sets.useful after (suc split + rows b) uses.4) here.there in
        let turn = turned residues (turn_word false) m in
        let on = carried rest present.3 varies.5 uses.5 q (end ∙ omega arith) after_place here.next
        (into_tree k after turn here.next varies.5 uses.5 (record { sized = out.sized; values = out.values; agrees = out.agrees })) in
        let picks : compared residues f now.values ≡ some false = ap (compared residues f) w.values ∙ test in
        record { next = on.next; goes = rw (picks, here.goes) on.goes; there = on.there }
    carried (last {a} {k} {p} {s} {m} {e} turn rest) present varies uses q end place now w =
        let after = suc (suc p + rows a) in
        let here = carried turn present.0 varies.1 uses.1 (suc p + rows a) refl (suc place) now (into_tree a (suc p) s now varies.1 uses.1 w) in
        let out = move (suc p + rows a) after m here.next (in_same sets.varied (suc p + rows a) after varies.2)
        (in_left sets.useful after (suc p) (suc p + rows a) uses.2) here.there in
        let on = carried rest present.1 varies.3 uses.3 q (end ∙ omega arith) (suc (suc place + tangent_rows v (body a (suc p)))) here.next
        (into_tree k after m here.next varies.3 uses.3 out) in
        record { next = on.next; goes = rw here.goes on.goes; there = on.there }
    carried (more {n} {a} {k} {p} {s} {m} {e} turn rest) present varies uses q end place now w =
        let here = carried turn present.0 varies.1 uses.1 (suc p + rows a) refl (suc place) now (into_tree a (suc p) s now varies.1 uses.1 w) in
        let round = move (suc p + rows a) (suc p) m here.next (in_right sets.varied p (suc p + rows a) (suc p) varies.0)
        (in_right sets.useful (suc (suc p + rows a)) (suc p) (suc p + rows a) uses.2) here.there in
        let on = carried rest present varies uses q end place here.next round in
        record { next = on.next; goes = rw here.goes on.goes; there = on.there }
    carried (tested {f} {m} {n} {a} {k} {p} {s} {x} {e} loop rest) present varies uses q end place now w =
        let after = suc (suc p + rows a) in
        let after_place = suc (suc place + tangent_rows v (body a (suc p))) in
        let here = rounds_carried loop m k present varies uses p (in_left sets.varied p (suc p + rows a) (suc p) varies.0)
        (in_same sets.useful (suc p + rows a) p uses.0) place 0 (plain_run residues v constants (body k after) after_place) now w in
        let counted = turned residues n x in
        let on = carried rest present.1 varies.3 uses.3 q (end ∙ omega arith) after_place here.next
        (into_tree k after counted here.next varies.3 uses.3
        (record { sized = here.there.sized; values = here.there.values; agrees = here.there.agrees })) in
        record { next = on.next; goes = rw here.goes on.goes; there = on.there }

    -- The turns of a loop with a test, on to the point after it. As on the way back (`rounds_agree`), what is known before each turn is said of every point q
    -- that asks for no more.
    rounds_carried : {f : Test} {a : Tree Assignment Test} {p most count : ℕ} {s e : Progress residues} → Rounds residues constants f a p most s count e
        → (m : ℕ) (k : Tree Assignment Test) → Present v (length constants) (again (while f m) a k) → Varies (again (while f m) a k) p
        → Uses (again (while f m) a k) p → (q : ℕ) → sets.varied q ⊆ sets.varied (suc p) → sets.useful (suc p + rows a) ⊆ sets.useful q
        → (place already : ℕ) (then : Carried residues → Attempt (StopAt residues) (Carried residues)) (now : Carried residues) → Abreast q s now
        → CarriesRounds f a p place most already now then e
    rounds_carried (spent {a = a} {p = p} {s = s}) m k present varies uses q f g place already then now w =
        record { next = now; goes = refl; there = no_turn_more (suc p) (suc p + rows a) q s now varies.2 uses.2 f g w }
    rounds_carried (fails {f = test} {a = a} {p = p} {s = s} declines) m k present varies uses q f g place already then now w =
        let picks : compared residues test now.values ≡ some false = ap (compared residues test) w.values ∙ declines in
        record { next = now; goes = rw picks; there = no_turn_more (suc p) (suc p + rows a) q s now varies.2 uses.2 f g w }
    rounds_carried (turns {f = test} {a = a} {p = p} {s = s} {m = x} {e = e} holds turn later) m k present varies uses q f g place already then now w =
        let end = suc p + rows a in
        let picks : compared residues test now.values ≡ some true = ap (compared residues test) w.values ∙ holds in
        let inside = move q (suc p) s now f (λ i u. g i (in_right sets.useful (suc end) (suc p) end uses.2 i u)) w in
        let here = carried turn present.0 varies.1 uses.1 end refl (suc place) now (into_tree a (suc p) s now varies.1 uses.1 inside) in
        let on = rounds_carried later m k present varies uses end (in_right sets.varied p end (suc p) varies.0) (⊆-refl (sets.useful end))
        place (suc already) then here.next here.there in
        record { next = on.next; goes = rw (picks, here.goes) on.goes; there = on.there }
