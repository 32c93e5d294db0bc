-- The backward part, for any choice of saved rows that includes the recorded ones: it takes the executed assignments in reverse, each by
-- its derivative rows, as if the values were what they were just before that assignment. Every value that these rows read is that value.
use Prim.Native.Nat.{ℕ, zero, suc, ◌+◌, ◌≤◌}
use mathlib.Core.Path.{◌≡◌, refl, ap, subst, ◌∙◌}
use mathlib.Core.Bool.{Bool, true, false}
use mathlib.Core.List.{List, [], ◌++◌}
use lib.ListN.{length, set}
use native.Mathlib.Omega.{arith}
use Rattle.number.specs.Arithmetic.{Arithmetic, divides}
use Rattle.sheet.specs.Tree.{times, while, Tree, done, one, fork, again, rows}
use Rattle.sheet.specs.Rows.{Assignment, ◌≔◌, Source, Test}
use Rattle.sheet.specs.Names.{AssignmentPresent, Present, SourceFeasible}
use Rattle.sets.specs.VariableSets.{VariableSet, ◌⊆◌}
use Rattle.sets.specs.Transfers.{Activity, required_after}
use Rattle.sets.specs.Marks.{numbered}
use Rattle.sets.proofs.VariableSetLaws.{union_left, union_right}
use Rattle.sets.proofs.EquationsAlong.{ForwardAlong}
use Rattle.table.specs.TableRows.{Table, on_turn, turn_word}
use Rattle.table.specs.Adjoint.{backward_part}
use Rattle.machine.specs.Actions.{Memory, Setting, Stop}
use Rattle.machine.specs.InTheLarge.{table_run, table_log}
use Rattle.machine.specs.RowReads.{Entry}
use Rattle.claims.specs.IdealSweep.{Executed, Progress, onward, turned, swept, swept_log}
use Rattle.claims.proofs.Runs.{was_performed, performed_feasible, Runs, stay, row, left, right, last, more, tested, Rounds, spent, fails, turns}
use Rattle.claims.proofs.Accounts.{Account, account, sweeping, stopping, noting, nothing_more, noting_more, noting_then, in_turn}
use Rattle.claims.proofs.RunsKeepSizes.{performed_keeps, runs_keep, rounds_keep}
use Rattle.claims.proofs.Forward.{body, memory_with}
use Rattle.claims.proofs.Undoing.{Restored, restored_on_less, Covers, rows_back, Undone, undone, stopped, undo}
use Rattle.claims.proofs.BackwardRest.{last_turn, remaining, remaining_last, counted, back_same}

-- a loop with a test does no more turns than it may: the way back takes its count for one that can be
rounds_bound : (A : Arithmetic) (constants : List ℕ) {f : Test} {a : Tree Assignment Test} {p most count : ℕ} {s e : Progress A}
    → Rounds A constants f a p most s count e → count ≤ most
rounds_bound A constants spent = omega arith
rounds_bound A constants (fails test) = omega arith
rounds_bound A constants (turns test body later) = omega (arith, rounds_bound A constants later)

module _ (known : ℕ → Assignment → Activity) (saved : ℕ → Assignment → Bool) (at : ℕ → VariableSet) where
  -- the required sets, point by point
  abbrev pub Requires : Tree Assignment Test → ℕ → Type 0
  Requires = ForwardAlong (λ p b. required_after b (known p b)) at

  -- Where a tree's backward part ends, the originals agree on this set with the values before the tree: for a loop on more than what is
  -- required before it, so that another turn can follow.
  abbrev enough : Tree Assignment Test → ℕ → VariableSet
  enough done p = at p
  enough (one b kk) p = at p
  enough (fork f a b kk) p = at p
  enough (again l a kk) p = at (suc p)

  enough_covers : (t : Tree Assignment Test) (p : ℕ) → Requires t p → at p ⊆ enough t p
  unfolding ForwardAlong
  enough_covers done p h i m = m
  enough_covers (one b kk) p h i m = m
  enough_covers (fork f a b kk) p h i m = m
  enough_covers (again l a kk) p h i m = rw h.0 (union_left (at p) (at (suc p + rows a)) i m)

  module _ (A : Arithmetic) (setting : Setting A) (copied : List A.Carrier) where
    abbrev v : ℕ
    v = setting.variables

    abbrev memory : (originals adjoints : List A.Carrier) → Progress A → Memory A
    memory = memory_with A saved copied

    abbrev sweep : List (Executed A) → List A.Carrier → Account A (List A.Carrier)
    sweep = sweeping A setting known

    abbrev back : Tree Assignment Test → ℕ → Table → Table
    back t p rest = backward_part v (body known saved t p) rest

    -- Against the ideal sweep, from e back to s by a table, with `rest` then to do: the same is noted, and the same adjoints or the same stop come out. At s
    -- the originals agree with its values on what is needed there.
    pub data GoesBack (table : Table) (needed : VariableSet) (s e : Progress A) (originals adjoints : List A.Carrier) (rest : Table) : Type 0 where
      retraced : (others next : List A.Carrier) → Restored A v needed others next s.store → (log : List (Entry A))
          → sweep e.trace adjoints ≡ noting A log (sweep s.trace next)
          → account A setting table (memory originals adjoints e) ≡ noting A log (account A setting rest (memory others next s))
          → GoesBack table needed s e originals adjoints rest
      cut_short : (stop : Stop A) (log : List (Entry A)) → sweep e.trace adjoints ≡ stopping A log stop
          → account A setting table (memory originals adjoints e) ≡ stopping A log stop → GoesBack table needed s e originals adjoints rest

    -- from the end of a tree's execution to its start, by its backward part
    abbrev pub Retraces : Tree Assignment Test → ℕ → (s e : Progress A) → (originals adjoints : List A.Carrier) → (rest : Table) → Type 0
    Retraces t p s e originals adjoints rest = GoesBack (back t p rest) (enough t p) s e originals adjoints rest

    -- ---- an assignment before a tree that is retraced

    module _ (k p d : ℕ) (source : Source) (kk : Tree Assignment Test) (s e : Progress A) (x : A.Carrier) (originals adjoints : List A.Carrier)
        (rest : Table) (covers : Covers known saved at) (named : AssignmentPresent v k (d ≔ source)) (n : length s.store ≡ v)
        (feasible : SourceFeasible (divides A) source)
        (h : Requires (one (d ≔ source) kk) p) where
      abbrev m : Progress A
      m = onward A p (d ≔ source) s (set s.store d x)

      row_retraces : Retraces kk (suc p) m e originals adjoints (rows_back known saved v p (d ≔ source) rest)
          → Retraces (one (d ≔ source) kk) p s e originals adjoints rest
      unfolding numbered backward_part swept swept_log ForwardAlong required_after
      row_retraces (cut_short stop log sw ran) = cut_short stop log sw ran
      row_retraces (retraced others next now log sw ran) =
          combine
          (undo known saved at A setting copied k p d source s x others next rest n named feasible
          (restored_on_less A (λ i w. enough_covers kk (suc p) h.1 i (rw h.0 w)) now) covers)
        where
          combine : Undone known saved at A setting copied p (d ≔ source) s m others next rest
              → Retraces (one (d ≔ source) kk) p s e originals adjoints rest
          combine (undone olds final then earlier g after) =
              retraced olds final then (log ++ earlier)
              (sw ∙ ap (λ y. noting A log (in_turn A y (sweep s.trace))) g ∙ noting_more A log earlier _)
              (ran ∙ ap (noting A log) after ∙ noting_more A log earlier _)
          combine (stopped stop earlier g after) =
              cut_short stop (log ++ earlier)
              (sw ∙ ap (λ y. noting A log (in_turn A y (sweep s.trace))) g ∙ ap (noting A log) (nothing_more A earlier _))
              (ran ∙ ap (noting A log) after)

    -- ---- one way back after another

    -- the same way back, from where less or more stands on the turn stack, by a table that comes to the same
    begun_alike : {table other rest : Table} {needed : VariableSet} {s e w : Progress A} {originals adjoints : List A.Carrier}
        → sweep w.trace ≡ sweep e.trace → account A setting other (memory originals adjoints w) ≡ account A setting table (memory originals adjoints e)
        → GoesBack table needed s e originals adjoints rest → GoesBack other needed s w originals adjoints rest
    begun_alike {adjoints = adjoints} same begins (retraced others next now log sw ran) =
        retraced others next now log (ap (λ f. f adjoints) same ∙ sw) (begins ∙ ran)
    begun_alike {adjoints = adjoints} same begins (cut_short stop log sw ran) = cut_short stop log (ap (λ f. f adjoints) same ∙ sw) (begins ∙ ran)

    -- from e to m, and from there on to s
    then_back : {table opening rest : Table} {reached needed : VariableSet} {s m e : Progress A} {originals adjoints : List A.Carrier}
        → GoesBack table reached m e originals adjoints opening
        → ((others next : List A.Carrier) → Restored A v reached others next m.store → GoesBack opening needed s m others next rest)
        → GoesBack table needed s e originals adjoints rest
    then_back (cut_short stop log sw ran) further = cut_short stop log sw ran
    then_back {table} {opening} {rest} {reached} {needed} {s} {m} {e} {originals} {adjoints} (retraced others next now log sw ran) further =
        both (further others next now)
      where
        both : GoesBack opening needed s m others next rest → GoesBack table needed s e originals adjoints rest
        both (retraced olds final then earlier sw' ran') =
            retraced olds final then (log ++ earlier)
            (sw ∙ ap (noting A log) sw' ∙ noting_more A log earlier _)
            (ran ∙ ap (noting A log) ran' ∙ noting_more A log earlier _)
        both (cut_short stop earlier sw' ran') = cut_short stop (log ++ earlier) (sw ∙ ap (noting A log) sw') (ran ∙ ap (noting A log) ran')

    -- Back through a tree that stands inside a block, and then the rest after the block: `opening` is the block, come to at w, which differs from where the
    -- tree's execution ended by what the block takes from the turn stack.
    within : (a : Tree Assignment Test) (p : ℕ) {opening rest : Table} {needed : VariableSet} {s m w : Progress A} {originals adjoints : List A.Carrier}
        → sweep w.trace ≡ sweep m.trace
        → account A setting opening (memory originals adjoints w)
        ≡ in_turn A (account A setting (back a p done) (memory originals adjoints m)) (account A setting rest)
        → needed ⊆ enough a p → Retraces a p s m originals adjoints done → GoesBack opening needed s w originals adjoints rest
    unfolding table_run table_log
    within a p {rest = rest} {s = s} {adjoints = adjoints} same opens covered (retraced olds final then earlier sw ran) =
        retraced olds final (restored_on_less A covered then) earlier (ap (λ f. f adjoints) same ∙ sw)
        (opens ∙ ap (λ y. in_turn A y (account A setting rest)) ran ∙ noting_then A earlier (memory olds final s) (account A setting rest))
    within a p {rest = rest} {adjoints = adjoints} same opens covered (cut_short stop earlier sw ran) =
        cut_short stop earlier (ap (λ f. f adjoints) same ∙ sw)
        (opens ∙ ap (λ y. in_turn A y (account A setting rest)) ran ∙ nothing_more A earlier _)

    opens_left : (a b rest : Table) (others next : List A.Carrier) (m : Progress A)
        → account A setting (fork on_turn a b rest) (memory others next (turned A (turn_word true) m))
        ≡ in_turn A (account A setting a (memory others next m)) (account A setting rest)
    unfolding table_run table_log
    opens_left a b rest others next m = refl

    opens_right : (a b rest : Table) (others next : List A.Carrier) (m : Progress A)
        → account A setting (fork on_turn a b rest) (memory others next (turned A (turn_word false) m))
        ≡ in_turn A (account A setting b (memory others next m)) (account A setting rest)
    unfolding table_run table_log
    opens_right a b rest others next m = refl

    opens_turn : (a rest : Table) (x : Memory A) → account A setting (again (times zero) a rest) x ≡ in_turn A (account A setting a x) (account A setting rest)
    unfolding table_run table_log
    opens_turn a rest x = refl

    -- ---- the whole backward part

    -- agreement on what is needed after a tree, at the place where the tree ends
    moved : {originals adjoints values : List A.Carrier} (q : ℕ) {p : ℕ} → q ≡ p → Restored A v (at q) originals adjoints values
        → Restored A v (at p) originals adjoints values
    moved {originals} {adjoints} {values} q e now = subst (λ r. Restored A v (at r) originals adjoints values) e now

    module _ (k : ℕ) (covers : Covers known saved at) where
      mutual
        unfolding rows Present ForwardAlong numbered backward_part

        pub retraces : {t : Tree Assignment Test} {p : ℕ} {s e : Progress A} → Runs A setting.constants t p s e → Present v k t
            → length s.store ≡ v → Requires t p → (originals adjoints : List A.Carrier)
            → Restored A v (at (p + rows t)) originals adjoints e.store → (rest : Table) → Retraces t p s e originals adjoints rest
        retraces (stay {p = p}) named n h originals adjoints now rest = retraced originals adjoints (moved _ (omega arith) now) [] refl refl
        retraces (row {b = d ≔ source} {k = kk} {p = p} {s = s} {m = m} {e = e} perf r) named n h originals adjoints now rest =
            let did = was_performed A setting.constants p d source s m perf in
            let size = performed_keeps A setting.constants p (d ≔ source) s m perf ∙ n in
            let later = retraces r named.1 size h.1 originals adjoints (moved _ (omega arith) now) (rows_back known saved v p (d ≔ source) rest) in
            row_retraces k p d source kk s e did.value originals adjoints rest covers named.0 n (performed_feasible A setting.constants did) h
            (subst (λ y. Retraces kk (suc p) y e originals adjoints (rows_back known saved v p (d ≔ source) rest)) did.goes later)
        retraces (left {a = a} {b = b} {k = kk} {p = p} {m = m} test f r) named n h originals adjoints now rest =
            let split : ℕ = suc p + rows a in
            let end : ℕ = suc split + rows b in
            let opening = fork on_turn (back a (suc p) done) (back b (suc split) done) rest in
            then_back
            (retraces r named.3 (runs_keep A setting.constants f ∙ n) h.5 originals adjoints (moved _ (omega arith) now) opening)
            (λ others next then. within a (suc p) refl (opens_left (back a (suc p) done) (back b (suc split) done) rest others next m)
            (λ i w. enough_covers a (suc p) h.1 i (rw h.0 w))
            (retraces f named.1 n h.1 others next
            (restored_on_less A (λ i w. enough_covers kk (suc end) h.5 i (rw h.4 (union_left (at split) (at end) i w))) then) done))
        retraces (right {a = a} {b = b} {k = kk} {p = p} {m = m} test f r) named n h originals adjoints now rest =
            let split : ℕ = suc p + rows a in
            let end : ℕ = suc split + rows b in
            let opening = fork on_turn (back a (suc p) done) (back b (suc split) done) rest in
            then_back
            (retraces r named.3 (runs_keep A setting.constants f ∙ n) h.5 originals adjoints (moved _ (omega arith) now) opening)
            (λ others next then. within b (suc split) refl (opens_right (back a (suc p) done) (back b (suc split) done) rest others next m)
            (λ i w. enough_covers b (suc split) h.3 i (rw h.2 w))
            (retraces f named.2 n h.3 others next
            (restored_on_less A (λ i w. enough_covers kk (suc end) h.5 i (rw h.4 (union_right (at split) (at end) i w))) then) done))
        retraces (last {a = a} {k = kk} {p = p} {m = m} f r) named n h originals adjoints now rest =
            let end : ℕ = suc p + rows a in
            let opening = again (times zero) (back a (suc p) done) rest in
            then_back
            (retraces r named.1 (runs_keep A setting.constants f ∙ n) h.3 originals adjoints (moved _ (omega arith) now) opening)
            (λ others next then. within a (suc p) refl (opens_turn (back a (suc p) done) rest (memory others next m)) (enough_covers a (suc p) h.1)
            (retraces f named.0 n h.1 others next
            (restored_on_less A (λ i w. enough_covers kk (suc end) h.3 i (rw h.2 w)) then) done))
        retraces (more {n = c} {a = a} {k = kk} {p = p} {m = m} {e = e} f r) named n h originals adjoints now rest =
            let end : ℕ = suc p + rows a in
            let opening = again (times zero) (back a (suc p) done) rest in
            then_back
            (begun_alike refl
            (back_same A setting known saved k kk (suc end) named.1 (again (times (suc c)) (back a (suc p) done) rest)
            (again (times c) (back a (suc p) done) opening) (last_turn A setting c (back a (suc p) done) rest) (memory originals adjoints e))
            (retraces r named (runs_keep A setting.constants f ∙ n) h originals adjoints now opening))
            (λ others next then. within a (suc p) refl (opens_turn (back a (suc p) done) rest (memory others next m)) (enough_covers a (suc p) h.1)
            (retraces f named.0 n h.1 others next (restored_on_less A (λ i w. rw h.0 (union_right (at p) (at end) i w)) then) done))
        retraces (tested {m = most} {n = count} {a = a} {k = kk} {p = p} {x = x} loop r) named n h originals adjoints now rest =
            let end : ℕ = suc p + rows a in
            let opening = again (while on_turn most) (back a (suc p) done) rest in
            then_back
            (retraces r named.1 (rounds_keep A setting.constants loop ∙ n) h.3 originals adjoints (moved _ (omega arith) now) opening)
            (λ others next then. begun_alike refl
            (counted A setting count most (back a (suc p) done) rest (memory others next x) x.turns (rounds_bound A setting.constants loop))
            (rounds_retrace loop named.0 n h.1 (λ i w. rw h.0 (union_right (at p) (at end) i w)) others next
            (restored_on_less A (λ i w. enough_covers kk (suc end) h.3 i (rw h.2 w)) then) rest))

        -- the turns of a loop with a test, each back to the body's start, where one more can follow
        rounds_retrace : {f : Test} {a : Tree Assignment Test} {p most count : ℕ} {s e : Progress A}
            → Rounds A setting.constants f a p most s count e → Present v k a → length s.store ≡ v → Requires a (suc p)
            → at (suc p + rows a) ⊆ at (suc p) → (originals adjoints : List A.Carrier) → Restored A v (at (suc p)) originals adjoints e.store
            → (rest : Table) → GoesBack (remaining count (back a (suc p) done) rest) (at (suc p)) s e originals adjoints rest
        rounds_retrace spent named n h covered originals adjoints now rest = retraced originals adjoints now [] refl refl
        rounds_retrace (fails test) named n h covered originals adjoints now rest = retraced originals adjoints now [] refl refl
        rounds_retrace (turns {a = a} {p = p} {n = count} {m = m} {e = e} test body later) named n h covered originals adjoints now rest =
            let opening = again (times zero) (back a (suc p) done) rest in
            then_back
            (begun_alike refl (remaining_last A setting count (back a (suc p) done) rest (memory originals adjoints e))
            (rounds_retrace later named (runs_keep A setting.constants body ∙ n) h covered originals adjoints now opening))
            (λ others next then. within a (suc p) refl (opens_turn (back a (suc p) done) rest (memory others next m)) (enough_covers a (suc p) h)
            (retraces body named n h others next (restored_on_less A covered then) done))
