-- An execution that went through, as a derivation: what the claims go by.
use Prim.Native.Nat.{ℕ, zero, suc, ◌+◌, ◌<◌}
use mathlib.Core.Path.{◌≡◌, refl, subst}
use mathlib.Core.Bool.{Bool, true, false, cond}
use mathlib.Core.List.{List}
use mathlib.Core.Option.{Option, none, some}
use lib.ListN.{length, set}
use native.Mathlib.Omega.{arith}
use Rattle.number.specs.Arithmetic.{Arithmetic, Outcome, over, is_there, divides}
use Rattle.sheet.specs.Tree.{times, while, Tree, done, one, fork, again, rows}
use Rattle.sheet.specs.Rows.{Assignment, ◌≔◌, Source, copy, fixed, sum, difference, product, negation, quotient, Test}
use Rattle.sheet.specs.Names.{SourceFeasible}
use Rattle.table.specs.TableRows.{of_row, itself, turn_word}
use Rattle.machine.specs.Actions.{Attempt, through, ◌>>=◌, present, while_then, look, replaced, Stop, stopping_at, evaluated, compared}
use Rattle.machine.proofs.AttemptLaws.{came, is_present, same_through, was_replaced, went}
use Rattle.claims.specs.IdealSweep.{Progress, onward, performed, turned, executed}

module _ (A : Arithmetic) where
  module _ (constants : List ℕ) where
    -- one assignment that went through: the value it gave, and the values before and after
    pub record Performed (p d : ℕ) (source : Source) (now next : Progress A) : Type 0 where
      pub value : A.Carrier
      pub gives : evaluated A constants source now.store ≡ through value
      pub known : d < length now.store
      pub goes : next ≡ onward A p (d ≔ source) now (set now.store d value)

    pub was_performed : (p d : ℕ) (source : Source) (now next : Progress A) → performed A constants p (d ≔ source) now ≡ through next
        → Performed p d source now next
    unfolding performed
    was_performed p d source now next e =
        let first = went (stopping_at A (of_row (record { index = p }) itself) (evaluated A constants source now.store)) _ next e in
        let second = went (replaced now.store d first.0) _ next first.2 in
        let store = was_replaced now.store second.0 d first.0 second.1 in
        record {
          value = first.0;
          gives = came A (of_row (record { index = p }) itself) (evaluated A constants source now.store) first.0 first.1;
          known = store.0;
          goes = cc (second.2, store.1);
        }

    -- what gave a value is no quotient, or there are quotients
    done_feasible : (source : Source) (store : List A.Carrier) (x : A.Carrier) → evaluated A constants source store ≡ through x
        → SourceFeasible (divides A) source
    unfolding evaluated SourceFeasible
    done_feasible (copy a) store x e = tt
    done_feasible (fixed c) store x e = tt
    done_feasible (sum a b) store x e = tt
    done_feasible (difference a b) store x e = tt
    done_feasible (product a b) store x e = tt
    done_feasible (negation a) store x e = tt
    done_feasible (quotient a b) store x e =
        let first = went (look store a) _ x e in
        let second = went (look store b) _ x first.2 in
        let divided = went (present (over A.quotient first.0 second.0)) _ x second.2 in
        there A.quotient first.0 second.0 divided.0 (is_present _ _ divided.1)
      where
        there : (divide : Option (A.Carrier → A.Carrier → Outcome A.Carrier A.Why)) (x y : A.Carrier) (o : Outcome A.Carrier A.Why)
            → over divide x y ≡ some o → is_there divide ≡ true
        there none x y o e = let z : ◌≡◌ {A = ℕ} 0 1 = cc in absurd (omega arith)
        there (some divide) x y o e = refl

    pub performed_feasible : {p d : ℕ} {source : Source} {now next : Progress A} → Performed p d source now next → SourceFeasible (divides A) source
    performed_feasible {source = source} {now = now} did = done_feasible source now.store did.value did.gives

    mutual
      pub data Runs : Tree Assignment Test → ℕ → Progress A → Progress A → Type 0 where
        stay : {p : ℕ} {s : Progress A} → Runs done p s s
        row : {b : Assignment} {k : Tree Assignment Test} {p : ℕ} {s m e : Progress A}
            → performed A constants p b s ≡ through m → Runs k (suc p) m e → Runs (one b k) p s e
        left : {f : Test} {a b k : Tree Assignment Test} {p : ℕ} {s m e : Progress A}
            → compared A f s.store ≡ some true → Runs a (suc p) s m → Runs k (suc (suc (suc p + rows a) + rows b)) (turned A (turn_word true) m) e
            → Runs (fork f a b k) p s e
        right : {f : Test} {a b k : Tree Assignment Test} {p : ℕ} {s m e : Progress A}
            → compared A f s.store ≡ some false → Runs b (suc (suc p + rows a)) s m
            → Runs k (suc (suc (suc p + rows a) + rows b)) (turned A (turn_word false) m) e → Runs (fork f a b k) p s e
        last : {a k : Tree Assignment Test} {p : ℕ} {s m e : Progress A}
            → Runs a (suc p) s m → Runs k (suc (suc p + rows a)) m e → Runs (again (times zero) a k) p s e
        more : {n : ℕ} {a k : Tree Assignment Test} {p : ℕ} {s m e : Progress A}
            → Runs a (suc p) s m → Runs (again (times n) a k) p m e → Runs (again (times (suc n)) a k) p s e
        -- a loop with a test, after so many turns
        tested : {f : Test} {m n : ℕ} {a k : Tree Assignment Test} {p : ℕ} {s x e : Progress A}
            → Rounds f a p (suc m) s n x → Runs k (suc (suc p + rows a)) (turned A n x) e → Runs (again (while f m) a k) p s e

      -- the turns that such a loop does, of at most so many, from where it is to where it ends
      pub data Rounds : Test → Tree Assignment Test → (row most : ℕ) → Progress A → (count : ℕ) → Progress A → Type 0 where
        spent : {f : Test} {a : Tree Assignment Test} {p : ℕ} {s : Progress A} → Rounds f a p 0 s 0 s
        fails : {f : Test} {a : Tree Assignment Test} {p most : ℕ} {s : Progress A} → compared A f s.store ≡ some false → Rounds f a p (suc most) s 0 s
        turns : {f : Test} {a : Tree Assignment Test} {p most n : ℕ} {s m e : Progress A}
            → compared A f s.store ≡ some true → Runs a (suc p) s m → Rounds f a p most m n e → Rounds f a p (suc most) s (suc n) e

    -- by the branch that was taken
    fork_runs : (f : Test) (a b k : Tree Assignment Test) (p : ℕ) (s m e : Progress A) (first : Bool) → compared A f s.store ≡ some first
        → cond first (executed A constants a (suc p) s) (executed A constants b (suc (suc p + rows a)) s) ≡ through m
        → (executed A constants a (suc p) s ≡ through m → Runs a (suc p) s m)
        → (executed A constants b (suc (suc p + rows a)) s ≡ through m → Runs b (suc (suc p + rows a)) s m)
        → Runs k (suc (suc (suc p + rows a) + rows b)) (turned A (turn_word first) m) e → Runs (fork f a b k) p s e
    fork_runs f a b k p s m e true test went first second rest = left test (first went) rest
    fork_runs f a b k p s m e false test went first second rest = right test (second went) rest

    -- a loop with a test that went through, from so many turns done
    record Looped (f : Test) (a : Tree Assignment Test) (p most : ℕ) (s : Progress A) (already : ℕ) (rest : Progress A → Attempt (Stop A) (Progress A))
        (e : Progress A) : Type 0 where
      count : ℕ
      end : Progress A
      rounds : Rounds f a p most s count end
      goes_on : rest (turned A (already + count) end) ≡ through e

    rounds : (f : Test) (a : Tree Assignment Test) (p : ℕ) (rest : Progress A → Attempt (Stop A) (Progress A))
        → ((s m : Progress A) → executed A constants a (suc p) s ≡ through m → Runs a (suc p) s m)
        → (most already : ℕ) (s e : Progress A)
        → while_then (λ now. compared A f now.store) (executed A constants a (suc p)) (λ n now. through (turned A n now)) rest already most s ≡ through e
        → Looped f a p most s already rest e
    unfolding while_then
    rounds f a p rest body zero already s e h =
        let all : already + 0 ≡ already = omega arith in
        record { count = 0; end = s; rounds = spent; goes_on = rw all h }
    rounds f a p rest body (suc most) already s e h =
        let c = went (present (compared A f s.store)) _ e h in
        by c.0 (is_present _ _ c.1) c.2 (rounds f a p rest body most (suc already))
      where
        by : (more : Bool) → compared A f s.store ≡ some more
            → cond more
            (executed A constants a (suc p) s
            >>= while_then (λ now. compared A f now.store) (executed A constants a (suc p)) (λ n now. through (turned A n now)) rest (suc already) most)
            (rest (turned A already s))
            ≡ through e
            → ((s e : Progress A)
            → while_then (λ now. compared A f now.store) (executed A constants a (suc p)) (λ n now. through (turned A n now)) rest (suc already) most s
            ≡ through e
            → Looped f a p most s (suc already) rest e)
            → Looped f a p (suc most) s already rest e
        by false test h later =
            let all : already + 0 ≡ already = omega arith in
            record { count = 0; end = s; rounds = fails test; goes_on = rw all h }
        by true test h later =
            let d = went (executed A constants a (suc p) s) _ e h in
            let on = later d.0 e d.2 in
            let all : already + suc on.count ≡ suc already + on.count = omega arith in
            record { count = suc on.count; end = on.end; rounds = turns test (body s d.0 d.1) on.rounds; goes_on = rw all on.goes_on }

    pub runs : (t : Tree Assignment Test) (p : ℕ) (s e : Progress A) → executed A constants t p s ≡ through e → Runs t p s e
    unfolding executed
    runs done p s e h = subst (λ x. Runs done p s x) (same_through h) stay
    runs (one b k) p s e h =
        let c = went (performed A constants p b s) _ e h in
        row c.1 (runs k (suc p) c.0 e c.2)
    runs (fork f a b k) p s e h =
        let c = went (present (compared A f s.store)) _ e h in
        let first = executed A constants a (suc p) s in
        let second = executed A constants b (suc (suc p + rows a)) s in
        let d = went (cond c.0 first second) _ e c.2 in
        fork_runs f a b k p s d.0 e c.0 (is_present _ _ c.1) d.1 (λ q. runs a (suc p) s d.0 q)
        (λ q. runs b (suc (suc p + rows a)) s d.0 q) (runs k (suc (suc (suc p + rows a) + rows b)) (turned A (turn_word c.0) d.0) e d.2)
    runs (again (times zero) a k) p s e h =
        let c = went (executed A constants a (suc p) s) _ e h in
        last (runs a (suc p) s c.0 c.1) (runs k (suc (suc p + rows a)) c.0 e c.2)
    runs (again (times (suc n)) a k) p s e h =
        let c = went (executed A constants a (suc p) s) _ e h in
        more (runs a (suc p) s c.0 c.1) (runs (again (times n) a k) p c.0 e c.2)
    runs (again (while f m) a k) p s e h =
        let loop = rounds f a p (executed A constants k (suc (suc p + rows a))) (λ x y q. runs a (suc p) x y q) (suc m) 0 s e h in
        let all : 0 + loop.count ≡ loop.count = omega arith in
        tested loop.rounds (runs k (suc (suc p + rows a)) (turned A loop.count loop.end) e (rw all at loop.goes_on))
