-- One assignment taken back, for any choice of saved rows that includes the recorded ones. Where it is saved, its target's value before it is
-- restored; where it isn't, what it overwrote is not needed. Then its derivative rows do what they do on the values just before it.
use Prim.Native.Nat.{ℕ, ◌<◌}
use mathlib.Core.Path.{◌≡◌, refl, sym, ◌∙◌}
use mathlib.Core.Logic.{◌≢◌}
use mathlib.Core.Bool.{Bool, true, false, not, ◌||◌, ◌&&◌}
use mathlib.Core.List.{List}
use mathlib.Core.Option.{some}
use lib.ListN.{length, set, get_or, get_elem?, length-set}
use lib.Dec.{T, eqb, eqb→eq}
use native.Mathlib.Decide.{ℕ_discrete}
use native.Mathlib.Omega.{arith}
use Rattle.number.specs.Arithmetic.{Arithmetic, divides}
use Rattle.sheet.specs.Rows.{Assignment, ◌≔◌, Source}
use Rattle.sheet.specs.Names.{AssignmentPresent, SourceFeasible}
use Rattle.sets.specs.VariableSets.{VariableSet, has, ◌∪◌, without, ◌⊆◌}
use Rattle.sets.specs.Transfers.{Activity, adjoint_use, recorded_by}
use Rattle.sets.proofs.VariableSetLaws.{union_has, without_has, union_left, union_right}
use Rattle.table.specs.TableRows.{Table}
use Rattle.table.specs.Adjoint.{derivative_rows, backward_of}
use Rattle.machine.specs.Actions.{through, Setting, Stop, acted}
use Rattle.machine.specs.InTheLarge.{table_run, table_log}
use Rattle.machine.specs.RowReads.{Entry}
use Rattle.machine.proofs.PlaceLaws.{place_there}
use Rattle.claims.specs.IdealSweep.{Progress, onward}
use Rattle.claims.specs.WholeRun.{saved_values}
use Rattle.run.proofs.Stores.{at_set_same, at_set_other}
use Rattle.claims.proofs.Accounts.{Account, account, derived, stopping, noting}
use Rattle.claims.proofs.DerivativeRows.{Agree, AdjointSize}
use Rattle.claims.proofs.DerivativesAlike.{Derives, derives, breaks, derivatives_alike}
use Rattle.run.proofs.Originals.{replaced_original}
use Rattle.claims.proofs.Forward.{memory_with}

-- ---- agreement across an assignment

module _ (A : Arithmetic) (d : ℕ) (x : A.Carrier) (now then : List A.Carrier) (s : VariableSet)
    (agree : Agree A now (set then d x) (without d s)) where
  -- at another variable nothing changed
  elsewhere : (i : ℕ) → i ≢ d → T (has s i) → get_elem? now i ≡ get_elem? then i
  elsewhere i other h =
      agree i (rw (without_has d s i) (stays (has s i) (eqb i d) h (λ e. other (eqb→eq i d e)))) ∙ at_set_other then d i x other
    where
      stays : (a b : Bool) → T a → (T b → ⊥) → T (a && not b)
      stays true true p q = absurd (q tt)
      stays true false p q = tt
      stays false b p q = absurd p

  -- where the value before is put back
  agree_restored : (y : A.Carrier) → d < length now → get_elem? then d ≡ some y → Agree A (set now d y) then s
  agree_restored y there e i h = by_place (ℕ_discrete i d)
    where
      by_place : Dec (i ≡ d) → get_elem? (set now d y) i ≡ get_elem? then i
      by_place (yes is) = rw is (at_set_same now d y there ∙ sym e)
      by_place (no other) = at_set_other now d i y other ∙ elsewhere i other h

  -- where the assigned variable isn't needed
  agree_kept : has s d ≡ false → Agree A now then s
  agree_kept unneeded i h = by_place (ℕ_discrete i d)
    where
      by_place : Dec (i ≡ d) → get_elem? now i ≡ get_elem? then i
      by_place (yes is) = absurd (rw (is, unneeded) at h)
      by_place (no other) = elsewhere i other h

module _ (A : Arithmetic) where
  -- originals that agree with these values on a set, and adjoints, t and u beside them
  pub record Restored (v : ℕ) (needed : VariableSet) (originals adjoints values : List A.Carrier) : Type 0 where
    pub size : length originals ≡ v
    pub adjoint_size : AdjointSize A v adjoints
    pub agree : Agree A originals values needed

  pub restored_on_less : {v : ℕ} {s less : VariableSet} {originals adjoints values : List A.Carrier} → less ⊆ s
      → Restored v s originals adjoints values → Restored v less originals adjoints values
  restored_on_less within now = record { size = now.size; adjoint_size = now.adjoint_size; agree = λ i h. now.agree i (within i h) }

-- every row that is recorded where these are the required sets is saved
abbrev pub Covers : (ℕ → Assignment → Activity) → (saved : ℕ → Assignment → Bool) → (at : ℕ → VariableSet) → Type 0
Covers known saved at = (p : ℕ) (b : Assignment) → recorded_by b (known p b) (at p) ≡ true → saved p b ≡ true

module _ (known : ℕ → Assignment → Activity) (saved : ℕ → Assignment → Bool) where
  -- an assignment's backward rows
  abbrev pub rows_back : (variables row : ℕ) → Assignment → Table → Table
  rows_back v p b rest = backward_of v b (record { index = p }) (known p b) (saved p b) rest

  module _ (at : ℕ → VariableSet) where
    -- a row that isn't saved overwrites nothing that is needed
    unneeded : Covers known saved at → (p d : ℕ) (source : Source) → saved p (d ≔ source) ≡ false
        → has (at p ∪ adjoint_use source (known p (d ≔ source))) d ≡ false
    unfolding recorded_by
    unneeded covers p d source e =
        union_has (at p) (adjoint_use source (known p (d ≔ source))) d
        ∙ by_record (has (at p) d || has (adjoint_use source (known p (d ≔ source))) d) (covers p (d ≔ source))
      where
        by_record : (b : Bool) → (b ≡ true → saved p (d ≔ source) ≡ true) → b ≡ false
        by_record true f = sym (f refl) ∙ e
        by_record false f = refl

    module _ (A : Arithmetic) (setting : Setting A) (copied : List A.Carrier) where
      abbrev v : ℕ
      v = setting.variables

      -- the assignment's derivative rows in the ideal sweep
      abbrev ideally : ℕ → Assignment → (before adjoints : List A.Carrier) → Account A (List A.Carrier)
      ideally p b before adjoints = derived A setting b (record { index = p }) (known p b) before adjoints

      pub data Undone (p : ℕ) (b : Assignment) (s m : Progress A) (originals adjoints : List A.Carrier) (rest : Table) : Type 0 where
        undone : (others next : List A.Carrier) → Restored A v (at p) others next s.store → (log : List (Entry A))
            → ideally p b s.store adjoints ≡ record { log = log; outcome = through next }
            → account A setting (rows_back v p b rest) (memory_with A saved copied originals adjoints m)
            ≡ noting A log (account A setting rest (memory_with A saved copied others next s))
            → Undone p b s m originals adjoints rest
        stopped : (stop : Stop A) (log : List (Entry A)) → ideally p b s.store adjoints ≡ stopping A log stop
            → account A setting (rows_back v p b rest) (memory_with A saved copied originals adjoints m) ≡ stopping A log stop
            → Undone p b s m originals adjoints rest

      module _ (k p d : ℕ) (source : Source) (s : Progress A) (x : A.Carrier) (originals adjoints : List A.Carrier) (rest : Table)
          (n : length s.store ≡ v) (named : AssignmentPresent v k (d ≔ source))
          (feasible : SourceFeasible (divides A) source)
          (now : Restored A v (without d (at p ∪ adjoint_use source (known p (d ≔ source)))) originals adjoints (set s.store d x)) where
        abbrev is : Activity
        is = known p (d ≔ source)

        abbrev needed : VariableSet
        needed = at p ∪ adjoint_use source is

        abbrev m : Progress A
        m = onward A p (d ≔ source) s (set s.store d x)

        abbrev Goal : Type 0
        Goal = Undone p (d ≔ source) s m originals adjoints rest

        -- the derivative rows, once the originals agree on what is needed
        derive : (others : List A.Carrier) → length others ≡ v → Agree A others s.store needed
            → account A setting (rows_back v p (d ≔ source) rest) (memory_with A saved copied originals adjoints m)
            ≡ account A setting (derivative_rows v is.active d source (record { index = p }) is rest) (memory_with A saved copied others adjoints s)
            → Goal
        unfolding AssignmentPresent
        derive others size fit e =
            against
            (derivatives_alike A setting k d source (record { index = p }) is named.0 named.1 feasible others s.store adjoints size n
            now.adjoint_size (λ i h. fit i (union_right (at p) (adjoint_use source is) i h)))
          where
            against : Derives A setting d source (record { index = p }) is others s.store adjoints → Goal
            against (derives next z log f g) =
                undone others next
                (record { size = size; adjoint_size = z; agree = λ i h. fit i (union_left (at p) (adjoint_use source is) i h) })
                log g (e ∙ f (memory_with A saved copied others adjoints s) rest)
            against (breaks stop log f g) = stopped stop log g (e ∙ f (memory_with A saved copied others adjoints s) rest)

        pub undo : Covers known saved at → Goal
        unfolding saved_values backward_of table_run table_log acted AssignmentPresent
        undo covers = by_choice (saved p (d ≔ source)) refl
          where
            before : A.Carrier
            before = get_or s.store d A.zero

            by_choice : (choice : Bool) → saved p (d ≔ source) ≡ choice → Goal
            by_choice true e =
                derive (set originals d before) (length-set originals d before ∙ now.size)
                (agree_restored A d x originals s.store needed now.agree before (omega (arith, named.0, now.size))
                (place_there s.store d A.zero (omega (arith, named.0))))
                (rw (e, replaced_original A v k originals adjoints now.size {W = A.Why} d before named.0) refl)
            by_choice false e =
                derive originals now.size (agree_kept A d x originals s.store needed now.agree (unneeded covers p d source e)) (rw e refl)
