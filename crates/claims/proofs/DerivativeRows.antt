-- The derivative rows of an assignment work on the adjoints alone and read no original outside its adjoint use: on two stores that
-- agree on the use they do the same and read the same.
use Prim.Native.Nat.{ℕ, ◌+◌, ◌-◌, ◌≤◌, ◌<◌}
use mathlib.Core.Path.{◌≡◌, refl, sym, ap, ◌∙◌}
use mathlib.Core.Logic.{◌⊎◌, inl, inr}
use mathlib.Core.Bool.{Bool, true, cond}
use mathlib.Core.List.{List, [], ◌∷◌, ◌++◌}
use mathlib.Core.Option.{some}
use lib.ListN.{length, set, get_elem?, length-append, length-set}
use lib.Dec.{T, ltb}
use native.Mathlib.Omega.{arith}
use borrow.Author.Tests.{lt-ltb}
use Rattle.number.specs.Arithmetic.{Arithmetic, Outcome, divides}
use Rattle.sheet.specs.Rows.{◌≔◌, Source, copy, fixed, sum, difference, product, negation, quotient}
use Rattle.sets.specs.VariableSets.{VariableSet, has}
use Rattle.table.specs.RowBounds.{table_variables}
use Rattle.table.specs.TableRows.{Action, assign, save, take_back, save_turn, clear, turn_round}
use Rattle.machine.specs.Actions.{through, halted, ◌>>=◌, from_outcome, look, Memory, Setting, evaluated, acted, stored, with_store}
use Rattle.machine.specs.RowReads.{original_at, reads_of}
use Rattle.machine.proofs.AttemptLaws.{Ready, gives, stops, from_outcome_ready}
use Rattle.run.proofs.RowsReady.{quotient_ready}
use Rattle.run.proofs.Stores.{same_default, at_known, at_first_part, at_second_part, set_second_part}

-- ---- rows that work on the adjoints

-- an original within the use, or an adjoint, t or u
abbrev pub MayRead : (variables : ℕ) → VariableSet → ℕ → Type 0
MayRead v needed i = ((i < v) × T (has needed i)) ⊎ ((v ≤ i) × (i < table_variables v))

-- and a quotient only where there are any
abbrev pub SourceReadable : (quotients : Bool) (variables : ℕ) → VariableSet → Source → Type 0
SourceReadable quotients v needed (copy a) = MayRead v needed a
SourceReadable quotients v needed (fixed c) = ⊥
SourceReadable quotients v needed (sum a b) = MayRead v needed a × MayRead v needed b
SourceReadable quotients v needed (difference a b) = MayRead v needed a × MayRead v needed b
SourceReadable quotients v needed (product a b) = MayRead v needed a × MayRead v needed b
SourceReadable quotients v needed (negation a) = MayRead v needed a
SourceReadable quotients v needed (quotient a b) = MayRead v needed a × MayRead v needed b × (quotients ≡ true)

abbrev pub OnAdjoints : (quotients : Bool) (variables : ℕ) → VariableSet → Action → Type 0
OnAdjoints quotients v needed (assign (d ≔ source)) = (v ≤ d) × (d < table_variables v) × SourceReadable quotients v needed source
OnAdjoints quotients v needed (save d) = ⊥
OnAdjoints quotients v needed (take_back d) = ⊥
OnAdjoints quotients v needed (save_turn first) = ⊥
OnAdjoints quotients v needed (clear d) = (v ≤ d) × (d < table_variables v)
OnAdjoints quotients v needed turn_round = ⊥

module _ (A : Arithmetic) where
  -- two stores that agree on a set
  abbrev pub Agree : List A.Carrier → List A.Carrier → VariableSet → Type 0
  Agree originals others s = (i : ℕ) → T (has s i) → get_elem? originals i ≡ get_elem? others i

  -- the size of a list of originals, and of adjoints, t and u
  abbrev pub AdjointSize : ℕ → List A.Carrier → Type 0
  AdjointSize v adjoints = length adjoints ≡ v + 2

  module _ (v : ℕ) where
    store_size : (originals adjoints : List A.Carrier) → length originals ≡ v → AdjointSize v adjoints
        → length (originals ++ adjoints) ≡ table_variables v
    store_size originals adjoints n m = length-append originals adjoints ∙ (omega arith)

    -- a place among the adjoints
    at_adjoint : (originals adjoints : List A.Carrier) (i : ℕ) → length originals ≡ v → v ≤ i
        → get_elem? (originals ++ adjoints) i ≡ get_elem? adjoints (i - v)
    at_adjoint originals adjoints i n h =
        let place : i ≡ length originals + (i - v) = omega arith in
        ap (get_elem? (originals ++ adjoints)) place ∙ at_second_part originals adjoints (i - v)

    set_adjoint : (originals adjoints : List A.Carrier) (i : ℕ) (x : A.Carrier) → length originals ≡ v → v ≤ i
        → set (originals ++ adjoints) i x ≡ originals ++ set adjoints (i - v) x
    set_adjoint originals adjoints i x n h =
        let place : i ≡ length originals + (i - v) = omega arith in
        ap (λ j. set (originals ++ adjoints) j x) place ∙ set_second_part originals adjoints (i - v) x

    -- ---- one store

    module _ (needed : VariableSet) (originals adjoints : List A.Carrier) (n : length originals ≡ v) (m : AdjointSize v adjoints) where
      readable_known : (i : ℕ) → MayRead v needed i → (x : A.Carrier) × (get_elem? (originals ++ adjoints) i ≡ some x)
      readable_known i (inl h) = at_known (originals ++ adjoints) i (omega (arith, h.0, store_size originals adjoints n m))
      readable_known i (inr h) = at_known (originals ++ adjoints) i (omega (arith, h.1, store_size originals adjoints n m))

      both_ready : (f : A.Carrier → A.Carrier → Outcome A.Carrier A.Why) (a b : ℕ) → MayRead v needed a → MayRead v needed b
          → Ready (look (originals ++ adjoints) a >>= λ x. look (originals ++ adjoints) b >>= λ y. from_outcome (f x y))
      both_ready f a b p q =
          let x = readable_known a p in
          let y = readable_known b q in
          rw (x.1, y.1) (from_outcome_ready (f x.0 y.0))

      evaluated_ready : (constants : List ℕ) (source : Source) → SourceReadable (divides A) v needed source
          → Ready (evaluated A constants source (originals ++ adjoints))
      unfolding evaluated
      evaluated_ready constants (copy a) p = let x = readable_known a p in rw x.1 (gives x.0 refl)
      evaluated_ready constants (fixed c) p = absurd p
      evaluated_ready constants (sum a b) p = both_ready A.sum a b p.0 p.1
      evaluated_ready constants (difference a b) p = both_ready A.difference a b p.0 p.1
      evaluated_ready constants (product a b) p = both_ready A.product a b p.0 p.1
      evaluated_ready constants (negation a) p = let x = readable_known a p in rw x.1 (from_outcome_ready (A.negation x.0))
      evaluated_ready constants (quotient a b) p =
          let x = readable_known a p.0 in
          let y = readable_known b p.1 in
          rw (x.1, y.1) (quotient_ready A p.2 x.0 y.0)

      -- a number put among the adjoints
      stored_adjoint : (memory : Memory A) (d : ℕ) (x : A.Carrier) → v ≤ d → d < table_variables v
          → stored A (with_store A memory (originals ++ adjoints)) d x ≡ through (with_store A memory (originals ++ set adjoints (d - v) x))
      stored_adjoint memory d x low high =
          let there = lt-ltb d (length (originals ++ adjoints)) (omega (arith, store_size originals adjoints n m)) in
          rw (there, set_adjoint originals adjoints d x n low)

    -- ---- two stores that agree on what is needed, with the same adjoints

    module _ (needed : VariableSet) (originals others adjoints : List A.Carrier) (n : length originals ≡ v) (k : length others ≡ v)
        (agree : Agree originals others needed) where
      same_at : (i : ℕ) → MayRead v needed i → get_elem? (originals ++ adjoints) i ≡ get_elem? (others ++ adjoints) i
      same_at i (inl h) =
          at_first_part originals adjoints i (omega (arith, h.0)) ∙ agree i h.1 ∙ sym (at_first_part others adjoints i (omega (arith, h.0)))
      same_at i (inr h) = at_adjoint originals adjoints i n h.0 ∙ sym (at_adjoint others adjoints i k h.0)

      same_evaluated : (constants : List ℕ) (source : Source) → SourceReadable (divides A) v needed source
          → evaluated A constants source (originals ++ adjoints) ≡ evaluated A constants source (others ++ adjoints)
      unfolding evaluated
      same_evaluated constants (copy a) p = rw (same_at a p)
      same_evaluated constants (fixed c) p = absurd p
      same_evaluated constants (sum a b) p = rw (same_at a p.0, same_at b p.1)
      same_evaluated constants (difference a b) p = rw (same_at a p.0, same_at b p.1)
      same_evaluated constants (product a b) p = rw (same_at a p.0, same_at b p.1)
      same_evaluated constants (negation a) p = rw (same_at a p)
      same_evaluated constants (quotient a b) p = rw (same_at a p.0, same_at b p.1)

      same_original : (i : ℕ) → MayRead v needed i → original_at A v i (originals ++ adjoints) ≡ original_at A v i (others ++ adjoints)
      same_original i h = ap (λ x. cond (ltb i v) (x ∷ []) []) (same_default (originals ++ adjoints) (others ++ adjoints) i A.zero (same_at i h))

      -- what a row is noted to read
      pub same_reads : (action : Action) → OnAdjoints (divides A) v needed action
          → reads_of A v action (originals ++ adjoints) ≡ reads_of A v action (others ++ adjoints)
      unfolding reads_of
      same_reads (assign (d ≔ copy a)) p = same_original a p.2
      same_reads (assign (d ≔ fixed c)) p = refl
      same_reads (assign (d ≔ sum a b)) p = rw (same_original a p.2.0, same_original b p.2.1)
      same_reads (assign (d ≔ difference a b)) p = rw (same_original a p.2.0, same_original b p.2.1)
      same_reads (assign (d ≔ product a b)) p = rw (same_original a p.2.0, same_original b p.2.1)
      same_reads (assign (d ≔ negation a)) p = same_original a p.2
      same_reads (assign (d ≔ quotient a b)) p = rw (same_original a p.2.0, same_original b p.2.1)
      same_reads (save d) p = refl
      same_reads (take_back d) p = refl
      same_reads (save_turn first) p = refl
      same_reads (clear d) p = refl
      same_reads turn_round p = refl

  -- ---- one row, on both stores

  module _ (setting : Setting A) where
    -- what a row on the adjoints does to a store, whatever the stacks
    abbrev pub Does : Action → (from to : List A.Carrier) → Type 0
    Does action store next = (memory : Memory A) → acted A setting action (with_store A memory store) ≡ through (with_store A memory next)

    abbrev pub Halts : Action → List A.Carrier → A.Why → Type 0
    Halts action store why = (memory : Memory A) → acted A setting action (with_store A memory store) ≡ halted why

    pub data Alike (v : ℕ) (originals others : List A.Carrier) (action : Action) (adjoints : List A.Carrier) : Type 0 where
      both_do : (next : List A.Carrier) → AdjointSize v next → Does action (originals ++ adjoints) (originals ++ next)
          → Does action (others ++ adjoints) (others ++ next) → Alike v originals others action adjoints
      both_halt : (why : A.Why) → Halts action (originals ++ adjoints) why → Halts action (others ++ adjoints) why
          → Alike v originals others action adjoints

    module _ (v : ℕ) (needed : VariableSet) (originals others : List A.Carrier) (n : length originals ≡ v) (k : length others ≡ v)
        (agree : Agree originals others needed) where
      assign_alike : (adjoints : List A.Carrier) (m : AdjointSize v adjoints) (d : ℕ) (source : Source) → OnAdjoints (divides A) v needed (assign (d ≔ source))
          → Ready (evaluated A setting.constants source (originals ++ adjoints)) → Alike v originals others (assign (d ≔ source)) adjoints
      unfolding acted
      assign_alike adjoints m d source p (gives x e) =
          let same = same_evaluated v needed originals others adjoints n k agree setting.constants source p.2 in
          both_do (set adjoints (d - v) x) (length-set adjoints (d - v) x ∙ m)
          (λ memory. rw e (stored_adjoint v needed originals adjoints n m memory d x p.0 p.1))
          (λ memory. rw (sym same ∙ e) (stored_adjoint v needed others adjoints k m memory d x p.0 p.1))
      assign_alike adjoints m d source p (stops why e) =
          let same = same_evaluated v needed originals others adjoints n k agree setting.constants source p.2 in
          both_halt why (λ memory. rw e refl) (λ memory. rw (sym same ∙ e) refl)

      pub row_alike : (action : Action) (adjoints : List A.Carrier) → AdjointSize v adjoints → OnAdjoints (divides A) v needed action
          → Alike v originals others action adjoints
      unfolding acted
      row_alike (assign (d ≔ source)) adjoints m p =
          assign_alike adjoints m d source p (evaluated_ready v needed originals adjoints n m setting.constants source p.2)
      row_alike (save d) adjoints m p = absurd p
      row_alike (take_back d) adjoints m p = absurd p
      row_alike (save_turn first) adjoints m p = absurd p
      row_alike (clear d) adjoints m p =
          both_do (set adjoints (d - v) A.zero) (length-set adjoints (d - v) A.zero ∙ m)
          (λ memory. stored_adjoint v needed originals adjoints n m memory d A.zero p.0 p.1)
          (λ memory. stored_adjoint v needed others adjoints k m memory d A.zero p.0 p.1)
      row_alike turn_round adjoints m p = absurd p
