-- In residues an assignment's derivative rows always go through; what they add to each adjoint.
use Prim.Native.Nat.{ℕ, ◌+◌, ◌*◌, ◌<◌}
use mathlib.Core.Path.{◌≡◌, refl, sym, ap, ◌∙◌}
use mathlib.Core.Bool.{Bool, true, false, cond}
use mathlib.Core.List.{List, [], ◌++◌}
use lib.ListN.{length, get_or, set, length-set, length-append}
use lib.Seq.{get_or-set_same, get_or-set_other, drop_at}
use lib.Dec.{eqb}
use native.Mathlib.Decide.{ℕ_discrete}
use native.Mathlib.Nat.{add-zero, add_assoc}
use native.Mathlib.Omega.{arith}
use borrow.Author.Tests.{lt-ltb, eq-eqb, ne_eqb}
use Rattle.number.specs.Residues.{modulus, residue, opposite, residues}
use Rattle.number.proofs.ResidueLaws.{residue_below, residue_same, residue_sum_left, residue_sum_right, opposite_of_one}
use Rattle.sheet.specs.Tree.{done, RowNumber}
use Rattle.sheet.specs.Rows.{◌≔◌, Source, copy, fixed, sum, difference, product, negation, quotient}
use Rattle.sheet.specs.Names.{SourcePresent, SourceFeasible}
use Rattle.sets.specs.Transfers.{Activity}
use Rattle.table.specs.TableRows.{t, u, Action, assign, clear, Operation, holding, clearing, scaling_for_a, adding_to_a, scaling_for_b, adding_to_b, Table}
use Rattle.table.specs.Adjoint.{put, put_if, add_into, subtract_from, scaled, parts_of, derivative_rows}
use Rattle.machine.specs.Actions.{through, look, replaced, Memory, Setting, acted}
use Rattle.machine.specs.InTheLarge.{table_run}
use Rattle.machine.proofs.PlaceLaws.{place_there}
use Rattle.claims.specs.IdealSweep.{derived_by}
use Rattle.claims.proofs.DerivedInTheLarge.{derived_in_the_large}
use Rattle.claims.proofs.LeanGain.{varied_gain, lean_gain, cleared, Grown}
use Rattle.run.proofs.Stores.{at_first_part, at_second_part, set_second_part}

-- a list of residues, one of them replaced
set_below : (α : List ℕ) (i y : ℕ) → i < length α → y < modulus → ((x : ℕ) → get_or α x 0 < modulus) → (x : ℕ) → get_or (set α i y) x 0 < modulus
set_below α i y h k below x = by_case (ℕ_discrete x i)
  where
    by_case : Dec (x ≡ i) → get_or (set α i y) x 0 < modulus
    by_case (yes e) = rw (e, get_or-set_same α i y 0 h) k
    by_case (no d) = rw (get_or-set_other α i x y 0 d) (below x)

-- ---- what an assignment's operands gain, summed

one_gain : (m : ℕ) (b : Bool) → 0 + m ≡ m + cond b 0 0
one_gain m true = omega arith
one_gain m false = omega arith

no_gain : (a b : Bool) → 0 ≡ cond a 0 0 + cond b 0 0
no_gain true true = refl
no_gain true false = refl
no_gain false true = refl
no_gain false false = refl

two_gains : (m n : ℕ) → 0 + m + n ≡ m + n
two_gains m n = omega arith

-- ---- rows that write adjoints, t or u

module _ (setting : Setting residues) (originals : List ℕ) (sized : length originals ≡ setting.variables) where
  abbrev v : ℕ
  v = setting.variables

  abbrev memory_of : List ℕ → Memory residues
  memory_of α = record { store = originals ++ α; values = []; turns = []; copied = [] }

  look_original : (α : List ℕ) (i : ℕ) → i < v → look {Why = ⊥} (originals ++ α) i ≡ through (get_or originals i 0)
  look_original α i h = rw (at_first_part originals α i (rw sized h) ∙ place_there originals i 0 (rw sized h))

  look_adjoint : (α : List ℕ) (q i : ℕ) → q ≡ v + i → i < length α → look {Why = ⊥} (originals ++ α) q ≡ through (get_or α i 0)
  look_adjoint α q i e h = rw (e, ← sized, at_second_part originals α i, place_there α i 0 h)

  adjoint_replaced : (α : List ℕ) (q i y : ℕ) → q ≡ v + i → i < length α → replaced {Why = ⊥} (originals ++ α) q y ≡ through (originals ++ set α i y)
  adjoint_replaced α q i y e h =
      let inside : q < length (originals ++ α) = rw (length-append originals α, sized, e) (omega arith) in
      let placed : set (originals ++ α) q y ≡ originals ++ set α i y = rw (e, ← sized) (set_second_part originals α i y) in
      rw (lt-ltb q (length (originals ++ α)) inside, placed)

  -- t := d̄
  copy_goes : (α : List ℕ) (q r i j : ℕ) → q ≡ v + i → r ≡ v + j → i < length α → j < length α
      → acted residues setting (assign (q ≔ copy r)) (memory_of α) ≡ through (memory_of (set α i (get_or α j 0)))
  unfolding acted
  copy_goes α q r i j e f h k = rw (look_adjoint α r j f k, adjoint_replaced α q i (get_or α j 0) e h)

  -- d̄ := 0
  clear_goes : (α : List ℕ) (i : ℕ) → i < length α → acted residues setting (clear (v + i)) (memory_of α) ≡ through (memory_of (set α i 0))
  unfolding acted
  clear_goes α i h = rw (adjoint_replaced α (v + i) i 0 refl h)

  -- ā := ā + t, ā := ā + u
  sum_goes : (α : List ℕ) (q i j : ℕ) → q ≡ v + j → i < length α → j < length α
      → acted residues setting (add_into v i q) (memory_of α) ≡ through (memory_of (set α i (residue (get_or α i 0 + get_or α j 0))))
  unfolding acted
  sum_goes α q i j e h k =
      rw (look_adjoint α (v + i) i refl h, look_adjoint α q j e k, adjoint_replaced α (v + i) i (residue (get_or α i 0 + get_or α j 0)) refl h)

  -- ā := ā − t
  difference_goes : (α : List ℕ) (q i j : ℕ) → q ≡ v + j → i < length α → j < length α
      → acted residues setting (subtract_from v i q) (memory_of α) ≡ through (memory_of (set α i (residue (get_or α i 0 + opposite (get_or α j 0)))))
  unfolding acted
  difference_goes α q i j e h k =
      rw (look_adjoint α (v + i) i refl h, look_adjoint α q j e k, adjoint_replaced α (v + i) i (residue (get_or α i 0 + opposite (get_or α j 0))) refl h)

  -- u := b × t
  scaled_goes : (α : List ℕ) (b : ℕ) → b < v → length α ≡ v + 2
      → acted residues setting (scaled v b) (memory_of α) ≡ through (memory_of (set α (v + 1) (residue (get_or originals b 0 * get_or α v 0))))
  unfolding acted
  scaled_goes α b h size =
      rw (
        look_original α b h,
        look_adjoint α (2 * v) v (omega arith) (omega arith),
        adjoint_replaced α (2 * v + 1) (v + 1) (residue (get_or originals b 0 * get_or α v 0)) (omega arith) (omega arith),
      )

  put_goes : (row : RowNumber) (operation : Operation) (action : Action) (rest : Table) (α α' : List ℕ)
      → acted residues setting action (memory_of α) ≡ through (memory_of α')
      → table_run residues setting (put row operation action rest) (memory_of α) ≡ table_run residues setting rest (memory_of α')
  unfolding table_run
  put_goes row operation action rest α α' e = rw e

  -- ---- what the adjoints have gained

  -- V adjoints, t and u, with t held; each adjoint is what it was at first, and what it has gained
  pub record Gained (first : ℕ → ℕ) (held : ℕ) (gains : ℕ → ℕ) (α : List ℕ) : Type 0 where
    pub size : length α ≡ v + 2
    pub holds : get_or α v 0 ≡ held
    pub below : (x : ℕ) → get_or α x 0 < modulus
    pub each : (x : ℕ) → x < v → get_or α x 0 ≡ residue (first x + gains x)

  module _ (first : ℕ → ℕ) (held : ℕ) where
    gained_same : (g g' : ℕ → ℕ) (α : List ℕ) → ((x : ℕ) → g x ≡ g' x) → Gained first held g α → Gained first held g' α
    gained_same g g' α e G =
        record { size = G.size; holds = G.holds; below = G.below; each = λ x h. G.each x h ∙ ap (λ y. residue (first x + y)) (e x) }

    -- one adjoint more
    gained_more : (g : ℕ → ℕ) (α : List ℕ) (a y amount : ℕ) → a < v → y ≡ residue (get_or α a 0 + amount) → Gained first held g α
        → Gained first held (λ x. g x + cond (eqb a x) amount 0) (set α a y)
    gained_more g α a y amount h e G =
        record {
          size = length-set α a y ∙ G.size;
          holds = get_or-set_other α a v y 0 (λ q. absurd (omega arith)) ∙ G.holds;
          below = set_below α a y (omega (arith, G.size)) (rw e (residue_below _)) G.below;
          each = λ x k. by_case x k (ℕ_discrete x a);
        }
      where
        by_case : (x : ℕ) → x < v → Dec (x ≡ a) → get_or (set α a y) x 0 ≡ residue (first x + (g x + cond (eqb a x) amount 0))
        by_case x k (yes q) =
            rw (q, get_or-set_same α a y 0 (omega (arith, G.size)), eq-eqb a a refl, e, G.each a h)
            (residue_sum_left (first a + g a) amount ∙ ap residue (add_assoc (first a) (g a) amount))
        by_case x k (no d) =
            rw (get_or-set_other α a x y 0 d, ne_eqb a x (λ q. d (sym q)), add-zero (g x)) (G.each x k)

    -- u written
    gained_scaled : (g : ℕ → ℕ) (α : List ℕ) (y : ℕ) → y < modulus → Gained first held g α → Gained first held g (set α (v + 1) y)
    gained_scaled g α y h G =
        record {
          size = length-set α (v + 1) y ∙ G.size;
          holds = get_or-set_other α (v + 1) v y 0 (λ q. absurd (omega arith)) ∙ G.holds;
          below = set_below α (v + 1) y (omega (arith, G.size)) h G.below;
          each = λ x k. get_or-set_other α (v + 1) x y 0 (λ q. absurd (omega arith)) ∙ G.each x k;
        }

    -- rows that went through, down to the rest, and what the adjoints then have gained
    record Went (g : ℕ → ℕ) (table rest : Table) (α : List ℕ) : Type 0 where
      after : List ℕ
      goes : table_run residues setting table (memory_of α) ≡ table_run residues setting rest (memory_of after)
      gained : Gained first held g after

    went_same : (g h : ℕ → ℕ) (table rest : Table) (α : List ℕ) → ((x : ℕ) → g x ≡ h x) → Went g table rest α → Went h table rest α
    went_same g h table rest α e w = record { after = w.after; goes = w.goes; gained = gained_same g h w.after e w.gained }

    then_went : (g h : ℕ → ℕ) (table middle rest : Table) (α : List ℕ) (w : Went g table middle α)
        → Went h middle rest w.after → Went h table rest α
    then_went g h table middle rest α w w' = record { after = w'.after; goes = w.goes ∙ w'.goes; gained = w'.gained }

    -- one row that adds, only if
    part_goes : (varied : Bool) (row : RowNumber) (operation : Operation) (action : Action) (rest : Table) (α : List ℕ) (g : ℕ → ℕ) (a y amount : ℕ)
        → a < v → acted residues setting action (memory_of α) ≡ through (memory_of (set α a y)) → y ≡ residue (get_or α a 0 + amount)
        → Gained first held g α → Went (λ x. g x + cond varied (cond (eqb a x) amount 0) 0) (put_if varied row operation action rest) rest α
    part_goes true row operation action rest α g a y amount h goes e G =
        record { after = set α a y; goes = put_goes row operation action rest α (set α a y) goes; gained = gained_more g α a y amount h e G }
    part_goes false row operation action rest α g a y amount h goes e G =
        record { after = α; goes = refl; gained = gained_same g _ α (λ x. sym (add-zero (g x))) G }

    adding : (varied : Bool) (row : RowNumber) (operation : Operation) (rest : Table) (α : List ℕ) (g : ℕ → ℕ) (a : ℕ) → a < v → Gained first held g α
        → Went (λ x. g x + cond varied (cond (eqb a x) (1 * held) 0) 0) (put_if varied row operation (add_into v a (t v)) rest) rest α
    adding varied row operation rest α g a h G =
        part_goes varied row operation (add_into v a (t v)) rest α g a (residue (get_or α a 0 + get_or α v 0)) (1 * held) h
        (sum_goes α (2 * v) a v (omega arith) (omega (arith, G.size)) (omega (arith, G.size)))
        (ap (λ y. residue (get_or α a 0 + y)) (G.holds ∙ omega arith)) G

    subtracting : (varied : Bool) (row : RowNumber) (operation : Operation) (rest : Table) (α : List ℕ) (g : ℕ → ℕ) (a : ℕ) → a < v
        → Gained first held g α
        → Went (λ x. g x + cond varied (cond (eqb a x) (opposite 1 * held) 0) 0) (put_if varied row operation (subtract_from v a (t v)) rest) rest α
    subtracting varied row operation rest α g a h G =
        part_goes varied row operation (subtract_from v a (t v)) rest α g a (residue (get_or α a 0 + opposite (get_or α v 0))) (opposite 1 * held) h
        (difference_goes α (2 * v) a v (omega arith) (omega (arith, G.size)) (omega (arith, G.size)))
        (ap (λ y. residue (get_or α a 0 + opposite y)) G.holds ∙ sym (opposite_of_one (get_or α a 0) held)) G

    -- u := b × t; ā := ā + u
    scaling : (varied : Bool) (row : RowNumber) (scales adds : Operation) (rest : Table) (α : List ℕ) (g : ℕ → ℕ) (a b : ℕ) → a < v → b < v
        → Gained first held g α
        → Went (λ x. g x + cond varied (cond (eqb a x) (get_or originals b 0 * held) 0) 0)
        (put_if varied row scales (scaled v b) (put_if varied row adds (add_into v a (u v)) rest)) rest α
    scaling true row scales adds rest α g a b h k G =
        let r = residue (get_or originals b 0 * get_or α v 0) in
        let β = set α (v + 1) r in
        let H = gained_scaled g α r (residue_below _) G in
        let written : get_or β (v + 1) 0 ≡ residue (get_or originals b 0 * held) =
        get_or-set_same α (v + 1) r 0 (omega (arith, G.size)) ∙ ap (λ y. residue (get_or originals b 0 * y)) G.holds in
        let w = part_goes true row adds (add_into v a (u v)) rest β g a (residue (get_or β a 0 + get_or β (v + 1) 0)) (get_or originals b 0 * held) h
        (sum_goes β (2 * v + 1) a (v + 1) (omega arith) (omega (arith, H.size)) (omega (arith, H.size)))
        (ap (λ y. residue (get_or β a 0 + y)) written ∙ residue_sum_right _ _) H in
        let first_row = put_goes row scales (scaled v b) (put row adds (add_into v a (u v)) rest) α β (scaled_goes α b k G.size) in
        record { after = w.after; goes = first_row ∙ w.goes; gained = w.gained }
    scaling false row scales adds rest α g a b h k G = record { after = α; goes = refl; gained = gained_same g _ α (λ x. sym (add-zero (g x))) G }

    parts_go : (constants : ℕ) (source : Source) (row : RowNumber) (known : Activity) (rest : Table) (α : List ℕ) → SourcePresent v constants source
        → SourceFeasible false source → Gained first held (λ x. 0) α → Went (varied_gain known source originals held) (parts_of v source row known rest) rest α
    unfolding SourcePresent SourceFeasible parts_of varied_gain
    parts_go constants (copy a) row known rest α present can G =
        went_same _ _ _ _ α (λ x. one_gain _ known.varied_b) (adding known.varied_a row adding_to_a rest α _ a present G)
    parts_go constants (fixed c) row known rest α present can G =
        went_same (λ x. 0) _ _ _ α (λ x. no_gain known.varied_a known.varied_b) (record { after = α; goes = refl; gained = G })
    parts_go constants (sum a b) row known rest α present can G =
        let w = adding known.varied_a row adding_to_a _ α _ a present.0 G in
        went_same _ _ _ _ α (λ x. two_gains _ _)
        (then_went _ _ _ _ rest α w (adding known.varied_b row adding_to_b rest w.after _ b present.1 w.gained))
    parts_go constants (difference a b) row known rest α present can G =
        let w = adding known.varied_a row adding_to_a _ α _ a present.0 G in
        went_same _ _ _ _ α (λ x. two_gains _ _)
        (then_went _ _ _ _ rest α w (subtracting known.varied_b row adding_to_b rest w.after _ b present.1 w.gained))
    parts_go constants (product a b) row known rest α present can G =
        let w = scaling known.varied_a row scaling_for_a adding_to_a _ α _ a b present.0 present.1 G in
        went_same _ _ _ _ α (λ x. two_gains _ _)
        (then_went _ _ _ _ rest α w (scaling known.varied_b row scaling_for_b adding_to_b rest w.after _ b a present.1 present.0 w.gained))
    parts_go constants (negation a) row known rest α present can G =
        went_same _ _ _ _ α (λ x. one_gain _ known.varied_b) (subtracting known.varied_a row adding_to_a rest α _ a present G)
    parts_go constants (quotient a b) row known rest α present can G = let z : ◌≡◌ {A = ℕ} 0 1 = cc in absurd (omega arith)

  -- ---- all of an assignment's derivative rows

  -- d̄ := 0
  cleared_gained : (d held : ℕ) (α : List ℕ) → d < v → length α ≡ v + 2 → ((x : ℕ) → get_or α x 0 < modulus) → get_or α v 0 ≡ held
      → Gained (cleared d α) held (λ x. 0) (set α d 0)
  cleared_gained d held α h size below holds =
      record {
        size = length-set α d 0 ∙ size;
        holds = get_or-set_other α d v 0 0 (λ q. absurd (omega arith)) ∙ holds;
        below = set_below α d 0 (omega arith) (omega arith) below;
        each = λ x k. by_case x (ℕ_discrete x d);
      }
    where
      by_case : (x : ℕ) → Dec (x ≡ d) → get_or (set α d 0) x 0 ≡ residue (cleared d α x + 0)
      by_case x (yes e) = rw (e, get_or-set_same α d 0 0 (omega arith), eq-eqb d d refl) (sym (residue_same 0 (omega arith)))
      by_case x (no q) = rw (get_or-set_other α d x 0 0 q, ne_eqb d x (λ e. q (sym e)), add-zero (get_or α x 0)) (sym (residue_same _ (below x)))

  rows_go : (active : Bool) (constants d : ℕ) (source : Source) (row : RowNumber) (known : Activity) (α : List ℕ) → d < v
      → SourcePresent v constants source → SourceFeasible false source → length α ≡ v + 2 → ((x : ℕ) → get_or α x 0 < modulus)
      → (after : List ℕ) × (table_run residues setting (derivative_rows v active d source row known done) (memory_of α) ≡ through (memory_of after))
      × Grown v (λ x. cleared d α x + cond active (varied_gain known source originals (get_or α d 0) x) 0) after
  unfolding derivative_rows table_run
  rows_go true constants d source row known α h present can size below =
      let bar = get_or α d 0 in
      let β = set α v bar in
      let sized-β : length β ≡ v + 2 = length-set α v bar ∙ size in
      let G = cleared_gained d bar β h sized-β (set_below α v bar (omega arith) (below d) below) (get_or-set_same α v bar 0 (omega arith)) in
      let w = parts_go (cleared d β) bar constants source row known done (set β d 0) present can G in
      let parts = parts_of v source row known done in
      let holds =
      put_goes row holding (assign (t v ≔ copy (v + d))) (put row clearing (clear (v + d)) parts) α β
      (copy_goes α (t v) (v + d) v d (omega arith) refl (omega arith) (omega arith)) in
      let clears = put_goes row clearing (clear (v + d)) parts β (set β d 0) (clear_goes β d (omega arith)) in (
        w.after,
        holds ∙ clears ∙ w.goes,
        record {
          size = w.gained.size;
          below = w.gained.below;
          each = λ x k. w.gained.each x k
              ∙ ap (λ y. residue (cond (eqb d x) 0 y + varied_gain known source originals bar x))
              (get_or-set_other α v x bar 0 (λ q. absurd (omega arith)));
        },
      )
  rows_go false constants d source row known α h present can size below =
      let G = cleared_gained d (get_or α v 0) α h size below refl in (
        set α d 0,
        put_goes row clearing (clear (v + d)) done α (set α d 0) (clear_goes α d (omega arith)),
        record { size = G.size; below = G.below; each = G.each },
      )

-- In residues the derivative rows of an assignment that is no quotient go through, and add to the adjoints, d̄ being cleared, what its varied operands gain.
pub derived_goes : (setting : Setting residues) (constants d : ℕ) (source : Source) (row : RowNumber) (known : Activity) (originals α : List ℕ)
    → length originals ≡ setting.variables → d < setting.variables → SourcePresent setting.variables constants source
    → SourceFeasible false source → length α ≡ setting.variables + 2 → ((x : ℕ) → get_or α x 0 < modulus)
    → (after : List ℕ) × (derived_by residues setting (d ≔ source) row known originals α ≡ through after)
    × Grown setting.variables (λ x. cleared d α x + lean_gain known source originals (get_or α d 0) x) after
unfolding lean_gain
derived_goes setting constants d source row known originals α sized h present can size below =
    let w = rows_go setting originals sized known.active constants d source row known α h present can size below in (
      w.0,
      derived_in_the_large residues setting (d ≔ source) row known originals α ∙ rw (w.1, drop_at originals w.0 setting.variables sized),
      w.2,
    )
