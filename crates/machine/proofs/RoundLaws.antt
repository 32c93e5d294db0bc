-- Row 17 as one loop: a turn of it copies one value out and sets one adjoint.
use Prim.Native.Nat.{ℕ, ◌+◌, ◌*◌, ◌≤◌, ◌<◌}
use Rattle.std.specs.Prelude.{Ok}
use mathlib.Core.Path.{◌≡◌, refl, sym, ap, ◌∙◌}
use mathlib.Core.Bool.{cond}
use mathlib.Core.List.{List, [], ◌++◌, append-nil}
use native.Mathlib.Nat.{zero-add}
use native.Mathlib.Numerals.{add-one}
use native.Mathlib.Omega.{arith}
use lib.ListN.{length, get_or, take, drop, set, length-append, get_or-append, drop_of_length-le}
use lib.Seq.{paste, paste-suc, length-paste, get_or-take, take_all, length-take-le}
use Rattle.number.specs.Arithmetic.{Arithmetic}
use Rattle.sheet.specs.Rows.{is_dependent}
use Rattle.machine.specs.Actions.{seeded, turned_round, acted}
use Rattle.machine.specs.Inner.Buffers.{RoundSizes, TurnsRound}
use Rattle.machine.proofs.RoleLaws.{counting_length, counting_at}

module _ (A : Arithmetic) where
  module _ (roles : List ℕ) (seeds store copied : List A.Carrier) where
    -- the buffers after i turns
    pub record Copying (i : ℕ) (store_now copied_now : List A.Carrier) : Type 0 where
      pub store_is : store_now ≡ paste store (length roles) (seeded A roles seeds) i
      pub copied_is : copied_now ≡ paste copied 0 store i

    module _ (sizes : RoundSizes A roles seeds store copied) where
      copying_store_length : {i : ℕ} {s c : List A.Carrier} → i ≤ length roles → Copying i s c → length s ≡ length store
      copying_store_length {i} h now =
          let enough = sizes.store_fits in
          ap length now.store_is
          ∙ length-paste store (length roles) (seeded A roles seeds) i (omega arith) (rw (counting_length A is_dependent roles seeds) h)

      copying_copied_length : {i : ℕ} {s c : List A.Carrier} → i ≤ length roles → Copying i s c → length c ≡ length copied
      copying_copied_length {i} h now =
          let enough = sizes.store_fits in
          let room = sizes.copied_fits in
          ap length now.copied_is ∙ length-paste copied 0 store i (omega arith) (omega arith)

      -- the originals stay as they are
      original_kept : (i j : ℕ) (z : A.Carrier) → j < length roles
          → get_or (paste store (length roles) (seeded A roles seeds) i) j z ≡ get_or store j z
      original_kept i j z h =
          let v = length roles in
          let adjoints = take i (seeded A roles seeds) in
          let enough = sizes.store_fits in
          let whole : length (take v store) ≡ v = length-take-le v store (omega arith) in
          let more = length-append (take v store) adjoints in
          get_or-append (take v store ++ adjoints) (drop (v + i) store) z j (omega arith)
          ∙ get_or-append (take v store) adjoints z j (omega arith)
          ∙ get_or-take v store j z h

      copying_goes_on : (i : ℕ) (s c : List A.Carrier) (y z : A.Carrier) → i < length roles → Copying i s c
          → Copying (i + 1) (set s (length roles + i) (cond (is_dependent (get_or roles i 0)) (get_or seeds i y) A.zero)) (set c i (get_or s i z))
      copying_goes_on i s c y z h now =
          let v = length roles in
          let enough = sizes.store_fits in
          let room = sizes.copied_fits in
          let there : i < length seeds = rw sizes.seeds_fit h in
          let seed : cond (is_dependent (get_or roles i 0)) (get_or seeds i y) A.zero ≡ get_or (seeded A roles seeds) i y =
          sym (counting_at A is_dependent roles seeds i y h there) in
          rw (add-one i, seed, now.store_is, now.copied_is, original_kept i i z h)
          (record {
            store_is = paste-suc store v (seeded A roles seeds) i y (omega arith) (rw (counting_length A is_dependent roles seeds) h);
            copied_is =
                ap (λ n. set (paste copied 0 store i) n (get_or store i z)) (sym (zero-add i))
                ∙ paste-suc copied 0 store i z (omega arith) (omega arith);
          })

      store_done : (s c : List A.Carrier) → Copying (length roles) s c
          → s ≡ take (length roles) store ++ seeded A roles seeds ++ drop (2 * length roles) store
      store_done s c now =
          let v = length roles in
          let twice : v + v ≡ 2 * v = omega arith in
          let all : take v (seeded A roles seeds) ≡ seeded A roles seeds =
          take_all v (seeded A roles seeds) (omega (arith, counting_length A is_dependent roles seeds)) in
          now.store_is ∙ rw (all, twice)

      copied_done : (s c : List A.Carrier) → Copying (length roles) s c → c ≡ take (length roles) store
      copied_done s c now =
          let v = length roles in
          let room = sizes.copied_fits in
          let none_left : drop (0 + v) copied ≡ [] = drop_of_length-le copied {i = 0 + v} (omega arith) in
          now.copied_is ∙ rw none_left (append-nil (take v store))

      round_done : (s c : List A.Carrier) → Copying (length roles) s c → TurnsRound A roles seeds store copied s c (Ok tt)
      unfolding acted turned_round
      round_done s c now =
          record {
            round = λ _ setting values height turns turn_height former v r e sound.
                record {
                  meaning = rw (v, r, e, store_done s c now, copied_done s c now);
                  sound = record { values = sound.values; turns = sound.turns; value_room = sound.value_room; turn_room = sound.turn_room };
                  unchanged = λ not. absurd (not refl);
                };
            refused = λ not. absurd (not sizes);
          }

    -- the loop's invariant: i turns are done
    pub record Turning (i : ℕ) (store_now copied_now : List A.Carrier) : Type 0 where
      pub within : i ≤ length roles
      pub sizes : RoundSizes A roles seeds store copied
      pub store_length : length store_now ≡ length store
      pub copied_length : length copied_now ≡ length copied
      pub copying : Copying i store_now copied_now

-- ---- the code's loop

module _ {A : Arithmetic} {roles : List ℕ} {seeds store copied : List A.Carrier} where
  module _ {i : ℕ} {s c : List A.Carrier} (now : Turning A roles seeds store copied i s c) where
    pub turning_goes_on : {x seed original : A.Carrier} → i < length roles → original ≡ get_or s i original → seed ≡ get_or seeds i seed
        → x ≡ cond (is_dependent (get_or roles i 0)) seed A.zero
        → Turning A roles seeds store copied (i + 1) (set s (length roles + i) x) (set c i original)
    turning_goes_on {x} {seed} {original} h original_is seed_is is =
        let next : i + 1 ≤ length roles = omega arith in
        let sizes = now.sizes in
        let copying = rw (← seed_is, ← original_is, ← is) at (copying_goes_on A roles seeds store copied sizes i s c seed original h now.copying) in
        record {
          within = next;
          sizes = sizes;
          store_length = copying_store_length A roles seeds store copied sizes next copying;
          copied_length = copying_copied_length A roles seeds store copied sizes next copying;
          copying = copying;
        }

    pub turning_ends : length roles ≤ i → TurnsRound A roles seeds store copied s c (Ok tt)
    turning_ends h =
        let within = now.within in
        let all : i ≡ length roles = omega arith in
        round_done A roles seeds store copied now.sizes s c (rw all at now.copying)
