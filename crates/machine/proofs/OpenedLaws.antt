-- The open loops in their array: opening one, ending a turn of the nearest, and finding out whether it is a loop with a test at its own row.
use Prim.Native.Nat.{ℕ, zero, suc, ◌-◌, ◌+◌, ◌*◌, ◌/◌, ◌%◌, ◌≤◌, ◌<◌}
use Rattle.std.specs.Prelude.{Result, Ok}
use Rattle.machine.specs.declared.Ended.{Ended}
use mathlib.Core.Path.{◌≡◌, refl, sym, ap, subst, ◌∙◌}
use mathlib.Core.Bool.{Bool, true, false, ◌&&◌, cond}
use mathlib.Core.List.{List, [], ◌∷◌}
use native.Mathlib.Omega.{arith}
use native.Mathlib.Numerals.{add-one}
use lib.ListN.{length, get_or, set, length-set}
use lib.Dec.{eqb, eqb→eq}
use lib.Seq.{get_or-set_same, get_or-set_other}
use Rattle.sheet.specs.Bounds.{limit}
use Rattle.machine.specs.Machine.{Repeat, back_to}
use Rattle.machine.specs.Inner.RowSteps.{stuck_there, note_of, no_loop, Nested, Opened, Pushes, Opens, Closes, is_under_way, turns_left, loops_around, Pends, moved, within}
use Rattle.machine.specs.declared.Loop.{Loop}
use Rattle.machine.specs.declared.Place.{Place}

nested_length : (n : ℕ) (loops : List Loop) (repeats : List Repeat) → Nested n loops repeats → length repeats ≡ n
unfolding Nested
nested_length zero loops [] now = refl
nested_length zero loops (r ∷ outer) now = absurd now
nested_length (suc n) loops [] now = absurd now
nested_length (suc n) loops (r ∷ outer) now = ap suc (nested_length n loops outer now.2)

-- what stands in the array for a loop
abbrev loop_of : Repeat → Loop
loop_of r = record { body = back_to r; note = note_of r }

-- what is read at a place of it
abbrev body_at : List Loop → ℕ → ℕ
body_at loops top = (get_or loops top no_loop).body

abbrev note_at : List Loop → ℕ → ℕ
note_at loops top = (get_or loops top no_loop).note

-- what stands at or above the depth is no open repeat's
nested_alike : (n : ℕ) (loops loops' : List Loop) (repeats : List Repeat)
    → ((i : ℕ) → i < n → get_or loops' i no_loop ≡ get_or loops i no_loop)
    → Nested n loops repeats
    → Nested n loops' repeats
unfolding Nested
nested_alike zero loops loops' [] same now = now
nested_alike zero loops loops' (r ∷ outer) same now = absurd now
nested_alike (suc n) loops loops' [] same now = absurd now
nested_alike (suc n) loops loops' (r ∷ outer) same now =
    let here = same n (omega arith) in (
      ap (λ (l : Loop). l.body) here ∙ now.0,
      ap (λ (l : Loop). l.note) here ∙ now.1,
      nested_alike n loops loops' outer (λ i h. same i (omega arith)) now.2,
    )

-- one more that is written there, over as many as are open below it
nested_set : (n : ℕ) (loops : List Loop) (r : Repeat) (repeats : List Repeat) → n < length loops → Nested n loops repeats
    → Nested (suc n) (set loops n (loop_of r)) (r ∷ repeats)
unfolding Nested
nested_set n loops r repeats room now =
    let here = get_or-set_same loops n (loop_of r) no_loop room in (
      ap (λ (l : Loop). l.body) here,
      ap (λ (l : Loop). l.note) here,
      nested_alike n loops (set loops n (loop_of r)) repeats (λ i h. get_or-set_other loops n i (loop_of r) no_loop (λ same. omega arith)) now,
    )

pub opened_length : (n : ℕ) (loops : List Loop) (repeats : List Repeat) → Opened n loops repeats → length repeats ≡ n
opened_length n loops repeats now = nested_length n loops repeats now.nested

-- ---- one loop more

module _ (body note : ℕ) (next : Place) (loops : List Loop) where
  pub pushes_full : limit.depth ≤ next.depth → Pushes body note next loops loops stuck_there
  pushes_full full =
      record {
        left = tt;
        full = λ _. (refl, refl);
        room = λ room. absurd (omega arith);
        opened = λ room r repeats back is now. absurd (omega arith);
      }

  pub pushes_on : next.depth < limit.depth
      → Pushes body note next loops (set loops next.depth (record { body = body; note = note })) (Ok (within next (next.depth + 1)))
  pushes_on room =
      record {
        left = refl;
        full = λ full. absurd (omega arith);
        room = λ _. rw (add-one next.depth);
        opened = λ _ r repeats back is now.
            let many = now.room in
            record {
              room = rw length-set many;
              nested = rw (sym back, sym is) (nested_set next.depth loops r repeats (omega arith) now.nested);
            };
      }

module _ {count : ℕ} {next : Place} {loops : List Loop} where
  pub opens_none : count ≡ 0 → Opens count next loops loops stuck_there
  opens_none none = record { left = tt; opens = λ m is. absurd (omega arith) }

  pub opens_on : {loops_after : List Loop} {answer : Result Place Ended} (note : ℕ) → note ≡ 2 * (count - 1)
      → Pushes next.at.0 note next loops loops_after answer
      → Opens count next loops loops_after answer
  opens_on {loops_after} {answer} note twice pushes =
      record {
        left = pushes.left;
        opens = λ m is.
            let same : note ≡ 2 * m = omega (arith, twice, is) in
            subst (λ n. Pushes next.at.0 n next loops loops_after answer) same pushes;
      }

-- ---- kind 11

nested_some : (n : ℕ) (loops : List Loop) (r : Repeat) (outer : List Repeat) → n ≡ 0 → Nested n loops (r ∷ outer) → ⊥
unfolding Nested
nested_some zero loops r outer is now = now
nested_some (suc n) loops r outer is now = omega arith

nested_none : (n : ℕ) (loops : List Loop) → Nested n loops [] → n ≡ 0
unfolding Nested
nested_none zero loops now = refl
nested_none (suc n) loops now = absurd now

-- the nearest open repeat
nested_nearest : (n top : ℕ) (loops : List Loop) (r : Repeat) (outer : List Repeat) → n ≡ suc top → Nested n loops (r ∷ outer)
    → (body_at loops top ≡ back_to r) × (note_at loops top ≡ note_of r) × Nested top loops outer
unfolding Nested
nested_nearest n top loops r outer is now = rw is at now

-- the same loop with other turns to come
abbrev with_left : Repeat → ℕ → Repeat
with_left r m = record { start = r.start; asks = r.asks; left = m }

nested_again : (n top : ℕ) (loops : List Loop) (r : Repeat) (m : ℕ) (outer : List Repeat) → n ≡ suc top → top < length loops
    → Nested n loops (r ∷ outer)
    → Nested n (set loops top (loop_of (with_left r m))) (with_left r m ∷ outer)
nested_again n top loops r m outer is room now =
    rw is (nested_set top loops (with_left r m) outer room (nested_nearest n top loops r outer is now).2)

one_at_most : (b : Bool) → cond b 1 0 ≤ 1
one_at_most true = omega arith
one_at_most false = omega arith

module _ (next : Place) (loops : List Loop) where
  pub closes_none : next.depth ≡ 0 → Closes next loops loops stuck_there
  closes_none is =
      record {
        left = tt;
        none = λ now. (refl, now);
        out = λ few r outer now left. absurd (nested_some next.depth loops r outer is now.nested);
        back = λ few r n outer now left. absurd (nested_some next.depth loops r outer is now.nested);
      }

  -- more than there is room for
  pub closes_beyond : limit.depth < next.depth → Closes next loops loops stuck_there
  closes_beyond is =
      record {
        left = tt;
        none = λ now. (refl, now);
        out = λ few r outer now left. absurd (omega arith);
        back = λ few r n outer now left. absurd (omega arith);
      }

  module _ (top : ℕ) (is : next.depth ≡ suc top) where
    pub closes_out : note_at loops top < 2 → Closes next loops loops (Ok (within next top))
    closes_out last =
        record {
          left = refl;
          none = λ now. let empty = nested_none next.depth loops now.nested in absurd (omega arith);
          out = λ _ r outer now left.
              let outside = (nested_nearest next.depth top loops r outer is now.nested).2 in
              rw is (refl, record { room = now.room; nested = outside });
          back = λ _ r n outer now left.
              let nearest = nested_nearest next.depth top loops r outer is now.nested in
              absurd (omega (arith, nearest.1));
        }

    pub closes_back : 2 ≤ note_at loops top
        → Closes next loops (set loops top (record { body = body_at loops top; note = note_at loops top - 2 })) (Ok (moved next (body_at loops top)))
    closes_back more =
        record {
          left = refl;
          none = λ now. let empty = nested_none next.depth loops now.nested in absurd (omega arith);
          out = λ _ r outer now left.
              let nearest = nested_nearest next.depth top loops r outer is now.nested in
              absurd (omega (arith, nearest.1, one_at_most r.asks));
          back = λ few r n outer now left.
              let nearest = nested_nearest next.depth top loops r outer is now.nested in
              let fewer : note_at loops top - 2 ≡ note_of (with_left r n) = omega (arith, nearest.1) in
              let many = now.room in
              rw (nearest.0, fewer) (
                refl,
                record {
                  room = rw length-set many;
                  nested = nested_again next.depth top loops r n outer is (omega arith) now.nested;
                },
              );
        }

-- ---- a loop with a test, at its own row

half_of : (left : ℕ) (asks : Bool) → asks ≡ true → (2 * left + cond asks 1 0) / 2 ≡ left
half_of left true is = omega arith
half_of left false is = let z : ◌≡◌ {A = ℕ} 0 1 = cc in absurd (omega arith)

-- what is read of the innermost open loop tells whether it is this one
under_way_told : (at : ℕ) (r : Repeat) → (eqb (note_of r % 2) 1 && eqb (back_to r) at) ≡ is_under_way at r
under_way_told at r = by r.left r.asks
  where
    by : (left : ℕ) (asks : Bool)
        → (eqb ((2 * left + cond asks 1 0) % 2) 1 && eqb (cond asks r.start.index (suc r.start.index)) at) ≡ (asks && eqb r.start.index at)
    by left true = let odd : (2 * left + 1) % 2 ≡ 1 = omega arith in rw odd
    by left false = let even : (2 * left + 0) % 2 ≡ 0 = omega arith in rw even

-- what is read of it
abbrev told : (at top : ℕ) (loops : List Loop) → Bool
told at top loops = eqb (note_at loops top % 2) 1 && eqb (body_at loops top) at

told_is : (at depth top : ℕ) (loops : List Loop) → depth ≡ suc top → (r : Repeat) (outer : List Repeat) → Nested depth loops (r ∷ outer)
    → told at top loops ≡ is_under_way at r
told_is at depth top loops is r outer now =
    let nearest = nested_nearest depth top loops r outer is now in
    rw (nearest.0, nearest.1) (under_way_told at r)

asks_if : (asks other : Bool) → (asks && other) ≡ true → asks ≡ true
asks_if true other e = refl
asks_if false other e = e

module _ {most note at depth : ℕ} {loops : List Loop} (noted : note ≡ 2 * most + 1) where
  pub pends_none : depth ≡ 0 → Pends most at depth loops (record { left = most; note = note; depth = depth })
  unfolding Nested
  pends_none is =
      record {
        noted = noted;
        left = λ repeats few now. by repeats (rw is at now.nested);
        around = λ repeats few now. subst (Opened depth loops) (same repeats (rw is at now.nested)) now;
        shallow = omega arith;
      }
    where
      by : (repeats : List Repeat) → Nested 0 loops repeats → most ≡ turns_left at most repeats
      by [] now = refl
      by (r ∷ outer) now = absurd now

      same : (repeats : List Repeat) → Nested 0 loops repeats → repeats ≡ loops_around at repeats
      same [] now = refl
      same (r ∷ outer) now = absurd now

  pub pends_beyond : limit.depth < depth → Pends most at depth loops (record { left = most; note = note; depth = depth })
  pends_beyond deep =
      record {
        noted = noted;
        left = λ repeats few now. absurd (omega arith);
        around = λ repeats few now. absurd (omega arith);
        shallow = omega arith;
      }

  module _ (top : ℕ) (is : depth ≡ suc top) where
    pub pends_again : told at top loops ≡ true → Pends most at depth loops (record { left = note_at loops top / 2; note = note_at loops top; depth = top })
    pends_again again =
        record {
          noted = whole (note_at loops top) (asks_if (eqb (note_at loops top % 2) 1) _ again);
          left = λ repeats few now. left_is repeats now.nested;
          around = λ repeats few now.
              record { room = now.room; nested = outside repeats now.nested };
          shallow = omega arith;
        }
      where
        whole : (n : ℕ) → eqb (n % 2) 1 ≡ true → n ≡ 2 * (n / 2) + 1
        whole n odd = let is_odd : n % 2 ≡ 1 = eqb→eq _ _ (rw odd tt) in omega arith

        left_is : (repeats : List Repeat) → Nested depth loops repeats → note_at loops top / 2 ≡ turns_left at most repeats
        left_is [] now = let none = nested_none depth loops now in absurd (omega arith)
        left_is (r ∷ outer) now =
            let here = sym (told_is at depth top loops is r outer now) ∙ again in
            let nearest = nested_nearest depth top loops r outer is now in
            rw (here, nearest.1) (half_of r.left r.asks (asks_if r.asks _ here))

        outside : (repeats : List Repeat) → Nested depth loops repeats → Nested top loops (loops_around at repeats)
        outside [] now = let none = nested_none depth loops now in absurd (omega arith)
        outside (r ∷ outer) now =
            let here = sym (told_is at depth top loops is r outer now) ∙ again in
            rw here (nested_nearest depth top loops r outer is now).2

    pub pends_first : told at top loops ≡ false → Pends most at depth loops (record { left = most; note = note; depth = depth })
    pends_first not =
        record {
          noted = noted;
          left = λ repeats few now. left_is repeats now.nested;
          around = λ repeats few now. subst (Opened depth loops) (same repeats now.nested) now;
          shallow = omega arith;
        }
      where
        left_is : (repeats : List Repeat) → Nested depth loops repeats → most ≡ turns_left at most repeats
        left_is [] now = refl
        left_is (r ∷ outer) now = let here = sym (told_is at depth top loops is r outer now) ∙ not in rw here

        same : (repeats : List Repeat) → Nested depth loops repeats → repeats ≡ loops_around at repeats
        same [] now = refl
        same (r ∷ outer) now = let here = sym (told_is at depth top loops is r outer now) ∙ not in rw here
