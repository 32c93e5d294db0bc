-- What each row makes of the buffers, over the arithmetic: the row's code has only to say which case it is in.
use Prim.Native.Nat.{ℕ, suc, ◌+◌, ◌≤◌, ◌<◌}
use Rattle.machine.specs.declared.Branch.TheVariants as branch_as
use Rattle.std.specs.Prelude.{Result, Ok, Err}
use Rattle.machine.specs.declared.Stuck.{Stuck}
use Rattle.machine.specs.Inner.RowAnswers.{is_stuck}
use mathlib.Core.Path.{◌≡◌, refl, sym}
use mathlib.Core.Bool.{Bool, true, false}
use mathlib.Core.List.{List}
use mathlib.Core.Option.{some}
use native.Mathlib.Decide.{dec_lt}
use native.Mathlib.Omega.{arith}
use native.Mathlib.Numerals.{add-one}
use borrow.Author.Tests.{lt-ltb, le-ltb}
use lib.Dec.{eqb}
use lib.ListN.{length, get_or, set, length-set}
use Rattle.number.specs.Answers.{Known, is_residues, is_doubles}
use Rattle.number.specs.Arithmetic.{Arithmetic}
use Rattle.number.specs.Doubles.{doubles}
use Rattle.number.specs.Residues.{residues}
use Rattle.sheet.specs.Rows.{◌≔◌}
use Rattle.table.specs.TableRows.{Action, save, take_back, save_turn, clear, assign, turn_word}
use Rattle.machine.specs.Actions.{through, halted, stuck, pushed, Setting, acted, tested, compared}
use Rattle.machine.specs.Inner.RowAnswers.{branch_of, turn_of, height_branched}
use Rattle.machine.specs.Inner.Buffers.{Buffers, memory_of, Sound, Does, InBoth, Assigns, Clears, MovesValues, SavesTurn, Compares, TakesTurn, stack_of}
use Rattle.machine.specs.Inner.RowSteps.{PutAway, KeepsCount}
use Rattle.machine.specs.declared.Branch.{Branch}
use Rattle.machine.proofs.PlaceLaws.{place_there, look_there, look_read}
use Rattle.machine.proofs.StackLaws.{stack_length, stack_top, stack_pushed, stack_below, pushed_on, taken_off}

pub in_both : {P : Arithmetic → Type 0} → ((A : Arithmetic) → P A) → InBoth P
in_both shown = record { residues = shown residues; doubles = shown doubles }

-- and of whichever arithmetic the code has
pub of_known : {A : Arithmetic} {P : Arithmetic → Type 0} → Known A → InBoth P → P A
of_known is_residues both = both.residues
of_known is_doubles both = both.doubles

pub in_both_by : {P Q : Arithmetic → Type 0} → InBoth P → ((A : Arithmetic) → P A → Q A) → InBoth Q
in_both_by both shown = record { residues = shown residues both.residues; doubles = shown doubles both.doubles }

module _ {word height : ℕ} {turns : List ℕ} where
  pub puts_none : length turns ≤ height → PutAway word height turns turns (Err is_stuck)
  puts_none full = record { full = λ _. (refl, refl); goes = λ room. absurd (omega arith) }

  pub puts_on : height < length turns → PutAway word height turns (set turns height word) (Ok (height + 1))
  puts_on room = record { full = λ full. absurd (omega arith); goes = λ _. (refl, refl) }

module _ {A : Arithmetic} where
  -- a row that is stuck or stopped leaves the buffers as they are
  sticks : (setting : Setting A) (action : Action) (before : Buffers A) → Sound A setting before
      → stuck ≡ acted A setting action (memory_of A before)
      → Does A setting action before before stuck
  sticks setting action before sound is = record { meaning = is; sound = sound; unchanged = λ _. refl }

  goes : (setting : Setting A) (action : Action) (before after : Buffers A) → Sound A setting after
      → through (memory_of A after) ≡ acted A setting action (memory_of A before)
      → Does A setting action before after (through tt)
  goes setting action before after sound is = record { meaning = is; sound = sound; unchanged = λ not. absurd (not refl) }

  module _ {d : ℕ} {store : List A.Carrier} where
    -- ---- kinds 1 to 6 and 18

    pub assign_goes : {x : A.Carrier} → d < length store → Assigns A d (through x) store (set store d x) (through tt)
    unfolding acted
    assign_goes h =
        record {
          does = λ setting source got values height turns turn_height copied sound.
              goes setting (assign (d ≔ source)) _ _
              (record { values = sound.values; turns = sound.turns; value_room = sound.value_room; turn_room = sound.turn_room })
              (rw (sym got, lt-ltb d (length store) h));
        }

    -- a right side that was stopped
    pub assign_stops : {why : A.Why} → Assigns A d (halted why) store store (halted why)
    unfolding acted
    assign_stops =
        record {
          does = λ setting source got values height turns turn_height copied sound.
              record { meaning = rw (sym got); sound = sound; unchanged = λ _. refl };
        }

    -- and one that is stuck
    pub assign_sticks : Assigns A d stuck store store stuck
    unfolding acted
    assign_sticks =
        record {
          does = λ setting source got values height turns turn_height copied sound.
              sticks setting (assign (d ≔ source)) _ sound (rw (sym got));
        }

    -- ---- kind 16

    pub clear_goes : {zero : A.Carrier} → zero ≡ A.zero → d < length store → Clears A d store (set store d zero) (Ok tt)
    unfolding acted
    clear_goes is h =
        rw is
        (record {
          does = λ setting values height turns turn_height copied sound.
              goes setting (clear d) _ _
              (record { values = sound.values; turns = sound.turns; value_room = sound.value_room; turn_room = sound.turn_room })
              (rw (lt-ltb d (length store) h));
        })

    -- ---- kind 12

    module _ {values : List A.Carrier} {height : ℕ} where
      pub save_goes : {x : A.Carrier} → x ≡ get_or store d x → d < length store → height < length values
          → MovesValues A (save d) store values height store (set values height x) (Ok (height + 1))
      unfolding acted
      save_goes {x} read here room =
          record {
            does = λ setting turns turn_height copied sound.
                let fits : length (stack_of height values) < setting.value_room =
                rw (stack_length height values sound.values.within, sound.value_room) room in
                rw (add-one height)
                (goes setting (save d) _ _
                (record {
                  values = pushed_on A.zero height values x room sound.values;
                  turns = sound.turns;
                  value_room = rw length-set sound.value_room;
                  turn_room = sound.turn_room;
                })
                (rw (look_read store d x here read, lt-ltb _ _ fits, stack_pushed height values x room)));
          }

      pub save_full : d < length store → length values ≤ height → MovesValues A (save d) store values height store values (Err is_stuck)
      unfolding acted
      save_full here full =
          record {
            does = λ setting turns turn_height copied sound.
                let none_left : setting.value_room ≤ length (stack_of height values) =
                rw (stack_length height values sound.values.within, sound.value_room) full in
                sticks setting (save d) _ sound (rw (look_there store d A.zero here, le-ltb _ _ none_left));
          }

    -- ---- kind 13

    module _ {values : List A.Carrier} where
      take_back_top : (top : ℕ) (z : A.Carrier) → d < length store → top < length values
          → MovesValues A (take_back d) store values (suc top) (set store d (get_or values top z)) (set values top A.zero) (Ok top)
      unfolding acted
      take_back_top top z here there =
          record {
            does = λ setting turns turn_height copied sound.
                goes setting (take_back d) _ _
                (record {
                  values = taken_off A.zero top values sound.values;
                  turns = sound.turns;
                  value_room = rw length-set sound.value_room;
                  turn_room = sound.turn_room;
                })
                (rw (stack_top top values z there, lt-ltb d (length store) here, stack_below top values A.zero));
          }

      -- the height is one above the place that is taken back
      pub take_back_goes : {height top : ℕ} {x zero : A.Carrier} → x ≡ get_or values top x → zero ≡ A.zero → height ≡ suc top
          → d < length store
          → top < length values
          → MovesValues A (take_back d) store values height (set store d x) (set values top zero) (Ok top)
      take_back_goes {top = top} {x = x} read cleared is here there = rw (cleared, is, read) (take_back_top top x here there)

      module _ {height : ℕ} where
        pub take_back_empty : height ≡ 0 → MovesValues A (take_back d) store values height store values (Err is_stuck)
        unfolding acted
        take_back_empty is = record { does = λ setting turns turn_height copied sound. sticks setting (take_back d) _ sound (rw is) }

  -- ---- a word onto the turn stack, whatever it stands for

  module _ {turns : List ℕ} {height : ℕ} (setting : Setting A) (word : ℕ) {store values : List A.Carrier} {value_height : ℕ} {copied : List A.Carrier}
      (sound : Sound A setting (record { store = store; values = values; height = value_height; turns = turns; turn_height = height; copied = copied })) where
    turn_pushed : {W : Type 0} → height < length turns
        → pushed {Why = W} setting.turn_room word (stack_of height turns) ≡ through (stack_of (suc height) (set turns height word))
    turn_pushed room =
        let fits : length (stack_of height turns) < setting.turn_room =
        rw (stack_length height turns sound.turns.within, sound.turn_room) room in
        rw (lt-ltb _ _ fits, stack_pushed height turns word room)

    no_turn_pushed : {W : Type 0} → length turns ≤ height → pushed {Why = W} setting.turn_room word (stack_of height turns) ≡ stuck
    no_turn_pushed full =
        let none_left : setting.turn_room ≤ length (stack_of height turns) =
        rw (stack_length height turns sound.turns.within, sound.turn_room) full in
        rw (le-ltb _ _ none_left)

    sound_pushed : height < length turns
        → Sound A setting
        (record { store = store; values = values; height = value_height; turns = set turns height word; turn_height = suc height; copied = copied })
    sound_pushed room =
        record {
          values = sound.values;
          turns = pushed_on 0 height turns word room sound.turns;
          value_room = sound.value_room;
          turn_room = rw length-set sound.turn_room;
        }

  -- what the code that puts it there does
  module _ {word height : ℕ} {turns turns_after : List ℕ} {moved : Result ℕ Stuck} (put : PutAway word height turns turns_after moved) where
    -- kind 14
    pub saves_turn : {first : Bool} → word ≡ turn_word first → SavesTurn A first turns height turns_after moved
    unfolding acted
    saves_turn {first} is = by (dec_lt height (length turns))
      where
        by : Dec (height < length turns) → SavesTurn A first turns height turns_after moved
        by (yes room) =
            let goes_on = put.goes room in
            rw (goes_on.0, goes_on.1, add-one height, is)
            (record {
              does = λ setting store values value_height copied sound.
                  goes setting (save_turn first) _ _ (sound_pushed setting (turn_word first) sound room) (rw (turn_pushed setting (turn_word first) sound room));
            })
        by (no full) =
            let stays = put.full (omega arith) in
            rw (stays.0, stays.1)
            (record {
              does = λ setting store values value_height copied sound.
                  sticks setting (save_turn first) _ sound (rw (no_turn_pushed setting (turn_word first) sound (omega arith)));
            })

    -- kind 19, at its loop's end, where counts are kept
    pub keeps_count : KeepsCount A word true turns height turns_after moved
    keeps_count = by (dec_lt height (length turns))
      where
        by : Dec (height < length turns) → KeepsCount A word true turns height turns_after moved
        by (yes room) =
            let goes_on = put.goes room in
            rw (goes_on.0, goes_on.1, add-one height)
            (record {
              kept = λ setting store values value_height copied keeps sound.
                  record {
                    meaning = rw (keeps, turn_pushed setting word sound room);
                    sound = sound_pushed setting word sound room;
                    unchanged = λ stuck_there. cc;
                  };
            })
        by (no full) =
            let stays = put.full (omega arith) in
            rw (stays.0, stays.1)
            (record {
              kept = λ setting store values value_height copied keeps sound.
                  record { meaning = rw (keeps, no_turn_pushed setting word sound (omega arith)); sound = sound; unchanged = λ _. refl };
            })

  -- and where they are not
  pub keeps_none : {count height : ℕ} {turns : List ℕ} → KeepsCount A count false turns height turns (Ok height)
  keeps_none =
      record {
        kept = λ setting store values value_height copied keeps sound.
            record { meaning = rw keeps; sound = sound; unchanged = λ stuck_there. cc };
      }

  -- ---- kind 7

  module _ {a b : ℕ} {store : List A.Carrier} where
    pub compares : {picked : Branch} {x y : A.Carrier} → x ≡ get_or store a x → y ≡ get_or store b y → a < length store → b < length store
        → branch_of picked ≡ some (A.less x y)
        → Compares A a b store picked
    unfolding tested compared
    compares {x = x} {y = y} first_is second_is first second picks =
        record {
          tests = λ setting values height turns turn_height copied sound.
              record { meaning = rw (picks, place_there store a x first, place_there store b y second, ← first_is, ← second_is); sound = sound; unchanged = λ _. refl };
        }

  -- ---- kind 15

  module _ {turns : List ℕ} where
    take_turn_top : {top : ℕ} {branched : Result (Branch × ℕ) Stuck} {first : Bool} → top < length turns
        → turn_of branched ≡ some first
        → height_branched branched (suc top) ≡ top
        → eqb (get_or turns top 0) 1 ≡ first
        → TakesTurn A turns (suc top) (set turns top 0) branched
    unfolding tested
    take_turn_top {top} there picks lowers is =
        record {
          tests = λ setting store values value_height copied sound.
              rw (picks, lowers)
              (record {
                meaning = rw (stack_top top turns 0 there, is, stack_below top turns 0);
                sound =
                    record {
                      values = sound.values;
                      turns = taken_off 0 top turns sound.turns;
                      value_room = sound.value_room;
                      turn_room = rw length-set sound.turn_room;
                    };
                unchanged = λ none. cc;
              });
        }

    module _ {height top : ℕ} (is : height ≡ suc top) (there : top < length turns) where
      pub take_turn_first : eqb (get_or turns top 0) 1 ≡ true → TakesTurn A turns height (set turns top 0) (Ok (branch_as.First, top))
      take_turn_first one = rw is (take_turn_top there refl refl one)

      pub take_turn_second : eqb (get_or turns top 0) 1 ≡ false → TakesTurn A turns height (set turns top 0) (Ok (branch_as.Second, top))
      take_turn_second other = rw is (take_turn_top there refl refl other)

    module _ {height : ℕ} where
      pub take_turn_above : length turns < height → TakesTurn A turns height turns (Err is_stuck)
      take_turn_above h =
          record {
            tests = λ setting store values value_height copied sound.
                let within = sound.turns.within in
                absurd (omega arith);
          }

      pub take_turn_empty : height ≡ 0 → TakesTurn A turns height turns (Err is_stuck)
      unfolding tested
      take_turn_empty is =
          record {
            tests = λ setting store values value_height copied sound. record { meaning = rw is; sound = sound; unchanged = λ _. refl };
          }
