-- A row's contract settles its answer and every cell of every buffer: any two results that it permits coincide.
use Prim.Native.Nat.{ℕ, ◌-◌}
use mathlib.Core.Path.{◌≡◌, refl, sym, ap, ◌∙◌}
use mathlib.Core.Bool.{Bool}
use mathlib.Core.List.{List, ◌++◌, reverse, reverse-reverse}
use mathlib.Core.Option.{Option, none, some}
use native.Mathlib.Omega.{arith}
use lib.ListN.{length, take, drop, replicate, take-append-drop}
use Rattle.number.specs.Arithmetic.{Arithmetic}
use Rattle.table.specs.TableRows.{Action, TableTest}
use Rattle.machine.specs.Actions.{Attempt, through, halted, stuck, Memory, Setting, Try, Verdict}
use Rattle.machine.specs.Inner.Buffers.{Buffers, memory_of, Sound, Does, Tests, stack_of, Stack}
use Rattle.machine.proofs.StackLaws.{stack_length}

module _ {X : Type 0} (zero : X) where
  -- a stack's height is its length, and its cells are the stack from the bottom up and zeros
  stack_cells : (height : ℕ) (cells : List X) → Stack zero height cells
      → cells ≡ reverse (stack_of height cells) ++ replicate (length cells - height) zero
  stack_cells height cells stack =
      sym (take-append-drop height cells)
      ∙ ap (λ l. l ++ drop height cells) (sym (reverse-reverse (take height cells)))
      ∙ ap (λ l. reverse (stack_of height cells) ++ l) stack.above

  stack_height : (height height' : ℕ) (cells cells' : List X) → Stack zero height cells → Stack zero height' cells'
      → stack_of height cells ≡ stack_of height' cells'
      → height ≡ height'
  stack_height height height' cells cells' stack stack' same =
      sym (stack_length height cells stack.within) ∙ ap length same ∙ stack_length height' cells' stack'.within

  stack_pinned : (height height' : ℕ) (cells cells' : List X) → Stack zero height cells → Stack zero height' cells'
      → length cells ≡ length cells'
      → stack_of height cells ≡ stack_of height' cells'
      → cells ≡ cells'
  stack_pinned height height' cells cells' stack stack' lengths same =
      let heights = stack_height height height' cells cells' stack stack' same in
      stack_cells height cells stack
      ∙ ap (λ l. reverse l ++ replicate (length cells - height) zero) same
      ∙ ap (λ n. reverse (stack_of height' cells') ++ replicate (n - height) zero) lengths
      ∙ ap (λ n. reverse (stack_of height' cells') ++ replicate (length cells' - n) zero) heights
      ∙ sym (stack_cells height' cells' stack')

module _ {Why : Type 0} where
  pub halted_apart : (why : Why) → ◌≡◌ {A = Attempt Why (Unit {0})} (halted why) (through tt) → ⊥
  halted_apart why is = let z : ◌≡◌ {A = ℕ} 0 1 = cc in omega arith

  pub stuck_apart : ◌≡◌ {A = Attempt Why (Unit {0})} stuck (through tt) → ⊥
  stuck_apart is = let z : ◌≡◌ {A = ℕ} 0 1 = cc in omega arith

abbrev verdict_of : (A : Arithmetic) → Bool → Memory A → Verdict A
verdict_of A first memory = record { first = first; memory = memory }

module _ (A : Arithmetic) (setting : Setting A) where
  rebuilt : (b : Buffers A) (store values : List A.Carrier) (height : ℕ) (turns : List ℕ) (turn_height : ℕ) (copied : List A.Carrier)
      → b.store ≡ store
      → b.values ≡ values
      → b.height ≡ height
      → b.turns ≡ turns
      → b.turn_height ≡ turn_height
      → b.copied ≡ copied
      → b ≡ record { store = store; values = values; height = height; turns = turns; turn_height = turn_height; copied = copied }
  rebuilt b store values height turns turn_height copied s v h t th c = rw (sym s, sym v, sym h, sym t, sym th, sym c)

  -- sound buffers that stand for the same memory are the same
  pub buffers_pinned : (b b' : Buffers A) → Sound A setting b → Sound A setting b' → memory_of A b ≡ memory_of A b' → b ≡ b'
  buffers_pinned b b' sound sound' same =
      let values = ap (λ m. m.values) same in
      let turns = ap (λ m. m.turns) same in
      rebuilt b b'.store b'.values b'.height b'.turns b'.turn_height b'.copied
      (ap (λ m. m.store) same)
      (stack_pinned A.zero b.height b'.height b.values b'.values sound.values sound'.values
      (sym sound.value_room ∙ sound'.value_room) values)
      (stack_height A.zero b.height b'.height b.values b'.values sound.values sound'.values values)
      (stack_pinned 0 b.turn_height b'.turn_height b.turns b'.turns sound.turns sound'.turns
      (sym sound.turn_room ∙ sound'.turn_room) turns)
      (stack_height 0 b.turn_height b'.turn_height b.turns b'.turns sound.turns sound'.turns turns)
      (ap (λ m. m.copied) same)

  module _ (action : Action) (before : Buffers A) where
    -- one clause for each pair of answers: all but three contradict the row's meaning
    pub does_pinned : (went went' : Try A (Unit {0})) (after after' : Buffers A)
        → Does A setting action before after went
        → Does A setting action before after' went'
        → (went ≡ went') × (after ≡ after')
    does_pinned (through u) (through u') after after' d d' =
        let same : memory_of A after ≡ memory_of A after' = cc in
        (refl, buffers_pinned after after' d.sound d'.sound same)
    does_pinned (through u) (halted why) after after' d d' = let z : ◌≡◌ {A = ℕ} 0 1 = cc in absurd (omega arith)
    does_pinned (through u) stuck after after' d d' = let z : ◌≡◌ {A = ℕ} 0 1 = cc in absurd (omega arith)
    does_pinned (halted why) (through u) after after' d d' = let z : ◌≡◌ {A = ℕ} 0 1 = cc in absurd (omega arith)
    does_pinned (halted why) stuck after after' d d' = let z : ◌≡◌ {A = ℕ} 0 1 = cc in absurd (omega arith)
    does_pinned stuck (through u) after after' d d' = let z : ◌≡◌ {A = ℕ} 0 1 = cc in absurd (omega arith)
    does_pinned stuck (halted why) after after' d d' = let z : ◌≡◌ {A = ℕ} 0 1 = cc in absurd (omega arith)
    does_pinned (halted why) (halted why') after after' d d' = (cc, d.unchanged (halted_apart why) ∙ sym (d'.unchanged (halted_apart why')))
    does_pinned stuck stuck after after' d d' = (refl, d.unchanged stuck_apart ∙ sym (d'.unchanged stuck_apart))

  module _ (test : TableTest) (before : Buffers A) where
    pub tests_pinned : (answer answer' : Option Bool) (after after' : Buffers A)
        → Tests A setting test before after answer
        → Tests A setting test before after' answer'
        → (answer ≡ answer') × (after ≡ after')
    tests_pinned (some first) (some first') after after' t t' =
        let same : verdict_of A first (memory_of A after) ≡ verdict_of A first' (memory_of A after') = cc in
        (ap (λ v. some v.first) same, buffers_pinned after after' t.sound t'.sound (ap (λ v. v.memory) same))
    tests_pinned (some first) none after after' t t' = let z : ◌≡◌ {A = ℕ} 0 1 = cc in absurd (omega arith)
    tests_pinned none (some first) after after' t t' = let z : ◌≡◌ {A = ℕ} 0 1 = cc in absurd (omega arith)
    tests_pinned none none after after' t t' = (refl, t.unchanged refl ∙ sym (t'.unchanged refl))
