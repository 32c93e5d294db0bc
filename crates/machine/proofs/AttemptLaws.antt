-- Attempts in turn: what one that went through was made of, and what follows one that isn't stuck.
use Prim.Native.Nat.{◌<◌, ℕ, zero, suc}
use mathlib.Core.Bool.{Bool, cond, false, true}
use mathlib.Core.List.{List}
use mathlib.Core.Option.{Option, none, some}
use mathlib.Core.Path.{◌≡◌, refl}
use lib.Dec.{ltb, ltb→lt}
use lib.ListN.{length, set}
use native.Mathlib.Omega.{arith}
use Rattle.number.specs.Arithmetic.{Arithmetic, Outcome, stop, value}
use Rattle.table.specs.TableRows.{Origin}
use Rattle.machine.specs.Actions.{Attempt, ◌>>=◌, halted, present, replaced, stuck, through, from_outcome, stopping_at, turns_then, while_then}

pub bind_assoc : {W X Y Z : Type 0} (m : Attempt W X) (f : X → Attempt W Y) (g : Y → Attempt W Z) → (m >>= f >>= g) ≡ (m >>= λ x. f x >>= g)
bind_assoc (through x) f g = refl
bind_assoc (halted why) f g = refl
bind_assoc stuck f g = refl

pub bind_same : {W X Y : Type 0} (m : Attempt W X) (f g : X → Attempt W Y) → ((x : X) → m ≡ through x → f x ≡ g x) → (m >>= f) ≡ (m >>= g)
bind_same (through x) f g h = h x refl
bind_same (halted why) f g h = refl
bind_same stuck f g h = refl

-- a part that comes to where another comes to, and then what follows
pub in_turn_lem : {W P M Y Z : Type 0} (part : Attempt W M) (run : Attempt W P) (memory : P → M) (rest : M → Attempt W Z) (next : P → Attempt W Y)
    (after : Y → Attempt W Z) → part ≡ (run >>= λ m. through (memory m)) → ((m : P) → run ≡ through m → rest (memory m) ≡ (next m >>= after))
    → (part >>= rest) ≡ (run >>= next >>= after)
in_turn_lem part (through m) memory rest next after e h = rw e (h m refl)
in_turn_lem part (halted why) memory rest next after e h = rw e refl
in_turn_lem part stuck memory rest next after e h = rw e refl

-- Two loops with a test in step: each turn of the first comes to where the second's comes to. `Known` is what is known with so many turns to come.
module _ {W P M Y Z : Type 0} (memory : P → M) (holds : M → Option Bool) (turn : M → Attempt W M) (ends : ℕ → M → Attempt W M) (rest : M → Attempt W Z)
    (its_holds : P → Option Bool) (its_turn : P → Attempt W P) (its_ends : ℕ → P → Attempt W P) (next : P → Attempt W Y) (after : Y → Attempt W Z)
    (Known : ℕ → P → Type 0) where
  pub loops_in_step : ((left : ℕ) (x : P) → Known left x → holds (memory x) ≡ its_holds x)
      → ((left : ℕ) (x : P) → Known (suc left) x → turn (memory x) ≡ (its_turn x >>= λ m. through (memory m)))
      → ((left : ℕ) (x m : P) → Known (suc left) x → its_turn x ≡ through m → Known left m)
      → ((n left : ℕ) (x : P) → Known left x → (ends n (memory x) >>= rest) ≡ (its_ends n x >>= next >>= after))
      → (n left : ℕ) (x : P) → Known left x
      → while_then holds turn ends rest n left (memory x) ≡ (while_then its_holds its_turn its_ends next n left x >>= after)
  unfolding while_then
  loops_in_step asks turns keeps at_end n zero x known = at_end n 0 x known
  loops_in_step asks turns keeps at_end n (suc left) x known =
      rw (asks (suc left) x known)
      (by (its_holds x) (λ m e. loops_in_step asks turns keeps at_end (suc n) left m (keeps left x m known e)))
    where
      by : (o : Option Bool)
          → ((m : P) → its_turn x ≡ through m
          → while_then holds turn ends rest (suc n) left (memory m) ≡ (while_then its_holds its_turn its_ends next (suc n) left m >>= after))
          → (present o >>= λ more. cond more (turn (memory x) >>= while_then holds turn ends rest (suc n) left) (ends n (memory x) >>= rest))
          ≡ (present o >>= (λ more. cond more (its_turn x >>= while_then its_holds its_turn its_ends next (suc n) left) (its_ends n x >>= next)) >>= after)
      by none later = refl
      by (some true) later = in_turn_lem (turn (memory x)) (its_turn x) memory _ _ after (turns left x known) later
      by (some false) later = at_end n (suc left) x known

pub went : {W X Y : Type 0} (m : Attempt W X) (next : X → Attempt W Y) (y : Y) → (m >>= next) ≡ through y
    → (x : X) × (m ≡ through x) × (next x ≡ through y)
went (through x) next y e = (x, refl, e)
went (halted why) next y e = let z : ◌≡◌ {A = ℕ} 0 1 = cc in absurd (omega arith)
went stuck next y e = let z : ◌≡◌ {A = ℕ} 0 1 = cc in absurd (omega arith)

pub same_through : {W X : Type 0} {x y : X} → ◌≡◌ {A = Attempt W X} (through x) (through y) → x ≡ y
same_through e = cc

pub is_present : {W X : Type 0} (o : Option X) (x : X) → present {Why = W} o ≡ through x → o ≡ some x
is_present none x e = let z : ◌≡◌ {A = ℕ} 0 1 = cc in absurd (omega arith)
is_present (some y) x e = cc

module _ (A : Arithmetic) where
  pub came : {X : Type 0} (origin : Origin) (m : Attempt A.Why X) (x : X) → stopping_at A origin m ≡ through x → m ≡ through x
  came origin (through y) x e = cc
  came origin (halted why) x e = let z : ◌≡◌ {A = ℕ} 0 1 = cc in absurd (omega arith)
  came origin stuck x e = let z : ◌≡◌ {A = ℕ} 0 1 = cc in absurd (omega arith)

-- a store that was replaced at a place had that place
pub was_replaced : {W X : Type 0} (xs ys : List X) (i : ℕ) (x : X) → replaced {Why = W} xs i x ≡ through ys → (i < length xs) × (ys ≡ set xs i x)
was_replaced {W} {X} xs ys i x e = by_test (ltb i (length xs)) refl e
  where
    by_test : (b : Bool) → ltb i (length xs) ≡ b → cond {A = Attempt W (List X)} b (through (set xs i x)) stuck ≡ through ys → (i < length xs) × (ys ≡ set xs i x)
    by_test true p q = (ltb→lt i (length xs) (rw p tt), cc)
    by_test false p q = let z : ◌≡◌ {A = ℕ} 0 1 = cc in absurd (omega arith)

-- ---- what an attempt that isn't stuck comes to

pub data Ready {W X : Type 0} (m : Attempt W X) : Type 0 where
  gives : (x : X) → m ≡ through x → Ready m
  stops : (why : W) → m ≡ halted why → Ready m

pub from_outcome_ready : {W X : Type 0} (o : Outcome X W) → Ready (from_outcome o)
from_outcome_ready (value x) = gives x refl
from_outcome_ready (stop why) = stops why refl

-- one thing after another that isn't stuck
pub ready_then : {W X Y : Type 0} (m : Attempt W X) (next : X → Attempt W Y) → Ready m → ((x : X) → m ≡ through x → Ready (next x)) → Ready (m >>= next)
ready_then m next (gives x e) h = rw e (h x e)
ready_then m next (stops why e) h = rw e (stops why refl)

-- A loop with a test isn't stuck where its test has an answer, no turn is stuck, and neither is what follows: `Known` is what is known before each turn.
pub loop_ready : {W X Y : Type 0} (holds : X → Option Bool) (turn : X → Attempt W X) (ends : ℕ → X → Attempt W X) (rest : X → Attempt W Y)
    (Known : X → Type 0) → ((x : X) → Known x → (more : Bool) × (holds x ≡ some more)) → ((x : X) → Known x → Ready (turn x))
    → ((x m : X) → Known x → turn x ≡ through m → Known m) → ((n : ℕ) (x : X) → Known x → Ready (ends n x >>= rest))
    → (n left : ℕ) (x : X) → Known x → Ready (while_then holds turn ends rest n left x)
unfolding while_then
loop_ready holds turn ends rest Known asks turns keeps at_end n zero x known = at_end n x known
loop_ready holds turn ends rest Known asks turns keeps at_end n (suc left) x known =
    let answer = asks x known in
    rw answer.1
    (by answer.0
    (ready_then (turn x) _ (turns x known) (λ m e. loop_ready holds turn ends rest Known asks turns keeps at_end (suc n) left m (keeps x m known e))))
  where
    by : (more : Bool) → Ready (turn x >>= while_then holds turn ends rest (suc n) left)
        → Ready (cond more (turn x >>= while_then holds turn ends rest (suc n) left) (ends n x >>= rest))
    by true on = on
    by false on = at_end n x known

-- what comes after something that is stuck is stuck
stuck_first : {W X Y : Type 0} (m : Attempt W X) (next : X → Attempt W Y) → ((m >>= next) ≡ stuck → ⊥) → m ≡ stuck → ⊥
stuck_first m next unstuck e = unstuck (rw e refl)

-- a bind whose parts are the same unless they are stuck
pub bind_unless : {W X Y : Type 0} (m m' : Attempt W X) (f f' : X → Attempt W Y) → ((m ≡ stuck → ⊥) → m' ≡ m)
    → ((x : X) → (f x ≡ stuck → ⊥) → f' x ≡ f x) → ((m >>= f) ≡ stuck → ⊥) → (m' >>= f') ≡ (m >>= f)
bind_unless m m' f f' first then unstuck = rw (first (stuck_first m f unstuck)) (by_outcome m unstuck)
  where
    by_outcome : (m : Attempt _ _) → ((m >>= f) ≡ stuck → ⊥) → (m >>= f') ≡ (m >>= f)
    by_outcome (through x) unstuck = then x unstuck
    by_outcome (halted why) unstuck = refl
    by_outcome stuck unstuck = refl

-- one of two, the same unless it is stuck
pub cond_unless : {W X : Type 0} (first : Bool) (x x' y y' : Attempt W X) → ((x ≡ stuck → ⊥) → x' ≡ x) → ((y ≡ stuck → ⊥) → y' ≡ y)
    → (cond first x y ≡ stuck → ⊥) → cond first x' y' ≡ cond first x y
cond_unless true x x' y y' same other = same
cond_unless false x x' y y' same other = other

-- loops whose turns, ends and what follows are the same unless they are stuck
module _ {W X Y : Type 0} (turn turn' : X → Attempt W X) (rest rest' : X → Attempt W Y) (turns : (x : X) → (turn x ≡ stuck → ⊥) → turn' x ≡ turn x)
    (follows : (x : X) → (rest x ≡ stuck → ⊥) → rest' x ≡ rest x) where
  pub turns_unless : (m : ℕ) (x : X) → (turns_then m turn rest x ≡ stuck → ⊥) → turns_then m turn' rest' x ≡ turns_then m turn rest x
  unfolding turns_then
  turns_unless zero x = bind_unless (turn x) (turn' x) rest rest' (turns x) follows
  turns_unless (suc m) x = bind_unless (turn x) (turn' x) _ _ (turns x) (turns_unless m)

  pub while_unless : (holds : X → Option Bool) (ends ends' : ℕ → X → Attempt W X) → ((n : ℕ) (x : X) → (ends n x ≡ stuck → ⊥) → ends' n x ≡ ends n x)
      → (n left : ℕ) (x : X) → (while_then holds turn ends rest n left x ≡ stuck → ⊥)
      → while_then holds turn' ends' rest' n left x ≡ while_then holds turn ends rest n left x
  unfolding while_then
  while_unless holds ends ends' at_end n zero x = bind_unless (ends n x) (ends' n x) rest rest' (at_end n x) follows
  while_unless holds ends ends' at_end n (suc left) x =
      bind_unless (present (holds x)) (present (holds x)) _ _ (λ unstuck. refl)
      (λ more.
      cond_unless more _ _ _ _ (bind_unless (turn x) (turn' x) _ _ (turns x) (while_unless holds ends ends' at_end (suc n) left))
      (bind_unless (ends n x) (ends' n x) rest rest' (at_end n x) follows))
