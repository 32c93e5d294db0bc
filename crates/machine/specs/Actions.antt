-- The written meaning of each single row of a table, over any arithmetic.
use Rattle.std.specs.Prelude.{ℕ, zero, suc, ◌*◌, Bool, cond, List, [], ◌∷◌, ◌++◌, get_or, length, set, eqb, ltb}
use Rattle.std.proofs.Math.Option.{Option, none, some}
use Rattle.std.proofs.Math.ListN.{take, drop, get_elem?}
use Rattle.number.specs.Arithmetic.{Arithmetic, Outcome, value, stop, over, signed}
use Rattle.sheet.specs.Rows.{◌≔◌, Source, copy, fixed, sum, difference, product, negation, quotient, Test, less, is_dependent}
use Rattle.table.specs.TableRows.{Action, assign, save, take_back, save_turn, clear, turn_round, TableTest, whether, on_turn, turn_word, Origin}

-- What trying a row comes to: it went through, the arithmetic stopped it, or it is stuck. Being stuck is an outcome of its own.
pub data Attempt (Why X : Type 0) : Type 0 where
  through : X → Attempt Why X
  halted : Why → Attempt Why X
  stuck : Attempt Why X

module _ {Why : Type 0} where
  infixl 30 ◌>>=◌
  abbrev pub ◌>>=◌ : {X Y : Type 0} → Attempt Why X → (X → Attempt Why Y) → Attempt Why Y
  through x >>= next = next x
  halted why >>= next = halted why
  stuck >>= next = stuck

  abbrev pub from_outcome : {X : Type 0} → Outcome X Why → Attempt Why X
  from_outcome (value x) = through x
  from_outcome (stop why) = halted why

  abbrev pub present : {X : Type 0} → Option X → Attempt Why X
  present none = stuck
  present (some x) = through x

  -- what stands at a place, and the list with another thing there: an unknown place is stuck
  abbrev pub look : {X : Type 0} → List X → ℕ → Attempt Why X
  look xs i = present (get_elem? xs i)

  abbrev pub replaced : {X : Type 0} → List X → ℕ → X → Attempt Why (List X)
  replaced xs i x = cond (ltb i (length xs)) (through (set xs i x)) stuck

  -- onto a stack of so many places, top first: a full one is stuck
  abbrev pub pushed : {X : Type 0} → (room : ℕ) → X → List X → Attempt Why (List X)
  pushed room x stack = cond (ltb (length stack) room) (through (x ∷ stack)) stuck

  -- m + 1 turns, one after the other, and then what follows
  unfoldable pub turns_then : {X Y : Type 0} → ℕ → (turn : X → Attempt Why X) → (rest : X → Attempt Why Y) → X → Attempt Why Y
  turns_then zero turn rest x = turn x >>= rest
  turns_then (suc m) turn rest x = turn x >>= turns_then m turn rest

  -- A loop with a test: so many turns done, at most so many still to come, the test before each. `ends n` is what is done when it ends after n turns.
  unfoldable pub while_then : {X Y : Type 0} → (holds : X → Option Bool) → (turn : X → Attempt Why X) → (ends : ℕ → X → Attempt Why X)
      → (rest : X → Attempt Why Y) → (turns_done left : ℕ) → X → Attempt Why Y
  while_then holds turn ends rest n zero x = ends n x >>= rest
  while_then holds turn ends rest n (suc left) x = do
    more ← present (holds x)
    cond more (turn x >>= while_then holds turn ends rest (suc n) left) (ends n x >>= rest)

module _ (A : Arithmetic) where
  -- what a run works on: the 2V + 2 variables, both stacks, top first, and the values that row 17 copies out
  pub record Memory : Type 0 where
    pub store : List A.Carrier
    pub values : List A.Carrier
    pub turns : List ℕ
    pub copied : List A.Carrier

  -- what stays as it is during a run
  pub record Setting : Type 0 where
    pub variables : ℕ
    pub roles : List ℕ
    pub constants : List ℕ
    pub seeds : List A.Carrier
    pub value_room : ℕ
    pub turn_room : ℕ
    -- whether a loop with a test puts away how many turns it did: an adjoint table's does, a tangent table's doesn't (02 §6)
    pub keeps_counts : Bool

  abbrev pub Try : Type 0 → Type 0
  Try X = Attempt A.Why X

  -- the right side of an assignment
  unfoldable pub evaluated : (constants : List ℕ) → Source → List A.Carrier → Try A.Carrier
  unfolding signed
  evaluated constants (copy a) store = look store a
  evaluated constants (fixed c) store = do
    word ← look constants c
    through (A.constant (signed word))
  evaluated constants (sum a b) store = do
    x ← look store a
    y ← look store b
    from_outcome (A.sum x y)
  evaluated constants (difference a b) store = do
    x ← look store a
    y ← look store b
    from_outcome (A.difference x y)
  evaluated constants (product a b) store = do
    x ← look store a
    y ← look store b
    from_outcome (A.product x y)
  evaluated constants (negation a) store = do
    x ← look store a
    from_outcome (A.negation x)
  -- an arithmetic without quotients is stuck here, which 13 rules out (02 §4)
  evaluated constants (quotient a b) store = do
    x ← look store a
    y ← look store b
    outcome ← present (over A.quotient x y)
    from_outcome outcome

  abbrev pub with_store : Memory → List A.Carrier → Memory
  with_store memory store = record { store = store; values = memory.values; turns = memory.turns; copied = memory.copied }

  abbrev pub stored : Memory → ℕ → A.Carrier → Try Memory
  stored memory d x = do
    store ← replaced memory.store d x
    through (with_store memory store)

  abbrev pub saved : ℕ → Memory → A.Carrier → Try Memory
  saved room memory x = do
    values ← pushed room x memory.values
    through (record { store = memory.store; values = values; turns = memory.turns; copied = memory.copied })

  abbrev pub turn_saved : ℕ → Memory → ℕ → Try Memory
  turn_saved room memory turn = do
    turns ← pushed room turn memory.turns
    through (record { store = memory.store; values = memory.values; turns = turns; copied = memory.copied })

  abbrev pub with_turns : Memory → List ℕ → Memory
  with_turns memory turns = record { store = memory.store; values = memory.values; turns = turns; copied = memory.copied }

  -- "When the loop ends, its own row puts the turns done, 0 to d, on the turn stack"; "In a tangent table kind 19 puts nothing away" (02 §6)
  abbrev pub count_kept : {Why : Type 0} → Setting → (count : ℕ) → Memory → Attempt Why Memory
  count_kept setting count memory =
      cond setting.keeps_counts
      (do
        turns ← pushed setting.turn_room count memory.turns
        through (with_turns memory turns))
      (through memory)

  -- a take from an empty stack is stuck
  abbrev pub restored : Memory → ℕ → List A.Carrier → Try Memory
  restored memory d [] = stuck
  restored memory d (x ∷ values) = stored (record { store = memory.store; values = values; turns = memory.turns; copied = memory.copied }) d x

  -- the numbers where the role counts, zeros elsewhere
  unfoldable pub counting : (counts : ℕ → Bool) → (roles : List ℕ) → (numbers : List A.Carrier) → List A.Carrier
  counting counts [] numbers = []
  counting counts (role ∷ roles) numbers = cond (counts role) (get_or numbers 0 A.zero) A.zero ∷ counting counts roles (drop 1 numbers)

  -- "sets every adjoint to 0 and then each dependent's adjoint to its seed"
  abbrev pub seeded : (roles : List ℕ) → (seeds : List A.Carrier) → List A.Carrier
  seeded roles seeds = counting is_dependent roles seeds

  -- "It copies out the V original values, sets every adjoint to 0 and then each dependent's adjoint to its seed."
  unfoldable pub turned_round : Setting → Memory → Memory
  unfolding counting
  turned_round setting memory =
      let originals = take setting.variables memory.store in
      record {
        store = originals ++ seeded setting.roles setting.seeds ++ drop (2 * setting.variables) memory.store;
        values = memory.values;
        turns = memory.turns;
        copied = originals;
      }

  unfoldable pub acted : Setting → Action → Memory → Try Memory
  unfolding evaluated turned_round
  acted setting (assign (d ≔ source)) memory = do
    x ← evaluated setting.constants source memory.store
    stored memory d x
  acted setting (save d) memory = do
    x ← look memory.store d
    saved setting.value_room memory x
  acted setting (take_back d) memory = restored memory d memory.values
  acted setting (save_turn first) memory = turn_saved setting.turn_room memory (turn_word first)
  acted setting (clear d) memory = stored memory d A.zero
  acted setting turn_round memory = through (turned_round setting memory)

  -- a stop: the row and the operation that it comes from, and why
  pub record Stop : Type 0 where
    pub origin : Origin
    pub why : A.Why

  -- an attempt whose stop says where it comes from
  abbrev pub stopping_at : {X : Type 0} → Origin → Try X → Attempt Stop X
  stopping_at origin (through x) = through x
  stopping_at origin (halted why) = halted (record { origin = origin; why = why })
  stopping_at origin stuck = stuck

  -- "if value a < value b, strictly"; none where a variable is unknown
  abbrev pub less_of : Option A.Carrier → Option A.Carrier → Option Bool
  less_of none y = none
  less_of (some x) none = none
  less_of (some x) (some y) = some (A.less x y)

  unfoldable pub compared : Test → List A.Carrier → Option Bool
  compared (less a b) store = less_of (get_elem? store a) (get_elem? store b)

  -- a test: whether the first branch is taken, and what is left. It does no arithmetic, so nothing can stop it.
  pub record Verdict : Type 0 where
    pub first : Bool
    pub memory : Memory

  abbrev pub verdict_on : Memory → Option Bool → Option Verdict
  verdict_on memory none = none
  verdict_on memory (some first) = some (record { first = first; memory = memory })

  -- "1 takes the first branch"; a take from an empty stack gives nothing
  abbrev pub turn_taken : Memory → List ℕ → Option Verdict
  turn_taken memory [] = none
  turn_taken memory (turn ∷ turns) =
      some
      (record {
        first = eqb turn 1;
        memory = record { store = memory.store; values = memory.values; turns = turns; copied = memory.copied };
      })

  unfoldable pub tested : TableTest → Memory → Option Verdict
  unfolding compared
  tested (whether f) memory = verdict_on memory (compared f memory.store)
  tested on_turn memory = turn_taken memory memory.turns
