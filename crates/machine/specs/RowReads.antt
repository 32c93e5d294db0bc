-- What derivative rows read: each one that the machine executes, with the original values that it reads, in the order of execution.
use Prim.Native.Nat.{ℕ, zero, suc}
use Rattle.std.specs.Prelude.{Bool, true, false, cond, get_or, drop, ltb}
use mathlib.Core.List.{List, [], ◌∷◌, ◌++◌}
use Rattle.number.specs.Arithmetic.{Arithmetic}
use Rattle.sheet.specs.Tree.{basic, if_line, else_line, end_if, repeat, end_repeat}
use Rattle.sheet.specs.Rows.{◌≔◌, Source, copy, fixed, sum, difference, product, negation, quotient}
use Rattle.table.specs.TableRows.{TableRow, TableLine, Action, assign, save, take_back, save_turn, clear, turn_round, Operation, saving, itself, turning, taking_back, holding, clearing, scaling_for_a, adding_to_a, scaling_for_b, adding_to_b, dividing, dividing_for_b, rating_a, rating_b, rating, rating_over_b, rating_over_b_again, Origin, of_row, of_turning_round}
use Rattle.machine.specs.Actions.{Attempt, through, halted, stuck, Memory, Setting}
use Rattle.machine.specs.Machine.{State, Step, goes_on, ended, stops, sticks, state_after}

-- the rows of a derivative rule, as against saving, taking back and the sheet's own rows
abbrev pub is_derivative : Operation → Bool
is_derivative saving = false
is_derivative itself = false
is_derivative turning = false
is_derivative taking_back = false
is_derivative holding = true
is_derivative clearing = true
is_derivative scaling_for_a = true
is_derivative adding_to_a = true
is_derivative scaling_for_b = true
is_derivative adding_to_b = true
is_derivative dividing = true
is_derivative dividing_for_b = true
is_derivative rating_a = true
is_derivative rating_b = true
is_derivative rating = true
is_derivative rating_over_b = true
is_derivative rating_over_b_again = true

module _ (A : Arithmetic) where
  pub record Entry : Type 0 where
    pub origin : Origin
    pub reads : List A.Carrier

  -- ---- what one row reads of the originals, the variables below V

  abbrev pub original_at : (variables : ℕ) → ℕ → List A.Carrier → List A.Carrier
  original_at v i store = cond (ltb i v) (get_or store i A.zero ∷ []) []

  unfoldable pub originals_read : (variables : ℕ) → Source → List A.Carrier → List A.Carrier
  originals_read v (copy a) store = original_at v a store
  originals_read v (fixed c) store = []
  originals_read v (sum a b) store = original_at v a store ++ original_at v b store
  originals_read v (difference a b) store = original_at v a store ++ original_at v b store
  originals_read v (product a b) store = original_at v a store ++ original_at v b store
  originals_read v (negation a) store = original_at v a store
  originals_read v (quotient a b) store = original_at v a store ++ original_at v b store

  unfoldable pub reads_of : (variables : ℕ) → Action → List A.Carrier → List A.Carrier
  unfolding originals_read
  reads_of v (assign (d ≔ source)) store = originals_read v source store
  reads_of v (save d) store = []
  reads_of v (take_back d) store = []
  reads_of v (save_turn first) store = []
  reads_of v (clear d) store = []
  reads_of v turn_round store = []

  abbrev pub entry_if : Bool → Entry → List Entry
  entry_if true entry = entry ∷ []
  entry_if false entry = []

  abbrev pub noted_by : (variables : ℕ) → Origin → Action → Memory A → List Entry
  noted_by v (of_row row operation) action memory =
      entry_if (is_derivative operation) (record { origin = of_row row operation; reads = reads_of v action memory.store })
  noted_by v of_turning_round action memory = []

  abbrev pub noted : (variables : ℕ) → TableRow → Memory A → List Entry
  noted v row memory = noted_by v row.origin row.action memory

  -- ---- of the machine's steps

  abbrev pub noted_at : (variables : ℕ) → List TableLine → Memory A → List Entry
  noted_at v [] memory = []
  noted_at v (basic row ∷ rest) memory = noted v row memory
  noted_at v (if_line f ∷ rest) memory = []
  noted_at v (else_line ∷ rest) memory = []
  noted_at v (end_if ∷ rest) memory = []
  noted_at v (repeat m ∷ rest) memory = []
  noted_at v (end_repeat ∷ rest) memory = []

  abbrev pub on_next : Step A → (State A → List Entry) → List Entry
  on_next (goes_on next) log = log next
  on_next (ended memory) log = []
  on_next (stops row stop) log = []
  on_next sticks log = []

  -- what n steps in turn note: each notes the row that the steps before it lead to, if they go on
  unfoldable pub machine_log : (steps : ℕ) → Setting A → List TableLine → State A → List Entry
  unfolding reads_of state_after
  machine_log zero setting lines state = []
  machine_log (suc n) setting lines state =
      machine_log n setting lines state
      ++ on_next (state_after A n setting lines state) (λ next. noted_at setting.variables (drop next.at.index lines) next.memory)

  -- nothing is noted after what doesn't go through
  abbrev pub on_through : {W X : Type 0} → Attempt W X → (X → List Entry) → List Entry
  on_through (through x) log = log x
  on_through (halted why) log = []
  on_through stuck log = []
