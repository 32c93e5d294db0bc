-- How a walk over the rows in a set's direction finds the set at every point: row by row in turn, and back from the far end of a repeat to its near end
-- while the set there grows.
use Rattle.std.specs.Prelude.{ℕ, suc, ◌+◌, ◌-◌, ◌≤◌, ◌<◌, ◌≡◌, Bool, true, false, ◌||◌, cond, List, get_or, set, replicate, length as List·length}
use Rattle.sheet.specs.Inner.Kinds.{part_for}
use Rattle.sheet.specs.declared.kinds.Part.{Part}
use Rattle.sheet.specs.declared.kinds.Part.TheVariants as part
use Rattle.sheet.specs.Inner.Words.{word_values}
use Rattle.sets.specs.declared.walk.WalkedTo.{WalkedTo}
use Rattle.sets.specs.Inner.Analyses.{Which, goes_back}
use Rattle.sets.specs.VariableSets.{VariableSet, empty, ◌∪◌}
use Rattle.sets.specs.Equations.{Equation, joins, right_side}
use Rattle.sets.specs.Rounds.{set_at}
use Rattle.sets.specs.Inner.ProperEquations.{Proper}
use Rattle.sets.specs.Inner.RowEquations.{Given, row_in, equation_in, row_in_turn, own_point, settled_point, splits, joins_by, block_side}
use Rattle.sets.specs.Inner.RowEquations.{all_equations, seed_in}

-- the point where the i-th row in turn takes its own set
unfoldable pub place_in_turn : Which → (rows turn : ℕ) → ℕ
place_in_turn which n i = cond (goes_back which) (n - i) i

-- a repeat's far end: where sets are found from the first row on, and from the last to the first
abbrev pub ends_on : Part → Bool
ends_on part.Assignment = false
ends_on part.If = false
ends_on part.Else = false
ends_on part.EndIf = false
ends_on part.Repeat = false
ends_on part.EndRepeat = true

abbrev pub ends_back : Part → Bool
ends_back part.Assignment = false
ends_back part.If = false
ends_back part.Else = false
ends_back part.EndIf = false
ends_back part.Repeat = true
ends_back part.EndRepeat = false

unfoldable pub ends_repeat : Which → Part → Bool
ends_repeat which part = cond (goes_back which) (ends_back part) (ends_on part)

-- a row whose equation asks its partner's set
abbrev pub asks_partner : Which → Part → Bool
asks_partner which part = ends_repeat which part || (splits part || joins_by which part)

-- what such a row puts into the set that it settles: a loop's far end the set at a point that its partner is
abbrev pub side_by : Which → Part → (own other there : VariableSet) → VariableSet
side_by which part own other there = cond (ends_repeat which part) there (block_side which part own other)

-- what a row is to the blocks
abbrev pub part_in : Given → ℕ → Part
part_in given p = part_for (row_in given p).kind

-- the i-th row in turn and its equation
abbrev pub in_turn : Which → Given → (rows turn : ℕ) → Equation
in_turn which given n i = equation_in which given (row_in_turn which n i)

-- a right side that asks no set beyond the i-th row in turn
abbrev pub Behind : Which → (rows turn : ℕ) → Equation → Type 0
Behind which n i e = (at at' : ℕ → VariableSet) → ((j : ℕ) → j ≤ i → at (place_in_turn which n j) ≡ at' (place_in_turn which n j))
    → right_side e at ≡ right_side e at'

-- the row is a repeat's far end, and `others` has its near end
pub record FarEnd (which : Which) (given : Given) (others : List ℕ) (near far : ℕ) : Type 0 where
  pub ends : ends_repeat which (part_in given far) ≡ true
  pub near_is : get_or others far 0 ≡ near
  pub equation : equation_in which given near ≡ joins (own_point which near) (own_point which far) (settled_point which near)

-- the i-th equation in turn asks what lies behind, or is that of a repeat's near end
pub data Asks (which : Which) (given : Given) (others : List ℕ) (n i : ℕ) : Type 0 where
  behind : Behind which n i (in_turn which given n i) → Asks which given others n i
  around : (c : ℕ) → i < c → c < n → FarEnd which given others (row_in_turn which n i) (row_in_turn which n c) → Asks which given others n i

-- how a sheet's rows hang together
pub record Wired (which : Which) (given : Given) (others : List ℕ) (n : ℕ) : Type 0 where
  pub taken : (p : ℕ) → p < n → asks_partner which (part_in given p) ≡ true → get_or given.partners p 0 < n
  pub back : (i : ℕ) → i < n → ends_repeat which (part_in given (row_in_turn which n i)) ≡ true
      → let near = get_or others (row_in_turn which n i) 0 in
      (near < n) × (row_in_turn which n near < i) × FarEnd which given others near (row_in_turn which n i)
  pub asks : (i : ℕ) → i < n → Asks which given others n i

-- what a far end brings to its near end is there already
abbrev pub Brought : Which → List VariableSet → (near far : ℕ) → Type 0
Brought which sets near far =
    let kept = set_at sets (settled_point which near) in kept ∪ set_at sets (own_point which far) ≡ kept

-- the row whose equation is due and that equation's right side: this row's own, or, if this is a repeat's far end and brings more, that of its near end
pub data Due (which : Which) (part : Part) (side : VariableSet) (row : ℕ) (others : List ℕ) (sets : List VariableSet) (due : ℕ) (more : VariableSet) : Type 0 where
  onward : due ≡ row → more ≡ side → (ends_repeat which part ≡ true → Brought which sets (get_or others row 0) row) → Due which part side row others sets due more
  backward : due ≡ get_or others row 0 → more ≡ set_at sets (own_point which (get_or others row 0)) ∪ set_at sets (own_point which row) → ends_repeat which part ≡ true
      → (Brought which sets (get_or others row 0) row → ⊥) → Due which part side row others sets due more

-- the set at a point grew, and r is what stands there now
pub record Grown (before : List VariableSet) (point : ℕ) (more : VariableSet) (after : List VariableSet) (r : VariableSet) : Type 0 where
  pub stored : after ≡ set before point (set_at before point ∪ more)
  pub stands : r ≡ set_at after point

-- a row was passed: the right side that was due is stored, and this is how far the walk has come
pub record PassedRow (which : Which) (part : Part) (side : VariableSet) (rows row : ℕ) (others : List ℕ) (before after : List VariableSet) (reached : WalkedTo) : Type 0 where
  pub due : ℕ
  pub more : VariableSet
  pub is_due : Due which part side row others before due more
  pub grown : Grown before (settled_point which due) more after reached.own
  pub turns : reached.turn ≡ row_in_turn which rows due + 1

-- what the code needs to see whether a row brings more to its partner, and what it sees
pub record Judging (which : Which) (part : Part) (row : ℕ) (others : List ℕ) (sets : List VariableSet) (own : VariableSet) : Type 0 where
  pub others_there : row < List·length others
  pub in_hand : own ≡ set_at sets (own_point which row)
  pub back : ends_repeat which part ≡ true → suc (get_or others row 0) < List·length sets

pub record Brings (which : Which) (part : Part) (row : ℕ) (others : List ℕ) (sets : List VariableSet) (r : Bool) : Type 0 where
  pub more : r ≡ true → (ends_repeat which part ≡ true) × (Brought which sets (get_or others row 0) row → ⊥)
  pub nothing : r ≡ false → ends_repeat which part ≡ true → Brought which sets (get_or others row 0) row

-- what it needs to pass a row of a block
pub record AtBlock (which : Which) (part : Part) (rows row : ℕ) (partners others : List ℕ) (sets : List VariableSet) (reached : WalkedTo) : Type 0 where
  pub judging : Judging which part row others sets reached.own
  pub turns : reached.turn ≡ row_in_turn which rows row
  pub below : row < rows
  pub numbered : row < word_values
  pub long : List·length sets ≡ suc rows
  pub partnered : row < List·length partners
  pub taken : asks_partner which part ≡ true → get_or partners row 0 < rows

-- that row's own right side
abbrev pub own_side : Which → Part → (row : ℕ) (partners : List ℕ) → List VariableSet → VariableSet
own_side which part row partners sets =
    let c = get_or partners row 0 in
    side_by which part (set_at sets (own_point which row)) (set_at sets (own_point which c)) (set_at sets c)

-- what the code needs to settle the sets
pub record Settles (which : Which) (given : Given) (others : List ℕ) (rows variables : ℕ) (sets : List VariableSet) : Type 0 where
  -- nothing is found yet: an empty set at every point
  pub clear : sets ≡ replicate (suc rows) empty
  pub partnered : rows ≤ List·length given.partners
  pub others_there : rows ≤ List·length others
  pub proper : Proper variables (suc rows) (all_equations which given rows (seed_in which given.words variables))
  pub wired : Wired which given others rows
