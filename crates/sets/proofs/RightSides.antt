-- A row's right side, by what the row is to the blocks, and its points.
use Prim.Native.Nat.{ℕ, suc, ◌+◌, ◌<◌}
use native.Mathlib.Omega.{arith}
use native.Mathlib.Numerals.{add-one}
use mathlib.Core.Path.{◌≡◌, refl, sym}
use mathlib.Core.Bool.{false}
use mathlib.Core.List.{List}
use lib.Bits.{or_comm}
use Rattle.sheet.specs.Tree.{basic, if_line, else_line, end_if, repeat, end_repeat}
use Rattle.sheet.specs.Rows.{Assignment, SheetLine}
use Rattle.sheet.specs.Inner.Kinds.{assigns, part_of}
use Rattle.sets.specs.Inner.Analyses.{Which, Varied, Useful, Required}
use Rattle.sets.specs.VariableSets.{VariableSet}
use Rattle.sets.specs.Equations.{right_side, point_of}
use Rattle.sets.specs.Transfers.{Activity}
use Rattle.sets.specs.Rounds.{set_at}
use Rattle.sets.specs.Inner.RowEquations.{equation_of, forward_of, backward_of, turn_of, own_point, settled_point, joins_by}
use Rattle.sets.specs.Inner.RowEquations.{Given, equation_in, start_of}
use Rattle.sets.specs.Inner.Walks.{ends_repeat, side_by}

module _ (which : Which) (known : Activity) (sets : List VariableSet) (p c : ℕ) where
  abbrev side_of : SheetLine → VariableSet
  side_of l = right_side (equation_of which known l p c) (set_at sets)

  abbrev own : VariableSet
  own = set_at sets (own_point which p)

  abbrev other : VariableSet
  other = set_at sets (own_point which c)

pub assigned_side : (which : Which) (known : Activity) (sets : List VariableSet) (p c : ℕ) (b : Assignment)
    → turn_of which known b (own which known sets p c) ≡ side_of which known sets p c (basic b)
unfolding equation_of right_side own_point
assigned_side Varied known sets p c b = refl
assigned_side Useful known sets p c b = rw (add-one p)
assigned_side Required known sets p c b = refl

pub block_side : (which : Which) (known : Activity) (sets : List VariableSet) (p c : ℕ) (l : SheetLine) → assigns (part_of l) ≡ false
    → side_by which (part_of l) (own which known sets p c) (other which known sets p c) (set_at sets c) ≡ side_of which known sets p c l
unfolding equation_of right_side own_point joins_by ends_repeat
block_side which known sets p c (basic b) h = let z : ◌≡◌ {A = ℕ} 0 1 = cc in absurd (omega arith)
block_side Varied known sets p c (if_line f) h = refl
block_side Useful known sets p c (if_line f) h = rw (add-one p, add-one c)
block_side Required known sets p c (if_line f) h = refl
block_side Varied known sets p c else_line h = refl
block_side Useful known sets p c else_line h = rw (add-one c)
block_side Required known sets p c else_line h = refl
block_side Varied known sets p c end_if h = or_comm (set_at sets p) (set_at sets c)
block_side Useful known sets p c end_if h = rw (add-one p)
block_side Required known sets p c end_if h = or_comm (set_at sets p) (set_at sets c)
block_side Varied known sets p c (repeat m) h = refl
block_side Useful known sets p c (repeat m) h = refl
block_side Required known sets p c (repeat m) h = refl
block_side Varied known sets p c end_repeat h = refl
block_side Useful known sets p c end_repeat h = rw (add-one p, add-one c)
block_side Required known sets p c end_repeat h = refl

-- ---- a row's points are within the sets

pub own_below : (which : Which) (p size : ℕ) → suc p < size → own_point which p < size
unfolding own_point
own_below Varied p size h = omega arith
own_below Useful p size h = omega arith
own_below Required p size h = omega arith

pub settled_below : (which : Which) (p size : ℕ) → suc p < size → settled_point which p < size
unfolding settled_point
settled_below Varied p size h = omega arith
settled_below Useful p size h = omega arith
settled_below Required p size h = omega arith

pub start_below : (which : Which) (n size : ℕ) → n < size → start_of which n < size
unfolding start_of
start_below Varied n size h = omega arith
start_below Useful n size h = h
start_below Required n size h = omega arith

-- ---- the point that a row settles

forward_point : (turn : Assignment → VariableSet → VariableSet) (l : SheetLine) (p c : ℕ) → point_of (forward_of turn l p c) ≡ p + 1
unfolding forward_of point_of
forward_point turn (basic b) p c = omega arith
forward_point turn (if_line f) p c = omega arith
forward_point turn else_line p c = omega arith
forward_point turn end_if p c = omega arith
forward_point turn (repeat m) p c = omega arith
forward_point turn end_repeat p c = omega arith

backward_point : (turn : Assignment → VariableSet → VariableSet) (l : SheetLine) (p c : ℕ) → point_of (backward_of turn l p c) ≡ p
unfolding backward_of point_of
backward_point turn (basic b) p c = refl
backward_point turn (if_line f) p c = refl
backward_point turn else_line p c = refl
backward_point turn end_if p c = refl
backward_point turn (repeat m) p c = refl
backward_point turn end_repeat p c = refl

settled_of : (which : Which) (known : Activity) (l : SheetLine) (p c : ℕ) → settled_point which p ≡ point_of (equation_of which known l p c)
unfolding equation_of settled_point
settled_of Varied known l p c = sym (forward_point _ l p c)
settled_of Useful known l p c = sym (backward_point _ l p c)
settled_of Required known l p c = sym (forward_point _ l p c)

pub settled_in : (which : Which) (given : Given) (p : ℕ) → settled_point which p ≡ point_of (equation_in which given p)
unfolding equation_in
settled_in which given p = settled_of which _ _ p _
