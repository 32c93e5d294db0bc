-- The blocks that are open, by their W alone: what the reader keeps of them, and that a row does to that what it does to the blocks.
use Prim.Native.Nat.{ℕ, suc, ◌+◌, ◌*◌, ◌-◌, ◌<◌, max}
use Rattle.std.specs.Prelude.{Option, None, Some}
use mathlib.Core.Path.{◌≡◌, refl, sym, ◌∙◌}
use mathlib.Core.Bool.{Bool, true, false}
use mathlib.Core.List.{List, [], ◌∷◌}
use lib.ListN.{length, get_or, set}
use lib.Seq.{get_or-set_same, get_or-set_other}
use lib.Dec.{ltb}
use native.Mathlib.Omega.{arith}
use Rattle.sheet.specs.Bounds.{limit}
use Rattle.sheet.specs.Judging.{Answer, refused, given}
use Rattle.sheet.specs.Refusals.{bad_block}
use Rattle.sheet.specs.Tree.{most_turns, Tree, done, one, fork, again, basic, if_line, else_line, end_if, repeat, end_repeat, longest_run}
use Rattle.sheet.specs.Rows.{Assignment, Test, SheetLine}
use Rattle.sheet.specs.Reading.{Item, row, branches, repeated, Block, in_first, in_second, in_repeat, closed, RowsTaken}
use Rattle.sheet.specs.Reading.{entered, split_at, if_ended_at, repeat_ended_at, taken}
use Rattle.sheet.specs.Inner.Kinds.{part_of}
use Rattle.sheet.specs.Inner.Steps.{saturated, enter_of, split_of, if_end_of, repeat_end_of, step_of}
use Rattle.sheet.specs.declared.Open.{Open}
use Rattle.sheet.specs.declared.Open.TheVariants as block
use Rattle.sheet.specs.declared.Level.{Level}
use Rattle.sheet.specs.declared.Step.{Step}
use Rattle.sheet.specs.declared.Step.TheVariants as step
use Rattle.sheet.proofs.Judgements.{ltb_tells}
use Rattle.sheet.proofs.PartsRead.{turns_of}
use Rattle.sheet.proofs.Saturated.{saturated_sum, saturated_larger, saturated_product}

-- ---- what is kept

-- W of the items read in a block
abbrev pub items_run : List Item → ℕ
items_run [] = 0
items_run (row b ∷ items) = items_run items + 1
items_run (branches f a b ∷ items) = items_run items + (1 + max (longest_run a) (longest_run b))
items_run (repeated m a ∷ items) = items_run items + (1 + most_turns m * (1 + longest_run a))

closed_run : (items : List Item) (t : Tree Assignment Test) → longest_run (closed items t) ≡ items_run items + longest_run t
unfolding longest_run closed
closed_run [] t = omega arith
closed_run (row b ∷ items) t = omega (arith, closed_run items (one b t))
closed_run (branches f a b ∷ items) t = omega (arith, closed_run items (fork f a b t))
closed_run (repeated m a ∷ items) t = omega (arith, closed_run items (again m a t))

pub closed_done : (items : List Item) → longest_run (closed items done) ≡ items_run items
unfolding longest_run
closed_done items = omega (arith, closed_run items done)

-- the block that is being read
abbrev pub open_of : List Block → Open
open_of [] = block.Outermost
open_of (in_first f outer ∷ blocks) = block.First
open_of (in_second f a outer ∷ blocks) = block.Second (saturated (longest_run a))
open_of (in_repeat m outer ∷ blocks) = block.Turns (most_turns m)

abbrev pub level_of : List Block → List Item → Level
level_of blocks items = record { block = open_of blocks; longest = saturated (items_run items) }

-- what was read before a block was opened, in the one outside it
abbrev pub outside : Block → List Item
outside (in_first f outer) = outer
outside (in_second f a outer) = outer
outside (in_repeat m outer) = outer

abbrev pub bottom : Level
bottom = record { block = block.Outermost; longest = 0 }

-- entry n + 1 is the level n deep, for each block that is open
abbrev pub Stand : List Level → List Block → Type 0
Stand levels [] = Unit {0}
Stand levels (b ∷ blocks) = (get_or levels (suc (length blocks)) bottom ≡ level_of blocks (outside b)) × Stand levels blocks

stand_set : (levels : List Level) (i : ℕ) (l : Level) (blocks : List Block) → length blocks < i → Stand levels blocks
    → Stand (set levels i l) blocks
stand_set levels i l [] h s = tt
stand_set levels i l (b ∷ blocks) h s =
    (get_or-set_other levels i _ l bottom (λ e. omega arith) ∙ s.0, stand_set levels i l blocks (omega arith) s.1)

-- ---- one row more

-- the answer of one row, and the level that is being read after it
pub record Next (answer : Answer RowsTaken) (depth : ℕ) (l : Level) (Stands : List Block → Type 0) : Type 0 where
  pub next : RowsTaken
  pub is : answer ≡ given next
  pub deep : length next.blocks ≡ depth
  pub here : l ≡ level_of next.blocks next.items
  pub stands : Stands next.blocks

-- what a step has to say of the row's answer: blocks of some depth, with their levels, were open before
abbrev pub Follows : (place depth : ℕ) (levels : List Level) (inner : Level) → Option Step → Answer RowsTaken → Type 0
Follows place depth levels inner None answer = answer ≡ refused (bad_block place)
Follows place depth levels inner (Some (step.Stay l)) answer = Next answer depth l (Stand levels)
Follows place depth levels inner (Some (step.Enter l)) answer =
    (depth < limit.depth) × ((i : ℕ) → i ≡ suc depth → i < length levels → Next answer i l (Stand (set levels i inner)))
Follows place depth levels inner (Some (step.Leave l)) answer = (0 < depth) × Next answer (depth - 1) l (Stand levels)

module _ (place : ℕ) (levels : List Level) where
  module _ (blocks : List Block) (items : List Item) (stands : Stand levels blocks) where
    -- "if" and "repeat"
    entered_follows : (b : Block) (open' : Open) → open_of (b ∷ blocks) ≡ open' → outside b ≡ items → (test : Bool)
        → ltb (length blocks) limit.depth ≡ test
        → Follows place (length blocks) levels (level_of blocks items) (enter_of (length blocks) open') (entered b place blocks)
    unfolding entered enter_of saturated
    entered_follows b open' o before true e =
        rw e (
          (ltb_tells _ _).0 e,
          λ i is room.
              record {
                next = record { blocks = b ∷ blocks; items = [] };
                is = refl;
                deep = sym is;
                here = rw o;
                stands = (rw (before, ← is) (get_or-set_same levels i _ bottom room), stand_set levels i _ blocks (omega arith) stands);
              },
        )
    entered_follows b open' o before false e = rw e

  -- the level outside the block that is being read, where there is one
  abbrev outer_level : List Block → Level
  outer_level blocks = get_or levels (length blocks) bottom

  split_follows : (blocks : List Block) (items : List Item) → Stand levels blocks
      → Follows place (length blocks) levels (level_of blocks items) (split_of (open_of blocks) (saturated (items_run items)))
      (split_at place blocks items)
  unfolding split_at split_of saturated
  split_follows [] items s = refl
  split_follows (in_first f outer ∷ blocks) items s =
      record {
        next = record { blocks = in_second f (closed items done) outer ∷ blocks; items = [] };
        is = refl;
        deep = refl;
        here = rw (closed_done items);
        stands = s;
      }
  split_follows (in_second f a outer ∷ blocks) items s = refl
  split_follows (in_repeat m outer ∷ blocks) items s = refl

  if_ended_follows : (blocks : List Block) (items : List Item) → Stand levels blocks
      → Follows place (length blocks) levels (level_of blocks items) (if_end_of (open_of blocks) (saturated (items_run items)) (outer_level blocks))
      (if_ended_at place blocks items)
  unfolding if_ended_at if_end_of
  if_ended_follows [] items s = refl
  if_ended_follows (in_first f outer ∷ blocks) items s = refl
  if_ended_follows (in_second f a outer ∷ blocks) items s = (
    omega arith,
    record {
      next = record { blocks = blocks; items = branches f a (closed items done) ∷ outer };
      is = refl;
      deep = omega arith;
      here = rw (s.0, closed_done items, saturated_sum, saturated_larger);
      stands = s.1;
    },
  )
  if_ended_follows (in_repeat m outer ∷ blocks) items s = refl

  repeat_ended_follows : (blocks : List Block) (items : List Item) → Stand levels blocks
      → Follows place (length blocks) levels (level_of blocks items) (repeat_end_of (open_of blocks) (saturated (items_run items)) (outer_level blocks))
      (repeat_ended_at place blocks items)
  unfolding repeat_ended_at repeat_end_of
  repeat_ended_follows [] items s = refl
  repeat_ended_follows (in_first f outer ∷ blocks) items s = refl
  repeat_ended_follows (in_second f a outer ∷ blocks) items s = refl
  repeat_ended_follows (in_repeat m outer ∷ blocks) items s = (
    omega arith,
    record {
      next = record { blocks = blocks; items = repeated m (closed items done) ∷ outer };
      is = refl;
      deep = omega arith;
      here = rw (s.0, closed_done items, saturated_sum, saturated_product);
      stands = s.1;
    },
  )

  module _ (blocks : List Block) (items : List Item) (stands : Stand levels blocks) where
    abbrev FollowedBy : Option Step → Answer RowsTaken → Type 0
    FollowedBy = Follows place (length blocks) levels (level_of blocks items)

    pub line_follows : (line : SheetLine)
        → FollowedBy (step_of (part_of line) (turns_of line) (length blocks) (level_of blocks items) (outer_level blocks)) (taken line place blocks items)
    unfolding step_of taken
    line_follows (basic b) =
        record {
          next = record { blocks = blocks; items = row b ∷ items };
          is = refl;
          deep = refl;
          here = rw saturated_sum;
          stands = stands;
        }
    line_follows (if_line f) = entered_follows blocks items stands (in_first f items) block.First refl refl _ refl
    line_follows else_line = split_follows blocks items stands
    line_follows end_if = if_ended_follows blocks items stands
    line_follows (repeat m) = entered_follows blocks items stands (in_repeat m items) (block.Turns (most_turns m)) refl refl _ refl
    line_follows end_repeat = repeat_ended_follows blocks items stands
