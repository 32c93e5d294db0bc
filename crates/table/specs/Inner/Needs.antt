-- S and T in one pass over the rows: what the block at hand needs so far, and what is kept of the blocks that are open around it.
use Prim.Native.Nat.{ℕ, zero, suc, ◌+◌, ◌*◌, ◌≤◌, ◌<◌, max}
use Rattle.std.specs.Prelude.{◌≡◌, Bool, cond, List, [], ◌∷◌, length, get_or, eqb}
use Rattle.sheet.specs.Rows.{while_kind}
use Rattle.sheet.specs.Inner.RowLines.{numbered_row}
use Rattle.sheet.specs.Bounds.{limit}
use Rattle.sheet.specs.Sheets.{row_at}
use Rattle.sheet.specs.Inner.Kinds.{form_for, part_for, turns_in}
use Rattle.sheet.specs.declared.Shape.{Shape}
use Rattle.sheet.specs.declared.kinds.Part.{Part}
use Rattle.sheet.specs.declared.kinds.Part.TheVariants as part
use Rattle.table.specs.Inner.MarkedRows.{saved_by, count_all}
use Rattle.table.specs.declared.needs.Need.{Need}
use Rattle.table.specs.declared.needs.Level.{Level}
use Rattle.table.specs.declared.sizes.Sizes.{Sizes}

abbrev pub needing : (values turns : ℕ) → Need
needing values turns = record { values = values; turns = turns }

abbrev pub nothing : Need
nothing = needing 0 0

-- no accepted sheet needs more than W of either stack
pub record Few (need : Need) : Type 0 where
  pub values : need.values ≤ limit.longest_run
  pub turns : need.turns ≤ limit.longest_run

-- "a recorded row counts 1"
abbrev pub with_saved : Bool → Need → Need
with_saved saved need = needing (need.values + cond saved 1 0) need.turns

-- a loop with a test puts a count away, its body apart
abbrev pub with_count : Bool → Need → Need
with_count tests need = needing need.values (need.turns + cond tests 1 0)

-- a block begins, so many turns of it
abbrev pub opened : (times : ℕ) → Need → Level
opened times need = record { before = need; first = nothing; times = times }

-- and its second branch
abbrev pub split : Level → (first : Need) → Level
split level first = record { before = level.before; first = first; times = level.times }

-- "an if block the larger branch", and of the turn stack "1 + the larger branch"
abbrev pub after_if : Level → (second : Need) → Need
after_if level second =
    needing (level.before.values + max level.first.values second.values)
    (level.before.turns + 1 + max level.first.turns second.turns)

-- "a repeat a times its body"
abbrev pub after_repeat : Level → (body : Need) → Need
after_repeat level body = needing (level.before.values + level.times * body.values) (level.before.turns + level.times * body.turns)

-- What a row does to the need of the block at hand and to the blocks around it, the innermost first: the pass goes on from there, few enough
-- of everything.
abbrev pub Takes : Part → (times : ℕ) (tests saved : Bool) → Need → (around : List Level) → (GoesOn : Need → List Level → Type 0) → Type 0
Takes part.Assignment times tests saved need around GoesOn = Few (with_saved saved need) × GoesOn (with_saved saved need) around
Takes part.If times tests saved need around GoesOn = (length around < limit.depth) × GoesOn nothing (opened 1 need ∷ around)
Takes part.Else times tests saved need [] GoesOn = ⊥
Takes part.Else times tests saved need (level ∷ around) GoesOn = GoesOn nothing (split level need ∷ around)
Takes part.EndIf times tests saved need [] GoesOn = ⊥
Takes part.EndIf times tests saved need (level ∷ around) GoesOn = Few (after_if level need) × GoesOn (after_if level need) around
Takes part.Repeat times tests saved need around GoesOn =
    (length around < limit.depth) × GoesOn nothing (opened times (with_count tests need) ∷ around) × Few (with_count tests need)
Takes part.EndRepeat times tests saved need [] GoesOn = ⊥
Takes part.EndRepeat times tests saved need (level ∷ around) GoesOn = Few (after_repeat level need) × GoesOn (after_repeat level need) around

module _ (words : List ℕ) (first : ℕ) (marks : List ℕ) (total : Need) where
  -- so many rows from row p on come to the total
  unfoldable pub Comes : (p count : ℕ) → Need → (around : List Level) → Type 0
  unfolding row_at form_for
  Comes p zero need around = need ≡ total
  Comes p (suc n) need around =
      let row = numbered_row words first p in
      Takes (part_for row.kind) (turns_in row) (eqb row.kind while_kind) (saved_by (get_or marks p 0)) need around (λ next outside. Comes (suc p) n next outside)

-- all rows do, to some total
pub record Sized (words : List ℕ) (first rows : ℕ) (marks : List ℕ) : Type 0 where
  pub total : Need
  pub comes : Comes words first marks total 0 rows nothing []

-- R, whatever the number of variables, S and T
pub record SizesFound (words : List ℕ) (shape : Shape) (marks : List ℕ) (found : Sizes) : Type 0 where
  pub rows : (v : ℕ) → found.rows ≡ 1 + count_all v words shape marks
  pub need : (total : Need) → Comes words shape.first_row marks total 0 shape.rows nothing [] → found.need ≡ total
