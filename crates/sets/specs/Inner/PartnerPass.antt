-- How one pass over the rows finds every block row's partners both ways.
use Rattle.std.specs.Prelude.{ℕ, zero, suc, ◌≤◌, ◌<◌, ◌≡◌, Bool, cond, List, length, get_or, set}
use Rattle.sheet.specs.Inner.Words.{word_values}
use Rattle.sheet.specs.Rows.{SheetLine}
use Rattle.sheet.specs.Inner.Kinds.{part_of, opens_test}
use Rattle.sheet.specs.declared.kinds.Part.{Part}
use Rattle.sheet.specs.declared.kinds.Part.TheVariants as part

-- The innermost open block's last row so far, and both lists of partners. An open block's row has in `goes`, until its own partner is known,
-- the row that was innermost outside it, so that no stack is needed.
pub record PartnersSoFar : Type 0 where
  pub top : ℕ
  pub came : List ℕ
  pub goes : List ℕ

abbrev pub found : (top : ℕ) (came goes : List ℕ) → PartnersSoFar
found top came goes = record { top = top; came = came; goes = goes }

-- a row opens a block or a branch, and keeps the row that was innermost
abbrev pub opened : (row : ℕ) → PartnersSoFar → PartnersSoFar
opened p s = found p s.came (set s.goes p s.top)

-- two rows become partners, and the row that was innermost outside them is so again
abbrev pub paired : (to from : ℕ) → PartnersSoFar → PartnersSoFar
paired to from s = found (get_or s.goes s.top 0) (set s.came to from) (set s.goes from to)

-- a loop's first and last row get the points whose sets they take as far ends; `tests` is whether the loop has a test
abbrev pub way_out : (tests : Bool) → (near far : ℕ) → ℕ
way_out tests near far = cond tests near far

abbrev pub ended : (tests : Bool) → (start end : ℕ) → PartnersSoFar → PartnersSoFar
ended tests start end s = found s.top (set s.came end (way_out tests (suc start) end)) (set s.goes start (way_out tests end (suc start)))

-- what one row does, by what it is to the blocks, and by whether the innermost open block is a loop with a test
unfoldable pub found_by : Part → (tests : Bool) → (row : ℕ) → PartnersSoFar → PartnersSoFar
found_by part.Assignment tests p s = s
found_by part.If tests p s = opened p s
found_by part.Else tests p s = opened p (paired p s.top s)
found_by part.EndIf tests p s = paired p s.top s
found_by part.Repeat tests p s = opened p s
found_by part.EndRepeat tests p s = ended tests s.top p (paired s.top p s)

-- and so by its line
unfoldable pub found_at : SheetLine → (tests : Bool) → (row : ℕ) → PartnersSoFar → PartnersSoFar
unfolding found_by
found_at l tests p s = found_by (part_of l) tests p s

-- the innermost open block is a loop with a test
abbrev pub in_tested : (ℕ → SheetLine) → PartnersSoFar → Bool
in_tested line s = opens_test (line s.top)

unfoldable pub found_over : (ℕ → SheetLine) → (from count : ℕ) → PartnersSoFar → PartnersSoFar
unfolding found_at
found_over line p zero s = s
found_over line p (suc n) s = found_over line (suc p) n (found_at (line p) (in_tested line s) p s)

-- before each of so many rows the innermost open block's last row so far is one of n rows
unfoldable pub TopsWithin : (ℕ → SheetLine) → (n from count : ℕ) → PartnersSoFar → Type 0
unfolding found_at
TopsWithin line n p zero s = Unit
TopsWithin line n p (suc m) s = (s.top < n) × TopsWithin line n (suc p) m (found_at (line p) (in_tested line s) p s)

-- both lists have a place for each row, and what they are asked for is a row
pub record Findable (line : ℕ → SheetLine) (n : ℕ) (came goes : List ℕ) : Type 0 where
  pub few : n < word_values
  pub came_room : n ≤ length came
  pub goes_room : n ≤ length goes
  pub within : TopsWithin line n 0 n (found 0 came goes)

-- a row that has a place in both lists, and whose number fits a word
pub record Listed (came goes : List ℕ) (row : ℕ) : Type 0 where
  pub small : row < word_values
  pub in_came : row < length came
  pub in_goes : row < length goes

-- one pass over all rows, from whatever the lists had
abbrev pub PartnersFound : (ℕ → SheetLine) → (rows : ℕ) → (came goes came' goes' : List ℕ) → Type 0
PartnersFound line n came goes came' goes' =
    let all = found_over line 0 n (found 0 came goes) in
    (came' ≡ all.came) × (goes' ≡ all.goes)
