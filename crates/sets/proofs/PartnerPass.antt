-- The pass that finds the partners, row by row.
use Prim.Native.Nat.{ℕ, suc, ◌+◌, ◌-◌, ◌≤◌, ◌<◌}
use native.Mathlib.Omega.{arith}
use mathlib.Core.Path.{◌≡◌, refl, sym, ap, ◌∙◌}
use mathlib.Core.List.{List}
use lib.ListN.{length}
use Rattle.sheet.specs.Inner.Words.{word_values}
use Rattle.sheet.specs.Rows.{SheetLine}
use Rattle.sheet.specs.Inner.Kinds.{part_of, opens_test}
use Rattle.sheet.specs.declared.kinds.Form.{Form}
use Rattle.sheet.specs.declared.kinds.Part.{Part}
use Rattle.sheet.proofs.LinesByPart.{row_part}
use Rattle.sets.specs.Inner.PartnerPass.{PartnersSoFar, found, found_by, found_at, in_tested, found_over, TopsWithin, Findable, Listed, PartnersFound}
use Rattle.sets.specs.Inner.RowEquations.{line_in, RowReadable, Formed}

-- what holds before a row of the pass
pub record Finding (line : ℕ → SheetLine) (n : ℕ) (came₀ goes₀ came goes : List ℕ) (top row : ℕ) : Type 0 where
  pub within : row ≤ n
  pub tops : TopsWithin line n row (n - row) (found top came goes)
  pub follows : found_over line row (n - row) (found top came goes)
      ≡ found_over line 0 n (found 0 came₀ goes₀)
  pub came_long : length came ≡ length came₀
  pub goes_long : length goes ≡ length goes₀

module _ (line : ℕ → SheetLine) (n : ℕ) (came₀ goes₀ : List ℕ) where
  pub finding_starts : Findable line n came₀ goes₀ → Finding line n came₀ goes₀ came₀ goes₀ 0 0
  finding_starts findable =
      let all : n - 0 ≡ n = omega arith in
      record { within = omega arith; tops = rw all findable.within; follows = rw all; came_long = refl; goes_long = refl }

  found_more : (p m : ℕ) (s : PartnersSoFar) → found_over line p (suc m) s ≡ found_over line (suc p) m (found_at (line p) (in_tested line s) p s)
  unfolding found_over
  found_more p m s = refl

  tops_more : (p m : ℕ) (s : PartnersSoFar) → TopsWithin line n p (suc m) s → (s.top < n) × TopsWithin line n (suc p) m (found_at (line p) (in_tested line s) p s)
  unfolding TopsWithin
  tops_more p m s w = w

  -- the row and the innermost open one, which is a row too, have places in both lists
  pub both_listed : {came goes : List ℕ} {top row : ℕ} → Findable line n came₀ goes₀ → Finding line n came₀ goes₀ came goes top row → row < n
      → ((p : ℕ) → p < n → p < word_values) → Listed came goes row × Listed came goes top × (top + 1 < word_values) × (top < n)
  both_listed {came} {goes} {top} {row} findable f h small =
      let left : n - row ≡ suc (n - suc row) = omega arith in
      let below : top < n = (tops_more row (n - suc row) (found top came goes) (rw left at f.tops)).0 in
      let there : (p : ℕ) → p < n → Listed came goes p =
      λ p within.
      record {
        small = small p within;
        in_came = omega (arith, f.came_long, findable.came_room);
        in_goes = omega (arith, f.goes_long, findable.goes_room);
      } in
      (there row h, there top below, omega (arith, findable.few), below)

  pub finding_on : (came goes : List ℕ) (top row : ℕ) → Finding line n came₀ goes₀ came goes top row → row < n → (part : Part)
      → part ≡ part_of (line row) → (came' goes' : List ℕ) (top' : ℕ)
      → found top' came' goes' ≡ found_by part (opens_test (line top)) row (found top came goes)
      → length came' ≡ length came → length goes' ≡ length goes → Finding line n came₀ goes₀ came' goes' top' (row + 1)
  unfolding found_at
  finding_on came goes top row f h part is came' goes' top' step cl gl =
      let left : n - row ≡ suc (n - suc row) = omega arith in
      let next : row + 1 ≡ suc row = omega arith in
      let one = found_more row (n - suc row) (found top came goes) in
      record {
        within = omega arith;
        tops = rw (next, step, is) (tops_more row (n - suc row) (found top came goes) (rw left at f.tops)).1;
        follows = rw (next, step, is, sym one, sym left) f.follows;
        came_long = cl ∙ f.came_long;
        goes_long = gl ∙ f.goes_long;
      }

  found_none : (p : ℕ) (s : PartnersSoFar) → s ≡ found_over line p 0 s
  unfolding found_over
  found_none p s = refl

  pub found_all : (came goes : List ℕ) (top row : ℕ) → Finding line n came₀ goes₀ came goes top row → n ≤ row
      → PartnersFound line n came₀ goes₀ came goes
  found_all came goes top row f h =
      let none : n - row ≡ 0 = omega (arith, f.within) in
      let same = rw none at f.follows in
      let here : PartnersSoFar = found top came goes in
      (ap (λ s. s.came) (found_none row here ∙ same), ap (λ s. s.goes) (found_none row here ∙ same))

-- what a row is to the blocks, as the code reads it, is what its line is
pub part_read : {words : List ℕ} {first row : ℕ} {form : Form} → RowReadable words first row → Formed words first row form
    → form.3 ≡ part_of (line_in words first row)
part_read {words} {first} {row} readable formed = ap (λ form. form.3) formed ∙ sym (row_part readable.says)
