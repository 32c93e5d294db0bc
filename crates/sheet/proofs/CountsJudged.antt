-- What a count comes to, by the test that settles it.
use Prim.Native.Nat.{ℕ, suc, ◌+◌, ◌*◌, ◌-◌, ◌≤◌, ◌<◌}
use mathlib.Core.Path.{◌≡◌}
use mathlib.Core.Logic.{◌⊎◌, inl, inr}
use mathlib.Core.List.{List}
use lib.ListN.{length, get_or}
use borrow.Author.Tests.{lt-ltb, le-ltb, le-leb, lt-leb}
use native.Mathlib.Decide.{dec_le}
use native.Mathlib.Omega.{arith}
use native.Mathlib.Numerals.{add-one}
use Rattle.sheet.specs.Judging.{refused, given}
use Rattle.sheet.specs.Refusals.{words_end, count_beyond}
use Rattle.sheet.specs.Reading.{count_at}

module _ (words : List ℕ) (place low high width : ℕ) where
  pub no_count : length words ≤ place → count_at words place low high width ≡ refused (words_end place)
  unfolding count_at
  no_count h = simp (le-ltb _ _ h)

  module _ (count : ℕ) (is : count ≡ get_or words place 0) (there : place < length words) where
    count_low : count < low → count_at words place low high width ≡ refused (count_beyond place)
    unfolding count_at
    count_low l = simp (lt-ltb _ _ there, ← is, lt-leb _ _ l)

    module _ (least : low ≤ count) where
      count_high : high < count → count_at words place low high width ≡ refused (count_beyond place)
      unfolding count_at
      count_high m = simp (lt-ltb _ _ there, ← is, le-leb _ _ least, lt-leb _ _ m)

      module _ (most : count ≤ high) where
        pub items_missing_lem : length words - (place + 1) < count * width → count_at words place low high width ≡ refused (words_end (place + 1))
        unfolding count_at
        items_missing_lem s =
            let short : length words < suc place + count * width = omega arith in
            simp (lt-ltb _ _ there, ← is, le-leb _ _ least, le-leb _ _ most, lt-leb _ _ short, add-one)

        pub count_is : count * width ≤ length words - (place + 1) → count_at words place low high width ≡ given count
        unfolding count_at
        count_is s =
            let enough : suc place + count * width ≤ length words = omega arith in
            simp (lt-ltb _ _ there, ← is, le-leb _ _ least, le-leb _ _ most, le-leb _ _ enough)

    pub count_out : (count < low) ⊎ (high < count) → count_at words place low high width ≡ refused (count_beyond place)
    count_out (inl l) = count_low l
    count_out (inr m) = by (dec_le low count)
      where
        by : Dec (low ≤ count) → count_at words place low high width ≡ refused (count_beyond place)
        by (yes least) = count_high least m
        by (no h) = count_low (omega arith)
