-- What words come to, judgement after judgement: the refusal of the first that fails, or the shape.
use Prim.Native.Nat.{ℕ, suc, ◌+◌, ◌*◌, ◌≤◌, ◌<◌}
use mathlib.Core.Path.{◌≡◌, sym}
use mathlib.Core.List.{List, []}
use lib.ListN.{length, take, drop}
use borrow.Author.Tests.{le-leb, lt-leb}
use native.Mathlib.Decide.{dec_le}
use native.Mathlib.Omega.{arith}
use Rattle.sheet.specs.Bounds.{limit}
use Rattle.sheet.specs.Judging.{Answer, refused, given, ◌>>=◌}
use Rattle.sheet.specs.Refusals.{Refusal, words_left, too_long}
use Rattle.sheet.specs.Tree.{Tree, longest_run}
use Rattle.sheet.specs.Rows.{Assignment, Test}
use Rattle.sheet.specs.Sheets.{rows_at}
use Rattle.sheet.specs.Reading.{count_at, roles_fit, body_of, read}
use Rattle.sheet.specs.Answers.{said, shape_of, shape_read}
use Rattle.sheet.specs.Inner.Steps.{CountsJudged, saturated, body_run, finish_of}
use Rattle.sheet.specs.declared.Counts.{Counts}
use Rattle.sheet.specs.declared.Shape.{Shape}
use Rattle.sheet.proofs.RowsCounted.{rows_counted}
use Rattle.sheet.proofs.ReadingParts.{not_given, bound, same_given}
use Rattle.sheet.proofs.NamesPresent.{Counted, count_judged, section_length}

-- a body that is refused, and one that isn't, by what its W comes to
body_refused : (answer : Answer (Tree Assignment Test)) (r : Refusal)
    → (answer >>= λ tree. given (saturated (longest_run tree))) ≡ refused r → answer ≡ refused r
body_refused (refused why) r e = cc
body_refused (given t) r e = not_given (sym e)

-- ---- up to the rows

module _ (words : List ℕ) where
  pub variables_refused : (r : Refusal) → count_at words 0 limit.fewest_variables limit.variables 1 ≡ refused r → refused r ≡ shape_read words
  unfolding shape_read read
  variables_refused r e = rw e

  module _ (v : ℕ) (is_v : count_at words 0 limit.fewest_variables limit.variables 1 ≡ given v) where
    pub roles_refused : (r : Refusal) → roles_fit (take v (drop 1 words)) 1 ≡ refused r → refused r ≡ shape_read words
    unfolding shape_read read
    roles_refused r e = rw (is_v, e)

    module _ (roles : roles_fit (take v (drop 1 words)) 1 ≡ given tt) where
      pub constants_refused : (r : Refusal) → count_at words (1 + v) 0 limit.constants 1 ≡ refused r → refused r ≡ shape_read words
      unfolding shape_read read
      constants_refused r e = rw (is_v, roles, e)

      pub rows_refused : (k : ℕ) → count_at words (1 + v) 0 limit.constants 1 ≡ given k
          → (r : Refusal) → count_at words (1 + v + 1 + k) 0 limit.rows limit.row_words ≡ refused r → refused r ≡ shape_read words
      unfolding shape_read read
      rows_refused k is_k r e = rw (is_v, roles, is_k, e)

-- ---- once all counts are judged, the rows decide

pub record CountsWithin (words : List ℕ) (counts : Counts) : Type 0 where
  pub variables : counts.variables ≤ limit.variables
  pub constants : counts.constants ≤ limit.constants
  pub rows : counts.rows ≤ limit.rows
  pub there : 3 + counts.variables + counts.constants + counts.rows * limit.row_words ≤ length words

module _ {words : List ℕ} {counts : Counts} (judged : CountsJudged words counts) where
  abbrev v : ℕ
  v = counts.variables

  abbrev k : ℕ
  k = counts.constants

  abbrev n : ℕ
  n = counts.rows

  abbrev first : ℕ
  first = 3 + v + k

  is_first : suc (1 + v + 1 + k) ≡ first
  is_first = omega arith

  variables_counted : Counted words 0 limit.fewest_variables limit.variables 1 v
  variables_counted = count_judged words 0 limit.fewest_variables limit.variables 1 v judged.variables

  constants_counted : Counted words (1 + v) 0 limit.constants 1 k
  constants_counted = count_judged words (1 + v) 0 limit.constants 1 k judged.constants

  pub counts_within : CountsWithin words counts
  counts_within =
      let rows = count_judged words (1 + v + 1 + k) 0 limit.rows limit.row_words n judged.rows in
      record {
        variables = variables_counted.most;
        constants = constants_counted.most;
        rows = rows.most;
        there = omega (arith, rows.there);
      }

  abbrev body_here : Answer (Tree Assignment Test)
  body_here = body_of v k (rows_at words first n) first [] []

  pub body_refuses : (r : Refusal) → body_run v k (rows_at words first n) first [] [] ≡ refused r → refused r ≡ shape_read words
  unfolding shape_read read body_run
  body_refuses r e = rw (judged.variables, judged.roles, judged.constants, judged.rows, is_first, body_refused body_here r e)

  module _ (w : ℕ) (is_w : body_run v k (rows_at words first n) first [] [] ≡ given w) where
    record Whole : Type 0 where
      tree : Tree Assignment Test
      is : body_here ≡ given tree
      run : saturated (longest_run tree) ≡ w

    whole : Whole
    unfolding body_run
    whole = let found = bound body_here _ w is_w in record { tree = found.0; is = found.1; run = same_given found.2 }

    abbrev shape : Shape
    shape = record { variables = v; constants = k; rows = n; first_constant = 2 + v; first_row = first; longest = w }

    abbrev after : ℕ
    after = first + n * limit.row_words

    more_words : after < length words → refused (words_left after) ≡ shape_read words
    unfolding shape_read read
    more_words more =
        rw (judged.variables, judged.roles, judged.constants, judged.rows, is_first, whole.is, lt-leb _ _ more)

    module _ (ends : length words ≤ after) where
      run_too_long : limit.longest_run < w → refused too_long ≡ shape_read words
      unfolding shape_read read saturated
      run_too_long h =
          let long : limit.longest_run < longest_run whole.tree = omega (arith, whole.run) in
          rw (judged.variables, judged.roles, judged.constants, judged.rows, is_first, whole.is, le-leb _ _ ends, lt-leb _ _ long)

      shape_given : w ≤ limit.longest_run → given shape ≡ shape_read words
      unfolding shape_read shape_of read saturated
      shape_given h =
          let short : longest_run whole.tree ≤ limit.longest_run = omega (arith, whole.run) in
          let run : longest_run whole.tree ≡ w = omega (arith, whole.run) in
          rw (judged.variables, judged.roles, judged.constants, judged.rows, is_first, whole.is, le-leb _ _ ends, le-leb _ _ short)
          (rw (
            section_length words 0 v variables_counted.there,
            section_length words (1 + v) k constants_counted.there,
            rows_counted words first n,
            run,
          ))

    pub finish_says : said (finish_of shape after (length words)) ≡ shape_read words
    unfolding finish_of
    finish_says = by (dec_le (length words) after) (dec_le w limit.longest_run)
      where
        by : Dec (length words ≤ after) → Dec (w ≤ limit.longest_run) → said (finish_of shape after (length words)) ≡ shape_read words
        by (no h) short = let more : after < length words = omega arith in rw (lt-leb _ _ more) (more_words more)
        by (yes ends) (no h) = let long : limit.longest_run < w = omega arith in rw (le-leb _ _ ends, lt-leb _ _ long) (run_too_long ends long)
        by (yes ends) (yes short) = rw (le-leb _ _ ends, le-leb _ _ short) (shape_given ends short)
