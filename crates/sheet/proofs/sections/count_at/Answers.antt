-- `sheet::sections::count_at` meets its contract: the tests in its order are the judgements of `count_at`.
use Rattle.std.proofs.Common.{◌≡◌, ◌≤◌, ◌<◌, ◌⊎◌, length, get_or, sym, ◌∙◌, arith}
use Rattle.std.proofs.lemmas.Grind.{common_steps}
use Rattle.sheet.proofs.CountsJudged.{no_count, count_out, items_missing_lem, count_is}
use Rattle.sheet.proofs.sections.count_at.Goals.{In-Some}
use Rattle.sheet.proofs.sections.count_at.Goals as goal

pub returns-in_default : goal.returns-in_default
returns-in_default c =
    let ended : length c.args.words.now ≤ c.args.place = grind (arith, common_steps) in
    sym (no_count _ _ _ _ _ ended)

-- the word at the place
module _ (c : In-Some) where
  there : c.args.place < length c.args.words.now
  there = grind (arith, common_steps)

  word : c.in-Some.word ≡ get_or c.args.words.now c.args.place 0
  word = grind (arith, common_steps)

pub returns-then-not-contains : goal.returns-then-not-contains
returns-then-not-contains c =
    let out : (c.wide-count.result < c.args.low) ⊎ (c.args.high < c.wide-count.result) = grind (arith, common_steps) in
    let some = (goal.at.returns-then-not-contains c).In-Some in
    sym (count_out _ _ _ _ _ _ (c.wide-count.ensures.0 ∙ word some) (there some) out)

pub returns-then-words-first : goal.returns-then-words-first
returns-then-words-first c =
    let least : c.args.low ≤ c.wide-count.result = grind (arith, common_steps) in
    let most : c.wide-count.result ≤ c.args.high = grind (arith, common_steps) in
    let some = (goal.at.returns-then-words-first c).In-Some in
    sym (items_missing_lem _ _ _ _ _ _ (c.wide-count.ensures.0 ∙ word some) (there some) least most c.if-words-first.true)

pub returns : goal.returns
returns c =
    let least : c.args.low ≤ c.wide-count.result = grind (arith, common_steps) in
    let most : c.wide-count.result ≤ c.args.high = grind (arith, common_steps) in
    let some = (goal.at.returns c).In-Some in
    sym (count_is _ _ _ _ _ _ (c.wide-count.ensures.0 ∙ word some) (there some) least most c.if-words-first.false)
