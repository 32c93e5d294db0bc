-- Reading refuses exactly when a rule of 01 says so, with that rule's number and place, and otherwise reads exactly the sheet that the words are.
use Prim.Native.Nat.{ℕ, ◌≤◌, ◌<◌}
use mathlib.Core.Path.{◌≡◌, refl, sym, ap, subst, ◌∙◌}
use mathlib.Core.List.{List}
use mathlib.Core.Logic.{◌⊎◌, inl}
use lib.ListN.{length, take, drop}
use lib.Dec.{leb}
use native.Mathlib.Omega.{arith}
use Rattle.sheet.specs.Bounds.{limit}
use Rattle.sheet.specs.Judging.{Answer, refused, given, ◌>>=◌, unless}
use Rattle.sheet.specs.Refusals.{Refusal, number_of, words_left, too_long}
use Rattle.sheet.specs.Tree.{Tree, longest_run}
use Rattle.sheet.specs.Rows.{Assignment, Test, tree_rows}
use Rattle.sheet.specs.Sheets.{Sheet}
use Rattle.sheet.specs.Reading.{roles_fit, read}
use Rattle.sheet.proofs.Judgements.{Tells, leb_tells, unmet, judged, ◌and_then◌, after_given, after_refused}
use Rattle.sheet.proofs.Settled.{Settled}
use Rattle.sheet.proofs.TreeOfRows.{body_rows, only_body}
use Rattle.claims.specs.ExactlyWhen.{Section, variables, constants, rows, constant_count, first_item, sheet_rows, after_rows, InOrder, Reached, RowsReached, NothingLeft, ReadingRefuses, count_missing, items_missing, words_after_rows, count_out_of_range, role_too_great, row_says_nothing, block_wrong, never_closed, run_too_long, Read}
use Rattle.claims.proofs.SectionsJudged.{SomeRule, count_of, count_missing_lem, count_beyond_lem, items_missing_lem, count_given, count_judged, role_words, roles_fit_lem, role_refused, roles_judged}
use Rattle.claims.proofs.RowsJudged.{body_read, rows_judged, says_nothing, cannot_be_taken, never_closed_lem, all_closed}

abbrev Body : Type 0
Body = Tree Assignment Test

module _ (words : List ℕ) where
  abbrev sheet_with : Body → Sheet
  sheet_with body =
      record {
        roles = role_words words;
        constants = take (constant_count words) (drop (first_item words constants) words);
        rows = sheet_rows words;
        body = body;
      }

  -- what is judged after the rows
  abbrev lastly : Body → Answer Sheet
  lastly body = do
    _ ← unless (leb (length words) (after_rows words)) (words_left (after_rows words))
    _ ← unless (leb (longest_run body) limit.longest_run) too_long
    given (sheet_with body)

  -- ---- where all before it is in order, a judgement's refusal is the reading's

  at_section : (s : Section) (r : Refusal) → Reached words s → count_of words s ≡ refused r → read words ≡ refused r
  unfolding read
  at_section variables r reached e = rw e
  at_section constants r reached e = rw (count_given words variables reached.0, roles_fit_lem words reached.0 reached.1, e)
  at_section rows r reached e =
      rw (count_given words variables reached.0, roles_fit_lem words reached.0 reached.1, count_given words constants reached.2, e)

  at_roles : (r : Refusal) → InOrder words variables → roles_fit (role_words words) 1 ≡ refused r → read words ≡ refused r
  unfolding read
  at_roles r in_order e = rw (count_given words variables in_order, e)

  at_rows : RowsReached words → read words ≡ (body_read words >>= lastly)
  unfolding read
  at_rows reached =
      let (v, fit, k) = reached.0 in
      rw (count_given words variables v, roles_fit_lem words v fit, count_given words constants k, count_given words rows reached.1)

  -- ---- after the rows

  ends_told : Tells (leb (length words) (after_rows words)) (length words ≤ after_rows words)
  ends_told = leb_tells _ _

  short_told : (body : Body) → Tells (leb (longest_run body) limit.longest_run) (longest_run body ≤ limit.longest_run)
  short_told body = leb_tells _ _

  left_over : (body : Body) → after_rows words < length words → lastly body ≡ refused (words_left (after_rows words))
  left_over body more =
      let not_within : ¬ (length words ≤ after_rows words) = omega arith in
      rw (unmet _ ends_told not_within)

  too_long_lem : (body : Body) → length words ≤ after_rows words → limit.longest_run < longest_run body → lastly body ≡ refused too_long
  too_long_lem body none_left long =
      let not_within : ¬ (longest_run body ≤ limit.longest_run) = omega arith in
      rw (ends_told.1 none_left, unmet _ (short_told body) not_within)

  all_well : (body : Body) → length words ≤ after_rows words → longest_run body ≤ limit.longest_run → lastly body ≡ given (sheet_with body)
  all_well body none_left short = rw (ends_told.1 none_left, (short_told body).1 short)

  at_body : (r : Refusal) → RowsReached words → body_read words ≡ refused r → read words ≡ refused r
  at_body r reached e = at_rows reached ∙ after_refused lastly e

  at_end : (body : Body) → RowsReached words → body_read words ≡ given body → read words ≡ lastly body
  at_end body reached e = at_rows reached ∙ after_given lastly e

  -- ---- a rule's refusal is the reading's

  -- the tree that says the rows is the one that is read
  same_body : (body body' : Body) → tree_rows body ≡ sheet_rows words → body_read words ≡ given body' → body' ≡ body
  same_body body body' says e = only_body body' body (body_rows _ _ _ _ body' e ∙ sym says)

  refused_by_rule : {r : Refusal} → ReadingRefuses words r → read words ≡ refused r
  refused_by_rule (count_missing s reached none) = at_section s _ reached (count_missing_lem words s none)
  refused_by_rule (items_missing s reached there range none) = at_section s _ reached (items_missing_lem words s there range none)
  refused_by_rule (words_after_rows all more) =
      let found = all_closed words all.1 in
      at_end found.0 all.0 found.1 ∙ left_over found.0 more
  refused_by_rule (count_out_of_range s reached there out) = at_section s _ reached (count_beyond_lem words s there out)
  refused_by_rule (role_too_great i in_order first) = at_roles _ in_order (role_refused words in_order i first)
  refused_by_rule (row_says_nothing i before reached more now nothing) = at_body _ reached (says_nothing words now more nothing)
  refused_by_rule (block_wrong i before line reached more now says wrong) = at_body _ reached (cannot_be_taken words now more says wrong)
  refused_by_rule (never_closed opening outer reached now) = at_body _ reached (never_closed_lem words now)
  refused_by_rule (run_too_long body none_left says long) =
      let all = none_left.0 in
      let found = all_closed words all.1 in
      at_end found.0 all.0 found.1
      ∙ too_long_lem found.0 none_left.1 (subst (λ b. limit.longest_run < longest_run b) (sym (same_body body found.0 says found.1)) long)

  same_sheet : (sheet : Sheet) (body : Body) → Read words sheet → body ≡ sheet.body → sheet_with body ≡ sheet
  same_sheet sheet body is same =
      λ i. record { roles = sym is.roles i; constants = sym is.constants i; rows = sym is.rows i; body = same i }

  given_if_read : (sheet : Sheet) → Read words sheet → read words ≡ given sheet
  given_if_read sheet is =
      let all = is.nothing_left.0 in
      let found = all_closed words all.1 in
      let same = same_body sheet.body found.0 is.body found.1 in
      let short : longest_run found.0 ≤ limit.longest_run = rw same is.short in
      at_end found.0 all.0 found.1 ∙ all_well found.0 is.nothing_left.1 short
      ∙ ap given (same_sheet sheet found.0 is same)

  -- ---- some rule refuses, or the words are a sheet

  refused_or_read : ((sheet : Sheet) × Read words sheet) ⊎ SomeRule words
  refused_or_read =
      count_judged words variables tt and_then λ v.
      roles_judged words v and_then λ fit.
      count_judged words constants (v, fit) and_then λ k.
      count_judged words rows (v, fit, k) and_then λ n.
      rows_judged words ((v, fit, k), n) and_then λ after.
      judged _ ends_told (λ more. (_, words_after_rows (((v, fit, k), n), after) (omega arith))) and_then λ ends.
      let none_left : NothingLeft words = ((((v, fit, k), n), after), ends) in
      let found = all_closed words after in
      let says = body_rows _ _ _ _ found.0 found.1 in
      judged _ (short_told found.0) (λ long. (_, run_too_long found.0 none_left says (omega arith))) and_then λ short.
      inl (
        sheet_with found.0,
        record { nothing_left = none_left; roles = refl; constants = refl; rows = refl; body = says; short = short },
      )

  -- ---- exactly when

  pub reading_settled : Settled (read words) (ReadingRefuses words) (Read words)
  reading_settled = record { by_rule = λ r rule. refused_by_rule rule; by_result = given_if_read; either = refused_or_read }

-- "Checking a sheet uses 1 to 7"
pub reading_numbers : {words : List ℕ} {r : Refusal} → ReadingRefuses words r → number_of r ≤ 7
unfolding number_of
reading_numbers (count_missing s reached none) = omega arith
reading_numbers (items_missing s reached there range none) = omega arith
reading_numbers (words_after_rows all more) = omega arith
reading_numbers (count_out_of_range s reached there out) = omega arith
reading_numbers (role_too_great i in_order first) = omega arith
reading_numbers (row_says_nothing i before reached more now nothing) = omega arith
reading_numbers (block_wrong i before line reached more now says wrong) = omega arith
reading_numbers (never_closed opening outer reached now) = omega arith
reading_numbers (run_too_long body none_left says long) = omega arith
