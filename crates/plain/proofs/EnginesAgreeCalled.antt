-- The calls of the tangent run and of the plain engine answer alike, where the lent table buffer has room, over any arithmetic.
use Prim.Native.Nat.{ℕ, ◌≤◌, ◌*◌}
use mathlib.Core.Path.{◌≡◌, refl, ap, ◌∙◌}
use mathlib.Core.List.{List, ◌++◌}
use lib.ListN.{length}
use lib.Dec.{eqb}
use borrow.Author.Tests.{eqb-true, le-leb}
use Rattle.number.specs.Arithmetic.{Arithmetic, divides}
use Rattle.sheet.specs.Judging.{Answer, refused, given, unless}
use Rattle.sheet.specs.Refusals.{wrong_starts, wrong_seeds, wrong_result}
use Rattle.sheet.specs.Sheets.{Sheet, variables_of}
use Rattle.sheet.specs.Reading.{read, read_in}
use Rattle.sheet.proofs.Feasibility.{ReadFor, read_for_lem}
use Rattle.sheet.proofs.ReadingParts.{bound, passed, same_given}
use Rattle.sets.specs.Rounds.{sets_of}
use Rattle.table.specs.Sizes.{table_room}
use Rattle.table.specs.Calls.{read_for}
use Rattle.machine.specs.Machine.{Step}
use Rattle.run.specs.Runs.{Lent, run_of}
use Rattle.run.specs.Calls.{all_admitted, read_to_run, lent_after, ran_to, ran_on, run_by}
use Rattle.tangent.specs.TangentRuns.{tangent_setting, tangent_start, without_stacks}
use Rattle.tangent.specs.Calls.{tangent_of, tangent_needs_of, tangent_job, run_tangent}
use Rattle.plain.specs.Plain.{plain_by}
use Rattle.plain.specs.Carries.{SameAnswer}
use Rattle.plain.specs.Calls.{read_to_carry, carried_to, carried_on, plain}
use Rattle.plain.proofs.EnginesAgree.{CarriedResult}
use Rattle.plain.proofs.WholeRunsAgree.{SameEnd, both_end, both_halt, runs_agree}

module _ (A : Arithmetic) (words : List ℕ) (starts rates : List A.Carrier) (table : List ℕ) (result : List A.Carrier) where
  -- the buffer has room for the table, if there is one
  abbrev pub TableFits : Type 0
  TableFits = (sheet : Sheet) → read words ≡ given sheet → table_room (tangent_needs_of sheet).rows ≤ length table

  abbrev lent : Lent A
  lent = without_stacks A table result

  -- without 8 and 9 both calls judge the same in turn
  same_judgement : TableFits → read_to_run A tangent_needs_of words starts rates lent ≡ read_to_carry A words starts rates result
  unfolding read_to_run read_for read_to_carry
  same_judgement room = by_reading (read_in (divides A) words) refl
    where
      by_reading : (answer : Answer Sheet) → read_in (divides A) words ≡ answer
          → read_to_run A tangent_needs_of words starts rates lent ≡ read_to_carry A words starts rates result
      by_reading (refused r) e = rw e
      by_reading (given sheet) e = rw (e, le-leb _ _ (room sheet (read_for_lem (divides A) words sheet e).is_read))

  -- what the plain engine's judgement lets through
  record Carries (sheet : Sheet) : Type 0 where
    pub is_read : ReadFor (divides A) words sheet
    pub starts_fit : length starts ≡ variables_of sheet

  let_through : (sheet : Sheet) → read_to_carry A words starts rates result ≡ given sheet → Carries sheet
  unfolding read_to_carry
  let_through sheet e =
      let c₁ = bound (read_in (divides A) words) _ sheet e in
      let c₂ = bound (unless (eqb (length starts) (variables_of c₁.0)) wrong_starts) _ sheet c₁.2 in
      let c₃ = bound (unless (eqb (length rates) (variables_of c₁.0)) wrong_seeds) _ sheet c₂.2 in
      let c₄ = bound (unless (eqb (length result) (2 * variables_of c₁.0)) wrong_result) _ sheet c₃.2 in
      let c₅ = bound (all_admitted A (starts ++ rates) 0) _ sheet c₄.2 in
      let is : c₁.0 ≡ sheet = same_given c₅.2 in
      record {
        is_read = read_for_lem (divides A) words sheet (c₁.1 ∙ ap given is);
        starts_fit = eqb-true _ _ (passed _ wrong_starts c₂.1) ∙ ap variables_of is;
      }

  ends_alike : (sheet : Sheet) (out : Step A) (carried : CarriedResult A) → SameEnd A sheet out carried
      → SameAnswer A (ran_to A (tangent_job A starts rates sheet) lent out) (carried_to A sheet result carried)
  unfolding ran_to carried_to lent_after
  ends_alike sheet out carried (both_end memory now is goes values same) =
      rw (is, goes) (record { number = refl; place = refl; result = same })
  ends_alike sheet out carried (both_halt row stop is goes) = rw (is, goes) (record { number = refl; place = refl; result = refl })

  pub engines_agree : TableFits → SameAnswer A (run_tangent A words starts rates lent) (plain A words starts rates result)
  unfolding run_tangent run_by plain ran_on carried_on tangent_of
  engines_agree room = by_judgement (read_to_carry A words starts rates result) refl
    where
      by_judgement : (answer : Answer Sheet) → read_to_carry A words starts rates result ≡ answer
          → SameAnswer A (ran_on A (tangent_job A starts rates) (read_to_run A tangent_needs_of words starts rates lent) lent)
          (carried_on A (read_to_carry A words starts rates result) starts rates result)
      by_judgement (refused r) e = rw (same_judgement room, e) (record { number = refl; place = refl; result = refl })
      by_judgement (given sheet) e =
          let is = let_through sheet e in
          rw (same_judgement room, e)
          (ends_alike sheet (run_of A (tangent_of sheet) (tangent_setting A sheet rates) (tangent_start A sheet starts rates))
          (plain_by A (sets_of sheet) sheet starts rates)
          (runs_agree A sheet starts rates words is.is_read (sets_of sheet) is.starts_fit))
