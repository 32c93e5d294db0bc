-- Every variable and every constant that a row or a comparison of an accepted sheet's tangent table names is there.
use Prim.Native.Nat.{ℕ, ◌<◌}
use mathlib.Core.Path.{◌≡◌}
use mathlib.Core.Bool.{Bool, true, false, cond}
use mathlib.Core.List.{List}
use native.Mathlib.Omega.{arith}
use lib.ListN.{length}
use Rattle.sheet.specs.Judging.{given}
use Rattle.sheet.specs.Tree.{done, one, fork, again, RowNumber}
use Rattle.sheet.specs.Rows.{Assignment, ◌≔◌, Source, copy, fixed, sum, difference, product, negation, quotient}
use Rattle.sheet.specs.Names.{SourcePresent, AssignmentPresent}
use Rattle.sheet.specs.Sheets.{Sheet}
use Rattle.sheet.specs.Reading.{read}
use Rattle.sets.specs.Transfers.{Activity}
use Rattle.sets.specs.Rounds.{marked}
use Rattle.sets.specs.Marks.{Marked}
use Rattle.table.specs.RowBounds.{table_variables}
use Rattle.table.specs.TableRows.{Table, t, u, assign, itself}
use Rattle.table.specs.Adjoint.{Body, put}
use Rattle.run.proofs.KnownNames.{KnownIn, BodyKnown, widened, test_widened, loop_widened, sheet_known}
use Rattle.tangent.specs.Tangent.{rate_of, set_rate, no_rate, both_terms, second_term, both_quotients, from_varied, active_rates, rate_rows, tangent_row, tangent_table, tangent_by}
use Rattle.tangent.specs.Calls.{tangent_of}

module _ (v k : ℕ) where
  abbrev Rated : Source → Type 0
  Rated source = SourcePresent (table_variables v) k source

  set_rate_lem : (d : ℕ) (source : Source) (row : RowNumber) (rest : Table) → d < v → Rated source → KnownIn v k rest → KnownIn v k (set_rate v d source row rest)
  unfolding KnownIn AssignmentPresent
  set_rate_lem d source row rest target reads later = ((omega arith, reads), later)

  no_rate_lem : (d : ℕ) (row : RowNumber) (rest : Table) → d < v → KnownIn v k rest → KnownIn v k (no_rate v d row rest)
  unfolding KnownIn
  no_rate_lem d row rest target later = (omega arith, later)

  both_terms_lem : (d a b : ℕ) (row : RowNumber) (rest : Table) → d < v → a < v → b < v → KnownIn v k rest → KnownIn v k (both_terms v d a b row rest)
  unfolding KnownIn AssignmentPresent SourcePresent
  both_terms_lem d a b row rest target p q later =
      ((omega arith, (omega arith, omega arith)), ((omega arith, (omega arith, omega arith)), set_rate_lem d (sum (u v) (t v)) row rest target (omega arith, omega arith) later))

  second_term_lem : (a b : ℕ) (row : RowNumber) (rest : Table) → a < v → b < v → KnownIn v k rest → KnownIn v k (second_term v a b row rest)
  unfolding KnownIn AssignmentPresent SourcePresent
  second_term_lem a b row rest p q later = (
    (omega arith, (omega arith, omega arith)),
    ((omega arith, (omega arith, omega arith)), ((omega arith, (omega arith, omega arith)), later)),
  )

  both_quotients_lem : (d a b : ℕ) (row : RowNumber) (rest : Table) → d < v → a < v → b < v → KnownIn v k rest
      → KnownIn v k (both_quotients v d a b row rest)
  unfolding KnownIn AssignmentPresent SourcePresent
  both_quotients_lem d a b row rest target p q later = (
    (omega arith, (omega arith, omega arith)),
    second_term_lem a b row (set_rate v d (difference (u v) (t v)) row rest) p q (set_rate_lem d (difference (u v) (t v)) row rest target (omega arith, omega arith) later),
  )

  -- whichever operands are varied
  any_varied : {X : Type 0} (Good : X → Type 0) (known : Activity) (both of_a of_b : X) → Good both → Good of_a → Good of_b → Good (from_varied known both of_a of_b)
  any_varied Good known both of_a of_b x y z = by_varied known.varied_a known.varied_b
    where
      by_varied : (first second : Bool) → Good (cond first (cond second both of_a) of_b)
      by_varied true true = x
      by_varied true false = y
      by_varied false second = z

  active_known : (d : ℕ) (source : Source) (row : RowNumber) (known : Activity) (rest : Table) → d < v → SourcePresent v k source → KnownIn v k rest
      → KnownIn v k (active_rates v d source row known rest)
  unfolding active_rates SourcePresent
  active_known d (copy a) row known rest target p later = set_rate_lem d _ row rest target (omega arith) later
  active_known d (fixed c) row known rest target p later = no_rate_lem d row rest target later
  active_known d (sum a b) row known rest target (p, q) later =
      set_rate_lem d _ row rest target
      (any_varied Rated known (sum (rate_of v a) (rate_of v b)) (copy (rate_of v a)) (copy (rate_of v b)) (omega arith, omega arith) (omega arith) (omega arith))
      later
  active_known d (difference a b) row known rest target (p, q) later =
      set_rate_lem d _ row rest target
      (any_varied Rated known (difference (rate_of v a) (rate_of v b)) (copy (rate_of v a)) (negation (rate_of v b)) (omega arith, omega arith) (omega arith) (omega arith))
      later
  active_known d (product a b) row known rest target (p, q) later =
      any_varied (KnownIn v k) known (both_terms v d a b row rest) (set_rate v d (product b (rate_of v a)) row rest) (set_rate v d (product a (rate_of v b)) row rest)
      (both_terms_lem d a b row rest target p q later)
      (set_rate_lem d (product b (rate_of v a)) row rest target (omega arith, omega arith) later)
      (set_rate_lem d (product a (rate_of v b)) row rest target (omega arith, omega arith) later)
  active_known d (negation a) row known rest target p later = set_rate_lem d _ row rest target (omega arith) later
  active_known d (quotient a b) row known rest target (p, q) later =
      any_varied (KnownIn v k) known (both_quotients v d a b row rest) (set_rate v d (quotient (rate_of v a) b) row rest)
      (second_term v a b row (set_rate v d (negation (t v)) row rest)) (both_quotients_lem d a b row rest target p q later)
      (set_rate_lem d (quotient (rate_of v a) b) row rest target (omega arith, omega arith) later)
      (second_term_lem a b row (set_rate v d (negation (t v)) row rest) p q (set_rate_lem d (negation (t v)) row rest target (omega arith) later))

  rates_known : (b : Assignment) (row : RowNumber) (known : Activity) (rest : Table) → AssignmentPresent v k b → KnownIn v k rest
      → KnownIn v k (rate_rows v b row known rest)
  unfolding rate_rows AssignmentPresent
  rates_known (d ≔ source) row known rest (target, reads) later = by_active known.active
    where
      by_active : (active : Bool) → KnownIn v k (cond active (active_rates v d source row known rest) (no_rate v d row rest))
      by_active true = active_known d source row known rest target reads later
      by_active false = no_rate_lem d row rest target later

  itself_known : (b : Assignment) (row : RowNumber) (rest : Table) → AssignmentPresent v k b → KnownIn v k rest
      → KnownIn v k (put row itself (assign b) rest)
  unfolding KnownIn AssignmentPresent
  itself_known (d ≔ source) row rest (target, reads) later = ((omega arith, widened v k source reads), later)

  row_known : (m : Marked) (rest : Table) → AssignmentPresent v k m.assignment → KnownIn v k rest → KnownIn v k (tangent_row v m rest)
  unfolding tangent_row
  row_known m rest here later =
      rates_known m.assignment m.row m.known _ here (itself_known m.assignment m.row rest here later)

  table_known : (body : Body) → BodyKnown v k body → KnownIn v k (tangent_table v body)
  unfolding tangent_table BodyKnown KnownIn
  table_known done known = tt
  table_known (one m rest) (here, next) = row_known m (tangent_table v rest) here (table_known rest next)
  table_known (fork f a b rest) (test, first, second, next) =
      (test_widened v k f.test test, table_known a first, table_known b second, table_known rest next)
  table_known (again l a rest) (inside, next, asks) = (table_known a inside, table_known rest next, loop_widened v k l asks)

pub tangent_known : (words : List ℕ) (sheet : Sheet) → read words ≡ given sheet
    → KnownIn (length sheet.roles) (length sheet.constants) (tangent_of sheet)
unfolding tangent_of tangent_by marked
tangent_known words sheet e = table_known (length sheet.roles) (length sheet.constants) (marked sheet) (sheet_known words sheet e)
