-- Refusal 13: the first row of kind 18, where an arithmetic has no quotients; and what is read for an arithmetic.
use Prim.Native.Nat.{ℕ, zero, suc, ◌+◌, ◌*◌, ◌<◌}
use mathlib.Core.Path.{◌≡◌, refl, ap, ◌∙◌}
use mathlib.Core.Bool.{Bool, true, false, not}
use mathlib.Core.List.{List, [], ◌∷◌}
use mathlib.Core.Logic.{◌⊎◌, inl, inr}
use lib.ListN.{length, get_or}
use lib.Dec.{eqb}
use native.Mathlib.Omega.{arith}
use borrow.Author.Tests.{eq-eqb, eqb-true}
use Rattle.sheet.specs.Bounds.{limit}
use Rattle.sheet.specs.Judging.{refused, given, ◌>>=◌, unless}
use Rattle.sheet.specs.Refusals.{Refusal, holds_quotient}
use Rattle.sheet.specs.Rows.{Row, quotient_kind}
use Rattle.sheet.specs.Sheets.{Sheet, first_row, row_at, rows_at}
use Rattle.sheet.specs.Reading.{read, undivided, read_in}
use Rattle.sheet.proofs.NamesPresent.{section_length}
use Rattle.sheet.proofs.RowsCounted.{rows_counted}
use Rattle.table.proofs.QuotientLaws as quotient_laws
use Rattle.claims.specs.ExactlyWhen.{First, rows, variable_count, constant_count, row_count, first_item, row_place, row_no, Read, QuotientAt, Calculable}
use Rattle.claims.proofs.FirstFailing.{each_judged, Fails, all_pass, first_refused, all_or_first}

-- ---- rows in turn

abbrev undivided_row : Row → Bool
undivided_row r = not (eqb r.kind quotient_kind)

rows_judged : (rs : List Row) (first n place : ℕ) → place ≡ first + n * limit.row_words
    → undivided rs place ≡ each_judged undivided_row (λ i. holds_quotient (first + i * limit.row_words)) rs n
unfolding undivided each_judged
rows_judged [] first n place e = refl
rows_judged (r ∷ rs) first n place e =
    rw e
    (ap (λ rest. unless (undivided_row r) (holds_quotient (first + n * limit.row_words)) >>= (λ _. rest))
    (rows_judged rs first (suc n) (first + n * limit.row_words + limit.row_words) (omega arith)))

row_there : (words : List ℕ) (first n i : ℕ) (d : Row) → i < n → get_or (rows_at words first n) i d ≡ row_at words (first + i * limit.row_words)
unfolding rows_at
row_there words first zero i d h = absurd (omega arith)
row_there words first (suc n) zero d h = ap (row_at words) (omega arith)
row_there words first (suc n) (suc i) d h = row_there words (first + limit.row_words) n i d (omega arith) ∙ ap (row_at words) (omega arith)

-- ---- of a sheet that is read

module _ (words : List ℕ) (sheet : Sheet) (is : Read words sheet) where
  many : length sheet.rows ≡ row_count words
  many = ap length is.rows ∙ rows_counted words (first_item words rows) (row_count words)

  begins : first_row sheet ≡ first_item words rows
  begins =
      let reached = is.nothing_left.0.0.0 in
      let roles : length sheet.roles ≡ variable_count words =
      ap length is.roles ∙ section_length words 0 (variable_count words) reached.0.2 in
      let constants_there : length sheet.constants ≡ constant_count words =
      ap length is.constants ∙ section_length words (1 + variable_count words) (constant_count words) reached.2.2 in
      omega arith

  in_turn_lem : undivided sheet.rows (first_row sheet) ≡ each_judged undivided_row (λ i. holds_quotient (row_place words i)) sheet.rows 0
  in_turn_lem = rows_judged sheet.rows (first_item words rows) 0 (first_row sheet) (begins ∙ omega arith)

  abbrev no_row : Row
  no_row = record { kind = 0; d = 0; a = 0; b = 0 }

  abbrev Divided : ℕ → Type 0
  Divided = Fails undivided_row no_row sheet.rows

  row_is : (i : ℕ) → i < row_count words → get_or sheet.rows i no_row ≡ row_no words i
  row_is i h = ap (λ rs. get_or rs i no_row) is.rows ∙ row_there words (first_item words rows) (row_count words) i no_row h

  divided_there : (i : ℕ) → QuotientAt words i → Divided i
  divided_there i (h, e) = (omega (arith, many), ap undivided_row (row_is i h) ∙ ap not (eq-eqb _ _ e))

  quotient_there : (i : ℕ) → Divided i → QuotientAt words i
  quotient_there i (h, e) =
      let below : i < row_count words = omega (arith, many) in
      (below, eqb-true _ _ (told _ (ap undivided_row (row_is i below) ∙ refl) e))
    where
      told : (same : Bool) → undivided_row (get_or sheet.rows i no_row) ≡ not same → undivided_row (get_or sheet.rows i no_row) ≡ false → same ≡ true
      told true e f = refl
      told false e f = let z : ◌≡◌ {A = ℕ} 0 1 = cc in absurd (omega arith)

  pub quotient_refused : (i : ℕ) → First (QuotientAt words) i → undivided sheet.rows (first_row sheet) ≡ refused (holds_quotient (row_place words i))
  quotient_refused i first =
      let at : 0 + i ≡ i = omega arith in
      let divided : First Divided i =
      record { here = divided_there i first.here; before = λ j below f. first.before j below (quotient_there j f) } in
      in_turn_lem ∙ first_refused undivided_row no_row (λ n. holds_quotient (row_place words n)) sheet.rows 0 i divided
      ∙ ap (λ n. refused (holds_quotient (row_place words n))) at

  pub quotient_free : ((i : ℕ) → ¬ QuotientAt words i) → undivided sheet.rows (first_row sheet) ≡ given tt
  quotient_free none = in_turn_lem ∙ all_pass undivided_row no_row (λ n. holds_quotient (row_place words n)) sheet.rows 0 (λ i f. none i (quotient_there i f))

  pub free_or_first : ((i : ℕ) → ¬ QuotientAt words i) ⊎ ((i : ℕ) × First (QuotientAt words) i)
  free_or_first = by (all_or_first undivided_row no_row sheet.rows)
    where
      by : ((i : ℕ) → ¬ Divided i) ⊎ ((i : ℕ) × First Divided i) → ((i : ℕ) → ¬ QuotientAt words i) ⊎ ((i : ℕ) × First (QuotientAt words) i)
      by (inl none) = inl (λ i q. none i (divided_there i q))
      by (inr (i, first)) =
          inr (i, record { here = quotient_there i first.here; before = λ j below q. first.before j below (divided_there j q) })

-- ---- for an arithmetic that divides, or doesn't

pub refused_in : (divides : Bool) (words : List ℕ) (r : Refusal) → read words ≡ refused r → read_in divides words ≡ refused r
unfolding read_in
refused_in true words r e = e
refused_in false words r e = quotient_laws.refused_in words r e

module _ (words : List ℕ) (sheet : Sheet) (is : Read words sheet) (e : read words ≡ given sheet) where
  pub held_in : (divides : Bool) (i : ℕ) → divides ≡ false → First (QuotientAt words) i → read_in divides words ≡ refused (holds_quotient (row_place words i))
  unfolding read_in
  held_in true i not first = let z : ◌≡◌ {A = ℕ} 0 1 = cc in absurd (omega arith)
  held_in false i not first = rw (e, quotient_refused words sheet is i first)

  pub calculable_in : (divides : Bool) → Calculable words divides → read_in divides words ≡ given sheet
  unfolding read_in
  calculable_in true none = e
  calculable_in false none = rw (e, quotient_free words sheet is (none refl))

  pub calculable_or_held : (divides : Bool) → Calculable words divides ⊎ ((divides ≡ false) × ((i : ℕ) × First (QuotientAt words) i))
  calculable_or_held true = inl (λ not. let z : ◌≡◌ {A = ℕ} 0 1 = cc in absurd (omega arith))
  calculable_or_held false = by (free_or_first words sheet is)
    where
      by : ((i : ℕ) → ¬ QuotientAt words i) ⊎ ((i : ℕ) × First (QuotientAt words) i)
          → Calculable words false ⊎ ((◌≡◌ {A = Bool} false false) × ((i : ℕ) × First (QuotientAt words) i))
      by (inl none) = inl (λ not. none)
      by (inr found) = inr (refl, found)
