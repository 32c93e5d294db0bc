-- Peeking at the row after a straight one: it is not the one that was expected, and nothing is done, or it is, and its step is taken.
use Prim.Native.Nat.{ℕ, ◌+◌, ◌≤◌, ◌<◌}
use Rattle.std.specs.Prelude as std
use mathlib.Core.Path.{◌≡◌, refl}
use mathlib.Core.Logic.{◌⊎◌, inl, inr}
use mathlib.Core.List.{List, []}
use mathlib.Core.Option.{some}
use native.Mathlib.Omega.{arith}
use lib.ListN.{length, set}
use Rattle.number.specs.Arithmetic.{Arithmetic}
use Rattle.number.specs.Answers.{outcome_of}
use Rattle.sheet.specs.Rows.{Row, Source, ◌≔◌, copy, sum}
use Rattle.sheet.specs.Answers.{row_said}
use Rattle.sheet.specs.declared.RowWords.{RowWords}
use Rattle.table.specs.TableRows.{assign}
use Rattle.machine.specs.Actions.{through, from_outcome}
use Rattle.machine.specs.Inner.Buffers.{cells_of, Evaluates}
use Rattle.machine.specs.Inner.RowWords.{action_of, Named}
use Rattle.machine.specs.Inner.RowsHanded.{Indexes}
use Rattle.machine.specs.Inner.RowSteps.{MeetsRow, MeetsKind, ActsBy, StraightRow, Peeks, PeeksOn}
use Rattle.machine.specs.declared.Place.{Place}
use Rattle.machine.specs.declared.Ahead.TheVariants as ahead
use Rattle.machine.specs.declared.Acted.TheVariants as acted
use Rattle.machine.proofs.LineLaws.{says_copy, says_sum, names_copy, names_sum, names_clear}
use Rattle.machine.proofs.RowLaws.{assign_goes, clear_goes}
use Rattle.machine.proofs.StraightLaws.{straight_acts, cleared, assigned}

-- ---- nothing, or a row whose code goes on

module _ {A : Arithmetic} {table : List ℕ} {until : ℕ} {place : Place} {store : List A.Carrier} where
  pub peeks_nothing : Peeks A table until place store store place
  peeks_nothing = record { peeks = λ roles constants seeds values turns copied. inl (refl, refl) }

  peeks_on : {words : Row} {next : Place} {store_after : List A.Carrier} → MeetsRow table until place words next
      → ((roles constants : List ℕ) (seeds values : List A.Carrier) (turns : List ℕ) (copied : List A.Carrier)
      → ActsBy A words roles constants seeds next (cells_of A store values turns copied) (cells_of A store_after values turns copied)
      (acted.On next ahead.Any))
      → Peeks A table until place store store_after next
  peeks_on meets acts =
      record {
        peeks = λ roles constants seeds values turns copied.
            inr
            (straight_acts meets.follows.spends meets.within meets.said meets.follows.is
            (acts roles constants seeds values turns copied));
      }

  peeks_assigned : {words : Row} {next : Place} {source : Source} {x : A.Carrier} → MeetsRow table until place words next
      → action_of words ≡ some (assign (words.d ≔ source))
      → words.d < length store
      → Evaluates A source store (through x)
      → Peeks A table until place store (set store words.d x) next
  peeks_assigned met said there reads =
      peeks_on met (λ roles constants seeds values turns copied. assigned ahead.Any said refl (reads constants) (assign_goes there))

-- whatever was done, no step more is left after it, and rows may be done as far as before
pub peek_leads : {A : Arithmetic} {table : List ℕ} {until : ℕ} {place answer : Place} {store store_after : List A.Carrier}
    → Peeks A table until place store store_after answer
    → (answer.left ≤ place.left) × (answer.at.0 + answer.left ≡ place.at.0 + place.left)
peek_leads {A} {table} {until} {place} {answer} {store} {store_after} peek = by_row (peek.peeks [] [] [] [] [] [])
  where
    by_row : ((answer ≡ place) × (store_after ≡ store))
        ⊎ StraightRow A table until [] [] [] place (cells_of A store [] [] []) (cells_of A store_after [] [] []) (acted.On answer ahead.Any)
        → (answer.left ≤ place.left) × (answer.at.0 + answer.left ≡ place.at.0 + place.left)
    by_row (inl (is, same)) = rw is (omega arith, refl)
    by_row (inr straight) = (omega (arith, straight.left), omega (arith, straight.left, straight.at))

-- ---- one peek, and another after it

module _ {A : Arithmetic} {table : List ℕ} {until : ℕ} {place answer : Place} {store store_after : List A.Carrier} where
  pub peeks_once : Peeks A table until place store store_after answer → length store_after ≡ length store → PeeksOn A table until place store store_after answer
  peeks_once peek kept = record { between = answer; midway = store_after; long = kept; first = peek; second = peeks_nothing }

  pub peeks_fewer : PeeksOn A table until place store store_after answer → answer.left ≤ place.left
  peeks_fewer peeks = omega (arith, (peek_leads peeks.first).0, (peek_leads peeks.second).0)

-- ---- the row that was met names only variables that are there

named_there : {table : List ℕ} {until v : ℕ} {place next : Place} {words : Row} (indexes : Indexes table until v) → MeetsRow table until place words next
    → Named v indexes.constants (action_of words)
named_there indexes meets = rw meets.said (indexes.indexed.named _ meets.within)

module _ {table : List ℕ} {until : ℕ} (place : Place) {next : Place} {row : RowWords} {found : std.Option (RowWords × Place)} {v : ℕ} (is : found ≡ std.Some (row, next))
    (indexes : Indexes table until v) where
  pub clear_there : MeetsKind table until place 16 found → row.d < v
  clear_there meets =
      let (met, kind) = rw is at meets in
      names_clear (row_said row) (named_there indexes met) kind

  pub copy_there : MeetsKind table until place 1 found → (row.d < v) × (row.a < v)
  copy_there meets =
      let (met, kind) = rw is at meets in
      names_copy (row_said row) (named_there indexes met) kind

  pub sum_there : MeetsKind table until place 3 found → (row.d < v) × ((row.a < v) × (row.b < v))
  sum_there meets =
      let (met, kind) = rw is at meets in
      names_sum (row_said row) (named_there indexes met) kind

-- ---- the step of a clear

module _ {A : Arithmetic} {table : List ℕ} {until : ℕ} {place next : Place} {row : RowWords} {found : std.Option (RowWords × Place)} {store : List A.Carrier}
    (is : found ≡ std.Some (row, next))
    (indexes : Indexes table until (length store)) where
  pub peeks_clear : {zero : A.Carrier} → MeetsKind table until place 16 found → zero ≡ A.zero
      → Peeks A table until place store (set store row.d zero) next
  peeks_clear meets zeroed =
      let (met, kind) = rw is at meets in
      let there = clear_there place is indexes meets in
      peeks_on met (λ roles constants seeds values turns copied. cleared kind refl (clear_goes zeroed there))

-- by what a copy's and a sum's code answers
module _ {A : Arithmetic} {table : List ℕ} {until : ℕ} {place next : Place} {row : RowWords} {found : std.Option (RowWords × Place)} {store : List A.Carrier}
    {Failure : Type 0} (why : Failure → A.Why) {result : std.Result A.Carrier Failure} {x : A.Carrier}
    (is : found ≡ std.Some (row, next))
    (indexes : Indexes table until (length store)) where
  pub peeks_copy : MeetsKind table until place 1 found → Evaluates A (copy row.a) store (from_outcome (outcome_of why result))
      → result ≡ std.Ok x
      → Peeks A table until place store (set store row.d x) next
  peeks_copy meets reads value =
      let (met, kind) = rw is at meets in
      peeks_assigned met (says_copy (row_said row) kind) (copy_there place is indexes meets).0 (rw value at reads)

  pub peeks_sum : MeetsKind table until place 3 found → Evaluates A (sum row.a row.b) store (from_outcome (outcome_of why result))
      → result ≡ std.Ok x
      → Peeks A table until place store (set store row.d x) next
  peeks_sum meets sums value =
      let (met, kind) = rw is at meets in
      peeks_assigned met (says_sum (row_said row) kind) (sum_there place is indexes meets).0 (rw value at sums)
