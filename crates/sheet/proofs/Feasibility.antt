-- What refusal 13 leaves: a sheet that was read for an arithmetic is read, and each quotient that it holds can be done.
use Prim.Native.Nat.{ℕ, ◌+◌}
use mathlib.Core.Path.{◌≡◌, refl, subst, sym}
use mathlib.Core.Bool.{Bool, true, false, not}
use mathlib.Core.Logic.{◌≢◌}
use mathlib.Core.List.{List, [], ◌∷◌, map}
use lib.Dec.{eqb}
use native.Mathlib.Omega.{arith}
use borrow.Author.Tests.{eq-eqb}
use Rattle.sheet.specs.Bounds.{limit}
use Rattle.sheet.specs.Judging.{given, unless}
use Rattle.sheet.specs.Refusals.{holds_quotient}
use Rattle.sheet.specs.Tree.{Tree, done, one, fork, again, flat}
use Rattle.sheet.specs.Rows.{Assignment, ◌≔◌, Source, copy, fixed, sum, difference, product, negation, quotient, Test, SheetLine, Row, row_of_assignment, sheet_row_of, tree_rows, quotient_kind}
use Rattle.sheet.specs.Names.{SourceFeasible, AssignmentFeasible, Feasible}
use Rattle.sheet.specs.Sheets.{Sheet, first_row}
use Rattle.sheet.specs.Reading.{read, undivided, read_in}
use Rattle.sheet.proofs.ReadingParts.{bound, passed, same_given}
use Rattle.sheet.proofs.TreeOfRows.{tree_of_rows}

-- ---- rows without a quotient

unfoldable pub Undivided : List Row → Type 0
Undivided [] = Unit {0}
Undivided (r ∷ rs) = (r.kind ≢ quotient_kind) × Undivided rs

not_that_kind : (kind : ℕ) → not (eqb kind quotient_kind) ≡ true → kind ≢ quotient_kind
not_that_kind kind e is =
    let that = eq-eqb kind quotient_kind is in
    let z : ◌≡◌ {A = ℕ} 0 1 = cc in
    omega arith

pub all_undivided : (rs : List Row) (place : ℕ) → undivided rs place ≡ given tt → Undivided rs
unfolding undivided Undivided
all_undivided [] place e = tt
all_undivided (r ∷ rs) place e =
    let here = bound (unless (not (eqb r.kind quotient_kind)) (holds_quotient place)) _ tt e in
    (not_that_kind r.kind (passed _ (holds_quotient place) here.1), all_undivided rs (place + limit.row_words) here.2)

-- ---- the body

assignment_feasible : (b : Assignment) → (row_of_assignment b).kind ≢ quotient_kind → AssignmentFeasible false b
unfolding row_of_assignment SourceFeasible
assignment_feasible (d ≔ copy a) apart = tt
assignment_feasible (d ≔ fixed c) apart = tt
assignment_feasible (d ≔ sum a b) apart = tt
assignment_feasible (d ≔ difference a b) apart = tt
assignment_feasible (d ≔ product a b) apart = tt
assignment_feasible (d ≔ negation a) apart = tt
assignment_feasible (d ≔ quotient a b) apart = absurd (apart refl)

-- a tree's lines before others
tree_feasible : (t : Tree Assignment Test) (rest : List SheetLine) → Undivided (map sheet_row_of (flat t rest))
    → Feasible false t × Undivided (map sheet_row_of rest)
unfolding flat Undivided Feasible sheet_row_of
tree_feasible done rest h = (tt, h)
tree_feasible (one b k) rest h =
    let later = tree_feasible k rest h.1 in
    ((assignment_feasible b h.0, later.0), later.1)
tree_feasible (fork f a b k) rest h =
    let first = tree_feasible a _ h.1 in
    let second = tree_feasible b _ first.1.1 in
    let later = tree_feasible k rest second.1.1 in
    ((first.0, second.0, later.0), later.1)
tree_feasible (again m a k) rest h =
    let body = tree_feasible a _ h.1 in
    let later = tree_feasible k rest body.1.1 in
    ((body.0, later.0), later.1)

pub source_divided : (source : Source) → SourceFeasible true source
unfolding SourceFeasible
source_divided (copy a) = tt
source_divided (fixed c) = tt
source_divided (sum a b) = tt
source_divided (difference a b) = tt
source_divided (product a b) = tt
source_divided (negation a) = tt
source_divided (quotient a b) = refl

all_feasible : (t : Tree Assignment Test) → Feasible true t
unfolding Feasible
all_feasible done = tt
all_feasible (one (d ≔ source) k) = (source_divided source, all_feasible k)
all_feasible (fork f a b k) = (all_feasible a, all_feasible b, all_feasible k)
all_feasible (again m a k) = (all_feasible a, all_feasible k)

-- ---- a sheet that was read for an arithmetic

pub record ReadFor (divides : Bool) (words : List ℕ) (sheet : Sheet) : Type 0 where
  pub is_read : read words ≡ given sheet
  pub feasible : Feasible divides sheet.body

pub read_for_lem : (divides : Bool) (words : List ℕ) (sheet : Sheet) → read_in divides words ≡ given sheet → ReadFor divides words sheet
unfolding read_in tree_rows
read_for_lem true words sheet e = record { is_read = e; feasible = all_feasible sheet.body }
read_for_lem false words sheet e =
    let found = bound (read words) _ sheet e in
    let judged = bound (undivided found.0.rows (first_row found.0)) _ sheet found.2 in
    let is_read : read words ≡ given sheet = subst (λ s. read words ≡ given s) (same_given judged.2) found.1 in
    let none = subst (λ s. Undivided s.rows) (same_given judged.2) (all_undivided found.0.rows (first_row found.0) judged.1) in
    record { is_read = is_read; feasible = (tree_feasible sheet.body [] (subst Undivided (sym (tree_of_rows words sheet is_read).says) none)).0 }
