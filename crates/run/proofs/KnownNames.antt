-- A table all of whose rows name only variables and constants that are there, an original, an adjoint or rate, t or u, and one of the sheet's
-- constants, is one that the runner can index by; and the names of an accepted sheet's marked body.
use Prim.Native.Nat.{ℕ, suc, ◌+◌, ◌*◌, ◌<◌}
use mathlib.Core.Path.{◌≡◌, refl, sym, ap, subst, ◌∙◌}
use mathlib.Core.Logic.{◌⊎◌, inl, inr, ◌≢◌}
use mathlib.Core.List.{List, [], ◌∷◌}
use mathlib.Core.Option.{none}
use native.Mathlib.Omega.{arith}
use lib.ListN.{length}
use Rattle.sheet.specs.Bounds.{limit}
use Rattle.sheet.specs.Tree.{Loop, times, while, loop_by, Tree, done, one, fork, again, rows, flat, basic, if_line, else_line, end_if, repeat, end_repeat}
use Rattle.sheet.specs.Rows.{Assignment, ◌≔◌, Source, copy, fixed, sum, difference, product, negation, quotient, Test, less, Row, row_of, row_of_test, row_of_while, while_kind}
use Rattle.sheet.specs.Names.{SourcePresent, AssignmentPresent, TestPresent, LoopPresent, Present}
use Rattle.sheet.specs.Judging.{given}
use Rattle.sheet.specs.Sheets.{Sheet, row_at}
use Rattle.sheet.specs.Reading.{read}
use Rattle.sheet.proofs.NamesPresent.{names_present}
use Rattle.sets.specs.Rounds.{sets_of, marked}
use Rattle.sets.specs.Marks.{Marked, MarkedTest, test_at, numbered, mark_by, marked_by}
use Rattle.table.specs.RowBounds.{table_variables}
use Rattle.table.specs.TableRows.{Table, TableLine, TableRow, Action, assign, save, take_back, save_turn, clear, turn_round, TableTest, whether, on_turn, row_of_action, row_of_table_test, row_of_table_while, table_row_of, lines_of}
use Rattle.table.specs.Adjoint.{Body}
use Rattle.machine.specs.Inner.RowWords.{action_of, ActionPresent, Named}
use Rattle.machine.specs.Inner.RowsHanded.{Holds, Compared, Indexed}
use Rattle.machine.proofs.LineLaws.{action_said, straight_or_not}
use Rattle.machine.proofs.LinesStand.{FromEach, from_each_next, from_each_end}
use Rattle.machine.proofs.StraightLaws.{stands_there, words_there}

-- a row that names no variable to compare, and one both of whose are there
compares_nothing : {variables : ℕ} (row : Row) → row.kind ≢ 7 → row.kind ≢ while_kind → Compared variables row
compares_nothing row no_if no_while =
    record {
      first = λ is. absurd (no_if is);
      second = λ is. absurd (no_if is);
      first_asked = λ is. absurd (no_while is);
      second_asked = λ is. absurd (no_while is);
    }

compares : {variables : ℕ} (row : Row) → row.a < variables → row.b < variables → Compared variables row
compares row p q = record { first = λ is. p; second = λ is. q; first_asked = λ is. p; second_asked = λ is. q }

module _ (v k : ℕ) where
  abbrev pub Known : Action → Type 0
  Known action = ActionPresent (table_variables v) k action

  abbrev pub TestKnown : TableTest → Type 0
  TestKnown (whether f) = TestPresent (table_variables v) f
  TestKnown on_turn = Unit {0}

  abbrev pub LoopKnown : Loop TableTest → Type 0
  LoopKnown (times m) = Unit {0}
  LoopKnown (while f m) = TestKnown f

  unfoldable pub KnownIn : Table → Type 0
  KnownIn done = Unit {0}
  KnownIn (one row rest) = Known row.action × KnownIn rest
  KnownIn (fork f a b rest) = TestKnown f × KnownIn a × KnownIn b × KnownIn rest
  KnownIn (again l a rest) = KnownIn a × KnownIn rest × LoopKnown l

  unfoldable pub BodyKnown : Body → Type 0
  BodyKnown done = Unit {0}
  BodyKnown (one m rest) = AssignmentPresent v k m.assignment × BodyKnown rest
  BodyKnown (fork f a b rest) = TestPresent v f.test × BodyKnown a × BodyKnown b × BodyKnown rest
  BodyKnown (again l a rest) = BodyKnown a × BodyKnown rest × LoopPresent v (loop_by (λ f. f.test) l)

  -- ---- the marked body

  loop_numbered : (p : ℕ) (l : Loop Test) → LoopPresent v l → LoopPresent v (loop_by (λ f. f.test) (loop_by (test_at p) l))
  loop_numbered p (times m) present = tt
  loop_numbered p (while f m) present = present

  pub body_known : (mark : ℕ → Assignment → Marked) → ((p : ℕ) (b : Assignment) → (mark p b).assignment ≡ b) → (t : Tree Assignment Test) (p : ℕ)
      → Present v k t
      → BodyKnown (numbered mark t p)
  unfolding numbered Present BodyKnown
  body_known mark same done p present = tt
  body_known mark same (one b rest) p (here, later) = (rw (same p b) here, body_known mark same rest (suc p) later)
  body_known mark same (fork f a b rest) p (test, first, second, later) = (
    test,
    body_known mark same a (suc p) first,
    body_known mark same b (suc (suc p + rows a)) second,
    body_known mark same rest (suc (suc (suc p + rows a) + rows b)) later,
  )
  body_known mark same (again l a rest) p (body, later, asks) =
      (body_known mark same a (suc p) body, body_known mark same rest (suc (suc p + rows a)) later, loop_numbered p l asks)

  -- a name of the sheet's is one of its table's
  pub widened : (source : Source) → SourcePresent v k source → SourcePresent (table_variables v) k source
  unfolding SourcePresent
  widened (copy a) p = omega arith
  widened (fixed c) p = p
  widened (sum a b) (p, q) = (omega arith, omega arith)
  widened (difference a b) (p, q) = (omega arith, omega arith)
  widened (product a b) (p, q) = (omega arith, omega arith)
  widened (negation a) p = omega arith
  widened (quotient a b) (p, q) = (omega arith, omega arith)

  pub test_widened : (f : Test) → TestPresent v f → TestPresent (table_variables v) f
  unfolding TestPresent
  test_widened (less a b) (p, q) = (omega arith, omega arith)

  pub loop_widened : (l : Loop MarkedTest) → LoopPresent v (loop_by (λ f. f.test) l) → LoopKnown (loop_by (λ f. whether f.test) l)
  loop_widened (times m) present = tt
  loop_widened (while f m) present = test_widened f.test present

  -- ---- its lines

  abbrev LineKnown : List TableLine → Type 0
  LineKnown [] = Unit {0}
  LineKnown (basic row ∷ rest) = Known row.action
  LineKnown (if_line f ∷ rest) = TestKnown f
  LineKnown (else_line ∷ rest) = Unit {0}
  LineKnown (end_if ∷ rest) = Unit {0}
  LineKnown (repeat l ∷ rest) = LoopKnown l
  LineKnown (end_repeat ∷ rest) = Unit {0}

  lines_known : (t : Table) (rest : List TableLine) → KnownIn t → FromEach LineKnown rest → FromEach LineKnown (flat t rest)
  unfolding flat KnownIn
  lines_known done rest known later = later
  lines_known (one row t) rest (here, next) later = from_each_next LineKnown (basic row) _ here (lines_known t rest next later)
  lines_known (fork f a b t) rest (test, first, second, next) later =
      let after_b = from_each_next LineKnown end_if _ tt (lines_known t rest next later) in
      let after_a = from_each_next LineKnown else_line _ tt (lines_known b _ second after_b) in
      from_each_next LineKnown (if_line f) _ test (lines_known a _ first after_a)
  lines_known (again l a t) rest (body, next, asks) later =
      let after_a = from_each_next LineKnown end_repeat _ tt (lines_known t rest next later) in
      from_each_next LineKnown (repeat l) _ asks (lines_known a _ body after_a)

  -- ---- in a buffer

  named_there : (buffer : List ℕ) (lines : List TableLine) → Holds buffer lines → FromEach LineKnown lines → (p : ℕ) → p < length lines
      → Named (table_variables v) k (action_of (row_at buffer (1 + p * limit.row_words)))
  unfolding table_row_of row_of
  named_there buffer lines holds known p within =
      let there = stands_there lines p within in
      let told = words_there buffer lines there.rest there.line p _ holds refl there.is in
      by_line there.line there.rest (subst LineKnown there.is (known p)) told (straight_or_not there.line)
    where
      by_line : (line : TableLine) (rest : List TableLine) → LineKnown (line ∷ rest) → table_row_of line ≡ row_at buffer (1 + p * limit.row_words)
          → ((row : TableRow) × (line ≡ basic row)) ⊎ ((action_of (table_row_of line) ≡ none) × ((row : TableRow) → line ≡ basic row → ⊥))
          → Named (table_variables v) k (action_of (row_at buffer (1 + p * limit.row_words)))
      by_line line rest here told (inl (row, is)) =
          let known_row : Known row.action = subst (λ (l : TableLine). LineKnown (l ∷ rest)) is here in
          let same : row_of_action row.action ≡ row_at buffer (1 + p * limit.row_words) = sym (ap table_row_of is) ∙ told in
          subst (Named (table_variables v) k) (sym (action_said row.action) ∙ ap action_of same) (record { present = known_row })
      by_line line rest here told (inr (nothing, apart)) = subst (Named (table_variables v) k) (sym nothing ∙ ap action_of told) (record { present = tt })

  action_compares_nothing : (action : Action) → Compared (table_variables v) (row_of_action action)
  unfolding row_of_action row_of
  action_compares_nothing (assign (d ≔ copy a)) = compares_nothing _ (omega arith) (omega arith)
  action_compares_nothing (assign (d ≔ fixed c)) = compares_nothing _ (omega arith) (omega arith)
  action_compares_nothing (assign (d ≔ sum a b)) = compares_nothing _ (omega arith) (omega arith)
  action_compares_nothing (assign (d ≔ difference a b)) = compares_nothing _ (omega arith) (omega arith)
  action_compares_nothing (assign (d ≔ product a b)) = compares_nothing _ (omega arith) (omega arith)
  action_compares_nothing (assign (d ≔ negation a)) = compares_nothing _ (omega arith) (omega arith)
  action_compares_nothing (assign (d ≔ quotient a b)) = compares_nothing _ (omega arith) (omega arith)
  action_compares_nothing (save d) = compares_nothing _ (omega arith) (omega arith)
  action_compares_nothing (take_back d) = compares_nothing _ (omega arith) (omega arith)
  action_compares_nothing (save_turn first) = compares_nothing _ (omega arith) (omega arith)
  action_compares_nothing (clear d) = compares_nothing _ (omega arith) (omega arith)
  action_compares_nothing turn_round = compares_nothing _ (omega arith) (omega arith)

  line_compared : (line : TableLine) (rest : List TableLine) → LineKnown (line ∷ rest) → Compared (table_variables v) (table_row_of line)
  unfolding table_row_of row_of row_of_table_test row_of_test row_of_table_while row_of_while TestPresent
  line_compared (basic row) rest known = action_compares_nothing row.action
  line_compared (if_line (whether (less a b))) rest (p, q) = compares _ p q
  line_compared (if_line on_turn) rest known = compares_nothing _ (omega arith) (omega arith)
  line_compared else_line rest known = compares_nothing _ (omega arith) (omega arith)
  line_compared end_if rest known = compares_nothing _ (omega arith) (omega arith)
  line_compared (repeat (times m)) rest known = compares_nothing _ (omega arith) (omega arith)
  line_compared (repeat (while (whether (less a b)) m)) rest (p, q) = compares _ p q
  line_compared (repeat (while on_turn m)) rest known = compares_nothing _ (omega arith) (omega arith)
  line_compared end_repeat rest known = compares_nothing _ (omega arith) (omega arith)

  compared_there : (buffer : List ℕ) (lines : List TableLine) → Holds buffer lines → FromEach LineKnown lines → (p : ℕ) → p < length lines
      → Compared (table_variables v) (row_at buffer (1 + p * limit.row_words))
  compared_there buffer lines holds known p within =
      let there = stands_there lines p within in
      let told = words_there buffer lines there.rest there.line p _ holds refl there.is in
      subst (Compared (table_variables v)) told (line_compared there.line there.rest (subst LineKnown there.is (known p)))

  pub known_indexed : (t : Table) → KnownIn t → (buffer : List ℕ) → Holds buffer (lines_of t) → Indexed buffer (length (lines_of t)) (table_variables v) k
  unfolding lines_of
  known_indexed t known buffer holds =
      let each = lines_known t [] known (from_each_end LineKnown tt) in
      record {
        within = holds.within;
        named = named_there buffer (lines_of t) holds each;
        compared = compared_there buffer (lines_of t) holds each;
      }

mark_keeps : (sheet : Sheet) (p : ℕ) (b : Assignment) → (mark_by (sets_of sheet) p b).assignment ≡ b
unfolding mark_by
mark_keeps sheet p b = refl

pub sheet_known : (words : List ℕ) (sheet : Sheet) → read words ≡ given sheet
    → BodyKnown (length sheet.roles) (length sheet.constants) (marked sheet)
unfolding marked marked_by
sheet_known words sheet e =
    body_known (length sheet.roles) (length sheet.constants) (mark_by (sets_of sheet)) (mark_keeps sheet) sheet.body 0 (names_present words sheet e)
