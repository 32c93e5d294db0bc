-- The rows from a place on, after what has been read: one row more keeps what they come to, and how they end.
use Prim.Native.Nat.{ℕ, zero, suc, ◌+◌, ◌*◌, ◌-◌, ◌≤◌, ◌<◌}
use Rattle.std.specs.Prelude.{Option, Some}
use mathlib.Core.Path.{◌≡◌, refl, sym, ap, subst, ◌∙◌}
use mathlib.Core.Bool.{Bool, true, false}
use mathlib.Core.List.{List, [], ◌∷◌}
use lib.ListN.{length, get_or, set, length-set}
use borrow.Author.Tests.{eq-eqb, ne_eqb}
use native.Mathlib.Decide.{dec_le}
use native.Mathlib.Omega.{arith}
use native.Mathlib.Numerals.{add-one, sub-one}
use Rattle.sheet.specs.Bounds.{limit}
use Rattle.sheet.specs.Judging.{Answer, refused, given, ◌>>=◌}
use Rattle.sheet.specs.Refusals.{Refusal, bad_row, bad_block}
use Rattle.sheet.specs.Rows.{SheetLine, Row, kinds}
use Rattle.sheet.specs.Tree.{longest_run}
use Rattle.sheet.specs.Sheets.{row_at, rows_at}
use Rattle.sheet.specs.Reading.{Item, Block, RowsTaken, line_of, taken, body_of}
use Rattle.sheet.specs.Inner.Kinds.{part_of, part_for, turns_in}
use Rattle.sheet.specs.Answers.{row_said}
use Rattle.sheet.specs.Inner.Steps.{no_rule, RulesFor, fits_rule, row_fits, saturated, step_of, body_said, after_rows_of, body_run}
use Rattle.sheet.specs.declared.Rule.{Rule}
use Rattle.sheet.specs.declared.RowWords.{RowWords}
use Rattle.sheet.specs.declared.Level.{Level}
use Rattle.sheet.specs.declared.Step.{Step}
use Rattle.sheet.specs.declared.Step.TheVariants as step
use Rattle.sheet.proofs.Judgements.{bind_assoc}
use Rattle.sheet.proofs.PartsRead.{turns_of, Judged, unfit, fit, row_judged, above_all_kinds, fits_by_rule, part_by_rule}
use Rattle.sheet.proofs.Levels.{level_of, bottom, Stand, Next, Follows, items_run, closed_done, line_follows}

-- a row that fits says a line, which does to the blocks what the row does; one that doesn't is refused by 5
pub record Says (v k place : ℕ) (r : Row) : Type 0 where
  pub line : SheetLine
  pub is : line_of v k r place ≡ given line
  pub same : (depth : ℕ) (inner outer : Level)
      → step_of (part_for r.kind) (turns_in r) depth inner outer ≡ step_of (part_of line) (turns_of line) depth inner outer

module _ (v k place : ℕ) (r : Row) where
  says_line : row_fits v k r ≡ true → Says v k place r
  says_line = by (row_judged v k place r) refl
    where
      by : {fits : Bool} {answer : Answer SheetLine} → Judged place r fits answer → line_of v k r place ≡ answer → fits ≡ true → Says v k place r
      by unfit is e = let z : ◌≡◌ {A = ℕ} 0 1 = cc in absurd (omega arith)
      by (fit line same) is e = record { line = line; is = is; same = same }

  says_none : row_fits v k r ≡ false → line_of v k r place ≡ refused (bad_row place)
  says_none = by (row_judged v k place r)
    where
      by : {fits : Bool} {answer : Answer SheetLine} → Judged place r fits answer → fits ≡ false → answer ≡ refused (bad_row place)
      by unfit e = refl
      by (fit line same) e = let z : ◌≡◌ {A = ℕ} 0 1 = cc in absurd (omega arith)

module _ (v k : ℕ) where
  -- the answer of one row
  abbrev pub row_taken : Row → (place : ℕ) → List Block → List Item → Answer RowsTaken
  row_taken r place blocks items = line_of v k r place >>= λ line. taken line place blocks items

  abbrev rest_run : List Row → (place : ℕ) → RowsTaken → Answer ℕ
  rest_run rs place next = body_run v k rs (place + limit.row_words) next.blocks next.items

  row_then_rest : (r : Row) (rs : List Row) (place : ℕ) (blocks : List Block) (items : List Item)
      → body_run v k (r ∷ rs) place blocks items ≡ (row_taken r place blocks items >>= rest_run rs place)
  unfolding body_run body_of
  row_then_rest r rs place blocks items = by (line_of v k r place)
    where
      by : (answer : Answer SheetLine)
          → ((answer >>= λ line. (taken line place blocks items >>= λ next. body_of v k rs (place + limit.row_words) next.blocks next.items))
          >>= λ tree. given (saturated (longest_run tree)))
          ≡ ((answer >>= λ line. taken line place blocks items) >>= rest_run rs place)
      by (refused why) = refl
      by (given line) = bind_assoc (taken line place blocks items) _ _

  pub first_row : (words : List ℕ) (place left : ℕ) (blocks : List Block) (items : List Item) → 0 < left
      → body_run v k (rows_at words place left) place blocks items
      ≡ (row_taken (row_at words place) place blocks items >>= rest_run (rows_at words (place + limit.row_words) (left - 1)) place)
  unfolding rows_at
  first_row words place zero blocks items some = absurd (omega arith)
  first_row words place (suc n) blocks items some = rw sub-one (row_then_rest (row_at words place) _ place blocks items)

  closed_run_given : (place : ℕ) (blocks : List Block) (items : List Item) → length blocks ≡ 0
      → body_run v k [] place blocks items ≡ given (saturated (items_run items))
  unfolding body_run body_of
  closed_run_given place [] items e = rw (closed_done items)
  closed_run_given place (b ∷ blocks) items e = absurd (omega arith)

  open_refused : (place : ℕ) (blocks : List Block) (items : List Item) → ¬ (length blocks ≡ 0)
      → body_run v k [] place blocks items ≡ refused (bad_block place)
  unfolding body_run body_of
  open_refused place [] items e = absurd (e refl)
  open_refused place (b ∷ blocks) items e = refl

no_rows : (words : List ℕ) (place left : ℕ) → left ≤ 0 → rows_at words place left ≡ []
unfolding rows_at
no_rows words place zero h = refl
no_rows words place (suc n) h = absurd (omega arith)

-- ---- where the reading stands

abbrev whole_run : (words : List ℕ) (first count v k : ℕ) → Answer ℕ
whole_run words first count v k = body_run v k (rows_at words first count) first [] []

-- the blocks and items that the levels stand for, and that the rows that are left come to what all rows do
pub record Going (words : List ℕ) (first count v k : ℕ) (levels : List Level) (depth : ℕ) (inner : Level) (place left : ℕ) : Type 0 where
  pub blocks : List Block
  pub items : List Item
  pub deep : length blocks ≡ depth
  pub within : depth ≤ limit.depth
  pub room : length levels ≡ suc limit.depth
  pub here : inner ≡ level_of blocks items
  pub stands : Stand levels blocks
  pub there : place + left * limit.row_words ≤ length words
  pub same : body_run v k (rows_at words place left) place blocks items ≡ whole_run words first count v k

pub going_starts : (words : List ℕ) (first count v k : ℕ) (levels : List Level) → length levels ≡ suc limit.depth
    → first + count * limit.row_words ≤ length words → Going words first count v k levels 0 bottom (first + 0 * limit.row_words) (count - 0)
unfolding saturated
going_starts words first count v k levels room there =
    let place : first + 0 * limit.row_words ≡ first = omega arith in
    let left : count - 0 ≡ count = omega arith in
    record {
      blocks = [];
      items = [];
      deep = refl;
      within = omega arith;
      room = room;
      here = refl;
      stands = tt;
      there = omega (arith, there);
      same = rw (place, left);
    }

module _ {words : List ℕ} {first count v k : ℕ} {levels : List Level} {depth : ℕ} {inner : Level} {place left : ℕ}
    (going : Going words first count v k levels depth inner place left) where
  -- the answer of the row that is next
  abbrev pub row_here : Answer RowsTaken
  row_here = row_taken v k (row_at words place) place going.blocks going.items

  pub unfit_refused : row_fits v k (row_at words place) ≡ false → row_here ≡ refused (bad_row place)
  unfit_refused e = rw (says_none v k place (row_at words place) e)

  pub step_follows : (s : Option Step) → row_fits v k (row_at words place) ≡ true
      → s ≡ step_of (part_for (row_at words place).kind) (turns_in (row_at words place)) depth inner (get_or levels depth bottom)
      → Follows place depth levels inner s row_here
  step_follows s fits is =
      let says = says_line v k place (row_at words place) fits in
      rw (is, says.same, says.is, going.here, ← going.deep)
      (line_follows place levels going.blocks going.items going.stands says.line)

  module _ (some : 0 < left) where
    from_here : whole_run words first count v k ≡ (row_here >>= rest_run v k (rows_at words (place + limit.row_words) (left - 1)) place)
    from_here = sym going.same ∙ first_row v k words place left going.blocks going.items some

    pub row_ends : (why : Refusal) → row_here ≡ refused why → refused why ≡ whole_run words first count v k
    row_ends why e = sym (from_here ∙ rw e)

    abbrev GoingOn : List Level → ℕ → Level → Type 0
    GoingOn levels' depth' l = Going words first count v k levels' depth' l (place + limit.row_words) (left - 1)

    going_on : (levels' : List Level) (depth' : ℕ) (l : Level) → depth' ≤ limit.depth → length levels' ≡ suc limit.depth
        → Next row_here depth' l (Stand levels') → GoingOn levels' depth' l
    going_on levels' depth' l within room after =
        record {
          blocks = after.next.blocks;
          items = after.next.items;
          deep = after.deep;
          within = within;
          room = room;
          here = after.here;
          stands = after.stands;
          there = omega (arith, going.there);
          same = sym (from_here ∙ rw after.is);
        }

    pub stays : (l : Level) → Follows place depth levels inner (Some (step.Stay l)) row_here → GoingOn levels depth l
    stays l after = going_on levels depth l going.within going.room after

    pub enters : (l : Level) → Follows place depth levels inner (Some (step.Enter l)) row_here → GoingOn (set levels (depth + 1) inner) (depth + 1) l
    enters l (below, after) =
        going_on _ (depth + 1) l (omega arith) (simp length-set going.room) (after (depth + 1) (add-one depth) (omega (arith, going.room)))

    pub leaves : (l : Level) → Follows place depth levels inner (Some (step.Leave l)) row_here → GoingOn levels (depth - 1) l
    leaves l (above, after) = going_on levels (depth - 1) l (omega (arith, going.within)) going.room after

  -- after the last row
  module _ (none : left ≤ 0) where
    all_closed : depth ≡ 0 → given inner.longest ≡ whole_run words first count v k
    all_closed e =
        rw (going.here, ← going.same, no_rows words place left none)
        (sym (closed_run_given v k place going.blocks going.items (going.deep ∙ e)))

    never_closed_lem : ¬ (depth ≡ 0) → refused (bad_block place) ≡ whole_run words first count v k
    never_closed_lem e =
        rw (← going.same, no_rows words place left none)
        (sym (open_refused v k place going.blocks going.items (λ closed. e (sym going.deep ∙ closed))))

    pub rows_end : body_said (after_rows_of depth inner.longest place) ≡ whole_run words first count v k
    unfolding after_rows_of
    rows_end = by (dec_le depth 0)
      where
        by : Dec (depth ≤ 0) → body_said (after_rows_of depth inner.longest place) ≡ whole_run words first count v k
        by (yes h) = let closed : depth ≡ 0 = omega arith in rw (eq-eqb depth 0 closed) (all_closed closed)
        by (no h) = let open_still : ¬ (depth ≡ 0) = λ e. omega arith in rw (ne_eqb depth 0 open_still) (never_closed_lem open_still)

pub rows_done : {words : List ℕ} {first count v k : ℕ} {levels : List Level} {depth : ℕ} {inner : Level} {number : ℕ}
    → Going words first count v k levels depth inner (first + number * limit.row_words) (count - number) → number ≡ count
    → body_said (after_rows_of depth inner.longest (first + count * limit.row_words)) ≡ whole_run words first count v k
rows_done {words} {first} {count} {v} {k} {levels} {depth} {inner} going all =
    subst (λ n. body_said (after_rows_of depth inner.longest (first + n * limit.row_words)) ≡ whole_run words first count v k) all
    (rows_end going (omega arith))

-- ---- at the row after so many, as the reader has it

module _ {words : List ℕ} {first count v k : ℕ} {levels : List Level} {depth : ℕ} {inner : Level} {number : ℕ}
    (going : Going words first count v k levels depth inner (first + number * limit.row_words) (count - number)) (more : number < count) where
  abbrev place : ℕ
  place = first + number * limit.row_words

  pub row_refused : (why : Refusal) → row_here going ≡ refused why → refused why ≡ whole_run words first count v k
  row_refused why e = row_ends going (omega arith) why e

  -- after it
  abbrev After : List Level → ℕ → Level → Type 0
  After levels' depth' l = Going words first count v k levels' depth' l (first + (number + 1) * limit.row_words) (count - (number + 1))

  at_next : {levels' : List Level} {depth' : ℕ} {l : Level} → Going words first count v k levels' depth' l (place + limit.row_words) (count - number - 1)
      → After levels' depth' l
  at_next {levels'} {depth'} {l} going' =
      let next : place + limit.row_words ≡ first + (number + 1) * limit.row_words = omega arith in
      let left : count - number - 1 ≡ count - (number + 1) = omega arith in
      subst (λ n. Going words first count v k levels' depth' l n (count - (number + 1))) next
      (subst (λ n. Going words first count v k levels' depth' l (place + limit.row_words) n) left going')

  pub row_stays : (l : Level) → Follows place depth levels inner (Some (step.Stay l)) (row_here going) → After levels depth l
  row_stays l after = at_next (stays going (omega arith) l after)

  pub row_enters : (l : Level) → Follows place depth levels inner (Some (step.Enter l)) (row_here going) → After (set levels (depth + 1) inner) (depth + 1) l
  row_enters l after = at_next (enters going (omega arith) l after)

  pub row_leaves : (l : Level) → Follows place depth levels inner (Some (step.Leave l)) (row_here going) → After levels (depth - 1) l
  row_leaves l after = at_next (leaves going (omega arith) l after)

  -- by its words, and the rule that was looked up by its kind
  module _ (rules : List Rule) (made : RulesFor v k rules) {row : RowWords} (read : row_said row ≡ row_at words place) {kind : ℕ}
      (is_kind : kind ≡ row.kind) where
    abbrev here : Row
    here = row_at words place

    abbrev rule : Rule
    rule = get_or rules kind no_rule

    kind_read : kind ≡ here.kind
    kind_read = is_kind ∙ ap (λ r. r.kind) read

    pub no_kind : length kinds < kind → refused (bad_row place) ≡ whole_run words first count v k
    no_kind high = row_refused _ (unfit_refused going (above_all_kinds v k here (omega (arith, high, kind_read))))

    module _ (low : kind ≤ length kinds) where
      fits_same : fits_rule rule (row_said row) ≡ row_fits v k here
      fits_same = ap (fits_rule rule) read ∙ fits_by_rule v k here rules made kind kind_read low

      pub row_unfit : fits_rule rule (row_said row) ≡ false → refused (bad_row place) ≡ whole_run words first count v k
      row_unfit e = row_refused _ (unfit_refused going (sym fits_same ∙ e))

      -- what the row does to the blocks says what it comes to
      pub row_says : fits_rule rule (row_said row) ≡ true → (s : Option Step) (turns : ℕ) → turns ≡ turns_in (row_said row)
          → s ≡ step_of rule.part turns depth inner (get_or levels depth bottom) → Follows place depth levels inner s (row_here going)
      row_says fits s turns is_turns is =
          let part = part_by_rule v k here rules made kind kind_read low in
          step_follows going s (sym fits_same ∙ fits) (is ∙ cc part)
