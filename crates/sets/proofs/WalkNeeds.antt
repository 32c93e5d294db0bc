-- What a walk's code needs at each of its rows, and what it comes to.
use Prim.Native.Nat.{ℕ, suc, ◌+◌, ◌≤◌, ◌<◌}
use native.Mathlib.Numerals.{add-one}
use native.Mathlib.Omega.{arith}
use mathlib.Core.Path.{◌≡◌, refl, sym, ap, subst, ◌∙◌}
use mathlib.Core.Bool.{true, false}
use mathlib.Core.List.{List}
use lib.ListN.{length, get_or, set}
use lib.Seq.{get_or-set_other}
use Rattle.sheet.specs.Inner.Words.{word_values}
use Rattle.sheet.specs.Tree.{basic}
use Rattle.sheet.specs.Rows.{Assignment, SheetLine}
use Rattle.sheet.specs.Inner.Kinds.{assigns, part_of, all_forms}
use Rattle.sheet.specs.declared.kinds.Form.{Form}
use Rattle.sheet.specs.declared.kinds.Part.{Part}
use Rattle.sheet.specs.declared.kinds.Part.TheVariants as part
use Rattle.sets.specs.declared.operations.MaskedAssignment.{MaskedAssignment}
use Rattle.sets.specs.declared.walk.WalkedTo.{WalkedTo}
use Rattle.sets.specs.Inner.Analyses.{Which, Varied, Useful, Required, Lends, known_at, marked_at, marks_over}
use Rattle.sets.specs.VariableSets.{VariableSet, empty}
use Rattle.sets.specs.Equations.{right_side}
use Rattle.sets.specs.Rounds.{set_at, least}
use Rattle.sets.specs.Inner.Operations.{Performs, PerformsRow, Gives}
use Rattle.sets.specs.Inner.RowBytes.{byte_at}
use Rattle.sets.specs.Transfers.{Activity}
use Rattle.sets.specs.Inner.RowEquations.{Given, known_by, line_in, equation_in, turn_of, row_in_turn, own_point, settled_point, start_of, all_equations, seed_in, row_in, AllReadable, RowReadable, Formed, KindRead}
use Rattle.sets.specs.Inner.Walks.{place_in_turn, ends_repeat, asks_partner, part_in, Due, onward, backward, Grown, PassedRow, AtBlock, own_side, Settles}
use Rattle.sets.proofs.Truths.{never}
use Rattle.sets.proofs.OperationLaws.{AssignedBy, assigned_by}
use Rattle.sets.proofs.PartnerPass.{part_read}
use Rattle.sheet.proofs.PartsRead.{form_in}
use Rattle.sets.proofs.SheetRows.{form_read}
use Rattle.sets.proofs.Seeds.{clear_length}
use Rattle.sets.proofs.RightSides.{assigned_side, block_side}
use Rattle.sets.proofs.MarkByteLaws.{MarkedSoFar, MarkingSoFar, assigned_known, assigned_byte, no_byte, marking_on}
use Rattle.sets.proofs.Walking.{turn_below, turn_back, own_place, start_place, Walk, left_of, walk_starts, walked, walk_ends}

-- what holds before a row: besides the walk, that the set at its place is in hand
pub record Carried (which : Which) (given : Given) (others : List ℕ) (n v : ℕ) (sets : List VariableSet) (reached : WalkedTo) : Type 0 where
  pub walk : Walk which given others n v (seed_in which given.words v) sets reached.turn
  pub in_hand : reached.own ≡ set_at sets (place_in_turn which n reached.turn)

module _ {which : Which} {given : Given} {others : List ℕ} {n v : ℕ} {sets : List VariableSet} (s : Settles which given others n v sets) where
  pub points : length sets ≡ suc n
  points = clear_length (suc n) sets s.clear

  pub begun : {reached : WalkedTo} {next : List VariableSet}
      → (reached.turn ≡ 0) × Grown sets (start_of which n) (seed_in which given.words v) next reached.own
      → Carried which given others n v next reached
  begun {reached} {next} begins =
      record {
        walk =
            rw begins.0
            (walk_starts which given others n v _ s.proper s.wired sets next s.clear begins.1.stored);
        in_hand = begins.1.stands ∙ ap (set_at next) (start_place which n ∙ ap (place_in_turn which n) (sym begins.0));
      }

  pub ended : {left : List VariableSet} {reached : WalkedTo} → Carried which given others n v left reached → n ≤ reached.turn
      → left ≡ least v (suc n) (all_equations which given n (seed_in which given.words v))
  ended {left} {reached} carried h = walk_ends which given others n v _ s.proper s.wired left reached.turn carried.walk h

-- ---- the walk at a row

-- an assignment ends no repeat
ends_none : {A : Type 0} (which : Which) (part : Part) → assigns part ≡ true → ends_repeat which part ≡ true → A
unfolding ends_repeat
ends_none Varied part.Assignment h e = never e
ends_none Useful part.Assignment h e = never e
ends_none Required part.Assignment h e = never e
ends_none which part.If h e = never h
ends_none which part.Else h e = never h
ends_none which part.EndIf h e = never h
ends_none which part.Repeat h e = never h
ends_none which part.EndRepeat h e = never h

pub record AtRow (which : Which) (given : Given) (others : List ℕ) (n v : ℕ) (sets₀ sets : List VariableSet) (reached : WalkedTo) (row : ℕ) (form : Form) : Type 0 where
  pub readable : AllReadable given.words given.first n
  pub settles : Settles which given others n v sets₀
  pub carried : Carried which given others n v sets reached
  pub below : reached.turn < n
  pub in_turn : row ≡ row_in_turn which n reached.turn
  pub formed : Formed given.words given.first row form

pub at_row : {which : Which} {given : Given} {others : List ℕ} {n v : ℕ} {sets₀ sets : List VariableSet} {reached : WalkedTo} {row kind : ℕ} {forms : List Form}
    → AllReadable given.words given.first n → Settles which given others n v sets₀ → Carried which given others n v sets reached → reached.turn < n → row ≡ row_in_turn which n reached.turn
    → forms ≡ all_forms → KindRead given.words given.first row kind → AtRow which given others n v sets₀ sets reached row (form_in forms kind)
at_row readable settles carried below in_turn table read =
    record { readable = readable; settles = settles; carried = carried; below = below; in_turn = in_turn; formed = form_read table read }

-- the row was passed by the right side of its equation
pub record Passes (which : Which) (given : Given) (others : List ℕ) (n row : ℕ) (part : Part) (before after : List VariableSet) (reached : WalkedTo) : Type 0 where
  side : VariableSet
  side_is : side ≡ right_side (equation_in which given row) (set_at before)
  went : PassedRow which part side n row others before after reached

module _ {which : Which} {given : Given} {others : List ℕ} {n v : ℕ} {sets₀ sets : List VariableSet} {reached : WalkedTo} {row : ℕ} {form : Form}
    (at : AtRow which given others n v sets₀ sets reached row form) where
  abbrev line : SheetLine
  line = line_in given.words given.first row

  pub row_below : row < n
  row_below = rw at.in_turn (turn_below which n reached.turn at.below)

  readable : RowReadable given.words given.first row
  readable = at.readable row row_below

  pub line_part : form.3 ≡ part_of line
  line_part = part_read readable at.formed

  part_is : form.3 ≡ part_in given row
  part_is = ap (λ f. f.3) at.formed

  turns : reached.turn ≡ row_in_turn which n row
  turns = sym (turn_back which n reached.turn at.below) ∙ ap (row_in_turn which n) (sym at.in_turn)

  pub in_hand_lem : reached.own ≡ set_at sets (own_point which row)
  in_hand_lem =
      at.carried.in_hand ∙ ap (set_at sets) (sym (own_place which n reached.turn at.below) ∙ ap (own_point which) (sym at.in_turn))

  -- ---- an assignment

  pub operation_there : assigns form.3 ≡ true → (row < n) × Formed given.words given.first row form × (assigns form.3 ≡ true)
  operation_there h = (row_below, at.formed, h)

  pub assignment_there : {Lent : Type 0} → Lent → (row < word_values) × (suc row < length sets) × (reached.turn < word_values) × Lent
  assignment_there lent =
      (readable.numbered, omega (arith, row_below, at.carried.walk.kept.long), (at.readable reached.turn at.below).numbered, lent)

  pub assigned : {operation : MaskedAssignment} → assigns form.3 ≡ true → PerformsRow operation (row_in given row) → AssignedBy operation line
  assigned h performs = assigned_by performs line readable.says.back (ap assigns (sym line_part) ∙ h)

  pub assignment_passed : {operation : MaskedAssignment} {acts : Assignment → Activity} {next : List VariableSet} {after : WalkedTo} → assigns form.3 ≡ true
      → PerformsRow operation (row_in given row) → ((b : Assignment) → line ≡ basic b → acts b ≡ given.known row) → after.turn ≡ reached.turn + 1
      → ((b : Assignment) → Performs operation b → Grown sets (settled_point which row) (turn_of which (acts b) b reached.own) next after.own)
      → Passes which given others n row form.3 sets next after
  unfolding equation_in
  assignment_passed {operation} {acts} {next} {after} h performs same turned grown =
      let a = assigned h performs in
      let side = turn_of which (acts a.assignment) a.assignment reached.own in
      record {
        side = side;
        side_is =
            ap (turn_of which (acts a.assignment) a.assignment) in_hand_lem
            ∙ rw (same a.assignment a.is, a.is) (assigned_side which (given.known row) sets row (get_or given.partners row 0) a.assignment);
        went = record {
          due = row;
          more = side;
          is_due = onward refl refl (ends_none which form.3 h);
          grown = grown a.assignment a.performs;
          turns = turned ∙ ap (λ t. t + 1) turns;
        };
      }

  -- ---- a row of a block

  pub at_block : AtBlock which form.3 n row given.partners others sets reached
  at_block =
      let below = row_below in
      let long = at.carried.walk.kept.long in
      record {
        judging = record {
          others_there = omega (arith, at.settles.others_there);
          in_hand = in_hand_lem;
          back = λ e.
              let near : get_or others row 0 < n =
              subst (λ p. get_or others p 0 < n) (sym at.in_turn)
              (at.settles.wired.back reached.turn at.below (rw at.in_turn at (ap (ends_repeat which) (sym part_is) ∙ e))).0 in
              omega arith;
        };
        turns = turns;
        below = below;
        numbered = readable.numbered;
        long = long;
        partnered = omega (arith, at.settles.partnered);
        taken = λ e. at.settles.wired.taken row below (ap (asks_partner which) (sym part_is) ∙ e);
      }

  pub block_passed : {next : List VariableSet} {after : WalkedTo} → assigns form.3 ≡ false
      → PassedRow which form.3 (own_side which form.3 row given.partners sets) n row others sets next after
      → Passes which given others n row form.3 sets next after
  unfolding equation_in
  block_passed h went =
      record {
        side = own_side which form.3 row given.partners sets;
        side_is =
            rw line_part
            (block_side which (given.known row) sets row (get_or given.partners row 0) line (ap assigns (sym line_part) ∙ h));
        went = went;
      }

  -- ---- and on

  pub gone_on : {next : List VariableSet} {after : WalkedTo} → Passes which given others n row form.3 sets next after
      → Carried which given others n v next after × (left_of v n next after.turn < left_of v n sets reached.turn)
  gone_on {next} {after} passes =
      let w = subst (λ q. PassedRow which form.3 passes.side n q others sets next after) at.in_turn passes.went in
      let on = walked which given others n v _ at.settles.proper at.settles.wired sets reached.turn at.below at.carried.walk
      (part_is ∙ ap (part_in given) at.in_turn) (passes.side_is ∙ ap (λ q. right_side (equation_in which given q) (set_at sets)) at.in_turn) w.is_due w.grown in
      let next_turn = w.turns ∙ add-one (row_in_turn which n w.due) in
      (record { walk = rw next_turn on.on; in_hand = w.grown.stands ∙ ap (set_at next) (on.place ∙ ap (place_in_turn which n) (sym next_turn)) }, rw next_turn on.less)

-- ---- of the required variables, whose walk marks the rows

module _ {given : Given} {others : List ℕ} {n v : ℕ} {sets₀ sets : List VariableSet} {reached : WalkedTo} {row : ℕ} {form : Form}
    (at : AtRow Required given others n v sets₀ sets reached row form) where
  pub marked_on : {next : List VariableSet} {after : WalkedTo} (varied useful : List VariableSet) {before marks : List ℕ} {byte : ℕ}
      → Passes Required given others n row form.3 sets next after
      → MarkedSoFar (line_in given.words given.first) varied useful n before sets marks reached.turn → n ≤ length before
      → byte ≡ byte_at varied useful sets row (line at) → MarkedSoFar (line_in given.words given.first) varied useful n before next (set marks row byte) after.turn
  unfolding row_in_turn settled_point
  marked_on {next} {after} varied useful {before} {marks} {byte} passes marking room is =
      rw w.turns
      (marking_on (line_in given.words given.first) varied useful n before sets next marks row w.due byte (rw (sym at.in_turn) at marking) (upto w.is_due)
      (row_below at) room is
      (λ k h. rw w.grown.stored (get_or-set_other sets _ k _ empty (λ e. omega arith))))
    where
      w : PassedRow Required form.3 passes.side n row others sets next after
      w = passes.went

      upto : Due Required form.3 passes.side row others sets w.due w.more → w.due ≤ row
      upto (onward e f brought) = omega arith
      upto (backward e f ends more) =
          let near = at.settles.wired.back reached.turn at.below (rw at.in_turn at (ap (ends_repeat Required) (sym (part_is at)) ∙ ends)) in
          omega (arith, near.1, ap (λ q. get_or others q 0) at.in_turn, at.in_turn)

-- what is known of an assignment is what is known of its row
pub known_as : (which : Which) (words : List ℕ) (first : ℕ) (varied useful : List VariableSet) (p : ℕ) (b : Assignment) → line_in words first p ≡ basic b
    → known_at which varied useful p b ≡ known_by which words first varied useful p
unfolding known_at
known_as Varied words first varied useful p b e = refl
known_as Useful words first varied useful p b e = refl
known_as Required words first varied useful p b e = assigned_known varied useful p _ b e

pub assigned_marks : (which : Which) {given : Given} {others : List ℕ} {n v : ℕ} {sets₀ sets : List VariableSet} {reached : WalkedTo} {row : ℕ} {form : Form}
    (at : AtRow which given others n v sets₀ sets reached row form) {operation : MaskedAssignment} {next : List VariableSet} {after : WalkedTo}
    (varied useful before marks marks' : List ℕ) → assigns form.3 ≡ true → PerformsRow operation (row_in given row)
    → Passes which given others n row form.3 sets next after → MarkingSoFar which (line_in given.words given.first) varied useful n before sets marks reached.turn
    → Lends which varied useful (length before) n → Gives operation marks' (λ b. marked_at which varied useful row reached.own b marks)
    → MarkingSoFar which (line_in given.words given.first) varied useful n before next marks' after.turn
unfolding marked_at own_point
assigned_marks Varied at varied useful before marks marks' h performs passes marking lends left =
    let a = assigned at h performs in left a.assignment a.performs ∙ marking
assigned_marks Useful at varied useful before marks marks' h performs passes marking lends left =
    let a = assigned at h performs in left a.assignment a.performs ∙ marking
assigned_marks Required {row = row} at varied useful before marks marks' h performs passes marking lends left =
    let a = assigned at h performs in
    rw (left a.assignment a.performs)
    (marked_on at varied useful passes marking lends.2
    (assigned_byte varied useful _ row a.assignment a.is (assigned_known varied useful row _ a.assignment a.is) (in_hand_lem at)))

pub block_marks : (which : Which) {given : Given} {others : List ℕ} {n v : ℕ} {sets₀ sets : List VariableSet} {reached : WalkedTo} {row : ℕ} {form : Form}
    (at : AtRow which given others n v sets₀ sets reached row form) {next : List VariableSet} {after : WalkedTo}
    (varied useful before marks marks' : List ℕ) → assigns form.3 ≡ false → Passes which given others n row form.3 sets next after
    → MarkingSoFar which (line_in given.words given.first) varied useful n before sets marks reached.turn
    → Lends which varied useful (length before) n → marks' ≡ marks_over which row marks
    → MarkingSoFar which (line_in given.words given.first) varied useful n before next marks' after.turn
block_marks Varied at varied useful before marks marks' h passes marking lends left = left ∙ marking
block_marks Useful at varied useful before marks marks' h passes marking lends left = left ∙ marking
block_marks Required at varied useful before marks marks' h passes marking lends left =
    rw left (marked_on at varied useful passes marking lends.2 (no_byte varied useful _ _ _ (ap assigns (sym (line_part at)) ∙ h)))
