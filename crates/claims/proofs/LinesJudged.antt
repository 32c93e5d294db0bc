-- One row judged: the line that it says, and whether that line may stand where these blocks are open. The trees that reading builds do not
-- matter, only which blocks are open.
use Prim.Native.Nat.{ℕ, suc, ◌<◌}
use mathlib.Core.Path.{◌≡◌, refl, ap}
use mathlib.Core.Bool.{Bool, true, false}
use mathlib.Core.List.{List, [], ◌∷◌}
use mathlib.Core.Option.{Option, none, some}
use mathlib.Core.Logic.{◌⊎◌, inl, inr}
use lib.ListN.{length}
use lib.Dec.{ltb}
use native.Mathlib.Omega.{arith}
use Rattle.sheet.specs.Bounds.{limit}
use Rattle.sheet.specs.Judging.{Answer, refused, given, ◌>>=◌, unless}
use Rattle.sheet.specs.Refusals.{bad_row, bad_block}
use Rattle.sheet.specs.Tree.{basic, if_line, else_line, end_if, repeat, end_repeat}
use Rattle.sheet.specs.Reading.{fits, words_fit, Item, Block, in_first, in_second, in_repeat, RowsTaken, line_by, line_of, entered, split_at, if_ended_at, repeat_ended_at, taken}
use Rattle.sheet.specs.Rows.{SheetLine, Row, Slot, variable, constant, turns, unused, Kind, kind_of}
use Rattle.sheet.proofs.Judgements.{Tells, leb_tells, eqb_tells, both_tell, judged, ◌and_then◌, passes, refuses, after_given, after_refused}
use Rattle.claims.specs.ExactlyWhen.{Fits, Says, Opening, first_branch, second_branch, repeat_body, Takes, assigns, opens_if, splits_if, closes_if, opens_repeat, closes_repeat}

-- ---- a row's line

slot_told : (v k : ℕ) (slot : Slot) (word : ℕ) → Tells (fits v k slot word) (Fits v k slot word)
unfolding fits
slot_told v k variable word = leb_tells _ _
slot_told v k constant word = leb_tells _ _
slot_told v k turns word = both_tell _ _ (leb_tells _ _) (leb_tells _ _)
slot_told v k unused word = eqb_tells _ _

module _ (v k : ℕ) (r : Row) (place : ℕ) where
  fit_told : (kind : Kind) → Tells (words_fit v k kind r) ((Fits v k kind.d r.d × Fits v k kind.a r.a) × Fits v k kind.b r.b)
  unfolding words_fit
  fit_told kind = both_tell _ _ (both_tell _ _ (slot_told v k kind.d r.d) (slot_told v k kind.a r.a)) (slot_told v k kind.b r.b)

  fit_of : {line : SheetLine} (says : Says v k r line) → words_fit v k says.kind r ≡ true
  fit_of says = (fit_told says.kind).1 ((says.fit_d, says.fit_a), says.fit_b)

  pub line_given : {line : SheetLine} → Says v k r line → line_of v k r place ≡ given line
  unfolding line_of line_by
  line_given says = rw (says.known, fit_of says, says.means)

  abbrev pub LineJudged : Answer SheetLine → Type 0
  LineJudged answer = ((line : SheetLine) × Says v k r line) ⊎ ((answer ≡ refused (bad_row place)) × ((line : SheetLine) → ¬ Says v k r line))

  fit_judged : (kind : Kind) → kind_of r.kind ≡ some kind → (fit : Bool) → words_fit v k kind r ≡ fit
      → LineJudged (unless fit (bad_row place) >>= (λ _. given (kind.means r.d r.a r.b)))
  fit_judged kind known true e =
      let f = (fit_told kind).0 e in
      inl (
        kind.means r.d r.a r.b,
        record { kind = kind; known = known; fit_d = f.0.0; fit_a = f.0.1; fit_b = f.1; means = refl },
      )
  fit_judged kind known false e = inr (refl, λ line says. let z : ◌≡◌ {A = ℕ} 0 1 = cc (says.known, fit_of says) in omega arith)

  kind_judged : (o : Option Kind) → kind_of r.kind ≡ o → LineJudged (line_by v k o r place)
  unfolding line_by
  kind_judged none e = inr (refl, λ line says. let z : ◌≡◌ {A = ℕ} 0 1 = cc says.known in omega arith)
  kind_judged (some kind) e = fit_judged kind e (words_fit v k kind r) refl

  pub line_judged : LineJudged (line_of v k r place)
  unfolding line_of
  line_judged = kind_judged (kind_of r.kind) refl

  pub line_refused : ((line : SheetLine) → ¬ Says v k r line) → line_of v k r place ≡ refused (bad_row place)
  line_refused nothing = by line_judged
    where
      by : LineJudged (line_of v k r place) → line_of v k r place ≡ refused (bad_row place)
      by (inl says) = absurd (nothing says.0 says.1)
      by (inr judged) = judged.0

-- ---- one line more

abbrev pub opening : Block → Opening
opening (in_first f outer) = first_branch
opening (in_second f a outer) = second_branch
opening (in_repeat l outer) = repeat_body

abbrev pub shape : List Block → List Opening
shape [] = []
shape (block ∷ blocks) = opening block ∷ shape blocks

same_depth : (blocks : List Block) → length (shape blocks) ≡ length blocks
same_depth [] = refl
same_depth (block ∷ blocks) = ap suc (same_depth blocks)

-- what `Takes` says, by cases: a line that may not stand here comes to ⊥
abbrev pub Effect : SheetLine → (before after : List Opening) → Type 0
Effect (basic b) outer after = outer ≡ after
Effect (if_line f) outer after = (length outer < limit.depth) × (first_branch ∷ outer ≡ after)
Effect else_line [] after = ⊥
Effect else_line (first_branch ∷ outer) after = second_branch ∷ outer ≡ after
Effect else_line (second_branch ∷ outer) after = ⊥
Effect else_line (repeat_body ∷ outer) after = ⊥
Effect end_if [] after = ⊥
Effect end_if (first_branch ∷ outer) after = ⊥
Effect end_if (second_branch ∷ outer) after = outer ≡ after
Effect end_if (repeat_body ∷ outer) after = ⊥
Effect (repeat l) outer after = (length outer < limit.depth) × (repeat_body ∷ outer ≡ after)
Effect end_repeat [] after = ⊥
Effect end_repeat (first_branch ∷ outer) after = ⊥
Effect end_repeat (second_branch ∷ outer) after = ⊥
Effect end_repeat (repeat_body ∷ outer) after = outer ≡ after

pub effect : {line : SheetLine} {before after : List Opening} → Takes line before after → Effect line before after
effect assigns = refl
effect (opens_if room) = (room, refl)
effect splits_if = refl
effect closes_if = refl
effect (opens_repeat room) = (room, refl)
effect closes_repeat = refl

pub same_effect : (line : SheetLine) (before after after' : List Opening) → Effect line before after → Effect line before after' → after ≡ after'
same_effect (basic b) outer after after' e e' = cc
same_effect (if_line f) outer after after' e e' = cc
same_effect else_line [] after after' e e' = absurd e
same_effect else_line (first_branch ∷ outer) after after' e e' = cc
same_effect else_line (second_branch ∷ outer) after after' e e' = absurd e
same_effect else_line (repeat_body ∷ outer) after after' e e' = absurd e
same_effect end_if [] after after' e e' = absurd e
same_effect end_if (first_branch ∷ outer) after after' e e' = absurd e
same_effect end_if (second_branch ∷ outer) after after' e e' = cc
same_effect end_if (repeat_body ∷ outer) after after' e e' = absurd e
same_effect (repeat l) outer after after' e e' = cc
same_effect end_repeat [] after after' e e' = absurd e
same_effect end_repeat (first_branch ∷ outer) after after' e e' = absurd e
same_effect end_repeat (second_branch ∷ outer) after after' e e' = absurd e
same_effect end_repeat (repeat_body ∷ outer) after after' e e' = cc

pub record Taken (line : SheetLine) (blocks : List Block) (answer : Answer RowsTaken) : Type 0 where
  pub progress : RowsTaken
  pub is : answer ≡ given progress
  pub takes : Takes line (shape blocks) (shape progress.blocks)

abbrev pub TakeJudged : SheetLine → (place : ℕ) → List Block → Answer RowsTaken → Type 0
TakeJudged line place blocks answer =
    Taken line blocks answer ⊎ ((answer ≡ refused (bad_block place)) × ((after : List Opening) → ¬ Takes line (shape blocks) after))

-- a block is opened where there is room
enter_judged : (line : SheetLine) (block : Block) (place : ℕ) (blocks : List Block)
    → (length (shape blocks) < limit.depth → Takes line (shape blocks) (opening block ∷ shape blocks))
    → ((after : List Opening) → Takes line (shape blocks) after → length (shape blocks) < limit.depth)
    → TakeJudged line place blocks (entered block place blocks)
unfolding entered
enter_judged line block place blocks takes room =
    judged _ room_told
    (λ full. (after_refused _ (refuses _ _ room_told full), λ after t. full (rw (same_depth blocks) at (room after t)))) and_then λ fits.
    inl
    (record {
      progress = record { blocks = block ∷ blocks; items = [] };
      is = after_given _ (passes _ _ room_told fits);
      takes = takes (rw (same_depth blocks) fits);
    })
  where
    room_told : Tells (ltb (length blocks) limit.depth) (length blocks < limit.depth)
    room_told = leb_tells _ _

pub take_judged : (line : SheetLine) (place : ℕ) (blocks : List Block) (items : List Item)
    → TakeJudged line place blocks (taken line place blocks items)
unfolding taken split_at if_ended_at repeat_ended_at
take_judged (basic b) place blocks items = inl (record { progress = _; is = refl; takes = assigns })
take_judged (if_line f) place blocks items = enter_judged (if_line f) (in_first f items) place blocks opens_if (λ after t. (effect t).0)
take_judged else_line place [] items = inr (refl, λ after t. effect t)
take_judged else_line place (in_first f outer ∷ blocks) items = inl (record { progress = _; is = refl; takes = splits_if })
take_judged else_line place (in_second f a outer ∷ blocks) items = inr (refl, λ after t. effect t)
take_judged else_line place (in_repeat l outer ∷ blocks) items = inr (refl, λ after t. effect t)
take_judged end_if place [] items = inr (refl, λ after t. effect t)
take_judged end_if place (in_first f outer ∷ blocks) items = inr (refl, λ after t. effect t)
take_judged end_if place (in_second f a outer ∷ blocks) items = inl (record { progress = _; is = refl; takes = closes_if })
take_judged end_if place (in_repeat l outer ∷ blocks) items = inr (refl, λ after t. effect t)
take_judged (repeat l) place blocks items = enter_judged (repeat l) (in_repeat l items) place blocks opens_repeat (λ after t. (effect t).0)
take_judged end_repeat place [] items = inr (refl, λ after t. effect t)
take_judged end_repeat place (in_first f outer ∷ blocks) items = inr (refl, λ after t. effect t)
take_judged end_repeat place (in_second f a outer ∷ blocks) items = inr (refl, λ after t. effect t)
take_judged end_repeat place (in_repeat l outer ∷ blocks) items = inl (record { progress = _; is = refl; takes = closes_repeat })

pub take_refused : (line : SheetLine) (place : ℕ) (blocks : List Block) (items : List Item)
    → ((after : List Opening) → ¬ Takes line (shape blocks) after)
    → taken line place blocks items ≡ refused (bad_block place)
take_refused line place blocks items wrong = by (take_judged line place blocks items)
  where
    by : TakeJudged line place blocks (taken line place blocks items) → taken line place blocks items ≡ refused (bad_block place)
    by (inl took) = absurd (wrong _ took.takes)
    by (inr judged) = judged.0
