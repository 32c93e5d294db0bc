-- The pass over the rows, as the code makes it: its levels stand for the blocks around the row at hand, and each row goes on from there.
use Prim.Native.Nat.{ℕ, suc, ◌+◌, ◌-◌, ◌≤◌, ◌<◌}
use mathlib.Core.Path.{◌≡◌, refl, sym, ap, ◌∙◌}
use mathlib.Core.List.{List, [], ◌∷◌}
use native.Mathlib.Omega.{arith}
use native.Mathlib.Numerals.{add-one}
use lib.ListN.{length, length-set, get_or, set}
use lib.Dec.{eqb}
use lib.Seq.{get_or-set_same, get_or-set_other}
use Rattle.sheet.specs.Inner.RowLines.{numbered_row}
use Rattle.sheet.specs.Bounds.{limit}
use Rattle.sheet.specs.Rows.{Row, while_kind}
use Rattle.sheet.specs.Inner.Kinds.{part_for, turns_in}
use Rattle.sheet.specs.declared.kinds.Part.{Part}
use Rattle.sheet.specs.declared.kinds.Part.TheVariants as part
use Rattle.table.specs.declared.needs.Need.{Need}
use Rattle.table.specs.declared.needs.Level.{Level}
use Rattle.table.specs.Inner.MarkedRows.{saved_by}
use Rattle.table.specs.Inner.Needs.{nothing, Few, with_saved, with_count, opened, split, after_if, after_repeat, Takes, Comes, Sized}

-- ---- the levels

abbrev pub no_level : Level
no_level = record { before = nothing; first = nothing; times = 0 }

-- entry n is what is kept of the block n deep
abbrev Stand : List Level → (around : List Level) → Type 0
Stand levels [] = Unit {0}
Stand levels (level ∷ around) = (get_or levels (suc (length around)) no_level ≡ level) × Stand levels around

stand_set : (levels : List Level) (i : ℕ) (l : Level) (around : List Level) → length around < i → Stand levels around → Stand (set levels i l) around
stand_set levels i l [] h s = tt
stand_set levels i l (level ∷ around) h s =
    (get_or-set_other levels i _ l no_level (λ e. omega arith) ∙ s.0, stand_set levels i l around (omega arith) s.1)

-- one more on top, or another in the place of the topmost
stand_put : (levels : List Level) (i : ℕ) (l : Level) (around : List Level) → suc (length around) ≡ i → i < length levels → Stand levels around
    → Stand (set levels i l) (l ∷ around)
stand_put levels i l around is below s = (rw is (get_or-set_same levels i l no_level below), stand_set levels i l around (omega arith) s)

-- the topmost
record Topped (levels : List Level) (depth : ℕ) (around : List Level) : Type 0 where
  rest : List Level
  is : around ≡ get_or levels depth no_level ∷ rest
  deep : suc (length rest) ≡ depth
  stands : Stand levels rest

topped : (levels : List Level) (depth : ℕ) (around : List Level) → (around ≡ [] → ⊥) → length around ≡ depth → Stand levels around
    → Topped levels depth around
topped levels depth [] some e s = absurd (some refl)
topped levels depth (level ∷ around) some e s = record { rest = around; is = rw (← e, s.0); deep = e; stands = s.1 }

-- ---- one row more

-- the levels stand for blocks, from which the rows from p on come to what all rows come to
pub record Going (words : List ℕ) (first rows : ℕ) (marks : List ℕ) (levels : List Level) (depth : ℕ) (need : Need) (p : ℕ) : Type 0 where
  around : List Level
  deep : length around ≡ depth
  pub within : depth ≤ limit.depth
  room : length levels ≡ suc limit.depth
  stands : Stand levels around
  comes : (total : Need) → Comes words first marks total 0 rows nothing [] → Comes words first marks total p (rows - p) need around

pub going_starts : (words : List ℕ) (first rows : ℕ) (marks : List ℕ) (levels : List Level) → length levels ≡ suc limit.depth
    → Going words first rows marks levels 0 nothing 0
going_starts words first rows marks levels room =
    let all : rows - 0 ≡ rows = omega arith in
    record { around = []; deep = refl; within = omega arith; room = room; stands = tt; comes = λ total start. rw all start }

module _ {words : List ℕ} {first rows : ℕ} {marks : List ℕ} {levels : List Level} {depth : ℕ} {need : Need} {p : ℕ}
    (going : Going words first rows marks levels depth need p) where
  -- after the last row
  pub going_ends : rows ≤ p → (total : Need) → Comes words first marks total 0 rows nothing [] → need ≡ total
  unfolding Comes
  going_ends h total start = let none : rows - p ≡ 0 = omega arith in rw none at (going.comes total start)

  module _ (sized : Sized words first rows marks) (below : p < rows) {r : Row} {is : Part} (read : r ≡ numbered_row words first p)
      (found : is ≡ part_for r.kind) where
    abbrev After : (total : Need) → Need → List Level → Type 0
    After total = Comes words first marks total (p + 1) (rows - (p + 1))

    taken : {q : Part} → is ≡ q → (total : Need) → Comes words first marks total 0 rows nothing []
        → Takes q (turns_in r) (eqb r.kind while_kind) (saved_by (get_or marks p 0)) need going.around (After total)
    unfolding Comes
    taken {q} told total start =
        let some : rows - p ≡ suc (rows - suc p) = omega arith in
        let kind : part_for (numbered_row words first p).kind ≡ q = ap (λ x. part_for x.kind) (sym read) ∙ sym found ∙ told in
        rw (add-one p, read, ← kind) (rw some at (going.comes total start))

    -- for the one total that there is
    taken_now : {q : Part} → is ≡ q
        → Takes q (turns_in r) (eqb r.kind while_kind) (saved_by (get_or marks p 0)) need going.around (After sized.total)
    taken_now told = taken told sized.total sized.comes

    abbrev GoingOn : List Level → ℕ → Need → Type 0
    GoingOn levels' depth' next = Going words first rows marks levels' depth' next (p + 1)

    pub saved_few : is ≡ part.Assignment → Few (with_saved (saved_by (get_or marks p 0)) need)
    saved_few told = (taken_now told).0

    pub goes_saved : is ≡ part.Assignment → GoingOn levels depth (with_saved (saved_by (get_or marks p 0)) need)
    goes_saved told =
        record {
          around = going.around;
          deep = going.deep;
          within = going.within;
          room = going.room;
          stands = going.stands;
          comes = λ total start. (taken told total start).1;
        }

    goes_into : (level : Level) → depth < limit.depth
        → ((total : Need) → Comes words first marks total 0 rows nothing [] → After total nothing (level ∷ going.around))
        → GoingOn (set levels (depth + 1) level) (depth + 1) nothing
    goes_into level shallow comes =
        record {
          around = level ∷ going.around;
          deep = ap suc going.deep ∙ sym (add-one depth);
          within = omega arith;
          room = simp length-set going.room;
          stands = stand_put levels (depth + 1) level going.around (omega (arith, going.deep)) (omega (arith, going.room)) going.stands;
          comes = comes;
        }

    pub if_fits : is ≡ part.If → depth < limit.depth
    if_fits told = omega (arith, (taken_now told).0, going.deep)

    pub goes_into_if : is ≡ part.If → GoingOn (set levels (depth + 1) (opened 1 need)) (depth + 1) nothing
    goes_into_if told = goes_into (opened 1 need) (if_fits told) (λ total start. (taken told total start).1)

    pub repeat_fits : is ≡ part.Repeat → depth < limit.depth
    repeat_fits told = omega (arith, (taken_now told).0, going.deep)

    pub count_few : is ≡ part.Repeat → Few (with_count (eqb r.kind while_kind) need)
    count_few told = (taken_now told).2

    abbrev loop_level : Level
    loop_level = opened (turns_in r) (with_count (eqb r.kind while_kind) need)

    pub goes_into_repeat : is ≡ part.Repeat → GoingOn (set levels (depth + 1) loop_level) (depth + 1) nothing
    goes_into_repeat told = goes_into loop_level (repeat_fits told) (λ total start. (taken told total start).1)

    abbrev Top : Type 0
    Top = Topped levels depth going.around

    abbrev level : Level
    level = get_or levels depth no_level

    top : (going.around ≡ [] → ⊥) → Top
    top some = topped levels depth going.around some going.deep going.stands

    goes_out : (next : Need) (out : Top)
        → ((total : Need) → Comes words first marks total 0 rows nothing [] → After total next out.rest) → GoingOn levels (depth - 1) next
    goes_out next out comes =
        record {
          around = out.rest;
          deep = omega (arith, out.deep);
          within = omega (arith, going.within);
          room = going.room;
          stands = out.stands;
          comes = comes;
        }

    else_top : is ≡ part.Else → Top
    else_top told = top (λ e. rw e at (taken_now told))

    pub goes_to_second : is ≡ part.Else → GoingOn (set levels depth (split level need)) depth nothing
    goes_to_second told =
        let out = else_top told in
        record {
          around = split level need ∷ out.rest;
          deep = out.deep;
          within = going.within;
          room = simp length-set going.room;
          stands = stand_put levels depth (split level need) out.rest out.deep (omega (arith, going.room, going.within)) out.stands;
          comes = λ total start. rw out.is at (taken told total start);
        }

    if_top : is ≡ part.EndIf → Top
    if_top told = top (λ e. rw e at (taken_now told))

    pub if_few : is ≡ part.EndIf → Few (after_if level need)
    if_few told = (rw (if_top told).is at (taken_now told)).0

    pub if_inside : is ≡ part.EndIf → 1 ≤ depth
    if_inside told = omega (arith, (if_top told).deep)

    pub goes_past_if : is ≡ part.EndIf → GoingOn levels (depth - 1) (after_if level need)
    goes_past_if told = let out = if_top told in goes_out _ out (λ total start. (rw out.is at (taken told total start)).1)

    repeat_top : is ≡ part.EndRepeat → Top
    repeat_top told = top (λ e. rw e at (taken_now told))

    pub repeat_few : is ≡ part.EndRepeat → Few (after_repeat level need)
    repeat_few told = (rw (repeat_top told).is at (taken_now told)).0

    pub repeat_inside : is ≡ part.EndRepeat → 1 ≤ depth
    repeat_inside told = omega (arith, (repeat_top told).deep)

    pub goes_past_repeat : is ≡ part.EndRepeat → GoingOn levels (depth - 1) (after_repeat level need)
    goes_past_repeat told = let out = repeat_top told in goes_out _ out (λ total start. (rw out.is at (taken told total start)).1)
