-- How many rows a sheet's row has in the tangent table, by what the code learns of it: its part, its kind and its byte of marks.
use Prim.Native.Nat.{ℕ, ◌+◌}
use mathlib.Core.Path.{◌≡◌, refl, sym, ap, ◌∙◌}
use mathlib.Core.Bool.{Bool, true, false, cond, ◌&&◌}
use lib.Dec.{eqb}
use borrow.Author.Tests.{ne_eqb}
use Rattle.sheet.specs.Tree.{basic, if_line, else_line, end_if, repeat, end_repeat}
use Rattle.sheet.specs.Rows.{◌≔◌, copy, fixed, sum, difference, product, negation, quotient, Row, SheetLine, row_of, row_of_assignment, sheet_row_of, quotient_kind}
use Rattle.sheet.specs.Inner.RowLines.{line_of_row}
use Rattle.sheet.specs.Inner.Kinds.{part_of, assigns}
use Rattle.sheet.specs.declared.kinds.Part.{Part}
use Rattle.sets.specs.Transfers.{Activity}
use Rattle.table.specs.Inner.MarkedRows.{SaysPart}
use Rattle.tangent.specs.Tangent.{rate_count}
use Rattle.tangent.specs.Inner.TangentPlans.{line_count, quotient_count}

-- a quotient's own where it is active; three rate rows where all of it holds, else one; and the row itself
abbrev over_assignment : (multiplies divides active first second : Bool) → ℕ
over_assignment multiplies divides active first second =
    cond (divides && active) (quotient_count first second + 1) (cond (((multiplies && active) && first) && second) 4 2)

terms_counted : (active first second : Bool) → cond active (cond first (cond second 3 1) 1) 1 + 1 ≡ over_assignment true false active first second
terms_counted true true true = refl
terms_counted true true false = refl
terms_counted true false true = refl
terms_counted true false false = refl
terms_counted false first second = refl

quotients_counted : (active first second : Bool) → cond active (quotient_count first second) 1 + 1 ≡ over_assignment false true active first second
quotients_counted true first second = refl
quotients_counted false first second = refl

line_counted : (l : SheetLine) (known : Activity)
    → line_count known l
    ≡ cond (assigns (part_of l)) (over_assignment (eqb (sheet_row_of l).kind 5) (eqb (sheet_row_of l).kind quotient_kind) known.active known.varied_a known.varied_b) 1
unfolding rate_count sheet_row_of row_of row_of_assignment
line_counted (basic (d ≔ copy a)) known = refl
line_counted (basic (d ≔ fixed c)) known = refl
line_counted (basic (d ≔ sum a b)) known = refl
line_counted (basic (d ≔ difference a b)) known = refl
line_counted (basic (d ≔ product a b)) known = terms_counted known.active known.varied_a known.varied_b
line_counted (basic (d ≔ negation a)) known = refl
line_counted (basic (d ≔ quotient a b)) known = quotients_counted known.active known.varied_a known.varied_b
line_counted (if_line f) known = refl
line_counted else_line known = refl
line_counted end_if known = refl
line_counted (repeat m) known = refl
line_counted end_repeat known = refl

none_active : (multiplies divides first second : Bool) → over_assignment multiplies divides false first second ≡ 2
none_active true true first second = refl
none_active true false first second = refl
none_active false true first second = refl
none_active false false first second = refl

module _ {r : Row} {p : Part} (s : SaysPart r p) (known : Activity) {assigning : Bool} (e : assigning ≡ assigns p) where
  row_counted : line_count known (line_of_row r)
      ≡ cond assigning (over_assignment (eqb r.kind 5) (eqb r.kind quotient_kind) known.active known.varied_a known.varied_b) 1
  row_counted = line_counted (line_of_row r) known ∙ rw (s.says.back, e, s.is)

  -- an assignment's, by its kind
  module _ (assigned : assigning ≡ true) {active first second : Bool} (a : active ≡ known.active) (f : first ≡ known.varied_a)
      (g : second ≡ known.varied_b) where
    assigned_row : {multiplies divides : Bool} → eqb r.kind 5 ≡ multiplies → eqb r.kind quotient_kind ≡ divides
        → over_assignment multiplies divides active first second ≡ line_count known (line_of_row r)
    assigned_row is_5 is_18 = sym (row_counted ∙ rw (assigned, is_5, is_18, sym a, sym f, sym g))

    of_kind : {kind : ℕ} → r.kind ≡ kind → over_assignment (eqb kind 5) (eqb kind quotient_kind) active first second ≡ line_count known (line_of_row r)
    of_kind is = assigned_row (ap (λ k. eqb k 5) is) (ap (λ k. eqb k quotient_kind) is)

    pub inactive_row : active ≡ false → 2 ≡ line_count known (line_of_row r)
    inactive_row off = sym (none_active (eqb r.kind 5) (eqb r.kind quotient_kind) first second) ∙ rw off at (assigned_row refl refl)

    module _ (on : active ≡ true) where
      pub quotient_row : r.kind ≡ quotient_kind → quotient_count first second + 1 ≡ line_count known (line_of_row r)
      quotient_row is = rw on at (of_kind {kind = quotient_kind} is)

      pub product_row : r.kind ≡ 5 → {both : Bool} → (first && second) ≡ both → cond both 4 2 ≡ line_count known (line_of_row r)
      product_row is terms = rw (on, terms) at (of_kind {kind = 5} is)

    pub other_row : (r.kind ≡ 5 → ⊥) → (r.kind ≡ quotient_kind → ⊥) → 2 ≡ line_count known (line_of_row r)
    other_row not_5 not_18 = assigned_row (ne_eqb r.kind 5 not_5) (ne_eqb r.kind quotient_kind not_18)
