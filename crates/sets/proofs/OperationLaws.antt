-- What the code's operation says of an assignment: its target, its reads, its adjoint use, and so what it does to each of the three sets.
use mathlib.Core.Path.{◌≡◌, refl, sym, ap, ◌∙◌}
use mathlib.Core.Bool.{Bool, true, false, ◌&&◌, ◌||◌, cond}
use mathlib.Core.Option.{Option, none, some}
use Prim.Native.Nat.{ℕ}
use lib.Dec.{eqb}
use Rattle.sheet.specs.Tree.{basic, if_line, else_line, end_if, repeat, end_repeat}
use Rattle.sheet.specs.Inner.RowLines.{source_of}
use Rattle.sheet.specs.Rows.{Assignment, copy, fixed, sum, difference, product, negation, quotient, ◌≔◌, Row, row_of_assignment, SheetLine, sheet_row_of, quotient_kind}
use Rattle.sheet.specs.Inner.Kinds.{assigns, form_for, part_of}
use Rattle.sheet.specs.declared.kinds.Form.{Form}
use Rattle.sets.specs.declared.operations.MaskedAssignment.{MaskedAssignment}
use Rattle.sets.specs.VariableSets.{VariableSet, empty, has, ◌∪◌, single, single_if, without, has_some, single_some}
use Rattle.sets.specs.Transfers.{any_read, first_read, second_read, reads, varied_after, useful_before}
use Rattle.sets.specs.Transfers.{Activity, activity_of, adjoint_use, recorded_by, required_after}
use Rattle.sets.specs.Inner.Masks.{named_by, meets}
use Rattle.sets.specs.Inner.Operations.{Performs, PerformsRow}
use Rattle.sets.proofs.Truths.{never}
use Rattle.sets.proofs.VariableSetLaws.{meets_none, meets_single}

-- ---- from the words of a row

pub row_performed : (operation : MaskedAssignment) (row : Row) (form : Form) → form ≡ form_for row.kind → operation.kind ≡ row.kind
    → operation.target.0 ≡ row.d → operation.first ≡ named_by form.1 row.a → operation.second ≡ named_by form.2 row.b
    → PerformsRow operation row
unfolding row_of_assignment first_read second_read form_for
row_performed operation row form formed kind target first second b said =
    each b (kind ∙ ap (λ r. r.kind) (sym said)) (target ∙ ap (λ r. r.d) (sym said))
    (first ∙ ap (λ f. named_by f.1 row.a) formed ∙ ap (λ r. named_by (form_for r.kind).1 r.a) (sym said))
    (second ∙ ap (λ f. named_by f.2 row.b) formed ∙ ap (λ r. named_by (form_for r.kind).2 r.b) (sym said))
  where
    each : (b : Assignment) → let r = row_of_assignment b in operation.kind ≡ r.kind → operation.target.0 ≡ r.d
        → operation.first ≡ named_by (form_for r.kind).1 r.a → operation.second ≡ named_by (form_for r.kind).2 r.b → Performs operation b
    each (d ≔ copy a) k t f g = record { kind = k; target = t; first = f; second = g }
    each (d ≔ fixed c) k t f g = record { kind = k; target = t; first = f; second = g }
    each (d ≔ sum a b) k t f g = record { kind = k; target = t; first = f; second = g }
    each (d ≔ difference a b) k t f g = record { kind = k; target = t; first = f; second = g }
    each (d ≔ product a b) k t f g = record { kind = k; target = t; first = f; second = g }
    each (d ≔ negation a) k t f g = record { kind = k; target = t; first = f; second = g }
    each (d ≔ quotient a b) k t f g = record { kind = k; target = t; first = f; second = g }

-- a line that is an assignment, and the operation is its
pub record AssignedBy (operation : MaskedAssignment) (l : SheetLine) : Type 0 where
  pub assignment : Assignment
  pub is : l ≡ basic assignment
  pub performs : Performs operation assignment

pub assigned_by : {operation : MaskedAssignment} {row : Row} → PerformsRow operation row → (l : SheetLine) → sheet_row_of l ≡ row → assigns (part_of l) ≡ true
    → AssignedBy operation l
unfolding sheet_row_of
assigned_by performs (basic b) e h = record { assignment = b; is = refl; performs = performs b e }
assigned_by performs (if_line f) e h = never h
assigned_by performs else_line e h = never h
assigned_by performs end_if e h = never h
assigned_by performs (repeat m) e h = never h
assigned_by performs end_repeat e h = never h

-- ---- the definitions, by the operation

-- a variable that may be lacking is in a set if its own set meets it
meets_some : (s : VariableSet) (o : Option ℕ) → meets s (single_some o) ≡ has_some s o
meets_some s none = meets_none s
meets_some s (some i) = meets_single s i

module _ {operation : MaskedAssignment} {b : Assignment} (performs : Performs operation b) where
  pub first_said : (s : VariableSet) → meets s operation.first ≡ has_some s (first_read (source_of b))
  first_said s = ap (meets s) performs.first ∙ meets_some s (first_read (source_of b))

  pub second_said : (s : VariableSet) → meets s operation.second ≡ has_some s (second_read (source_of b))
  second_said s = ap (meets s) performs.second ∙ meets_some s (second_read (source_of b))

  pub any_said : (s : VariableSet) → (meets s operation.first || meets s operation.second) ≡ any_read s (source_of b)
  unfolding any_read
  any_said s = rw (first_said s, second_said s)

  pub reads_said : operation.first ∪ operation.second ≡ reads (source_of b)
  unfolding reads
  reads_said = rw (performs.first, performs.second)

pub varied_said : {operation : MaskedAssignment} (b : Assignment) → Performs operation b → (before : VariableSet)
    → varied_after b before ≡ cond (any_read before (source_of b)) (before ∪ single operation.target.0) (without operation.target.0 before)
unfolding varied_after
varied_said (d ≔ source) performs before = rw performs.target

pub useful_said : {operation : MaskedAssignment} (b : Assignment) → Performs operation b → (after : VariableSet)
    → useful_before b after ≡ cond (has after operation.target.0) (without operation.target.0 after ∪ reads (source_of b)) after
unfolding useful_before
useful_said (d ≔ source) performs after = rw performs.target

pub activity_said : {operation : MaskedAssignment} (b : Assignment) → Performs operation b → (varied useful : VariableSet)
    → let first = meets varied operation.first in let second = meets varied operation.second in
    activity_of b varied useful ≡ record { varied_a = first; varied_b = second; active = has useful operation.target.0 && (first || second) }
unfolding activity_of any_read
activity_said (d ≔ source) performs varied useful = rw (first_said performs varied, second_said performs varied, performs.target)

-- a product needs each operand whose fellow is varied, a quotient besides always its divisor
pub use_said : {operation : MaskedAssignment} (b : Assignment) → Performs operation b → (known : Activity)
    → let divides = eqb operation.kind quotient_kind in
    adjoint_use (source_of b) known ≡ cond (known.active && (eqb operation.kind 5 || divides))
    (cond known.varied_b operation.first empty ∪ cond (known.varied_a || divides) operation.second empty) empty
unfolding row_of_assignment adjoint_use first_read second_read
use_said b performs known = rw (performs.kind, performs.first, performs.second) (each b)
  where
    never : (x : Bool) (s : VariableSet) → empty ≡ cond (x && false) s empty
    never true s = refl
    never false s = refl

    always : (x y : Bool) (s t : VariableSet) → cond x (s ∪ cond y t empty) empty ≡ cond (x && true) (s ∪ cond (y || false) t empty) empty
    always true true s t = refl
    always true false s t = refl
    always false y s t = refl

    divisor_too : (x y : Bool) (s t : VariableSet) → cond x (s ∪ t) empty ≡ cond (x && true) (s ∪ cond (y || true) t empty) empty
    divisor_too true true s t = refl
    divisor_too true false s t = refl
    divisor_too false y s t = refl

    each : (b : Assignment) → let divides = eqb (row_of_assignment b).kind quotient_kind in
        adjoint_use (source_of b) known ≡ cond (known.active && (eqb (row_of_assignment b).kind 5 || divides))
        (cond known.varied_b (single_some (first_read (source_of b))) empty ∪ cond (known.varied_a || divides) (single_some (second_read (source_of b))) empty) empty
    each (d ≔ copy a) = never known.active _
    each (d ≔ fixed c) = never known.active _
    each (d ≔ sum a b) = never known.active _
    each (d ≔ difference a b) = never known.active _
    each (d ≔ product a b) = always known.active known.varied_a (single_if known.varied_b a) (single b)
    each (d ≔ negation a) = never known.active _
    each (d ≔ quotient a b) = divisor_too known.active known.varied_a (single_if known.varied_b a) (single b)

pub required_said : {operation : MaskedAssignment} (b : Assignment) → Performs operation b → (known : Activity) (before : VariableSet)
    → required_after b known before ≡ without operation.target.0 (before ∪ adjoint_use (source_of b) known)
unfolding required_after
required_said (d ≔ source) performs known before = rw performs.target

pub recorded_said : {operation : MaskedAssignment} (b : Assignment) → Performs operation b → (known : Activity) (required : VariableSet)
    → recorded_by b known required ≡ (has required operation.target.0 || has (adjoint_use (source_of b) known) operation.target.0)
unfolding recorded_by
recorded_said (d ≔ source) performs known required = rw performs.target
