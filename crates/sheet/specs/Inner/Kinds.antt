-- 01's table of kinds as the code has it: what a kind's words are, and what its rows are to the blocks.
use Rattle.std.specs.Prelude.{ℕ, Bool, true, false, cond, List, ◌∷◌, map, eqb}
use Rattle.std.proofs.Math.Option.{Option, none, some}
use Rattle.sheet.specs.Tree.{has_test, basic, if_line, else_line, end_if, repeat, end_repeat}
use Rattle.sheet.specs.Rows.{SheetLine, Row, Kind, kinds, kind_of, while_kind}
use Rattle.sheet.specs.Rows as rows
use Rattle.sheet.specs.declared.kinds.Slot.{Slot}
use Rattle.sheet.specs.declared.kinds.Slot.TheVariants as slot
use Rattle.sheet.specs.declared.kinds.Part.{Part}
use Rattle.sheet.specs.declared.kinds.Part.TheVariants as part
use Rattle.sheet.specs.declared.kinds.Form.{Form}

-- a slot as the code names it
abbrev pub slot_of : rows.Slot → Slot
slot_of rows.variable = slot.Variable
slot_of rows.constant = slot.Constant
slot_of rows.turns = slot.Turns
slot_of rows.unused = slot.Unused

abbrev pub names_variable : Slot → Bool
names_variable slot.Variable = true
names_variable slot.Constant = false
names_variable slot.Turns = false
names_variable slot.Unused = false
names_variable slot.Nothing = false

abbrev pub assigns : Part → Bool
assigns part.Assignment = true
assigns part.If = false
assigns part.Else = false
assigns part.EndIf = false
assigns part.Repeat = false
assigns part.EndRepeat = false

-- what a line is to the blocks
abbrev pub part_of : SheetLine → Part
part_of (basic b) = part.Assignment
part_of (if_line f) = part.If
part_of else_line = part.Else
part_of end_if = part.EndIf
part_of (repeat l) = part.Repeat
part_of end_repeat = part.EndRepeat

-- whether a line opens a loop with a test
abbrev pub opens_test : SheetLine → Bool
opens_test (basic b) = false
opens_test (if_line f) = false
opens_test else_line = false
opens_test end_if = false
opens_test (repeat l) = has_test l
opens_test end_repeat = false

-- a kind's lines are the same to the blocks whatever their words are, so that those with all words 0 tell it
abbrev pub form_of : Kind → Form
form_of kind = record { 0 = slot_of kind.d; 1 = slot_of kind.a; 2 = slot_of kind.b; 3 = part_of (kind.means 0 0 0) }

-- of a number that is no kind's: nothing fits it
abbrev pub no_form : Form
no_form = record { 0 = slot.Nothing; 1 = slot.Nothing; 2 = slot.Nothing; 3 = part.Assignment }

abbrev pub form_by : Option Kind → Form
form_by none = no_form
form_by (some kind) = form_of kind

unfoldable pub form_for : ℕ → Form
unfolding kind_of
form_for n = form_by (kind_of n)

-- the code's table: what each number up to the last kind's stands for
abbrev pub all_forms : List Form
all_forms = no_form ∷ map form_by kinds

-- what a row of a kind is to the blocks
abbrev pub part_for : ℕ → Part
part_for n = (form_for n).3

-- the most turns of the loop that a row opens, by its words
abbrev pub turns_in : Row → ℕ
turns_in r = cond (eqb r.kind while_kind) r.d r.a
