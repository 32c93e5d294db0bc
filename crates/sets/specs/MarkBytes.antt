-- A byte for each row: whether a is varied before it, whether b is, whether it is active, whether it is recorded. A row that is no assignment has 0.
use Rattle.std.specs.Prelude.{ℕ, ◌+◌, ◌/◌, ◌%◌, Bool, cond, List, [], map, eqb}
use Rattle.sheet.specs.Tree.{Line, flat, basic, if_line, else_line, end_if, repeat, end_repeat}
use Rattle.sheet.specs.Sheets.{Sheet}
use Rattle.sets.specs.Transfers.{Activity}
use Rattle.sets.specs.Marks.{Marked, MarkedTest}
use Rattle.sets.specs.Rounds.{marked}

-- what each mark counts in the byte
pub record Weights : Type 0 where
  pub varied_a : ℕ
  pub varied_b : ℕ
  pub active : ℕ
  pub saved : ℕ

abbrev pub weight : Weights
weight = record { varied_a = 1; varied_b = 2; active = 4; saved = 8 }

abbrev pub weight_if : Bool → (weight : ℕ) → ℕ
weight_if there w = cond there w 0

abbrev pub byte_by : Activity → (saved : Bool) → ℕ
byte_by known saved =
    weight_if known.varied_a weight.varied_a + weight_if known.varied_b weight.varied_b + weight_if known.active weight.active
    + weight_if saved weight.saved

-- one mark of a byte
abbrev pub bit_of : (byte weight : ℕ) → Bool
bit_of byte weight = eqb (byte / weight % 2) 1

unfoldable pub byte_of : Line Marked MarkedTest → ℕ
byte_of (basic m) = byte_by m.known m.saved
byte_of (if_line f) = 0
byte_of else_line = 0
byte_of end_if = 0
byte_of (repeat m) = 0
byte_of end_repeat = 0

-- the sheet's marks, row by row
unfoldable pub mark_bytes : Sheet → List ℕ
unfolding flat marked byte_of
mark_bytes sheet = map byte_of (flat (marked sheet) [])
