-- Where a block's row leads in the sheet, and the turns still to come of the loops that are open.
use Rattle.std.specs.Prelude.{ℕ, ◌+◌, ◌-◌, ◌≤◌, ◌<◌, Bool, true, cond, not, ◌||◌, List, get_or, set, eqb}
use Rattle.sheet.specs.Rows.{Row, while_kind}
use Rattle.sheet.specs.Inner.Kinds.{turns_in}
use Rattle.sheet.specs.declared.kinds.Part.{Part}
use Rattle.sheet.specs.declared.kinds.Part.TheVariants as part
use Rattle.plain.specs.declared.blocks.At.{At}

pub record Crossed : Type 0 where
  pub at : At
  pub to_come : List ℕ

abbrev pub at_row : (row depth : ℕ) → At
at_row row depth = record { row = record { 0 = row }; depth = depth }

abbrev pub crossed_to : (row depth : ℕ) → (to_come : List ℕ) → Crossed
crossed_to row depth to_come = record { at = at_row row depth; to_come = to_come }

-- The row whose words say what is asked where a block's row stands, its test and its turns: at an "end repeat" the one that opened the loop.
abbrev pub asked_row : Part → (goes : List ℕ) → (row : ℕ) → ℕ
asked_row part.Assignment goes row = row
asked_row part.If goes row = row
asked_row part.Else goes row = row
asked_row part.EndIf goes row = row
asked_row part.Repeat goes row = row
asked_row part.EndRepeat goes row = get_or goes row 0

-- whether a loop that has turns to come does one more: a repeat always, a loop with a test if that holds
abbrev pub turns_on : (asked : Row) → (holds : Bool) → Bool
turns_on asked holds = cond (eqb asked.kind while_kind) holds true

-- a loop that is reached from outside: its first turn, or past it
abbrev pub opened : (more : Bool) → (turns : ℕ) → (goes to_come : List ℕ) → At → Crossed
opened more turns goes to_come at =
    cond more (crossed_to (at.row.0 + 1) (at.depth + 1) (set to_come at.depth (turns - 1)))
    (crossed_to (get_or goes at.row.0 0 + 1) at.depth to_come)

-- an "end repeat": one turn fewer is to come, or the loop is past, as none is or its test says
abbrev pub turn_ended : (more : Bool) → (row back depth turns : ℕ) → (to_come : List ℕ) → Crossed
turn_ended more row back depth turns to_come =
    cond (eqb turns 0 || not more) (crossed_to (row + 1) (depth - 1) to_come) (crossed_to (back + 1) depth (set to_come (depth - 1) (turns - 1)))

abbrev pub ended_turn : (more : Bool) → (goes to_come : List ℕ) → At → Crossed
ended_turn more goes to_come at = turn_ended more at.row.0 (get_or goes at.row.0 0) at.depth (get_or to_come (at.depth - 1) 0) to_come

-- by what the row is to the blocks: the row that is asked, whether the test there holds, and the rows' partners
abbrev pub crossing : Part → (asked : Row) → (holds : Bool) → (goes to_come : List ℕ) → At → Crossed
crossing part.Assignment asked holds goes to_come at = crossed_to (at.row.0 + 1) at.depth to_come
crossing part.If asked holds goes to_come at = crossed_to (cond holds (at.row.0 + 1) (get_or goes at.row.0 0 + 1)) at.depth to_come
crossing part.Else asked holds goes to_come at = crossed_to (get_or goes at.row.0 0 + 1) at.depth to_come
crossing part.EndIf asked holds goes to_come at = crossed_to (at.row.0 + 1) at.depth to_come
crossing part.Repeat asked holds goes to_come at = opened (turns_on asked holds) (turns_in asked) goes to_come at
crossing part.EndRepeat asked holds goes to_come at = ended_turn (turns_on asked holds) goes to_come at

-- a loop that opens has turns and room, and one that ends is open
abbrev pub Crossable : Part → (turns depth room : ℕ) → Type 0
Crossable part.Assignment turns depth room = Unit {0}
Crossable part.If turns depth room = Unit {0}
Crossable part.Else turns depth room = Unit {0}
Crossable part.EndIf turns depth room = Unit {0}
Crossable part.Repeat turns depth room = (1 ≤ turns) × (depth < room)
Crossable part.EndRepeat turns depth room = (1 ≤ depth) × (depth ≤ room)
