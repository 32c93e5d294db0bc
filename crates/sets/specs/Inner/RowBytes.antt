-- The byte of a row's marks, from its line and the three sets at hand, and a list of them as it is written.
use Rattle.std.specs.Prelude.{ℕ, zero, suc, List, set}
use Rattle.sheet.specs.Tree.{basic, if_line, else_line, end_if, repeat, end_repeat}
use Rattle.sheet.specs.Rows.{Assignment, SheetLine}
use Rattle.sets.specs.VariableSets.{VariableSet}
use Rattle.sets.specs.Transfers.{Activity, recorded_by}
use Rattle.sets.specs.Marks.{mark_by}
use Rattle.sets.specs.Rounds.{sets_in}
use Rattle.sets.specs.MarkBytes.{byte_by}

-- the byte of a row with this line
unfoldable pub byte_at : (varied useful required : List VariableSet) → ℕ → SheetLine → ℕ
unfolding mark_by
byte_at varied useful required p (basic b) = let m = mark_by (sets_in varied useful required) p b in byte_by m.known m.saved
byte_at varied useful required p (if_line f) = 0
byte_at varied useful required p else_line = 0
byte_at varied useful required p end_if = 0
byte_at varied useful required p (repeat m) = 0
byte_at varied useful required p end_repeat = 0

-- the same of an assignment, by what is known of it and the variables required before it
abbrev pub byte_for : Activity → (required : VariableSet) → Assignment → ℕ
byte_for known required b = byte_by known (recorded_by b known required)

-- the bytes of rows with these lines
abbrev pub bytes_of : (varied useful required : List VariableSet) → (ℕ → SheetLine) → ℕ → ℕ
bytes_of varied useful required line p = byte_at varied useful required p (line p)

-- a list with its first n places written
unfoldable pub written : (ℕ → ℕ) → ℕ → List ℕ → List ℕ
written f zero xs = xs
written f (suc n) xs = set (written f n xs) n (f n)
