-- The three analyses, each of which finds a set at every point: which one, and what it reads and leaves besides its own sets.
use Rattle.std.specs.Prelude.{ℕ, suc, ◌+◌, ◌≤◌, ◌<◌, Bool, true, false, List, set, length}
use Rattle.sheet.specs.Rows.{Assignment, SheetLine}
use Rattle.sets.specs.VariableSets.{VariableSet}
use Rattle.sets.specs.Rounds.{set_at}
use Rattle.sets.specs.Transfers.{Activity, activity_of}
use Rattle.sets.specs.Inner.RowBytes.{byte_for, bytes_of, written}

pub data Which : Type 0 where
  Varied : Which
  Useful : Which
  Required : Which

-- useful variables are found from the last row to the first, the others from the first row on
abbrev pub goes_back : Which → Bool
goes_back Varied = false
goes_back Useful = true
goes_back Required = false

abbrev pub inactive : Activity
inactive = record { varied_a = false; varied_b = false; active = false }

-- ---- what the required variables' analysis reads, the varied and the useful variables, and what it leaves, the rows' marks

-- there are sets and a mark for each of so many rows
abbrev pub Lends : Which → (varied useful : List VariableSet) (marks rows : ℕ) → Type 0
Lends Varied varied useful marks n = Unit
Lends Useful varied useful marks n = Unit
Lends Required varied useful marks n = (n < length varied) × (n < length useful) × (n ≤ marks)

-- there are both sets that a row takes, and a mark for it
abbrev pub LendsAt : Which → (varied useful : List VariableSet) (marks row : ℕ) → Type 0
LendsAt Varied varied useful marks p = Unit
LendsAt Useful varied useful marks p = Unit
LendsAt Required varied useful marks p = (p < length varied) × (suc p < length useful) × (p < marks)

-- what is known of an assignment at a row
unfoldable pub known_at : Which → (varied useful : List VariableSet) → (row : ℕ) → Assignment → Activity
unfolding activity_of
known_at Varied varied useful p b = inactive
known_at Useful varied useful p b = inactive
known_at Required varied useful p b = activity_of b (set_at varied p) (set_at useful (p + 1))

-- the marks after an assignment, `own` being the set at its own point, and after a row of a block
unfoldable pub marked_at : Which → (varied useful : List VariableSet) → (row : ℕ) → (own : VariableSet) → Assignment → (marks : List ℕ) → List ℕ
unfolding known_at
marked_at Varied varied useful p own b marks = marks
marked_at Useful varied useful p own b marks = marks
marked_at Required varied useful p own b marks = set marks p (byte_for (known_at Required varied useful p b) own b)

abbrev pub marks_over : Which → (row : ℕ) → (marks : List ℕ) → List ℕ
marks_over Varied p marks = marks
marks_over Useful p marks = marks
marks_over Required p marks = set marks p 0

-- and after all rows
abbrev pub marks_left : Which → (varied useful required : List VariableSet) → (ℕ → SheetLine) → (rows : ℕ) → (marks : List ℕ) → List ℕ
marks_left Varied varied useful required line n marks = marks
marks_left Useful varied useful required line n marks = marks
marks_left Required varied useful required line n marks = written (bytes_of varied useful required line) n marks
