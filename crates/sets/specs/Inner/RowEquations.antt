-- 01's equations row by row, as the code goes through them: each row gives one, from its line, its own number and that of its partner, the
-- row of the same block that its set comes from; a loop's far end has the point itself.
use Rattle.std.specs.Prelude.{ℕ, zero, suc, ◌+◌, ◌*◌, ◌-◌, ◌≤◌, ◌<◌, ◌≡◌, Bool, true, false, cond, List, [], ◌∷◌, get_or, take, drop, length as List·length}
use Rattle.sheet.specs.Inner.Words.{word_values}
use Rattle.sheet.specs.Bounds.{limit}
use Rattle.sheet.specs.Tree.{basic, if_line, else_line, end_if, repeat, end_repeat}
use Rattle.sheet.specs.Rows.{Assignment, SheetLine, Row, kinds, is_independent, is_dependent}
use Rattle.sheet.specs.Inner.RowLines.{line_of_row, SaysLine, numbered_row}
use Rattle.sheet.specs.Inner.Kinds.{assigns, form_for, part_for}
use Rattle.sheet.specs.declared.kinds.Form.{Form}
use Rattle.sheet.specs.declared.kinds.Part.{Part}
use Rattle.sheet.specs.declared.kinds.Part.TheVariants as part
use Rattle.sets.specs.Inner.Analyses.{Which, Varied, Useful, Required, goes_back, inactive}
use Rattle.sets.specs.VariableSets.{VariableSet, places, ◌∪◌}
use Rattle.sets.specs.Equations.{Equation, starts, passes, joins, unchanged}
use Rattle.sets.specs.Rounds.{set_at}
use Rattle.sets.specs.Transfers.{varied_after, useful_before, required_after, Activity, activity_of}
use Rattle.sets.specs.Inner.Operations.{InMask}

-- the line of a sheet's row, by its number
abbrev pub line_in : List ℕ → (first row : ℕ) → SheetLine
line_in words first p = line_of_row (numbered_row words first p)

-- ---- one row's equation

unfoldable pub forward_of : (Assignment → VariableSet → VariableSet) → SheetLine → (row partner : ℕ) → Equation
forward_of turn (basic b) p c = passes p (suc p) (turn b)
forward_of turn (if_line f) p c = passes p (suc p) unchanged
forward_of turn else_line p c = passes c (suc p) unchanged
forward_of turn end_if p c = joins c p (suc p)
forward_of turn (repeat l) p c = joins p c (suc p)
forward_of turn end_repeat p c = passes c (suc p) unchanged

unfoldable pub backward_of : (Assignment → VariableSet → VariableSet) → SheetLine → (row partner : ℕ) → Equation
backward_of turn (basic b) p c = passes (suc p) p (turn b)
backward_of turn (if_line f) p c = joins (suc p) (suc c) p
backward_of turn else_line p c = passes (suc c) p unchanged
backward_of turn end_if p c = passes (suc p) p unchanged
backward_of turn (repeat l) p c = passes c p unchanged
backward_of turn end_repeat p c = joins (suc p) (suc c) p

-- what an assignment does to the set, by what is known of it
unfoldable pub turn_of : Which → Activity → Assignment → VariableSet → VariableSet
turn_of Varied known b s = varied_after b s
turn_of Useful known b s = useful_before b s
turn_of Required known b s = required_after b known s

unfoldable pub equation_of : Which → Activity → SheetLine → (row partner : ℕ) → Equation
unfolding forward_of backward_of turn_of
equation_of Varied known l p c = forward_of (turn_of Varied known) l p c
equation_of Useful known l p c = backward_of (turn_of Useful known) l p c
equation_of Required known l p c = forward_of (turn_of Required known) l p c

-- ---- all rows' equations

-- the sheet's words, the place of its first row, what is known of each row and a partner for each
pub record Given : Type 0 where
  pub words : List ℕ
  pub first : ℕ
  pub known : ℕ → Activity
  pub partners : List ℕ

abbrev pub given_by : (words : List ℕ) (first : ℕ) (known : ℕ → Activity) (partners : List ℕ) → Given
given_by words first known partners = record { words = words; first = first; known = known; partners = partners }

-- the first two sets don't ask what is known of a row
abbrev pub unasked : ℕ → Activity
unasked p = inactive

-- by the sets of varied variables before a row and of useful ones after it
unfoldable pub known_of_line : (varied useful : VariableSet) → SheetLine → Activity
unfolding activity_of
known_of_line varied useful (basic b) = activity_of b varied useful
known_of_line varied useful (if_line f) = inactive
known_of_line varied useful else_line = inactive
known_of_line varied useful end_if = inactive
known_of_line varied useful (repeat m) = inactive
known_of_line varied useful end_repeat = inactive

abbrev pub known_from : (words : List ℕ) (first : ℕ) (varied useful : List VariableSet) → ℕ → Activity
known_from words first varied useful p = known_of_line (set_at varied p) (set_at useful (suc p)) (line_in words first p)

abbrev pub known_by : Which → (words : List ℕ) (first : ℕ) (varied useful : List VariableSet) → ℕ → Activity
known_by Varied words first varied useful = unasked
known_by Useful words first varied useful = unasked
known_by Required words first varied useful = known_from words first varied useful

abbrev pub given_to : Which → (words : List ℕ) (first : ℕ) (varied useful : List VariableSet) (partners : List ℕ) → Given
given_to which words first varied useful partners = given_by words first (known_by which words first varied useful) partners

abbrev pub row_in : Given → ℕ → Row
row_in given p = numbered_row given.words given.first p

unfoldable pub equation_in : Which → Given → ℕ → Equation
unfolding line_of_row equation_of
equation_in which given p = equation_of which (given.known p) (line_of_row (row_in given p)) p (get_or given.partners p 0)

-- in the order of the sweep: useful variables are found from the last row to the first
unfoldable pub row_in_turn : Which → (rows turn : ℕ) → ℕ
row_in_turn which n i = cond (goes_back which) (n - suc i) i

unfoldable pub listed : (ℕ → Equation) → (from count : ℕ) → List Equation
listed e i zero = []
listed e i (suc n) = e i ∷ listed e (suc i) n

unfoldable pub start_of : Which → (rows : ℕ) → ℕ
start_of which n = cond (goes_back which) n 0

unfoldable pub row_equations : Which → Given → (rows : ℕ) → List Equation
unfolding equation_in row_in_turn listed
row_equations which given n = listed (λ i. equation_in which given (row_in_turn which n i)) 0 n

unfoldable pub all_equations : Which → Given → (rows : ℕ) → (seed : VariableSet) → List Equation
unfolding start_of row_equations
all_equations which given n seed = starts (start_of which n) seed ∷ row_equations which given n

-- ---- how the code finds a row's right side

-- the point that a row's own set stands at, and the point that the row settles
unfoldable pub own_point : Which → ℕ → ℕ
own_point which p = cond (goes_back which) (p + 1) p

unfoldable pub settled_point : Which → ℕ → ℕ
settled_point which p = cond (goes_back which) p (p + 1)

-- whether a row takes its partner's set alone
abbrev pub splits : Part → Bool
splits part.Assignment = false
splits part.If = false
splits part.Else = true
splits part.EndIf = false
splits part.Repeat = false
splits part.EndRepeat = false

-- whether a row of a block takes its partner's set besides its own: where sets are found from the first row on, and from the last to the first
abbrev pub joins_on : Part → Bool
joins_on part.Assignment = false
joins_on part.If = false
joins_on part.Else = false
joins_on part.EndIf = true
joins_on part.Repeat = true
joins_on part.EndRepeat = false

abbrev pub joins_back : Part → Bool
joins_back part.Assignment = false
joins_back part.If = true
joins_back part.Else = false
joins_back part.EndIf = false
joins_back part.Repeat = false
joins_back part.EndRepeat = true

unfoldable pub joins_by : Which → Part → Bool
joins_by which part = cond (goes_back which) (joins_back part) (joins_on part)

-- what a row of a block puts into the set that it settles, by the sets at its own point and at its partner's
abbrev pub block_side : Which → Part → (own other : VariableSet) → VariableSet
block_side which part own other = cond (splits part) other (cond (joins_by which part) (own ∪ other) own)

-- an assignment's words are bits of a mask
abbrev pub FitsMask : Row → Type 0
FitsMask row = assigns (part_for row.kind) ≡ true → InMask row

-- all words of a row are there
abbrev pub RowThere : (words : List ℕ) (first row : ℕ) → Type 0
RowThere words first p = first + (p + 1) * limit.row_words ≤ List·length words

-- the words of a row are there, say its line, and name no variable or constant beyond a mask's bits
pub record RowReadable (words : List ℕ) (first row : ℕ) : Type 0 where
  pub says : SaysLine (numbered_row words first row)
  pub small : FitsMask (numbered_row words first row)
  pub numbered : row < word_values
  pub there : RowThere words first row

abbrev pub AllReadable : List ℕ → (first rows : ℕ) → Type 0
AllReadable words first rows = (p : ℕ) → p < rows → RowReadable words first p

-- a row's kind was read: it is one of the table's
pub record KindRead (words : List ℕ) (first row kind : ℕ) : Type 0 where
  pub is : kind ≡ (numbered_row words first row).kind
  pub in_table : kind ≤ List·length kinds

-- its form was looked up in the table
abbrev pub Formed : (words : List ℕ) (first row : ℕ) → Form → Type 0
Formed words first row form = form ≡ form_for (numbered_row words first row).kind

-- ---- the start

abbrev pub has_role : Which → ℕ → Bool
has_role Varied role = is_independent role
has_role Useful role = is_dependent role
has_role Required role = false

-- the variables that the start point has; the roles stand after the sheet's first word
unfoldable pub seed_in : Which → List ℕ → (variables : ℕ) → VariableSet
seed_in which words v = places (has_role which) (take v (drop 1 words))
