-- The rows of a table, adjoint or tangent: the sheet's kinds and seven more, the variables that they name, and where each row comes from.
use Rattle.std.specs.Prelude.{ℕ, ◌+◌, ◌*◌, Bool, cond, List, [], ◌∷◌, map, length}
use Rattle.sheet.specs.Tree.{Tree, Line, flat, RowNumber}
use Rattle.sheet.specs.Rows.{Assignment, Test, Row, row_of_assignment, row_of_test, row_of_while, row_of}

-- "Variables 0 to V−1 are the originals, V+i is the adjoint of i, t = 2V, u = 2V+1."
module _ (variables : ℕ) where
  abbrev pub adjoint_of : ℕ → ℕ
  adjoint_of i = variables + i

  abbrev pub t : ℕ
  t = 2 * variables

  abbrev pub u : ℕ
  u = 2 * variables + 1

-- "Further kinds: 12 save d, 13 take back d, 14 save turn a (0 or 1), .. 16 d := 0, 17 turn round."
pub data Action : Type 0 where
  assign : Assignment → Action
  save : ℕ → Action
  take_back : ℕ → Action
  save_turn : Bool → Action
  clear : ℕ → Action
  turn_round : Action

-- "15 if on a turn taken back (1 takes the first branch)"; and a loop on a count taken back, kind 20, which "repeats that often" (02 §6)
pub data TableTest : Type 0 where
  whether : Test → TableTest
  on_turn : TableTest

-- which operation of an assignment's rules a row is
pub data Operation : Type 0 where
  -- forward: the save before it, the assignment itself, the turn saved at a branch's end
  saving : Operation
  itself : Operation
  turning : Operation
  -- backward: the take back; t := d̄; d̄ := 0; u := b × t; into ā; u := a × t; into b̄
  taking_back : Operation
  holding : Operation
  clearing : Operation
  scaling_for_a : Operation
  adding_to_a : Operation
  scaling_for_b : Operation
  adding_to_b : Operation
  -- a quotient's besides: u := t / b; for b̄, after u := a × u, u := u / b
  dividing : Operation
  dividing_for_b : Operation
  -- in a tangent table, before the assignment: u := b × ȧ; t := a × ḃ; ḋ := ..
  rating_a : Operation
  rating_b : Operation
  rating : Operation
  -- a quotient's besides, of its second term: t := t / b, and once more
  rating_over_b : Operation
  rating_over_b_again : Operation

-- "A stop is compared by the sheet row and the operation it comes from": row 17 comes from no sheet row
pub data Origin : Type 0 where
  of_row : RowNumber → Operation → Origin
  of_turning_round : Origin

pub record TableRow : Type 0 where
  pub origin : Origin
  pub action : Action

abbrev pub TableLine : Type 0
TableLine = Line TableRow TableTest

abbrev pub Table : Type 0
Table = Tree TableRow TableTest

-- a turn as the word on the stack
abbrev pub turn_word : Bool → ℕ
turn_word first = cond first 1 0

-- "Unused words are 0."
unfoldable pub row_of_action : Action → Row
unfolding row_of_assignment
row_of_action (assign b) = row_of_assignment b
row_of_action (save d) = record { kind = 12; d = d; a = 0; b = 0 }
row_of_action (take_back d) = record { kind = 13; d = d; a = 0; b = 0 }
row_of_action (save_turn first) = record { kind = 14; d = 0; a = turn_word first; b = 0 }
row_of_action (clear d) = record { kind = 16; d = d; a = 0; b = 0 }
row_of_action turn_round = record { kind = 17; d = 0; a = 0; b = 0 }

unfoldable pub row_of_table_test : TableTest → Row
unfolding row_of_test
row_of_table_test (whether f) = row_of_test f
row_of_table_test on_turn = record { kind = 15; d = 0; a = 0; b = 0 }

-- of a loop with a test. Kind 20, "other words 0", doesn't say how many turns the loop does at most.
unfoldable pub row_of_table_while : TableTest → (m : ℕ) → Row
unfolding row_of_while
row_of_table_while (whether f) m = row_of_while f m
row_of_table_while on_turn m = record { kind = 20; d = 0; a = 0; b = 0 }

unfoldable pub table_row_of : TableLine → Row
unfolding row_of row_of_action row_of_table_test row_of_table_while
table_row_of = row_of (λ r. row_of_action r.action) row_of_table_test row_of_table_while

unfoldable pub lines_of : Table → List TableLine
unfolding flat
lines_of table = flat table []

-- four words a row, in order
unfoldable pub words_of : List Row → List ℕ
words_of [] = []
words_of (r ∷ rs) = r.kind ∷ r.d ∷ r.a ∷ r.b ∷ words_of rs

-- "Its words are the row count R, then R rows of four."
unfoldable pub table_words : Table → List ℕ
unfolding lines_of table_row_of words_of
table_words table = length (lines_of table) ∷ words_of (map table_row_of (lines_of table))
