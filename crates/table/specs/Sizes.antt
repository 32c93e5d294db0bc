-- R, S and T, and what the calls check and write answer. When each is answered is said in the claims; how it is computed stands in Calls.antt.
use Rattle.std.specs.Prelude.{ℕ, ◌+◌, ◌*◌, max, cond, List}
use Rattle.sheet.specs.Tree.{Loop, most_turns, has_test, done, one, fork, again, rows, longest_run}
use Rattle.sheet.specs.Sheets.{Sheet, variables_of}
use Rattle.sheet.specs.Bounds.{limit}
use Rattle.sets.specs.Marks.{Sets, marked_by}
use Rattle.table.specs.Adjoint.{Body, adjoint_table}
use Rattle.table.specs.declared.Checked as declared
use Rattle.table.specs.declared.Reply as answered

-- R
unfoldable pub table_rows : (variables : ℕ) → Body → ℕ
unfolding rows adjoint_table
table_rows variables body = rows (adjoint_table variables body)

-- "S, the value stack needed: a recorded row counts 1, an if block the larger branch, a repeat a times its body." A loop with a
-- test counts "as a repeat of d" (02 §6).
unfoldable pub values_needed : Body → ℕ
values_needed done = 0
values_needed (one m k) = cond m.saved 1 0 + values_needed k
values_needed (fork f a b k) = max (values_needed a) (values_needed b) + values_needed k
values_needed (again l a k) = most_turns l * values_needed a + values_needed k

-- a loop with a test puts one count away, when it ends
abbrev pub own_count : {F : Type 0} → Loop F → ℕ
own_count l = cond (has_test l) 1 0

-- "T, the turn stack: an if block counts 1 + the larger branch; repeats multiply." Of a loop with a test "T counts d × body + 1" (02 §6).
unfoldable pub turns_needed : Body → ℕ
turns_needed done = 0
turns_needed (one m k) = turns_needed k
turns_needed (fork f a b k) = 1 + max (turns_needed a) (turns_needed b) + turns_needed k
turns_needed (again l a k) = most_turns l * turns_needed a + own_count l + turns_needed k

-- ---- of a sheet, by its sets

-- R, S and T
pub record Needs : Type 0 where
  pub rows : ℕ
  pub values : ℕ
  pub turns : ℕ

abbrev pub needs_by : Sets → Sheet → Needs
needs_by sets sheet =
    let body = marked_by sets sheet in
    record { rows = table_rows (variables_of sheet) body; values = values_needed body; turns = turns_needed body }

-- ---- what check answers: W, R, S and T

pub record Sizes : Type 0 where
  pub longest : ℕ
  pub rows : ℕ
  pub values : ℕ
  pub turns : ℕ

-- "answers W, R, S and T, all 0 when refused"
abbrev pub sizes_by : Sets → Sheet → Sizes
sizes_by sets sheet =
    let needs = needs_by sets sheet in
    record { longest = longest_run sheet.body; rows = needs.rows; values = needs.values; turns = needs.turns }

abbrev pub no_sizes : Sizes
no_sizes = record { longest = 0; rows = 0; values = 0; turns = 0 }

pub record Checked : Type 0 where
  pub number : ℕ
  pub place : ℕ
  pub sizes : Sizes

-- what the call's answer says
abbrev pub checked_said : declared.Checked → Checked
checked_said r =
    record {
      number = r.number;
      place = r.place;
      sizes = record { longest = r.longest; rows = r.rows; values = r.values; turns = r.turns };
    }

-- ---- what write answers

-- "table buffer below 1 + 4R words"
abbrev pub table_room : (rows : ℕ) → ℕ
table_room rows = 1 + limit.row_words * rows

pub record Written : Type 0 where
  pub number : ℕ
  pub place : ℕ
  pub table : List ℕ

-- what the call's answer and the buffer that it leaves say
abbrev pub written_of : answered.Reply → (table : List ℕ) → Written
written_of answer table = record { number = answer.number; place = answer.place; table = table }
