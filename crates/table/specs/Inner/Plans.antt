-- What is found out of a sheet before its table is written: R, S and T, every row's marks and every block row's partners.
use Rattle.sheet.specs.declared.No.{No}
use Rattle.std.specs.Prelude.{ℕ, ◌+◌, ◌*◌, ◌≤◌, ◌≡◌, Bool, List, length}
use Rattle.std.specs.Prelude.{Err, None, Ok, Option, Result, Some}
use Rattle.sheet.specs.Judging.{Answer, refused, given}
use Rattle.sheet.specs.Bounds.{limit}
use Rattle.sheet.specs.Refusals.{holds_quotient}
use Rattle.sheet.specs.Sheets.{Sheet}
use Rattle.sheet.specs.Reading.{read, read_in}
use Rattle.sheet.specs.Answers.{refusal_of, shape_of}
use Rattle.sheet.specs.declared.No.{No}
use Rattle.sets.specs.Marks.{mark_by}
use Rattle.sets.specs.Rounds.{sets_of}
use Rattle.table.specs.declared.Plan.{Plan}
use Rattle.table.specs.Sizes.{Needs}
use Rattle.table.specs.Computed.{needs_of}
use Rattle.table.specs.Inner.MarkedRows.{Noted}

-- the sheet's own marks and partners are noted
abbrev pub SheetNoted : (sheet : Sheet) (marks came goes : List ℕ) → Type 0
SheetNoted sheet marks came goes = Noted marks came goes (mark_by (sets_of sheet)) sheet.body 0

-- what a plan says of its sheet, which needs so much
pub record PlanFor (needs : Sheet → Needs) (sheet : Sheet) (plan : Plan) (marks came goes : List ℕ) : Type 0 where
  pub shape : plan.shape ≡ shape_of sheet
  pub rows : plan.rows ≡ (needs sheet).rows
  pub values : plan.values ≡ (needs sheet).values
  pub turns : plan.turns ≡ (needs sheet).turns
  pub noted : SheetNoted sheet marks came goes

-- the words are this sheet's, and the plan is its plan
pub record PlanMadeFor (needs : Sheet → Needs) (words : List ℕ) (plan : Plan) (marks came goes : List ℕ) : Type 0 where
  pub sheet : Sheet
  pub accepted : read words ≡ given sheet
  pub planned : PlanFor needs sheet plan marks came goes

abbrev pub PlanSaysFor : (needs : Sheet → Needs) (words marks came goes : List ℕ) → Result Plan No → Type 0
PlanSaysFor needs words marks came goes (Err why) = read words ≡ refused (refusal_of why)
PlanSaysFor needs words marks came goes (Ok plan) = PlanMadeFor needs words plan marks came goes

-- the same, planned for an arithmetic that divides or doesn't
abbrev pub PlanSaysIn : (divides : Bool) (needs : Sheet → Needs) (words marks came goes : List ℕ) → Result Plan No → Type 0
PlanSaysIn divides needs words marks came goes (Err why) = read_in divides words ≡ refused (refusal_of why)
PlanSaysIn divides needs words marks came goes (Ok plan) =
    (made : PlanMadeFor needs words plan marks came goes) × (read_in divides words ≡ given made.sheet)

-- a planned sheet's rows lie within the words
abbrev pub RowsWithin : (words : List ℕ) → Result Plan No → Type 0
RowsWithin words (Err why) = Unit {0}
RowsWithin words (Ok plan) = plan.shape.first_row + plan.shape.rows * limit.row_words ≤ length words

-- 13, by the code's answer
abbrev pub quotients_said : Option ℕ → Answer (Unit {0})
quotients_said None = given tt
quotients_said (Some place) = refused (holds_quotient place)

-- of the adjoint table
abbrev pub PlanOf : (sheet : Sheet) (plan : Plan) (marks came goes : List ℕ) → Type 0
PlanOf = PlanFor needs_of

abbrev pub PlanMade : (words : List ℕ) (plan : Plan) (marks came goes : List ℕ) → Type 0
PlanMade = PlanMadeFor needs_of

abbrev pub PlanSays : (words marks came goes : List ℕ) → Result Plan No → Type 0
PlanSays = PlanSaysFor needs_of
