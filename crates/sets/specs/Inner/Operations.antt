-- An assignment as the code has it at hand: its kind, its target and the sets of what it reads.
use Rattle.std.specs.Prelude.{◌<◌, ◌≡◌}
use Rattle.sheet.specs.Inner.RowLines.{source_of}
use Rattle.sheet.specs.Rows.{Assignment, target_of, Row, row_of_assignment}
use Rattle.sets.specs.declared.operations.MaskedAssignment.{MaskedAssignment}
use Rattle.sets.specs.declared.transfers.KnownActivity.{KnownActivity}
use Rattle.sets.specs.VariableSets.{single_some}
use Rattle.sets.specs.Inner.Masks.{mask_bits}
use Rattle.sets.specs.Transfers.{Activity, first_read, second_read}

-- a row whose words are bits of a mask
pub record InMask (row : Row) : Type 0 where
  pub d : row.d < mask_bits
  pub a : row.a < mask_bits
  pub b : row.b < mask_bits

-- the operation is this assignment's
pub record Performs (operation : MaskedAssignment) (b : Assignment) : Type 0 where
  pub kind : operation.kind ≡ (row_of_assignment b).kind
  pub target : operation.target.0 ≡ target_of b
  pub first : operation.first ≡ single_some (first_read (source_of b))
  pub second : operation.second ≡ single_some (second_read (source_of b))

-- and that of the assignment that a row's words say
abbrev pub PerformsRow : MaskedAssignment → Row → Type 0
PerformsRow operation row = (b : Assignment) → row_of_assignment b ≡ row → Performs operation b

-- r is what a definition makes of the assignment
abbrev pub Gives : {A : Type 0} → MaskedAssignment → A → (Assignment → A) → Type 0
Gives operation r meaning = (b : Assignment) → Performs operation b → r ≡ meaning b

-- what the code knows of an assignment, as the definitions have it
abbrev pub activity_by : KnownActivity → Activity
activity_by known = record { varied_a = known.varied_a; varied_b = known.varied_b; active = known.active }
