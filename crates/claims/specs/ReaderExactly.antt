-- Demand 1 of reading: of the executable reader and of the reader's own call. No demand rests on it.
use Rattle.sheet.specs.declared.No.{No}
use Rattle.std.specs.Prelude.{ℕ, ◌≤◌, ◌≡◌, List, ◌↔◌}
use Rattle.std.specs.Prelude.{Ok, Result}
use Rattle.sheet.specs.Judging.{Answer, refused, given, number_in, place_in}
use Rattle.sheet.specs.Refusals.{Refusal}
use Rattle.sheet.specs.Sheets.{Sheet}
use Rattle.sheet.specs.Answers.{said, shape_of}
use Rattle.sheet.specs.declared.Shape.{Shape}
use Rattle.claims.specs.ExactlyWhen.{ReadingRefuses, Read}
use Rattle.claims.specs.Demands.{Names}

pub record ReadExactly (words : List ℕ) (answer : Answer Sheet) : Type 0 where
  pub refuses : (r : Refusal) → (answer ≡ refused r) ↔ ReadingRefuses words r
  pub gives : (sheet : Sheet) → (answer ≡ given sheet) ↔ Read words sheet

-- the shape is that of the sheet that the words are
pub record ShapeOfRead (words : List ℕ) (shape : Shape) : Type 0 where
  pub sheet : Sheet
  pub is : Read words sheet
  pub shaped : shape_of sheet ≡ shape

-- the reader's own call
pub record ReaderExactly (words : List ℕ) (answer : Result Shape No) : Type 0 where
  pub refuses : (r : Refusal) → Names (number_in (said answer)) (place_in (said answer)) r ↔ ReadingRefuses words r
  pub accepts : (shape : Shape) → (answer ≡ Ok shape) ↔ ShapeOfRead words shape
  pub done : (number_in (said answer) ≡ 0) ↔ ((shape : Shape) × ShapeOfRead words shape)
  pub numbers : number_in (said answer) ≤ 7
