-- Laws of the row machine and its code, over the arithmetic.
pub mod PlaceLaws
pub mod StackLaws
pub mod RowLaws
pub mod RoleLaws
pub mod RoundLaws
pub mod RowsPinned
pub mod AttemptLaws
pub mod StepsInTurn
pub mod OpenedLaws
pub mod LineLaws
pub mod StraightLaws
pub mod PeekLaws
pub mod CrossLaws
pub mod RunLaws
pub mod RunPinned
-- a table's lines
pub mod LinesPassed
pub mod LinesStand
