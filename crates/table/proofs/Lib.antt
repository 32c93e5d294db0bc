-- What is proved of the table.
pub mod TableLength
pub mod TableBounds
pub mod AssignmentRows
pub mod LineRows
pub mod MarkedAssignment
pub mod RowCounts
pub mod CountTree
pub mod NeedsTree
pub mod SizesPass
pub mod SheetLaid
pub mod NotedTree
pub mod PlanLaws
pub mod CallLaws
pub mod CallsPinned
pub mod QuotientLaws
