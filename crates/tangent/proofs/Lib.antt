-- What is proved of the tangent table, its writer and its runs.
pub mod LineCounts
pub mod RateRows
pub mod TangentLines
pub mod RowsPassed
pub mod TangentTree
pub mod TangentPlanLaws
pub mod CallsPinned
-- its runs
pub mod TangentBounds
pub mod TangentNames
pub mod TangentCalls
pub mod RunsPinned
