-- What is proved of reading, of the definitions first.
pub mod TreeOnly
pub mod RowsCounted
pub mod Judgements
pub mod EachKind
pub mod RowsBack
pub mod RefusalsApart
pub mod Settled
pub mod ReadingParts
pub mod LinesTaken
pub mod TreeOfRows
pub mod Feasibility
pub mod NamesPresent
pub mod Depth
-- the laws that the reader's functions are proved by
pub mod CountsJudged
pub mod RolesJudged
pub mod PartsRead
pub mod Saturated
pub mod BlocksApart
pub mod Levels
pub mod RowsFollowed
pub mod ShapeRead
-- what the layers above cite
pub mod LinesByPart
pub mod RowsByKind
pub mod RowsByNumber
pub mod TreeInWords
pub mod ReaderLaws
pub mod RowsSmall
