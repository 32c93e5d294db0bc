-- What must be believed of a hazard sheet (01, "What a hazard sheet holds" and "When the tool says no"), in 01's order; from
-- Judging on how words are read.
pub mod Bounds
pub mod Tree
pub mod Rows
pub mod Sheets
pub mod Refusals
pub mod Judging
pub mod Reading
pub mod Names
pub mod Answers
pub mod Inner
