-- What inner functions and the calls between the layers are handed and answer. No contract of a call that is made from outside, and no claim,
-- cites it, so no answer rests on its being right. One promise of 01 is read here: that each single row's step of the code gives the state of
-- that row's written meaning (Buffers, RowSteps, RunsRows).
pub mod RowAnswers
pub mod Buffers
pub mod RowWords
pub mod RowsHanded
pub mod RowSteps
pub mod RunsRows
