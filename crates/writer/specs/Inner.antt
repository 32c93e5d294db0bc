-- What inner functions and the calls between the layers are handed and answer. No contract of a call that is made from outside, and no claim,
-- cites it, so nothing rests on its being right.
pub mod RowsWritten
pub mod JumpsNoted
pub mod TableHanded
