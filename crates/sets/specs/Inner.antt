-- What inner functions are handed and answer. No public contract and no claim cites it, so nothing rests on its being right.
pub mod ProperEquations
pub mod Masks
pub mod Operations
pub mod RowBytes
pub mod PartnerPass
pub mod Analyses
pub mod RowEquations
pub mod Walks
pub mod Laid
