-- What must be believed of the adjoint table (01, "The adjoint table") and of the calls check and write, in 01's order; from RowBounds on what the code's
-- arrays need, and the same as it is computed.
pub mod TableRows
pub mod Adjoint
pub mod Sizes
pub mod RowBounds
pub mod Computed
pub mod Calls
pub mod Inner
