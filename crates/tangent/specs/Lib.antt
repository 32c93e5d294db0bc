-- What must be believed of the tangent table and its run (02 §1); then what the calls answer, as it is computed.
pub mod Tangent
pub mod TangentRuns
pub mod Calls
pub mod Inner
