-- What must be believed of the sets (01, "The three sets"), in 01's order; how they are computed (Rounds), and what the call mark says.
pub mod VariableSets
pub mod Equations
pub mod Transfers
pub mod Marks
pub mod Rounds
pub mod MarkBytes
pub mod Partners
pub mod Calls
pub mod Inner
