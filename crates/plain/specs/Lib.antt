-- What the plain engine's call answers (Carries) is all that must be believed: the demands hold it against the tangent table's run. How it is worked
-- out (Plain), and what the call answers, as it is computed (Calls), stand apart.
pub mod Carries
pub mod Plain
pub mod Calls
pub mod Inner
