-- What must be believed of a run (Runs), and what it answers and leaves in every lent buffer, as it is computed (Calls).
pub mod Runs
pub mod Calls
pub mod Inner
