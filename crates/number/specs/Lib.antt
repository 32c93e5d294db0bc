-- What must be believed of the two arithmetics (01, "The two arithmetics"), in 01's order.
pub mod Arithmetic
pub mod Doubles
pub mod Residues
pub mod Answers
pub mod Sizes
