-- What must be believed of the row machine (01, "The adjoint table"); and a table's rows in the large.
pub mod Actions
pub mod Machine
pub mod RowReads
pub mod InTheLarge
pub mod Inner
