-- Nothing here must be believed: what `write` answers is said beside the table (crates/table/specs/Calls.antt).
pub mod Inner
