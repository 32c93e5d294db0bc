-- What the functions below `balance` are handed and answer. No contract of another function of src/lib.rt cites it.
pub mod Summing
