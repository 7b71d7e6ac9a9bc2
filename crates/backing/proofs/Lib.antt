-- Laws that the proofs of this crate cite.
pub mod Scanning
pub mod Rescanning
pub mod BackingUp
