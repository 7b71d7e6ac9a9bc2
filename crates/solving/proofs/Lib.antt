-- Laws that the proofs of this crate cite.
pub mod Filling
pub mod Running
pub mod Answering
pub mod Promising
