-- Laws that the proofs of `programs` cite.
pub mod Remaining
pub mod Planning
