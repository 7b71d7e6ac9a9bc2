-- Laws that the proofs of this crate share.
pub mod Searching
pub mod Indexing
pub mod Asking
pub mod Looking
