-- Laws that the proofs of this crate cite.
pub mod Inserting
pub mod Shifting
pub mod RowLoops
pub mod RowsGathered
pub mod FormSections
pub mod Replies
