-- Laws that the proofs of `plan` cite.
pub mod Reading
