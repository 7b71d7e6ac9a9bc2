-- Laws that the proofs of `printing` cite.
pub mod Digits
pub mod Listing
pub mod Sheeting
pub mod Entries
pub mod Lengths
