-- Laws that the proofs of this crate share.
pub mod Pairs
pub mod Places
pub mod Layouts
pub mod FewRows
pub mod RowEntries
pub mod RowValues
pub mod UndercutLoops
