-- What the functions of this crate promise, in the model's terms, and the laws of it that other crates cite.
pub mod Bounds
pub mod Tests
pub mod Laid
pub mod Ready
pub mod Room
pub mod Begins
pub mod RowParts
pub mod Entries
pub mod Fields
pub mod Picks
