-- What the functions of this crate ask and promise, in the model's terms.
pub mod Lent
pub mod Runs
pub mod Solvable
