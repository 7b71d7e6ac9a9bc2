-- What the functions of this crate ask and promise, in the model's terms.
pub mod Backable
pub mod Turns
pub mod Scanned
