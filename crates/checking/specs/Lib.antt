-- What the functions of this crate promise, in the model's terms.
pub mod ItemTests
pub mod IndexLeft
pub mod Stretches
