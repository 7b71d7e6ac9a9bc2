-- What the functions of this crate ask and promise, in the model's terms.
pub mod Plans
pub mod StateTests
pub mod FileAudited
