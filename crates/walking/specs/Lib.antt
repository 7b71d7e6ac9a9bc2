-- What the functions of this crate ask and promise, in the model's terms, and laws for their callers.
pub mod Walkable
pub mod Trails
pub mod Parts
pub mod PickedParts
pub mod Led
pub mod Costs
pub mod Walked
pub mod Entered
