-- Laws of what the functions of this crate put, for those that put more than one thing.
pub mod Putting
pub mod Pages
