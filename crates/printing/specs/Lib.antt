-- What the contracts of `printing` cite.
pub mod Texts
pub mod Told
pub mod Entries
pub mod Refusals
