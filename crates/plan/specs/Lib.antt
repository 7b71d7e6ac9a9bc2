-- What the contracts of `plan` cite.
pub mod Names
