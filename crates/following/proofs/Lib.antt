-- Laws on plain values that the answers cite.
pub mod Moves
pub mod Reports
