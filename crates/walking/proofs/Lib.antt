-- Laws on plain values that the answers cite.
pub mod Visits
pub mod Starts
pub mod Costing
