-- Laws on plain values that the answers cite.
pub mod Highs
pub mod Picking
pub mod Stops
pub mod Promised
