-- That all cases hold is computed here; the cases stand in specs/.
pub mod Computed
