-- Theorems about the model: what document 01's rules lead to. Nothing here has to be believed. The theorems stand in Guarantee; all else
-- leads up to them, here and in specs/.

-- Row values of sound machines
pub mod RowsFit
-- The run ends
pub mod Ended
pub mod Budgets
-- That what the audit accepts is close, and what a finished run leaves exact
pub mod Closeness
pub mod Finished
-- Table files and buffers
pub mod Fronts
-- The theorems, and that they speak of something
pub mod Guarantee
pub mod Instances
pub mod RoundInstances
pub mod ShiftInstances
