-- What leads up to the theorems about the model: what document 01's rules lead to. Nothing here has to be believed. The theorems stand in
-- proofs/, in Guarantee.

-- Searches, sums, tables, loops, finds, and what answers carry
pub mod Searches
pub mod Sums
pub mod Tables
pub mod Loops
pub mod Found
pub mod Finds
pub mod Carries
-- The file: what its questions give, row values, rates, totals
pub mod Values
pub mod Undercuts
pub mod Rates
pub mod WellFormed
pub mod Totals
pub mod Parts
pub mod Numbers
-- The walk, over any graph and over a problem
pub mod Graphs
pub mod Walks
pub mod Leasts
-- One state's rows: the traversal, the choice, the scan
pub mod Rows
pub mod Traversals
pub mod Choosing
pub mod Scans
pub mod Bellman
-- Backups, rounds and runs
pub mod Sound
pub mod Backups
pub mod Evaluations
pub mod Underway
pub mod Rests
-- The run ends
pub mod Potential
pub mod Ending
pub mod Allowances
-- The audit, and that what it accepts is close
pub mod Accepted
pub mod Arithmetic
pub mod Slacks
pub mod Excess
pub mod Agreeing
pub mod Retuned
pub mod Hollow
-- What a solved run leaves, and what is left of lent tables
pub mod Solved
pub mod Solutions
pub mod Listings
pub mod Beyond
pub mod Lent
-- Following a plan (E2)
pub mod Occurs
pub mod Follows
pub mod Shifts
-- Table files and buffers
pub mod ReadsBack
pub mod Prefixes
-- Set forms (E6)
pub mod Chances
pub mod Sames
pub mod Standing
pub mod Encodings
pub mod Passing
pub mod Forms
-- Longer cores (E9)
pub mod Longer
