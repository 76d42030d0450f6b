pub mod Cell
pub mod Settle
pub mod Plan
pub mod Parts
pub mod Roster
pub mod Submit
pub mod Close
pub mod Operator
