pub mod RowLists
pub mod Frames
pub mod Back
pub mod DigitsBack
pub mod Unframed
pub mod Only
