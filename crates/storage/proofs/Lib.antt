pub mod RowLists
pub mod RowBytes
pub mod Blocks
pub mod Placed
pub mod Shift
pub mod Comparing
