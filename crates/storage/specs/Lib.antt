pub mod Rows
pub mod Gaps
pub mod Entries
pub mod Layout
pub mod Bytes
pub mod Shift
pub mod Layouts
