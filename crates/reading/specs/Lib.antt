pub mod Reading
pub mod Counting
pub mod Theorems
pub mod Example
