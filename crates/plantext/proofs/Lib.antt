pub mod Naturals
pub mod Parts
pub mod Fields
pub mod Filling
