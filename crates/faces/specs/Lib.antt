pub mod Heights
pub mod Below
pub mod Components
pub mod Theorems
pub mod Example
