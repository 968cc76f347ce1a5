pub mod Ring
pub mod Signs
pub mod Members
pub mod Counts
pub mod Parity
pub mod Worked
