pub mod Classes
pub mod Places
pub mod Numbers
pub mod Records
pub mod Joins
pub mod Turns
pub mod Meaning
pub mod Only
