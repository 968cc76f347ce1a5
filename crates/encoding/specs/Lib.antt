pub mod Dates
pub mod Format
pub mod Faults
pub mod Read
pub mod Inverse
