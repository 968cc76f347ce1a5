pub mod Polynomial
pub mod Members
pub mod Parity
