pub mod Writing
pub mod Fields
pub mod Decoding
