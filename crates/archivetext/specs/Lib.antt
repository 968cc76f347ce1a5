pub mod Text
pub mod Pack
pub mod Packing
pub mod Round
pub mod Unpack
