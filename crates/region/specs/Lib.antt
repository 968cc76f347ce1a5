pub mod Plans
pub mod Check
pub mod Verdict
pub mod Lines
