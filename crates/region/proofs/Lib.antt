pub mod Firsts
pub mod Meetings
pub mod Passes
pub mod Verdicts
pub mod Linings
