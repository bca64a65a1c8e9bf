pub mod OfDay
pub mod Steps
pub mod Bumped
pub mod Opened
