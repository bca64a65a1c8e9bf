pub mod Indexed
pub mod Clear
pub mod FirstWith
pub mod Steps
pub mod Meetings
