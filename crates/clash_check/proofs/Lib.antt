pub mod Among
pub mod Counted
pub mod Everywhere
pub mod Looked
pub mod Meetings
pub mod Ordered
