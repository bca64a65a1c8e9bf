pub mod Days
pub mod Meant
pub mod Happenings
pub mod OneVisit
