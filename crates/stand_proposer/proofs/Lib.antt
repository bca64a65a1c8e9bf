pub mod OneMore
pub mod Puts
pub mod Waiting
pub mod Made
pub mod Decided
