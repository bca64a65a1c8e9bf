pub mod Chains
pub mod Documents
pub mod Meanings
pub mod Memories
pub mod NumberWalk
pub mod RowWalk
pub mod TypePlaces
