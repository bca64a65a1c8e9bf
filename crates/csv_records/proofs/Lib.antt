pub mod Found
pub mod TableWalk
