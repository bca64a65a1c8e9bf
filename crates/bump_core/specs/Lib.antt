pub mod Ranks
pub mod Settle
pub mod Bumped
pub mod Near
pub mod Lists
pub mod Settled
pub mod Kept
pub mod Records
