pub mod Writers
pub mod Crosses
