pub mod Desks
pub mod Limits
pub mod Taking
