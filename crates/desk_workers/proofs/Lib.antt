mod Any
mod AtRisk
mod Asking
pub mod Crosses
mod Faults
mod Feeding
mod Lone
mod Plain
pub mod Together
pub mod Working
