pub mod Sorted
pub mod Ordered
pub mod OfDay
pub mod Clashes
pub mod Written
