pub mod Apart
pub mod Dates
pub mod Flights
pub mod Heads
pub mod Lines
pub mod Numbered
pub mod PlainTexts
pub mod Versions
