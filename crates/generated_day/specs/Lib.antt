pub mod Draws
pub mod DayAirport
pub mod Asked
pub mod Days
pub mod Makings
pub mod Summaries
