pub mod Totals
pub mod Views
pub mod Rule
pub mod Plays
pub mod Turns
pub mod Board
