pub mod Fronts
pub mod Shown
pub mod Cells
pub mod Adding
pub mod Keeping
pub mod Listing
pub mod Crosses
