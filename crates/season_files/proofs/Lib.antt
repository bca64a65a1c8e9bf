pub mod Places
pub mod Plain
pub mod Times
pub mod TypeNames
pub mod Lines
pub mod Numbers
pub mod ReadBack
