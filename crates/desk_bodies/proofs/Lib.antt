pub mod Facts
pub mod Keys
pub mod Names
