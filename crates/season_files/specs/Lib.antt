pub mod Records
pub mod Fields
pub mod Texts
pub mod Seasons
pub mod CsvWriting
pub mod Laws
