pub mod Sheets
pub mod Screens
pub mod Logs
pub mod Rules
pub mod Appenders
pub mod Pages
pub mod Ends
pub mod Looks
