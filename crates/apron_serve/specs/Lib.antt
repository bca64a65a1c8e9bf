pub mod Orders
pub mod OrdersShown
pub mod Board
pub mod Noted
pub mod Serve
pub mod Complete
