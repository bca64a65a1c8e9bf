mod Boards
mod Kept
mod Lasting
mod Screens
mod Together
