pub mod Watches
pub mod Notes
pub mod FeedReplies
pub mod HistoryNotes
pub mod WatchBoards
