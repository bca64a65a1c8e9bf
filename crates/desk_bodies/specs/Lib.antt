pub mod Fields
pub mod Commits
pub mod CommitsShown
pub mod Visits
pub mod VisitsShown
pub mod Reports
pub mod ReportsShown
