pub mod Calendar
pub mod PlanDays
