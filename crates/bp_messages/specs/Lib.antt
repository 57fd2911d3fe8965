pub mod Summaries
pub mod ErrorObjects
pub mod ErrorTable
pub mod Notes
pub mod ProgressTexts
pub mod ReplayLines
pub mod SummaryObjects
