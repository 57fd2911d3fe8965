pub mod Statuses
pub mod Tasks
pub mod CommandArguments
pub mod Commands
pub mod Values
pub mod Misuses
pub mod NoTasks
