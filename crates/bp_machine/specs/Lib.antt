pub mod Histories
pub mod Runs
pub mod Sessions
pub mod Transitions
pub mod Laws
pub mod SessionCodes
pub mod Setups
