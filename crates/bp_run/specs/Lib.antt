pub mod Runs
pub mod Errors
pub mod Options
pub mod Works
pub mod Turns
pub mod Desks
pub mod Gatherings
