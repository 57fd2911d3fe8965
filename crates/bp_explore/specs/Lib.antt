pub mod Explorations
pub mod Searches
pub mod ThroughExplorations
pub mod States
