pub mod Tests
pub mod Tallies
pub mod Reach
pub mod Shrinks
