pub mod StandsFor
pub mod InstrEffects
pub mod Codes
pub mod Moves
pub mod Flat
pub mod Instructions
pub mod Steps
pub mod Views
