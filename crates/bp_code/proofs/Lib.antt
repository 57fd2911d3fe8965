pub mod Common
mod BlockItems
mod CompiledStandsFor
pub mod WellFormedIsCompilable
mod SlotsAreVariables
mod ListingLines
pub mod ErrorsOfParts
pub mod RepeatedNames
pub mod OneRefusal
