pub mod Common
pub mod DecidersOfPlaces
pub mod SourceStatementLists
pub mod OneStatement
pub mod NamedValues
