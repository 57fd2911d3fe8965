pub mod Names
pub mod Listings
pub mod SourceStatements
pub mod StatementLines
pub mod ErrorFormats
pub mod RunOptions
pub mod NamedBits
