pub mod CompilablePrograms
pub mod CompiledCode
pub mod Environments
pub mod KnownNames
pub mod WellFormedTexts
pub mod Listing
pub mod Refusals
pub mod Sets
