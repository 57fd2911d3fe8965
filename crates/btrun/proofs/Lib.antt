pub mod Common
mod NoHelpEntered
mod GivenArguments
mod ArgumentErrors
mod OneCommand
