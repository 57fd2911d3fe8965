pub mod Common
pub mod Answered
mod ConcludedReads
mod Driven
mod RunAnswers
mod ShrunkTraces
mod TestAnswers
mod ViewedTraces
mod OnTraces
