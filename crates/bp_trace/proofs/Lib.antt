pub mod Common
pub mod HeadsRead
mod EndLineAt
mod OneText
mod PiecesAreFewest
pub mod ScheduleLines
mod OneRefusal
mod LongestAccepted
pub mod PlayableFronts
mod OneScheduleRefusal
pub mod Walks
pub mod TraceLength
mod ReplayedTexts
