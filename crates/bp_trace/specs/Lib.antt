pub mod Replays
pub mod Readings
pub mod Drives
pub mod TraceText
pub mod Judgements
pub mod Laws
pub mod HeadFormat
