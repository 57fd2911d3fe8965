pub mod Common
pub mod AllKinds
pub mod PlainTexts
