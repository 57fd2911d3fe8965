pub mod Common
pub mod Givings
mod DisplayedTexts
pub mod LinesOfTexts
pub mod PartsOfTexts
pub mod NumbersInTurn
pub mod OneWay
pub mod SpansInTurn
pub mod Readings
pub mod WholeTexts
pub mod Breaks
