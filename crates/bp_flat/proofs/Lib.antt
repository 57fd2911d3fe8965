pub mod Common
mod WordBits
pub mod SlotsOfNames
pub mod ProceduresOfPlaces
pub mod StandsForStepsAlike
pub mod CodesCross
