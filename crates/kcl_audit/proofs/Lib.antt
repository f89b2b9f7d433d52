mod Completing
mod Ends
pub mod Fits
pub mod LegalTexts
mod Outcomes
mod Safely
pub mod SoundTexts
pub mod Stages
mod Telling
