pub mod Spellings
pub mod SpelledRecords
pub mod SpelledPlaces
pub mod OneSpelling
