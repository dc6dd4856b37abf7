mod LevelWords
pub mod WordsInverse
