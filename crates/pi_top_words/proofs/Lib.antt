pub mod AskedWords
pub mod Parsing
mod WordExamples
