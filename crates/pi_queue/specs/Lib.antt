pub mod Changes
pub mod Ends
pub mod Filtering
pub mod Leaving
pub mod Reading
pub mod Standing
pub mod Turn
pub mod Waiting
