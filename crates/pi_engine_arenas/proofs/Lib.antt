pub mod BlocksLemmas
pub mod FramesLemmas
