mod CalledLemmas
pub mod CellLemmas
pub mod HeadLemmas
pub mod KeyedLemmas
pub mod LeaveLemmas
pub mod ModeLemmas
mod NameTests
pub mod RootLemmas
pub mod TryingLemmas
