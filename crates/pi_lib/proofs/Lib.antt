pub mod MergeLemmas
pub mod OnceLemmas
pub mod LoopLemmas
pub mod PlacedLemmas
pub mod ExtremeLemmas
mod StoreLemmas
mod PairLemmas
mod RangeLemmas
mod StopLemmas
mod SizeLemmas
mod MadeLists
mod GridLemmas
mod CopyLemmas
mod PieceLemmas
mod WalkLemmas
mod TextLemmas
mod FormatLemmas
mod FillLemmas
mod TextLists
mod FunctionCalls
mod FunctionBodies
mod PredicateBodies
pub mod RunLemmas
