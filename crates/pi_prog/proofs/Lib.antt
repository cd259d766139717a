pub mod EndLemmas
pub mod ExpressionLemmas
pub mod OneReadingLemmas
pub mod PartLemmas
pub mod PreludeLemmas
pub mod ProgramLemmas
pub mod TokenLemmas
