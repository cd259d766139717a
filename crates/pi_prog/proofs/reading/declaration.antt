pub mod DeclarationLemmas
pub mod ImportLemmas
pub mod ModesLemmas
