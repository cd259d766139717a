pub mod DefinitionLemmas
