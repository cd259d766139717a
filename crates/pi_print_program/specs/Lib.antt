pub mod Patterns
pub mod Reread
pub mod Signs
pub mod Texts
pub mod CanonicalExp
pub mod Canonical
pub mod Words
pub mod Branches
