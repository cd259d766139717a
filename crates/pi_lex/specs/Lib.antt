pub mod Forms
pub mod Items
pub mod Kinds
pub mod Spans
pub mod Store
