pub mod Places
pub mod Where
