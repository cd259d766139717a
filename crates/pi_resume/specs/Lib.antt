pub mod Token
pub mod Following
pub mod Guided
pub mod Scanned
