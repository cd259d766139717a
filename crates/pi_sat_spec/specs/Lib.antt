pub mod Domains
pub mod Fixed
pub mod Laws
pub mod Literals
pub mod Logs
pub mod Places
pub mod Solutions
