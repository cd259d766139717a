pub mod Callables
pub mod Code
pub mod Keyed
pub mod Keys
pub mod Laid
pub mod LaidRules
pub mod Numbers
pub mod Order
