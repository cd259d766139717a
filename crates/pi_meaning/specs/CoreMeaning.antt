-- The core meaning: what programs and goals over slots do, and their runs.
pub mod Builtins
pub mod Defined
pub mod Facts
pub mod Instances
pub mod Meaning
pub mod Laws
pub mod Quiet
pub mod Rules
pub mod Run
pub mod Sound
