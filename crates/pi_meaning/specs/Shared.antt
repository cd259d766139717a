-- What both meanings are made of: views, levels, effects, exceptions, settling and draining; calls by name.
pub mod Builtin
pub mod Calls
pub mod Drain
pub mod Effects
pub mod Follows
pub mod Given
pub mod Handling
pub mod Level
pub mod Names
pub mod Raise
pub mod Settle
pub mod Solve
pub mod Told
pub mod View
pub mod Within
