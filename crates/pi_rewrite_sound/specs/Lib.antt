pub mod Built
pub mod FaultlessLaws
pub mod LaterLaws
pub mod Laws
pub mod Shown
pub mod TermCalls
pub mod Within
