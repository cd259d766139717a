pub mod LossLemmas
pub mod WakeLemmas
pub mod EventLemmas
