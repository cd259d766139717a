pub use Rattle.pi_effects.specs.Value
pub use Rattle.pi_effects.specs.Bits
pub use Rattle.pi_effects.specs.Power
pub use Rattle.pi_effects.specs.Quotients
pub use Rattle.pi_effects.specs.Range
