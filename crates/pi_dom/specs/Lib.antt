pub use Rattle.pi_constraints.specs.Domain
