pub use Rattle.pi_constraints.specs.Constraint
pub use Rattle.pi_prop_spec.specs.Places
pub use Rattle.pi_prop_spec.specs.Rules
pub use Rattle.pi_prop_spec.specs.Filter
pub use Rattle.pi_prop_places.specs.Changes
pub use Rattle.pi_prop_filters.specs.Left
