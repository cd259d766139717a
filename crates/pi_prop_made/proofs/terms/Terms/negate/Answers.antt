-- The sign in front is turned, and all else stays.
use Rattle.pi_prop_made.proofs.AddLemmas.{kept_turned, scales_turned}
use Rattle.pi_prop_made.proofs.terms.Terms.negate.Goals as goal

pub invariant_of-self : goal.invariant_of-self
invariant_of-self c = kept_turned c.self.inside.negated c.self.inside.entries.entries c.self.inside.limits c.self.invariant

pub returns : goal.returns
returns c = scales_turned c.self.inside.negated c.self.inside.entries.entries c.self.inside.limits c.args.self.now c.self.invariant c.self.view_is
