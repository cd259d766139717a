-- What was found is counted no more.
use Rattle.pi_prop_made.proofs.TermLemmas.{taken_kept, taken_sets}
use Rattle.pi_prop_made.proofs.terms.Terms.remove.Goals as goal

pub invariant_of-self : goal.invariant_of-self
invariant_of-self c =
    taken_kept c.self.inside.negated c.args.variable c.self.inside.entries.entries c.remove-kept.new.self.entries c.self.inside.limits c.without-self-inside.result c.remove-kept.result c.self.invariant c.remove-kept.ensures.entries
    c.remove-kept.ensures.value c.without-self-inside.ensures

pub returns : goal.returns
returns c =
    taken_sets c.self.inside.negated c.args.variable c.self.inside.entries.entries c.remove-kept.new.self.entries c.self.inside.limits c.without-self-inside.result c.args.self.now c.self.invariant (invariant_of-self c) c.self.view_is
    c.remove-kept.ensures.updates.0
