-- What was found is counted no more, and what is put is counted.
use Rattle.std.specs.Prelude.{◌≡◌}
use Rattle.std.proofs.Common.{rules}
use Rattle.pi_prop_made.proofs.TermLemmas.{counted_new, put_kept, put_sets}
use Rattle.pi_prop_made.proofs.terms.Terms.put.Goals as goal

pub invariant_of-self-2 : goal.invariant_of-self-2
invariant_of-self-2 c =
    let same : c.new-coefficient.result.value ≡ c.args.coefficient = search rules in
    put_kept c.self.inside.negated c.args.variable c.new-coefficient.result c.self.inside.entries.entries c.insert.new.self.entries c.self.inside.limits c.in_ok-limits.limits c.without-self-inside.result c.in_ok-kept.kept
    c.self.invariant c.args.coefficient (counted_new c.self.inside.negated c.new-coefficient.result c.args.coefficient same c.new-coefficient.ensures.sign) c.requires c.in_ok-kept.ensures.entries c.in_ok-kept.ensures.old
    c.in_ok-limits.ensures c.without-self-inside.ensures

pub returns : goal.returns
returns c =
    let same : c.new-coefficient.result.value ≡ c.args.coefficient = search rules in
    put_sets c.self.inside.negated c.args.variable c.new-coefficient.result c.args.coefficient c.self.inside.entries.entries c.insert.new.self.entries c.self.inside.limits c.without-self-inside.result c.args.self.now c.self.invariant
    (invariant_of-self-2 c) c.self.view_is (counted_new c.self.inside.negated c.new-coefficient.result c.args.coefficient same c.new-coefficient.ensures.sign) c.in_ok-kept.ensures.updates.0
