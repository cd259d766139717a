-- One more term is joined, and what is left is what was left behind it.
use Rattle.std.proofs.Common.{◌∙◌, ap}
use Rattle.std.proofs.lemmas.Result.{err_from_is_err_and}
use Rattle.pi_prop_made.specs.Signed.{signed}
use Rattle.pi_prop_made.specs.Kept.{counted}
use Rattle.pi_prop_made.specs.Changes.{factor_of}
use Rattle.pi_prop_made.proofs.AddLemmas.{signed_times, next_so_far, refused_here, all_here}
use Rattle.pi_prop_made.proofs.terms.Terms.add_all.Goals as goal

pub loop-variable-preserved : goal.loop-variable-preserved
loop-variable-preserved c =
    next_so_far (factor_of c.args.negated) c.other.inside.negated c.args.self.now c.loop-variable.self c.join.new.self c.other.inside.entries.entries c.loop-variable.variable-iterator c.next.new.self c.in-Some.variable.now
    c.in-Some.coefficient.now (signed c.turned-more.result.negated c.turned-more.result.value) c.loop-variable.invariant c.in-Some.ensures.steps
    (c.turned-more.ensures ∙ (ap (signed c.args.negated) c.turned.ensures ∙ signed_times c.args.negated (counted c.other.inside.negated c.in-Some.coefficient.now))) c.in_ok-join.ensures

pub returns : goal.returns
returns c =
    all_here (factor_of c.args.negated) c.other.inside.negated c.args.self.now c.loop-variable.self c.args.other.now c.other.inside.entries.entries c.loop-variable.variable-iterator c.loop-variable.invariant c.in-None.ensures.steps.0
    c.other.view_is

pub returns-in_err-join : goal.returns-in_err-join
returns-in_err-join c =
    let p = err_from_is_err_and c.from_residual.result c.from_residual.ensures.1 in
    rw (p.1, p.2) (refused_here (factor_of c.args.negated) c.other.inside.negated c.args.self.now c.loop-variable.self c.join.new.self c.args.other.now c.other.inside.entries.entries c.loop-variable.variable-iterator c.next.new.self
    c.in-Some.variable.now c.in-Some.coefficient.now (signed c.turned-more.result.negated c.turned-more.result.value) c.in_err-join.field-0.0 c.loop-variable.invariant c.in-Some.ensures.steps
    (c.turned-more.ensures ∙ (ap (signed c.args.negated) c.turned.ensures ∙ signed_times c.args.negated (counted c.other.inside.negated c.in-Some.coefficient.now))) c.other.view_is c.in_err-join.ensures)
