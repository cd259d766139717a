-- What is found is the coefficient.
use Rattle.std.specs.Prelude.{Bool, Some, None}
use Rattle.std.proofs.Common.{◌∙◌, ap}
use Rattle.pi_prop_made.specs.Signed.{signed}
use Rattle.pi_prop_made.proofs.TermLemmas.{is_coefficient}
use Rattle.pi_prop_made.proofs.terms.Terms.coefficient.Goals as goal

pub returns-in-Some : goal.returns-in-Some
returns-in-Some c = c.turned.ensures
    ∙ is_coefficient c.self.inside.negated c.args.variable c.self.inside.entries.entries c.self.inside.limits c.args.self.now (Some c.in-Some.kept.now) c.self.invariant c.self.view_is c.in-Some.ensures.value

pub returns-in-None : goal.returns-in-None
returns-in-None c = ap (λ (b : Bool). signed b c.new.result.value) c.new.ensures.sign
    ∙ (c.new.ensures.value ∙ is_coefficient c.self.inside.negated c.args.variable c.self.inside.entries.entries c.self.inside.limits c.args.self.now None c.self.invariant c.self.view_is c.in-None.ensures.value)
