-- None is at the limit that the sign in front turns.
use Rattle.std.specs.Prelude.{Bool, true, false}
use Rattle.std.proofs.Common.{sym, ◌∙◌, ap}
use Rattle.pi_prop_made.specs.Kept.{terms_of}
use Rattle.pi_prop_made.proofs.FitLemmas.{fit_by}
use Rattle.pi_prop_made.proofs.terms.Terms.fit.Goals as goal

pub returns-then-self-clause-fit : goal.returns-then-self-clause-fit
returns-then-self-clause-fit c = fit_by true c.self.inside.entries.entries c.self.inside.limits.plain c.args.self.now (ap (λ (f : Bool). terms_of f c.self.inside.entries.entries) (sym c.if-self.true) ∙ c.self.view_is) c.self.invariant.plain

pub returns-else-self-clause-fit : goal.returns-else-self-clause-fit
returns-else-self-clause-fit c = fit_by false c.self.inside.entries.entries c.self.inside.limits.negated c.args.self.now (ap (λ (f : Bool). terms_of f c.self.inside.entries.entries) (sym c.if-self.false) ∙ c.self.view_is) c.self.invariant.turned
