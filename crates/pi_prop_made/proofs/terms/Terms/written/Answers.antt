-- One more term is written, and what is left is what was left behind it.
use Rattle.std.specs.Prelude.{◌≡◌, true, false}
use Rattle.std.proofs.Common.{rules, ◌∙◌, ap, sym}
use Rattle.pi_effects.specs.Range.{has_128_bits}
use Rattle.pi_prop_made.specs.Kept.{terms_of, counted}
use Rattle.pi_prop_made.proofs.AddLemmas.{first_fits}
use Rattle.pi_prop_made.proofs.WrittenLemmas.{written_next, all_written}
use Rattle.pi_prop_made.proofs.terms.Terms.written.Goals as goal

pub loop-variable-preserved-in-Continue-1 : goal.loop-variable-preserved-in-Continue-1
loop-variable-preserved-in-Continue-1 c =
    let a = c.in_ok-push.ensures.ok in (
      written_next c.self.inside.negated c.loop-variable.written c.push.new.self (terms_of c.self.inside.negated c.self.inside.entries.entries) c.loop-variable.variable-iterator c.next.new.self c.in-Some.variable.now
          c.in-Some.coefficient.now c.in-Some-number.number c.loop-variable.invariant.0 c.in-Some.ensures.steps (c.in-Some-number.ensures ∙ c.turned.ensures) (search rules),
      (first_fits c.self.inside.negated c.loop-variable.variable-iterator c.next.new.self c.in-Some.variable.now c.in-Some.coefficient.now c.in-Some.ensures.steps c.loop-variable.invariant.1).1,
    )

pub loop-variable-preserved : goal.loop-variable-preserved
loop-variable-preserved c =
    let fits : has_128_bits (counted c.self.inside.negated c.in-Some.coefficient.now) ≡ true =
    (first_fits c.self.inside.negated c.loop-variable.variable-iterator c.next.new.self c.in-Some.variable.now c.in-Some.coefficient.now c.in-Some.ensures.steps c.loop-variable.invariant.1).0 in
    let not : has_128_bits (counted c.self.inside.negated c.in-Some.coefficient.now) ≡ false = ap has_128_bits (sym c.turned.ensures) ∙ c.in_default.ensures in
    absurd (let both : true ≡ false = sym fits ∙ not in cc)

pub returns : goal.returns
returns c = all_written c.self.inside.negated c.loop-variable.written (terms_of c.self.inside.negated c.self.inside.entries.entries) c.loop-variable.variable-iterator c.loop-variable.invariant.0 c.in-None.ensures.steps.0 ∙ c.self.view_is
