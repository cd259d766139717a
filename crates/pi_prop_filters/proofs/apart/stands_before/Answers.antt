use Rattle.std.proofs.Common.{sym, refl, arith, ◌∙◌}
use Rattle.std.proofs.lemmas.Bool.{false≢true}
use Rattle.pi_prop_filters.proofs.ApartLemmas.{stands_none, stands_here, stands_more, stands_all}
use Rattle.pi_prop_filters.proofs.apart.stands_before.Goals as goal

pub loop-k-init : goal.loop-k-init
loop-k-init c = stands_none c.args.items.now c.args.variable

pub returns-then-is_variable : goal.returns-then-is_variable
returns-then-is_variable c = (λ t. stands_here c.args.items.now c.loop-k.k c.args.count c.args.variable c.loop-k-test.true c.requires (c.is_variable.ensures.0 c.if-is_variable.true), λ h. refl)

pub loop-k-preserved : goal.loop-k-preserved
loop-k-preserved c = stands_more c.args.items.now c.loop-k.k c.args.variable (omega (arith, c.loop-k-test.true, c.requires)) (λ e. false≢true (sym c.if-is_variable.false ∙ c.is_variable.ensures.1 e)) c.loop-k.invariant

pub returns : goal.returns
returns c = (λ t. absurd (false≢true t), λ h. absurd (stands_all c.args.items.now c.loop-k.k c.args.count c.args.variable c.loop-k-test.false c.loop-k.invariant h))
