use Rattle.std.proofs.Common.{rules, refl, inl, inr}
use Rattle.std.proofs.lemmas.Bool.{false≢true}
use Rattle.pi_prop_places.proofs.AskLemmas.{shared_first, shared_next, shared_turned, shared_over, shared_here}
use Rattle.pi_prop_places.proofs.WideLemmas.{lt_told, not_lt_told}
use Rattle.pi_prop_places.proofs.asks.spans_share.Goals as goal

pub loop-i-init : goal.loop-i-init
loop-i-init c = shared_first c.args.d.now c.args.e.now

pub loop-i-preserved-then-d-i : goal.loop-i-preserved-then-d-i
loop-i-preserved-then-d-i c =
    shared_next c.args.d.now c.args.e.now c.loop-i.i c.loop-i.j _ c.requires.second c.loop-i-test.true c.if-j-e.true (lt_told _ _ (search rules) (search rules) c.if-d-i.true) c.loop-i.invariant

pub loop-i-preserved : goal.loop-i-preserved
loop-i-preserved c =
    shared_turned c.args.e.now c.args.d.now _ _
    (shared_next c.args.e.now c.args.d.now c.loop-i.j c.loop-i.i _ c.requires.first c.if-j-e.true c.loop-i-test.true (lt_told _ _ (search rules) (search rules) c.if-e-j.true) (shared_turned c.args.d.now c.args.e.now _ _ c.loop-i.invariant))

pub returns-else-e-j : goal.returns-else-e-j
returns-else-e-j c = (
  λ t. shared_here c.args.d.now c.args.e.now c.loop-i.i c.loop-i.j _ c.requires.first c.requires.second c.loop-i-test.true c.if-j-e.true
      (not_lt_told _ _ (search rules) (search rules) c.if-d-i.false) (not_lt_told _ _ (search rules) (search rules) c.if-e-j.false),
  λ h. refl,
)

pub returns-else-j-e : goal.returns-else-j-e
returns-else-j-e c = (λ t. absurd (false≢true t), λ h. absurd (shared_over c.args.d.now c.args.e.now c.loop-i.i c.loop-i.j (inr c.if-j-e.false) c.loop-i.invariant h))

pub returns-after-loop-i : goal.returns-after-loop-i
returns-after-loop-i c = (λ t. absurd (false≢true t), λ h. absurd (shared_over c.args.d.now c.args.e.now c.loop-i.i c.loop-i.j (inl c.loop-i-test.false) c.loop-i.invariant h))
