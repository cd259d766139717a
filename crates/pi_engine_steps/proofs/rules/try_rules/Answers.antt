use Rattle.std.proofs.Common.{◌≡◌, ◌+◌, ◌∙◌, [], ap, sym, subst, refl, arith, Some}
use Rattle.std.specs.Prelude.{slice_get, option_copied}
use Rattle.std.proofs.lemmas.Result.{IfOk-weaker}
use Rattle.pi_engine_arenas.specs.declared.run.Now.{Now}
use Rattle.pi_engine_arenas.specs.Arenas.{view_of}
use Rattle.pi_meaning.specs.Machine.Step.{try_rules, back_to}
use Rattle.pi_engine_stands.specs.Stands.{World, world, Stands}
use Rattle.pi_engine_stands.specs.Tries.{MatchesHead}
use Rattle.pi_engine_stands.proofs.RulesTaken.{entry-gone, entry-none}
use Rattle.pi_engine_stands.proofs.GuardsTaken.{none-found}
use Rattle.pi_engine_stands.proofs.RulesTried.{Trying, IsFound, found-there, trying-found, trying-passes, trying-applies, trying-ends}
use Rattle.pi_engine_steps.proofs.rules.try_rules.Goals.{in-Some+in_ok-matches+else-branch, in_default, then-is_again, else-is_again}
use Rattle.pi_engine_steps.proofs.rules.try_rules.Goals as goal
use Rattle.pi_engine_stands.specs.Changes.{change}

pub loop-number-init : goal.loop-number-init
loop-number-init g c = λ l is_code has called cs s k es is args same. record { rest = cs; is = is; args = args; now = same; same = refl }

pub returns-then-branch : goal.returns-then-branch
returns-then-branch g c = IfOk-weaker c.apply.result _ _ (λ _ so l is_code has called cs s k es is args same.
    let seen = g.S.StateStore.seen in
    let order = g.S.StateStore.order in
    let call = c.args.call.now in
    let number = c.loop-number.number in
    let again = c.args.is_again in
    let predicate = c.args.predicate.now in
    let rule = c.in-Some.rule.now in
    let run = c.loop-number.run in
    let after = c.matches.new.run in
    let end = c.apply.new.run in
    let w : World _ = world l (seen run.store) order (view_of run.arenas) in
    let found : slice_get l.code.rules.items number ≡ Some rule = ap (λ r. slice_get r.rules.items number) is_code ∙ sym c.rule.ensures ∙ ap option_copied c.in-Some.is in
    let r = trying-applies w (seen after.store) (view_of after.arenas) call.predicate call.base call.frame number called s k es again (try_rules called cs (back_to [] s k) es) predicate rule
    (c.loop-number.invariant l is_code has called cs s k es is args same)
    (found-there w call.predicate predicate (ap (λ p. slice_get p.predicates.items call.predicate) is_code ∙ has)) c.loop-number-test.true found
    (subst (λ found. MatchesHead call number predicate.arity rule found (change w (world l (seen after.store) order (view_of after.arenas)) Now.Failing)) c.if-branch.true (c.in_ok-matches.ensures l is_code)) in
    subst (Stands (world l (seen end.store) order (view_of end.arenas)) end.now) (sym r.0.same)
    (so l called r.0.clause r.0.behind s k es r.0.slots r.0.applies r.1)) c.apply.ensures

pub loop-number-preserved : goal.loop-number-preserved
loop-number-preserved g c = λ l is_code has called cs s k es is args same.
    let seen = g.S.StateStore.seen in
    let order = g.S.StateStore.order in
    let call = c.args.call.now in
    let number = c.loop-number.number in
    let again = c.args.is_again in
    let predicate = c.args.predicate.now in
    let run = c.loop-number.run in
    let w : World _ = world l (seen run.store) order (view_of run.arenas) in
    let trying = c.loop-number.invariant l is_code has called cs s k es is args same in
    let known : IsFound w call.predicate predicate = found-there w call.predicate predicate (ap (λ p. slice_get p.predicates.items call.predicate) is_code ∙ has) in
    elim c.match-rule.branch [
      | in-Some+in_ok-matches+else-branch x ↦ (let rule = x.in-Some.rule.now in
          let after = x.matches.new.run in
          let found : slice_get l.code.rules.items number ≡ Some rule = ap (λ r. slice_get r.rules.items number) is_code ∙ sym c.rule.ensures ∙ ap option_copied x.in-Some.is in
          subst (λ r. Trying (world l (seen r.store) order (view_of r.arenas)) call.predicate call.base call.frame (number + 1) called s k es again (try_rules called cs (back_to [] s k) es)) (sym x.run-is)
          (trying-passes w (seen after.store) (view_of after.arenas) call.predicate call.base call.frame number called s k es again (try_rules called cs (back_to [] s k) es) predicate rule trying known c.loop-number-test.true found
          (subst (λ found. MatchesHead call number predicate.arity rule found (change w (world l (seen after.store) order (view_of after.arenas)) Now.Failing)) x.if-branch.false (x.in_ok-matches.ensures l is_code))))
      | in_default x ↦ (let rule = trying-found w call.predicate call.base call.frame number called s k es again (try_rules called cs (back_to [] s k) es) predicate trying known c.loop-number-test.true in
          none-found (option_copied c.rule.result) rule.0 (ap option_copied x.in_default.is) (c.rule.ensures ∙ ap (λ r. slice_get r.rules.items number) (sym is_code) ∙ rule.1))
    ]

pub returns : goal.returns
returns g c = λ l is_code has called cs s k es is args same.
    let seen = g.S.StateStore.seen in
    let order = g.S.StateStore.order in
    let call = c.args.call.now in
    let number = c.loop-number.number in
    let again = c.args.is_again in
    let predicate = c.args.predicate.now in
    let run = c.loop-number.run in
    let w : World _ = world l (seen run.store) order (view_of run.arenas) in
    let whole = try_rules called cs (back_to [] s k) es in
    let trying = c.loop-number.invariant l is_code has called cs s k es is args same in
    let known : IsFound w call.predicate predicate = found-there w call.predicate predicate (ap (λ p. slice_get p.predicates.items call.predicate) is_code ∙ has) in
    elim c.if-is_again.branch [
      | then-is_again x ↦
          subst (λ r. Stands (world l (seen r.store) order (view_of r.arenas)) Now.Failing whole) (sym x.run-is)
          (trying-ends w (view_of x.pop.new.self) call.predicate call.base call.frame number called s k es again whole predicate trying known (omega (arith, c.loop-number-test.false))
          (entry-gone w (view_of x.pop.new.self) call.predicate call.base call.frame number called trying.rest s k es again trying.is x.if-is_again.true
          (record { entries = x.pop.ensures.entries; kept = x.pop.ensures.kept; slots = x.pop.ensures.slots; keeps = x.pop.ensures.keeps; frames = x.pop.ensures.frames; level = x.pop.ensures.level; collected = x.pop.ensures.collected })))
      | else-is_again x ↦
          subst (λ r. Stands (world l (seen r.store) order (view_of r.arenas)) Now.Failing whole) (sym x.run-is)
          (trying-ends w (view_of run.arenas) call.predicate call.base call.frame number called s k es again whole predicate trying known (omega (arith, c.loop-number-test.false))
          (entry-none w call.predicate call.base call.frame number called trying.rest s k es again trying.is x.if-is_again.false))
    ]
