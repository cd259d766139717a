use Rattle.std.proofs.Common.{◌≡◌, [], false, true}
use Rattle.pi_plan.proofs.SearchLemmas.{skipping_more, takes_at_last, dry_at_last, no_keys}
use Rattle.pi_plan.proofs.search.Search.pop.Goals as goal

pub returns-then-take-clause-pops : goal.returns-then-take-clause-pops
returns-then-take-clause-pops c =
    takes_at_last c.args.self.now c.loop-due.self c.pop_first.new.self c.take.new.self c.in-Some.due c.loop-due.invariant c.in-Some.ensures.removal c.in-Some.ensures.all_above c.if-take.ensures.takes

pub loop-due-preserved : goal.loop-due-preserved
loop-due-preserved c =
    skipping_more c.args.self.now c.loop-due.self c.pop_first.new.self c.take.new.self c.in-Some.due c.loop-due.invariant c.in-Some.ensures.removal c.in-Some.ensures.all_above c.take.ensures.keeps c.if-take.ensures.takes

pub returns-clause-pops : goal.returns-clause-pops
returns-clause-pops c =
    let none : c.loop-due.self.frontier.keys ≡ [] = no_keys c.loop-due.self.frontier.keys
    (λ more. let no : false ≡ true = c.in_default.ensures.variant.1 more in absurd (cc)) in
    dry_at_last c.args.self.now c.loop-due.self c.pop_first.new.self c.loop-due.invariant none c.in_default.ensures.unchanged
