use Rattle.std.proofs.Common.{◌≡◌, ◌+◌, ◌≤◌, ◌∷◌, length, take, drop, sym, ◌∙◌, subst, refl, arith, None}
use Rattle.std.specs.Prelude.{replicate}
use Rattle.std.proofs.lemmas.Result.{IfOk-weaker}
use Rattle.pi_core.specs.CoreTree.{pattern_trees}
use Rattle.pi_constraints.specs.HeadMatch.{matched_all_in}
use Rattle.pi_constraints.specs.State.{bindings}
use Rattle.pi_engine_arenas.specs.Arenas.{view_of}
use Rattle.pi_engine_stands.specs.Here.{Block}
use Rattle.pi_engine_stands.specs.Stands.{World, world, NoneIsDeep, IsRuleOf, clause_block, tables_in}
use Rattle.pi_engine_stands.specs.Tries.{KeepsFront, FillsHead, FillsSlots, RuleSlots}
use Rattle.pi_engine_stands.proofs.HeadsTried.{Emptied, HasTests, HasPatterns, LooksUp, call-patterns, call-first, call-emptied, call-rule, call-arguments, front-added, slots-added, tests-read, head-tried}
use Rattle.pi_engine_steps.proofs.heads.matches.Goals as goal

pub returns-in_ok-push_empty : goal.returns-in_ok-push_empty
returns-in_ok-push_empty g c = IfOk-weaker c.pass_tests.result _ _ (λ one so l is_code called clause cs s k es again is at same args.
    let seen = g.S.StateStore.seen in
    let run = c.args.run.now in
    let call = c.args.call.now in
    let rule = c.args.rule.now in
    let number = c.args.number in
    let first = c.first_slot-first.result in
    let v = seen run.store in
    let w : World _ = world l v g.S.StateStore.order (view_of run.arenas) in
    let arity = is.call.call.pred.arity in
    let b : Block = clause_block call.base is.call.call.pred clause in
    let cut = c.truncate.new.self in
    let d = c.push_empty.new.self in
    let place : first ≡ call.base + arity = call-first w call.predicate call.base call.frame number first c.args.arity called (clause ∷ cs) s k es again is same c.first_slot-first.ensures in
    let empty : Emptied run.arenas.blocks cut (call.base + arity) = call-emptied w cut call.predicate call.base call.frame number first called (clause ∷ cs) s k es again is place c.truncate.ensures.fewer c.truncate.ensures.keeps c.truncate.ensures.kept in
    let its : IsRuleOf l.code (tables_in l) v.names is.call.call.pred clause rule = call-rule w call.predicate call.base call.frame number rule called clause cs s k es again is at in
    let front : KeepsFront run.arenas.blocks d (call.base + arity) = front-added run.arenas.blocks cut d (call.base + arity) _ empty c.in_ok-push_empty.ensures.ok c.push_empty.ensures.keeps c.push_empty.ensures.kept in
    let slots : RuleSlots v d b (replicate b.count None) = slots-added v cut d b rule.slots is.state.calm.state empty.exact (omega (arith, empty.keeps.kept, is.over)) its.slots c.in_ok-push_empty.ensures.ok c.push_empty.ensures.kept in
    let tests : HasTests v.names clause.head c.tests_of-tests.result.now = tests-read v.names clause.head l.code.tests.items c.tests_of-tests.result.now rule.tests c.args.arity its.tests (its.patterns ∙ sym same)
    (subst (λ n. NoneIsDeep (take n (drop rule.tests l.code.tests.items))) (sym same) (its.shallow c.if-rule.false))
    (subst (λ q. rule.tests + c.args.arity ≤ length q.tests.items → c.tests_of-tests.result.now ≡ take c.args.arity (drop rule.tests q.tests.items)) (sym is_code) c.tests_of-tests.ensures.within) c.tests_of-tests.ensures.none in
    let told : FillsSlots v.now.terms d c.pass_tests.new.blocks b one (matched_all_in (bindings v.now.state) clause.head called.args (replicate clause.slots None)) =
    so b clause.head called.args (replicate clause.slots None) place (omega (arith, place, tests.count, its.patterns)) slots tests.count tests.are tests.shallow
    (call-arguments w d call.base arity (length c.tests_of-tests.result.now) called (sym tests.count ∙ its.patterns) front args) in
    let all = head-tried w c.pass_tests.new.blocks call.predicate call.base call.frame number one called clause cs s k es again is d front told.head in
    (refl, all.0, all.1)) c.pass_tests.ensures

pub returns-then-rule : goal.returns-then-rule
returns-then-rule g c = IfOk-weaker c.matches_patterns.result _ _ (λ one so l is_code called clause cs s k es again is at same args.
    let seen = g.S.StateStore.seen in
    let run = c.args.run.now in
    let call = c.args.call.now in
    let rule = c.args.rule.now in
    let number = c.args.number in
    let first = c.first_slot-first.result in
    let v = seen run.store in
    let w : World _ = world l v g.S.StateStore.order (view_of run.arenas) in
    let arity = is.call.call.pred.arity in
    let b : Block = clause_block call.base is.call.call.pred clause in
    let cut = c.truncate.new.self in
    let found = c.head-patterns.result.now in
    let place : first ≡ call.base + arity = call-first w call.predicate call.base call.frame number first c.args.arity called (clause ∷ cs) s k es again is same c.first_slot-first.ensures in
    let empty : Emptied run.arenas.blocks cut (call.base + arity) = call-emptied w cut call.predicate call.base call.frame number first called (clause ∷ cs) s k es again is place c.truncate.ensures.fewer c.truncate.ensures.keeps c.truncate.ensures.kept in
    let its : IsRuleOf l.code (tables_in l) v.names is.call.call.pred clause rule = call-rule w call.predicate call.base call.frame number rule called clause cs s k es again is at in
    let has : HasPatterns clause.head arity found = call-patterns w call.predicate call.base call.frame number rule found called clause cs s k es again is its (subst (λ q. LooksUp q call.predicate number found) (sym is_code) c.head-patterns.ensures) in
    let told : FillsHead v.now.terms cut c.matches_patterns.new.blocks b one (matched_all_in (bindings v.now.state) (pattern_trees found) called.args (replicate rule.slots None)) =
    so b called.args empty.exact (omega (arith, has.many)) (sym its.slots) (omega (arith, empty.keeps.kept, is.over)) is.state.calm.state
    (call-arguments w cut call.base arity (length found) called has.many empty.keeps args) in
    let all = head-tried w c.matches_patterns.new.blocks call.predicate call.base call.frame number one called clause cs s k es again is cut empty.keeps
    (subst (λ ps. FillsHead v.now.terms cut c.matches_patterns.new.blocks b one (matched_all_in (bindings v.now.state) ps called.args (replicate clause.slots None))) has.are
    (subst (λ n. FillsHead v.now.terms cut c.matches_patterns.new.blocks b one (matched_all_in (bindings v.now.state) (pattern_trees found) called.args (replicate n None))) its.slots told)) in
    (refl, all.0, all.1)) c.matches_patterns.ensures
