use Rattle.std.proofs.Common.{◌≡◌, ◌+◌, ◌-◌, ◌≤◌, ◌∙◌, sym, ap, subst, map, drop, arith, [], false}
use Rattle.std.specs.Prelude.{slice_get}
use Rattle.std.proofs.lemmas.Result.{IfOk-weaker}
use Rattle.pi_terms.specs.Tree.{comp}
use Rattle.pi_engine_stands.specs.Rests.{Rests}
use Rattle.pi_constraints.specs.Store.{Stays, IsTerm}
use Rattle.pi_core.specs.CoreTree.{clause_tree}
use Rattle.pi_unify.proofs.KeepsLemmas.{stays_then}
use Rattle.pi_engine_arenas.specs.Arenas.{view_of}
use Rattle.pi_engine_arenas.specs.declared.run.Now.{Now}
use Rattle.pi_meaning.specs.Machine.Step.{from_unifying, try_facts, back_to}
use Rattle.pi_engine_code.specs.declared.code.Code.{Code}
use Rattle.pi_engine_facts.specs.Keyed.{HaveKeys}
use Rattle.pi_engine_facts.specs.Trying.{IsFirst, IsNext, numbered}
use Rattle.pi_engine_facts.proofs.KeyedLemmas.{keys-kept}
use Rattle.pi_engine_stands.specs.Stands.{World, world, Stands}
use Rattle.pi_engine_steps.proofs.FactsTried.{none-taken, some-taken, low-of, end-of, fits-end, later-stays}
use Rattle.pi_engine_steps.proofs.FactsKeyed.{facts-keyed}
use Rattle.pi_engine_steps.proofs.facts.try_some.Goals as goal

pub returns-in_default : goal.returns-in_default
returns-in_default g c = λ l is_code pred ts cs s k es is at there clauses term same.
    let seen = g.S.StateStore.seen in
    let order = g.S.StateStore.order in
    let run = c.args.run.now in
    let call = c.args.call.now in
    let predicate = c.args.predicate.now in
    let facts = c.args.clauses.now in
    let again = c.args.is_again in
    let end = c.end_facts.new.run in
    let v = seen run.store in
    let w : World _ = world l v order (view_of run.arenas) in
    let low = low-of w call.predicate call.base call.frame c.args.from (record { function = false; args = ts }) cs s k es again predicate is there in
    let ends = end-of w call.predicate call.base call.frame c.args.from (record { function = false; args = ts }) cs s k es again pred predicate facts is at there clauses in
    let keys : HaveKeys v.names c.args.code.now.keys call.predicate facts predicate.first =
    subst (λ (code : Code). HaveKeys v.names code.keys call.predicate facts predicate.first) is_code
    (facts-keyed w call.predicate call.base call.frame c.args.from (record { function = false; args = ts }) cs s k es again pred predicate facts is at there clauses) in
    let none : from_unifying ts v.now.state (drop (c.args.from - predicate.first) (map clause_tree facts)) ≡ [] =
    subst (IsNext ts v.now.state (numbered (map clause_tree facts) predicate.first predicate.end) c.args.from) c.in_default.is (c.in_ok-found.ensures.found ts is.state.calm.state term keys low ends) in
    subst (λ n. Stands (world l (seen end.store) order (view_of end.arenas)) n (try_facts ts cs (back_to [] s k) es)) (sym c.end_facts.ensures.now)
    (subst (λ r. Stands (world l (seen r) order (view_of end.arenas)) Now.Failing (try_facts ts cs (back_to [] s k) es)) (sym c.end_facts.ensures.store)
    (none-taken w (seen c.next_unifying.new.s) (view_of end.arenas) call.predicate call.base call.frame c.args.from pred predicate facts ts cs s k es again is at there clauses (c.in_ok-found.ensures.stays ts is.state.calm.state term)
    c.end_facts.ensures.drops (λ no. ap view_of (c.end_facts.ensures.stays no)) (subst (λ r. from_unifying ts r (drop (c.args.from - predicate.first) (map clause_tree facts)) ≡ []) (sym same) none)))

pub returns : goal.returns
returns g c = IfOk-weaker c.take_fact.result _ _ (λ _ so l is_code pred ts cs s k es is at there clauses term same.
    let seen = g.S.StateStore.seen in
    let order = g.S.StateStore.order in
    let run = c.args.run.now in
    let call = c.args.call.now in
    let predicate = c.args.predicate.now in
    let facts = c.args.clauses.now in
    let again = c.args.is_again in
    let number = c.in-Some.number in
    let asked = c.args.asked in
    let mid = c.leave_later.new.run in
    let end = c.take_fact.new.run in
    let v = seen run.store in
    let v1 = seen c.next_unifying.new.s in
    let v2 = seen c.next_unifying-2.new.s in
    let x = seen mid.store in
    let w : World _ = world l v order (view_of run.arenas) in
    let low : predicate.first ≤ c.args.from = low-of w call.predicate call.base call.frame c.args.from (record { function = false; args = ts }) cs s k es again predicate is there in
    let ends = end-of w call.predicate call.base call.frame c.args.from (record { function = false; args = ts }) cs s k es again pred predicate facts is at there clauses in
    let keys : HaveKeys v.names c.args.code.now.keys call.predicate facts predicate.first =
    subst (λ (code : Code). HaveKeys v.names code.keys call.predicate facts predicate.first) is_code
    (facts-keyed w call.predicate call.base call.frame c.args.from (record { function = false; args = ts }) cs s k es again pred predicate facts is at there clauses) in
    let stays1 : Stays v v1 = c.in_ok-found.ensures.stays ts is.state.calm.state term in
    let state1 : Rests v1.now.state = subst Rests (sym stays1.state) is.state in
    let term1 : IsTerm v1 asked (comp [] ts) = stays1.keeps.terms asked (comp [] ts) term in
    let found : IsFirst ts s (numbered (map clause_tree facts) predicate.first predicate.end) c.args.from number =
    subst (λ r. IsFirst ts r (numbered (map clause_tree facts) predicate.first predicate.end) c.args.from number) (sym same)
    (subst (IsNext ts v.now.state (numbered (map clause_tree facts) predicate.first predicate.end) c.args.from) c.in-Some.is (c.in_ok-found.ensures.found ts is.state.calm.state term keys low ends)) in
    let next_is : c.following-behind.result ≡ number + 1 = c.following-behind.ensures found.within in
    let stays2 : Stays v1 v2 = c.in_ok-next.ensures.stays ts state1.calm.state term1 in
    let later : IsNext ts s (numbered (map clause_tree facts) predicate.first predicate.end) (number + 1) c.in_ok-next.next =
    subst (λ n. IsNext ts s (numbered (map clause_tree facts) predicate.first predicate.end) n c.in_ok-next.next) next_is
    (subst (λ r. IsNext ts r (numbered (map clause_tree facts) predicate.first predicate.end) c.following-behind.result c.in_ok-next.next) (stays1.state ∙ sym same)
    (c.in_ok-next.ensures.found ts state1.calm.state term1 (keys-kept v v1 c.args.code.now.keys call.predicate predicate.first facts stays1.keeps keys) (omega (arith, low, found.from_on, next_is)) ends)) in
    let leaves = c.in_ok-leave_later.ensures (fits-end w call.predicate call.base call.frame c.args.from (record { function = false; args = ts }) cs s k es again predicate is there) in
    subst (λ r. Stands (world l (seen end.store) order (view_of r)) end.now (try_facts ts cs (back_to [] s k) es)) (sym c.take_fact.ensures.arenas)
    (some-taken w v2 x (seen end.store) (view_of mid.arenas) call.predicate call.base call.frame c.args.from number pred predicate facts asked ts cs s k es again c.in_ok-next.next end.now is at there clauses term same low
    (stays_then v v1 v2 v.now.state stays1 stays2) found later leaves
    (later-stays order v2 x (view_of run.arenas) (view_of mid.arenas) (call.base + predicate.arity) call.predicate call.base call.frame again c.in_ok-next.next leaves)
    (λ d here state asked_is. so d ts (ap (slice_get facts) (omega (arith, c.saturating_sub.ensures)) ∙ here) state asked_is))) c.take_fact.ensures.takes
