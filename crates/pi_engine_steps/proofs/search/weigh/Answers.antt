use Rattle.std.proofs.Common.{◌≡◌, ◌∙◌, ◌+◌, Option, Some, None, sym, ap, subst, arith, rules}
use Rattle.std.specs.Int.{w128}
use Rattle.std.proofs.lemmas.Int.{to_z-of_z}
use Rattle.std.specs.Prelude.{slice_index_or}
use Rattle.std.proofs.lemmas.Result.{IfOk-weaker}
use Rattle.pi_constraints.specs.declared.store.Ref.{Ref}
use Rattle.pi_constraints.specs.Store.{IsTerm}
use Rattle.pi_meaning.specs.Machine.Step.{weighed_step, worth_in}
use Rattle.pi_engine_arenas.specs.Arenas.{view_of}
use Rattle.pi_engine_stands.specs.Stands.{world, Stands}
use Rattle.pi_engine_stands.proofs.SearchAnswers.{SearchThere, search-there, expression-there}
use Rattle.pi_engine_steps.proofs.search.weigh.Goals as goal

no-slot : {X : Type 0} (o : Option Ref) (r : Ref) → o ≡ Some r → o ≡ None → X
no-slot o r h k = absurd cc

one-slot : (o : Option Ref) (r q : Ref) → o ≡ Some r → o ≡ Some q → r ≡ q
one-slot o r q h k = cc

-- the slot is there
pub returns-in_default : goal.returns-in_default
returns-in_default g c = λ l x f d es it named.
    let v = g.S.StateStore.seen c.args.run.now.store in
    let a = view_of c.args.run.now.arenas in
    let w = world l v g.S.StateStore.order a in
    let there : SearchThere w c.args.back.base c.args.site x _ = search-there w c.args.level c.args.back c.args.site x _ f d es it named in
    let expression = expression-there w c.args.back.base x there.held in
    let slot : c.saturating_add.result ≡ c.args.back.base + 2 = c.saturating_add.ensures ∙ omega (arith, there.held.within, c.get.ensures.most) in
    no-slot (slice_index_or a.blocks.slots (c.args.back.base + 2) None) expression.0 expression.1 (ap (λ n. slice_index_or a.blocks.slots n None) (sym slot) ∙ sym c.get.ensures.is ∙ c.in_default.is)

pub returns : goal.returns
returns g c = IfOk-weaker c.next_round.result _ _ (λ _ so l x f d es it named.
    let v = g.S.StateStore.seen c.args.run.now.store in
    let a = view_of c.args.run.now.arenas in
    let order = g.S.StateStore.order in
    let w = world l v order a in
    let after = world l (g.S.StateStore.seen c.next_round.new.run.store) order (view_of c.next_round.new.run.arenas) in
    let there : SearchThere w c.args.back.base c.args.site x _ = search-there w c.args.level c.args.back c.args.site x _ f d es it named in
    let expression = expression-there w c.args.back.base x there.held in
    let slot : c.saturating_add.result ≡ c.args.back.base + 2 = c.saturating_add.ensures ∙ omega (arith, there.held.within, c.get.ensures.most) in
    let own : slice_index_or a.blocks.slots (c.args.back.base + 2) None ≡ Some c.in-Some.wanted = ap (λ n. slice_index_or a.blocks.slots n None) (sym slot) ∙ sym c.get.ensures.is ∙ c.in-Some.is in
    let term : IsTerm v c.in-Some.wanted x.objective.expression = subst (λ r. IsTerm v r x.objective.expression) (one-slot (slice_index_or a.blocks.slots (c.args.back.base + 2) None) expression.0 c.in-Some.wanted expression.1 own) expression.2 in
    let value : worth_in x v.now.state ≡ Some c.in-Some-found.value = sym (c.in_ok-found.ensures x.objective.expression it.state.calm.state term) ∙ c.in-Some-found.is in
    subst (λ q. Stands after c.next_round.new.run.now (weighed_step x f v.now.state q d es)) (sym value)
    (subst (λ i. Stands after c.next_round.new.run.now (weighed_step x f v.now.state (Some i) d es)) (to_z-of_z w128 c.in-Some-found.value (search rules)) (so l x f d es it named own))) c.next_round.ensures

pub returns-in_default-found : goal.returns-in_default-found
returns-in_default-found g c = IfOk-weaker c.tell_no_integer.result _ _ (λ _ so l x f d es it named.
    let v = g.S.StateStore.seen c.args.run.now.store in
    let a = view_of c.args.run.now.arenas in
    let order = g.S.StateStore.order in
    let w = world l v order a in
    let after = world l (g.S.StateStore.seen c.tell_no_integer.new.run.store) order (view_of c.tell_no_integer.new.run.arenas) in
    let there : SearchThere w c.args.back.base c.args.site x _ = search-there w c.args.level c.args.back c.args.site x _ f d es it named in
    let expression = expression-there w c.args.back.base x there.held in
    let slot : c.saturating_add.result ≡ c.args.back.base + 2 = c.saturating_add.ensures ∙ omega (arith, there.held.within, c.get.ensures.most) in
    let own : slice_index_or a.blocks.slots (c.args.back.base + 2) None ≡ Some c.in-Some.wanted = ap (λ n. slice_index_or a.blocks.slots n None) (sym slot) ∙ sym c.get.ensures.is ∙ c.in-Some.is in
    let term : IsTerm v c.in-Some.wanted x.objective.expression = subst (λ r. IsTerm v r x.objective.expression) (one-slot (slice_index_or a.blocks.slots (c.args.back.base + 2) None) expression.0 c.in-Some.wanted expression.1 own) expression.2 in
    let value : worth_in x v.now.state ≡ None = sym (c.in_ok-found.ensures x.objective.expression it.state.calm.state term) ∙ c.in_default-found.is in
    subst (λ q. Stands after c.tell_no_integer.new.run.now (weighed_step x f v.now.state q d es)) (sym value) (so l x f d es it named term)) c.tell_no_integer.ensures
