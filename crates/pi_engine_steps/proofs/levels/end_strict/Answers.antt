use Rattle.std.proofs.Common.{◌∙◌, sym, ap, subst}
use Rattle.std.proofs.lemmas.Result.{IfOk-weaker}
use Rattle.pi_engine_arenas.specs.declared.arenas.Kind.{Kind}
use Rattle.pi_engine_arenas.specs.Arenas.{view_of}
use Rattle.pi_meaning.specs.Machine.Configuration.{strict}
use Rattle.pi_engine_stands.specs.Makes.{IsPassed}
use Rattle.pi_engine_stands.specs.Stands.{world}
use Rattle.pi_engine_stands.proofs.FailsStand.{passed-ends}
use Rattle.pi_engine_steps.proofs.levels.end_strict.Goals as goal

pub returns-in-Once : goal.returns-in-Once
returns-in-Once g c = λ l is_code named s b es it.
    let after = c.pass_over.new.run in
    passed-ends (world l (g.S.StateStore.seen after.store) g.S.StateStore.order (view_of after.arenas)) after.now s b es
    (c.pass_over.ensures l (subst IsPassed (sym (named ∙ ap Kind.Strict c.in-Once.is)) tt) (strict s b) es it)

pub returns-in-Not : goal.returns-in-Not
returns-in-Not g c = λ l is_code named. c.end_not.ensures l c.in-Not.field-0 (named ∙ ap Kind.Strict c.in-Not.is)

pub returns-in-If : goal.returns-in-If
returns-in-If g c = λ l is_code named. c.end_if.ensures l is_code (named ∙ ap Kind.Strict c.in-If.is)

pub returns-in-Guard : goal.returns-in-Guard
returns-in-Guard g c = IfOk-weaker c.end_guard.result _ _ (λ _ so l is_code named. so l is_code (named ∙ ap Kind.Strict c.in-Guard.is)) c.end_guard.ensures

pub returns-in-Apply : goal.returns-in-Apply
returns-in-Apply g c = IfOk-weaker c.no_value.result _ _ (λ _ so l is_code named. so l is_code c.in-Apply.field-1 (named ∙ ap Kind.Strict c.in-Apply.is)) c.no_value.ensures

pub returns-in-Collect : goal.returns-in-Collect
returns-in-Collect g c = IfOk-weaker c.give_list.result _ _ (λ _ so l is_code named. so l is_code (named ∙ ap Kind.Strict c.in-Collect.is)) c.give_list.ensures

pub returns-in-Count : goal.returns-in-Count
returns-in-Count g c = IfOk-weaker c.give_count.result _ _ (λ _ so l is_code named. so l is_code (named ∙ ap Kind.Strict c.in-Count.is)) c.give_count.ensures

pub returns-in-Search : goal.returns-in-Search
returns-in-Search g c = IfOk-weaker c.end_search.result _ _ (λ _ so l is_code named. so l (named ∙ ap Kind.Strict c.in-Search.is)) c.end_search.ensures
