use Rattle.std.proofs.Common.{ap, ◌∙◌, sym, Some, length}
use Rattle.std.proofs.lemmas.Result.{IfOk-weaker}
use Rattle.pi_engine_stands.specs.Makes.{level_kind}
use Rattle.pi_engine_arenas.specs.declared.arenas.Kind.{Kind}
use Rattle.pi_engine_arenas.specs.declared.arenas.Strict.{Strict}
use Rattle.pi_engine_steps.proofs.goals.run_silent.Goals as goal

pub returns-in-If : goal.returns-in-If
returns-in-If g c = IfOk-weaker c.enter_strict.result _ _ (λ _ so l is_code other silent view fits. so (ap (level_kind c.args.point.place (length c.args.run.now.arenas.collected.items)) c.in-If.is) l is_code view) c.enter_strict.ensures

pub returns-in-Not : goal.returns-in-Not
returns-in-Not g c = IfOk-weaker c.enter_strict-in-Not.result _ _ (λ _ so l is_code other silent view fits. so (ap (level_kind c.args.point.place (length c.args.run.now.arenas.collected.items)) c.in-Not.is) l is_code view) c.enter_strict-in-Not.ensures

pub returns-in-Once : goal.returns-in-Once
returns-in-Once g c = IfOk-weaker c.enter_strict-in-Once.result _ _ (λ _ so l is_code other silent view fits. so (ap (level_kind c.args.point.place (length c.args.run.now.arenas.collected.items)) c.in-Once.is) l is_code view) c.enter_strict-in-Once.ensures

pub returns-in-Count : goal.returns-in-Count
returns-in-Count g c = IfOk-weaker c.enter_strict-in-Count.result _ _ (λ _ so l is_code other silent view fits. so (ap (level_kind c.args.point.place (length c.args.run.now.arenas.collected.items)) c.in-Count.is) l is_code view) c.enter_strict-in-Count.ensures

pub returns-in-Collect : goal.returns-in-Collect
returns-in-Collect g c = IfOk-weaker c.enter_strict-in-Collect.result _ _ (λ _ so l is_code other silent view fits.
    so (ap (level_kind c.args.point.place (length c.args.run.now.arenas.collected.items)) c.in-Collect.is ∙ ap (λ n. Some (Kind.Strict (Strict.Collect c.args.point.place n))) (sym c.count_collected-first.ensures)) l is_code view) c.enter_strict-in-Collect.ensures

pub returns-in-Alt : goal.returns-in-Alt
returns-in-Alt g c = IfOk-weaker c.enter_alternatives.result _ _ (λ _ so l is_code other silent view fits. so c.in-Alt.is l is_code view) c.enter_alternatives.ensures

pub returns-in-Unify : goal.returns-in-Unify
returns-in-Unify g c = IfOk-weaker c.make_equal.result _ _ (λ _ so l is_code other silent view fits. so c.in-Unify.is l is_code view) c.make_equal.ensures

pub returns-in-Throw : goal.returns-in-Throw
returns-in-Throw g c = IfOk-weaker c.throw.result _ _ (λ _ so l is_code other silent view fits. so c.in-Throw.is l is_code view) c.throw.ensures

pub returns-in-Catch : goal.returns-in-Catch
returns-in-Catch g c = IfOk-weaker c.enter_catch.result _ _ (λ _ so l is_code other silent view fits. so c.in-Catch.is l is_code view) c.enter_catch.ensures

pub returns-in-BuiltIn : goal.returns-in-BuiltIn
returns-in-BuiltIn g c = IfOk-weaker c.call_built_in.result _ _ (λ _ so l is_code other silent. so c.in-BuiltIn.field-1 c.in-BuiltIn.is l is_code) c.call_built_in.ensures

pub returns-in-BuiltInValue : goal.returns-in-BuiltInValue
returns-in-BuiltInValue g c = IfOk-weaker c.apply_built_in.result _ _ (λ _ so l is_code other silent view fits. so c.in-BuiltInValue.field-1 c.in-BuiltInValue.is l is_code view) c.apply_built_in.ensures

pub returns-in-Constrain : goal.returns-in-Constrain
returns-in-Constrain g c = IfOk-weaker c.constrain.result _ _ (λ _ so l is_code other silent view fits. so c.in-Constrain.field-1 c.in-Constrain.is l is_code view) c.constrain.ensures

pub returns-in-DomainValue : goal.returns-in-DomainValue
returns-in-DomainValue g c = IfOk-weaker c.apply_domain.result _ _ (λ _ so l is_code other silent view fits. so c.in-DomainValue.field-1 c.in-DomainValue.is l is_code view) c.apply_domain.ensures

pub returns-in-Solve : goal.returns-in-Solve
returns-in-Solve g c = IfOk-weaker c.solve.result _ _ (λ _ so l is_code other silent view fits. so c.in-Solve.field-0 c.in-Solve.is l is_code view) c.solve.ensures
