-- The clause begins a predicate or function, or goes on with the last one.
use Rattle.std.proofs.Common.{◌≡◌, ◌∙◌, sym, []}
use Rattle.std.specs.Prelude.{option_copied}
use Rattle.std.proofs.lemmas.Result.{IfOk-weaker}
use Rattle.pi_core.specs.CoreTree.{clause_tree}
use Rattle.pi_rewrite_spec.specs.Clauses.{Lowering}
use Rattle.pi_rewrite.proofs.GroupLemmas.{no-items, adds-first, adds-same, adds-other}
use Rattle.pi_rewrite.proofs.preds.add_clause.Goals as goal

pub returns-in_default : goal.returns-in_default
returns-in_default c =
    let one : Lowering = record { is_function = c.args.named.function; head = record { name = c.args.named.name.now; arity = c.args.named.arity }; modes = option_copied c.args.modes; clause = clause_tree c.args.clause } in
    let none : c.args.preds.now.items ≡ [] = no-items c.args.preds.now.items (sym c.args.preds.now.ok.0 ∙ c.in_default.ensures.cases.0) in
    let left : c.pop.new.self.items ≡ [] = no-items c.pop.new.self.items (sym c.pop.new.self.ok.0 ∙ c.in_default.ensures.cases.1) in
    IfOk-weaker c.begin.result _ _ (λ _ put. adds-first one c.args.preds.now.items c.pop.new.self.items c.begin.new.preds.items none left put) c.begin.ensures

pub returns-then-is_of : goal.returns-then-is_of
returns-then-is_of c =
    let one : Lowering = record { is_function = c.args.named.function; head = record { name = c.args.named.name.now; arity = c.args.named.arity }; modes = option_copied c.args.modes; clause = clause_tree c.args.clause } in
    IfOk-weaker c.go_on.result _ _ (λ _ put. adds-same one c.in-Some.last c.pop.new.self.items c.args.preds.now.items c.go_on.new.preds.items (sym c.is_of.ensures ∙ c.if-is_of.true) c.in-Some.ensures.items put) c.go_on.ensures

pub returns : goal.returns
returns c =
    let one : Lowering = record { is_function = c.args.named.function; head = record { name = c.args.named.name.now; arity = c.args.named.arity }; modes = option_copied c.args.modes; clause = clause_tree c.args.clause } in
    IfOk-weaker c.begin-2.result _ _ (λ _ put. adds-other one c.in-Some.last c.pop.new.self.items c.args.preds.now.items c.push.new.self.items c.begin-2.new.preds.items (sym c.is_of.ensures ∙ c.if-is_of.false) c.in-Some.ensures.items
    c.in_ok-push.ensures.items put) c.begin-2.ensures
