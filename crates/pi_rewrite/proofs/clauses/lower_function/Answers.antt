-- The slots of the head are those before the condition; then come the body and the value behind it. The names of the value stand before the condition and the body too.
use Rattle.std.proofs.Common.{◌≡◌, ◌++◌, List, [], length, map, refl, false, Some, ap, ◌∙◌}
use Rattle.pi_syntax.specs.ProgramTree.{FunctionTree, function_tree}
use Rattle.pi_core.specs.CoreTree.{PredTree, pred_tree}
use Rattle.pi_meaning.specs.OverNames.WrittenRules.{head_arguments}
use Rattle.pi_rewrite_spec.specs.Values.{slot_patterns}
use Rattle.pi_rewrite_spec.specs.Helpers.{value_helpers}
use Rattle.pi_rewrite_spec.specs.Programs.{option_helpers, behind_option, function_site, value_site}
use Rattle.pi_rewrite_spec.specs.Sites.{Site}
use Rattle.pi_rewrite_sites.specs.OwnNames.{own_name}
use Rattle.pi_rewrite_sites.specs.SiteOf.{site_of}
use Rattle.pi_rewrite.proofs.ClauseLemmas.{function-is, function-site-is, value-site-is, two-behind}
use Rattle.pi_rewrite.proofs.clauses.lower_function.Goals as goal

pub returns-clause-is : goal.returns-clause-is
returns-clause-is c =
    let f : FunctionTree = function_tree c.args.function.now in
    let begun = c.in_ok-begun.begun in
    let slots : c.begin.new.slots ≡ (slot_patterns (head_arguments f.head) []).names = c.in_ok-begun.ensures.slots ∙ ap (λ ns. (slot_patterns (head_arguments f.head) ns).names) c.new-slots.ensures in
    function-is (record { head = begun.patterns; guard = c.in_ok-guard.guard; back = false; watches = c.new.result; body = c.in_ok-body.body; value = Some c.in_ok-value.value; slots = c.in_ok-count.count }) f
    (own_name c.args.from.naming.now.prefix) c.args.from.count c.new-slots.result c.begin.new.slots c.guarded.new.slots c.lower_goal_or_none.new.slots c.lower_value.new.slots (site_of c.in_ok-site.site) (site_of c.guarded.new.site)
    (site_of c.pass_option-2.new.site) c.in_ok-value.value c.new-goals.result.items c.lower_goal_or_none.new.goals.items c.lower_value.new.goals.items c.new-slots.ensures c.in_ok-begun.ensures.patterns c.in_ok-begun.ensures.slots
    (function-site-is f (own_name c.args.from.naming.now.prefix) c.args.from.count (length c.begin.new.slots) c.begin.new.slots (site_of begun.site) (site_of c.in_ok-site.site) slots refl c.in_ok-begun.ensures.site c.in_ok-site.ensures)
    (rw c.cond.ensures at c.in_ok-guard.ensures.is) (rw c.cond.ensures at c.in_ok-guard.ensures.slots) (rw c.cond.ensures at c.in_ok-guard.ensures.site) refl c.new.ensures c.new-goals.ensures.items (rw c.body.ensures at c.in_ok-lower_goal_or_none.ensures.goals) (rw c.body.ensures at c.in_ok-lower_goal_or_none.ensures.slots)
    (value-site-is f (own_name c.args.from.naming.now.prefix) c.args.from.count (length c.begin.new.slots) c.begin.new.slots (site_of begun.site) (site_of c.pass_option.new.site) (site_of c.pass_option-2.new.site) slots refl
    c.in_ok-begun.ensures.site (rw c.cond-2.ensures at c.in_ok-pass_option.ensures) (rw c.body-2.ensures at c.in_ok-pass_option-2.ensures))
    c.in_ok-value.ensures.goals c.in_ok-value.ensures.is c.in_ok-value.ensures.slots c.in_ok-body.ensures refl c.in_ok-count.ensures

pub returns-clause-helpers : goal.returns-clause-helpers
returns-clause-helpers c =
    let f : FunctionTree = function_tree c.args.function.now in
    let begun = c.in_ok-begun.begun in
    let slots : c.begin.new.slots ≡ (slot_patterns (head_arguments f.head) []).names = c.in_ok-begun.ensures.slots ∙ ap (λ ns. (slot_patterns (head_arguments f.head) ns).names) c.new-slots.ensures in
    let here : site_of c.in_ok-site.site ≡ function_site (own_name c.args.from.naming.now.prefix) c.args.from.count f =
    function-site-is f (own_name c.args.from.naming.now.prefix) c.args.from.count (length c.begin.new.slots) c.begin.new.slots (site_of begun.site) (site_of c.in_ok-site.site) slots refl c.in_ok-begun.ensures.site c.in_ok-site.ensures in
    let last : site_of c.pass_option-2.new.site ≡ value_site (own_name c.args.from.naming.now.prefix) c.args.from.count f =
    value-site-is f (own_name c.args.from.naming.now.prefix) c.args.from.count (length c.begin.new.slots) c.begin.new.slots (site_of begun.site) (site_of c.pass_option.new.site) (site_of c.pass_option-2.new.site) slots refl
    c.in_ok-begun.ensures.site (rw c.cond-2.ensures at c.in_ok-pass_option.ensures) (rw c.body-2.ensures at c.in_ok-pass_option-2.ensures) in
    let inner = option_helpers (site_of c.guarded.new.site) f.body in
    let value = value_helpers (site_of c.pass_option-2.new.site) f.value in
    two-behind (map pred_tree c.args.helpers.now.items) (map pred_tree c.guarded.new.helpers.items) (map pred_tree c.lower_value.new.helpers.items) _ _ (option_helpers (site_of c.in_ok-site.site) f.cond) (inner ++ value) (rw c.cond.ensures at c.in_ok-guard.ensures.helpers)
    (two-behind (map pred_tree c.guarded.new.helpers.items) (map pred_tree c.lower_goal_or_none.new.helpers.items) (map pred_tree c.lower_value.new.helpers.items) _ _ inner value (rw c.body.ensures at c.in_ok-lower_goal_or_none.ensures.helpers) c.in_ok-value.ensures.helpers refl refl)
    (ap (λ (s : Site). option_helpers s f.cond) here)
    (ap (λ (xs : List PredTree). xs ++ value) (ap (λ (s : Site). option_helpers s f.body) ((rw c.cond.ensures at c.in_ok-guard.ensures.site) ∙ ap (λ (s : Site). behind_option s f.cond) here))
    ∙ ap (λ (xs : List PredTree). option_helpers (behind_option (function_site (own_name c.args.from.naming.now.prefix) c.args.from.count f) f.cond) f.body ++ xs) (ap (λ (s : Site). value_helpers s f.value) last))
